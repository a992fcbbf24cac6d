use Rattle.std.proofs.Common.{◌≡◌, ◌∙◌, sym, ap, subst, arith, ℕ, List, length, slice_get}
use Rattle.std.proofs.lemmas.List.{length-map}
use Rattle.pe_image.specs.Images.{File}
use Rattle.assembly.specs.Assemblies.{IsReadable}
use Rattle.set_rows.specs.Sets.{assembly_of}
use Rattle.set_program.proofs.FileLaws.{numbered_more}
use Rattle.set_program.proofs.set.Set.add.Goals as goal

pub invariant_of-self : goal.invariant_of-self
invariant_of-self c = λ k file there. c.self.invariant k file (ap (λ (l : List File). slice_get l k) (sym c.in_err-append.ensures.err) ∙ there)

pub invariant_of-self-2 : goal.invariant_of-self-2
invariant_of-self-2 c = λ k file there.
    let number : c.in_ok-assembly.assembly.assembly ≡ c.len-number.result = ap (λ (f : File). f.assembly) c.in_ok-assembly.ensures.ok in
    let place : c.in_ok-assembly.assembly.assembly ≡ length c.self.inside.assemblies.items = omega (arith, number, c.len-number.ensures, c.self.inside.assemblies.ok.0) in
    numbered_more c.self.inside.assemblies.items c.in_ok-assembly.assembly c.self.invariant place k file
    (ap (λ (l : List File). slice_get l k) (sym c.in_ok-append.ensures.ok) ∙ there)

pub returns-clause-accepted : goal.returns-clause-accepted
returns-clause-accepted c =
    let same : c.len-number.result ≡ length c.args.self.now =
    omega (arith, c.len-number.ensures, c.self.inside.assemblies.ok.0, length-map c.self.inside.assemblies.items (λ (f : File). assembly_of f.bytes), ap length c.self.view_is) in
    subst (λ (n : ℕ). IsReadable c.args.bytes.now n) same c.in_ok-assembly.ensures.accepted
