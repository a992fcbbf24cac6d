use Rattle.std.proofs.Common.{◌≡◌, ◌∙◌, sym, ap, List, ℕ, slice_get, length, refl, Some}
use Rattle.std.proofs.lemmas.Option.{slice_get_read}
use Rattle.pe_image.specs.Images.{File}
use Rattle.cli_heaps.specs.Root.{Metadata}
use Rattle.set_program.proofs.FileLaws.{metadata_at}
use Rattle.set_program.proofs.set.Set.heaps.Goals as goal

pub returns-in-Some : goal.returns-in-Some
returns-in-Some c =
    let there : slice_get c.self.inside.assemblies.items c.args.assembly ≡ Some c.in-Some.assembly.now =
    ap (λ (l : List File). slice_get l c.args.assembly) (sym c.deref.ensures.value) ∙ slice_get_read c.deref.result.now (length c.deref.result.now) c.args.assembly c.in-Some.assembly.now refl c.in-Some.ensures.lookup.3.0 c.in-Some.ensures.lookup.1 in
    let metadata : List ℕ → ℕ → Metadata = λ bytes number. record { bytes = bytes; assembly = number } in
    c.heaps.ensures
    ∙ ap (λ (bytes : List ℕ). metadata bytes c.in-Some.assembly.now.assembly) (metadata_at c.self.inside.assemblies.items c.args.self.now c.args.assembly c.in-Some.assembly.now c.self.view_is there)
    ∙ ap (metadata _) (c.self.invariant c.args.assembly c.in-Some.assembly.now there)
