use Rattle.std.proofs.Common.{◌≡◌, ◌+◌, ◌≤◌, ◌^◌, length, arith, ◌∙◌, ap, sym, subst, List, ℕ}
use Rattle.std.proofs.lemmas.Result.{IfOk-weaker}
use Rattle.std.specs.Prelude.{Result, Ok, Err, IfOk}
use Rattle.cil_base.specs.declared.refusal.Refusal.{Refusal}
use Rattle.std.specs.Result.{IsOk}
use Rattle.cil_base.specs.Refusals.{OnRefused, OnMemory}
use Rattle.pe_image.specs.Images.{File}
use Rattle.pe_image.specs.Written.{grown_in, grown_of, KeepsBytes, new_offset}
use Rattle.cil_base.specs.Bytes.{part}
use Rattle.pe_image.specs.SectionGrowth.{growth_of}
use Rattle.pe_image.proofs.GrownLaws.{Sizes}
use Rattle.pe_image.proofs.WrittenLaws.{Gives, grown_gives, grown_is, sizes, keeps, short_of, placed_at}
use Rattle.pe_image.specs.SectionGrowth.{room_of}
use Rattle.pe_image.specs.ReadBack.{Grows}
use Rattle.pe_image.proofs.ReadBackLaws.{grows}
use Rattle.pe_image.proofs.image.write_image.Goals as goal

-- the definition over the image, as the code computes it
same : (c : goal.After-write) → grown_of c.args.img.now.bytes c.args.img.now.assembly c.args.section.now c.args.metadata_rva c.args.metadata_len ≡ grown_in c.img.inside.bytes.now c.img.inside.assembly c.img.inside.headers c.img.inside.cli_offset c.with_metadata-cli.result c.args.section.now
same c =
    let i = c.img.inside in
    sym (ap (λ (f : File). grown_of f.bytes f.assembly c.args.section.now c.args.metadata_rva c.args.metadata_len) c.img.view_is)
    ∙ grown_is i.bytes.now i.assembly i.headers i.cli_offset i.cli c.args.section.now c.args.metadata_rva c.args.metadata_len c.with_metadata-cli.result c.img.invariant.0.headers c.img.invariant.2 c.img.invariant.5 c.with_metadata-cli.ensures

pub returns-clause-ok : goal.returns-clause-ok
returns-clause-ok c =
    subst (λ (z : Result (List ℕ) Refusal). IfOk c.write.result (λ out. z ≡ Ok out)) (sym (same c)) c.write.ensures.ok

pub returns-clause-refused : goal.returns-clause-refused
returns-clause-refused c =
    subst (λ (z : Result (List ℕ) Refusal). OnRefused c.write.result (λ r. z ≡ Err r)) (sym (same c)) c.write.ensures.refused

pub returns-clause-memory : goal.returns-clause-memory
returns-clause-memory c =
    subst (λ (z : Result (List ℕ) Refusal). OnMemory c.write.result (IsOk z)) (sym (same c)) c.write.ensures.memory

old_sizes : (c : goal.After-write) → Sizes c.img.inside.bytes.now c.img.inside.headers c.img.inside.cli_offset (length c.args.section.now) (growth_of c.img.inside.bytes.now c.img.inside.headers (length c.args.section.now))
old_sizes c =
    let i = c.img.inside in
    sizes i.bytes.now i.assembly i.headers i.cli_offset (length c.args.section.now) c.img.invariant.0 c.img.invariant.3 c.img.invariant.4

gives : (c : goal.After-write) (out : List ℕ) → grown_in c.img.inside.bytes.now c.img.inside.assembly c.img.inside.headers c.img.inside.cli_offset c.with_metadata-cli.result c.args.section.now ≡ Ok out → Gives c.img.inside.bytes.now c.img.inside.headers c.img.inside.cli_offset c.with_metadata-cli.result c.args.section.now out
gives c out e =
    let i = c.img.inside in
    grown_gives i.bytes.now i.assembly i.headers i.cli_offset c.with_metadata-cli.result c.args.section.now out e

Written : goal.After-write → List ℕ → Type 0
Written c out = grown_in c.img.inside.bytes.now c.img.inside.assembly c.img.inside.headers c.img.inside.cli_offset c.with_metadata-cli.result c.args.section.now ≡ Ok out

pub returns-clause-short : goal.returns-clause-short
unfolding Written
returns-clause-short c =
    let i = c.img.inside in
    IfOk-weaker c.write.result (Written c) (λ out. length out ≤ 2 ^ 27)
    (λ out e. short_of i.bytes.now i.headers i.cli_offset c.with_metadata-cli.result c.args.section.now out (old_sizes c) (gives c out e))
    c.write.ensures.ok

pub returns-clause-kept : goal.returns-clause-kept
unfolding Written
returns-clause-kept c =
    let i = c.img.inside in
    IfOk-weaker c.write.result (Written c) (KeepsBytes c.args.img.now.bytes)
    (λ out e. subst (λ (f : File). KeepsBytes f.bytes out) c.img.view_is (keeps i.bytes.now i.headers i.cli_offset c.with_metadata-cli.result c.args.section.now out c.img.invariant.0.headers c.img.invariant.2 (old_sizes c) (gives c out e)))
    c.write.ensures.ok

pub returns-clause-placed : goal.returns-clause-placed
unfolding Written
returns-clause-placed c =
    let i = c.img.inside in
    let s = c.args.section.now in
    IfOk-weaker c.write.result (Written c) (λ out. part out (new_offset c.args.img.now.bytes (length s)) (length s) ≡ s)
    (λ out e. subst (λ (f : File). part out (new_offset f.bytes (length s)) (length s) ≡ s) c.img.view_is (placed_at i.bytes.now i.headers i.cli_offset c.with_metadata-cli.result s out c.img.invariant.0.headers (old_sizes c) (gives c out e)))
    c.write.ensures.ok

pub returns-clause-grows : goal.returns-clause-grows
unfolding Written
returns-clause-grows c =
    let i = c.img.inside in
    let s = c.args.section.now in
    let rva = c.args.metadata_rva in
    let len = c.args.metadata_len in
    let within : IfOk (room_of i.bytes.now i.assembly) (λ room. (room ≤ rva) × (rva + len ≤ room + length s)) = subst (λ (f : File). IfOk (room_of f.bytes f.assembly) (λ room. (room ≤ rva) × (rva + len ≤ room + length s))) (sym c.img.view_is) c.requires.metadata in
    IfOk-weaker c.write.result (Written c) (Grows c.args.img.now.bytes c.args.img.now.assembly s rva len)
    (λ out e. subst (λ (f : File). Grows f.bytes f.assembly s rva len out) c.img.view_is
    (grows i.bytes.now i.assembly i.headers i.cli_offset i.cli c.with_metadata-cli.result s out rva len c.img.invariant.0 c.img.invariant.1 c.img.invariant.2 c.img.invariant.3 c.img.invariant.4 c.img.invariant.5 c.with_metadata-cli.ensures e (omega arith) (omega arith) within))
    c.write.ensures.ok
