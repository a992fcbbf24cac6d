-- The assemblies that are read are those of the files, in order.
use Rattle.std.proofs.Common.{◌≡◌, ◌<◌, ◌^◌, ap, ◌∙◌, sym, subst, length, List, ℕ, arith}
use Rattle.set_check.proofs.SetLaws.{same_bytes, count_files}
use Rattle.set_check.specs.Sets.{bytes_at, files_from}
use Rattle.sample_sets.proofs.programs.read_program.Goals as goal

pub checked_program-requires-clause-numbered : goal.checked_program-requires-clause-numbered
checked_program-requires-clause-numbered c =
    let slice = c.as_slice.ensures.value in
    slice ∙ c.in-Ok.ensures.ok ∙ ap (files_from 0) (sym (same_bytes c.args.files.now c.in-Ok.set.items c.as_slice.result.now c.in-Ok.ensures.ok slice))

pub checked_program-requires-clause-short : goal.checked_program-requires-clause-short
checked_program-requires-clause-short c a =
    let bytes = same_bytes c.args.files.now c.in-Ok.set.items c.as_slice.result.now c.in-Ok.ensures.ok c.as_slice.ensures.value in
    subst (λ (l : List (List ℕ)). length (bytes_at l a) < 2 ^ 32) (sym bytes) (c.requires.short a)

pub checked_program-requires-clause-some : goal.checked_program-requires-clause-some
checked_program-requires-clause-some c =
    let e : length c.as_slice.result.now ≡ length c.args.files.now = ap length (c.as_slice.ensures.value ∙ c.in-Ok.ensures.ok) ∙ count_files 0 c.args.files.now in
    omega (arith, e, c.requires.some)

pub checked_program-requires-clause-few : goal.checked_program-requires-clause-few
checked_program-requires-clause-few c =
    let e : length c.as_slice.result.now ≡ length c.args.files.now = ap length (c.as_slice.ensures.value ∙ c.in-Ok.ensures.ok) ∙ count_files 0 c.args.files.now in
    omega (arith, e, c.requires.few)
