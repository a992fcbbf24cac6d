use Rattle.std.proofs.Common.{◌≡◌, ◌<◌, ◌^◌, ap, ◌∙◌, sym, subst, length, List, ℕ, arith}
use Rattle.cil_base.proofs.RefusalLaws.{IfRefused-weaker}
use Rattle.set_check.proofs.SetLaws.{same_bytes, count_files, unread_unsound, unsound_later, sound_joined}
use Rattle.set_check.specs.Sets.{bytes_at, bytes_of, files_from}
use Rattle.set_check.proofs.check.checked_set.Goals as goal

pub returns-in-Err-clause-refused : goal.returns-in-Err-clause-refused
returns-in-Err-clause-refused c = IfRefused-weaker c.in-Err.fault _ _ (λ r x. unread_unsound c.args.writes c.args.files.now r x) c.in-Err.ensures.refused

pub check_read-requires-clause-numbered : goal.check_read-requires-clause-numbered
check_read-requires-clause-numbered c =
    let slice = c.as_slice.ensures.value in
    slice ∙ c.in-Ok.ensures.ok ∙ ap (files_from 0) (sym (same_bytes c.args.files.now c.in-Ok.set.items c.as_slice.result.now c.in-Ok.ensures.ok slice))

pub check_read-requires-clause-short : goal.check_read-requires-clause-short
check_read-requires-clause-short c a =
    let bytes = same_bytes c.args.files.now c.in-Ok.set.items c.as_slice.result.now c.in-Ok.ensures.ok c.as_slice.ensures.value in
    subst (λ (l : List (List ℕ)). length (bytes_at l a) < 2 ^ 32) (sym bytes) (c.requires.short a)

pub check_read-requires-clause-some : goal.check_read-requires-clause-some
check_read-requires-clause-some c =
    let e : length c.as_slice.result.now ≡ length c.args.files.now = ap length (c.as_slice.ensures.value ∙ c.in-Ok.ensures.ok) ∙ count_files 0 c.args.files.now in
    omega (arith, e, c.requires.some)

pub check_read-requires-clause-few : goal.check_read-requires-clause-few
check_read-requires-clause-few c =
    let e : length c.as_slice.result.now ≡ length c.args.files.now = ap length (c.as_slice.ensures.value ∙ c.in-Ok.ensures.ok) ∙ count_files 0 c.args.files.now in
    omega (arith, e, c.requires.few)

pub returns-in-Ok-check_read-clause-accepted : goal.returns-in-Ok-check_read-clause-accepted
returns-in-Ok-check_read-clause-accepted c =
    let slice = c.as_slice.result.now in
    let bytes = same_bytes c.args.files.now c.in-Ok.set.items slice c.in-Ok.ensures.ok c.as_slice.ensures.value in
    sound_joined c.args.writes c.args.files.now (bytes_of slice) bytes c.in-Ok.ensures.accepted c.in-Ok-check_read.ensures.accepted

pub returns-clause-refused : goal.returns-clause-refused
returns-clause-refused c =
    let slice = c.as_slice.result.now in
    let bytes = same_bytes c.args.files.now c.in-Ok.set.items slice c.in-Ok.ensures.ok c.as_slice.ensures.value in
    IfRefused-weaker c.in-Err-check_read.fault _ _ (λ r x. unsound_later c.args.writes c.args.files.now (bytes_of slice) r bytes c.in-Ok.ensures.accepted x) c.in-Err-check_read.ensures.refused
