use Rattle.std.proofs.Common.{◌≡◌, ◌<◌, ◌^◌, ap, ◌∙◌, sym, subst, length, List, ℕ, arith}
use Rattle.std.specs.Prelude.{IfOk}
use Rattle.cil_base.proofs.RefusalLaws.{IfRefused-weaker, OnRefused-weaker}
use Rattle.cil_base.proofs.Small.{on_ok}
use Rattle.set_check.proofs.SetLaws.{same_bytes, count_files}
use Rattle.set_check.specs.Sets.{bytes_at, bytes_of, files_from}
use Rattle.set_list.specs.Lists.{IsListed}
use Rattle.set_list.proofs.ListLaws.{all_kept_of, later_refused_of, unread_refused}
use Rattle.set_list.proofs.list.list_set.Goals as goal

pub list_read-requires-clause-numbered : goal.list_read-requires-clause-numbered
list_read-requires-clause-numbered c =
    let slice = c.as_slice.ensures.value in
    slice ∙ c.in-Ok.ensures.ok ∙ ap (files_from 0) (sym (same_bytes c.args.files.now c.in-Ok.set.items c.as_slice.result.now c.in-Ok.ensures.ok slice))

pub list_read-requires-clause-short : goal.list_read-requires-clause-short
list_read-requires-clause-short c a =
    let bytes = same_bytes c.args.files.now c.in-Ok.set.items c.as_slice.result.now c.in-Ok.ensures.ok c.as_slice.ensures.value in
    subst (λ (l : List (List ℕ)). length (bytes_at l a) < 2 ^ 31) (sym bytes) (c.requires.short a)

pub list_read-requires-clause-some : goal.list_read-requires-clause-some
list_read-requires-clause-some c =
    let e : length c.as_slice.result.now ≡ length c.args.files.now = ap length (c.as_slice.ensures.value ∙ c.in-Ok.ensures.ok) ∙ count_files 0 c.args.files.now in
    omega (arith, e, c.requires.some)

pub list_read-requires-clause-few : goal.list_read-requires-clause-few
list_read-requires-clause-few c =
    let e : length c.as_slice.result.now ≡ length c.args.files.now = ap length (c.as_slice.ensures.value ∙ c.in-Ok.ensures.ok) ∙ count_files 0 c.args.files.now in
    omega (arith, e, c.requires.few)

pub returns-in-Ok-clause-done : goal.returns-in-Ok-clause-done
returns-in-Ok-clause-done c =
    let bytes = same_bytes c.args.files.now c.in-Ok.set.items c.as_slice.result.now c.in-Ok.ensures.ok c.as_slice.ensures.value in
    subst (λ (l : List (List ℕ)). IfOk c.list_read.result (IsListed l)) bytes c.list_read.ensures.done

pub returns-in-Ok-clause-accepted : goal.returns-in-Ok-clause-accepted
returns-in-Ok-clause-accepted c =
    let slice = c.as_slice.result.now in
    let bytes = same_bytes c.args.files.now c.in-Ok.set.items slice c.in-Ok.ensures.ok c.as_slice.ensures.value in
    on_ok c.list_read.result (all_kept_of c.args.files.now (bytes_of slice) bytes c.in-Ok.ensures.accepted) c.list_read.ensures.accepted

pub returns-in-Ok-clause-refused : goal.returns-in-Ok-clause-refused
returns-in-Ok-clause-refused c =
    let slice = c.as_slice.result.now in
    let bytes = same_bytes c.args.files.now c.in-Ok.set.items slice c.in-Ok.ensures.ok c.as_slice.ensures.value in
    OnRefused-weaker c.list_read.result _ _ (λ r x. later_refused_of c.args.files.now (bytes_of slice) bytes r c.in-Ok.ensures.accepted x) c.list_read.ensures.refused

pub returns-in-Err-clause-refused : goal.returns-in-Err-clause-refused
returns-in-Err-clause-refused c = IfRefused-weaker c.in-Err.fault _ _ (λ r x. unread_refused c.args.files.now r x) c.in-Err.ensures.refused
