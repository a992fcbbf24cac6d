use Rattle.std.proofs.Common.{◌≡◌, sym, ap, ◌∙◌, subst, length, List, ℕ, true, arith}
use Rattle.std.specs.Prelude.{OnOk}
use Rattle.cil_base.specs.Refusals.{OnRefused}
use Rattle.cil_base.proofs.RefusalLaws.{IfRefused-weaker}
use Rattle.set_check.specs.Sets.{files_from, IsSound}
use Rattle.set_check.proofs.SetLaws.{same_bytes, count_files}
use Rattle.set_rewrite.specs.Sets.{IsSetRefusal, KeepsSetRules}
use Rattle.set_rewrite.proofs.RewriteLaws.{unsound_refused}
use Rattle.set_rewrite.proofs.set.rewrite_set.Goals as goal

pub returns-in-Err-clause-refused : goal.returns-in-Err-clause-refused
returns-in-Err-clause-refused c = IfRefused-weaker c.in-Err.fault _ _ (λ r x. unsound_refused c.args.files.now r x) c.in-Err.ensures.refused

pub rewrite_first-requires-clause-numbered : goal.rewrite_first-requires-clause-numbered
rewrite_first-requires-clause-numbered c =
    let slice = c.as_slice.ensures.value in
    slice ∙ c.in-Ok.ensures.ok ∙ ap (files_from 0) (sym (same_bytes c.args.files.now c.in-Ok.set.items c.as_slice.result.now c.in-Ok.ensures.ok slice))

pub rewrite_first-requires-clause-sound : goal.rewrite_first-requires-clause-sound
rewrite_first-requires-clause-sound c =
    let bytes = same_bytes c.args.files.now c.in-Ok.set.items c.as_slice.result.now c.in-Ok.ensures.ok c.as_slice.ensures.value in
    subst (IsSound true) (sym bytes) c.in-Ok.ensures.accepted

pub rewrite_first-requires-clause-some : goal.rewrite_first-requires-clause-some
rewrite_first-requires-clause-some c =
    let e : length c.as_slice.result.now ≡ length c.args.files.now = ap length (c.as_slice.ensures.value ∙ c.in-Ok.ensures.ok) ∙ count_files 0 c.args.files.now in
    omega (arith, e, c.requires.some)

pub returns-clause-accepted : goal.returns-clause-accepted
returns-clause-accepted c =
    let bytes = same_bytes c.args.files.now c.in-Ok.set.items c.as_slice.result.now c.in-Ok.ensures.ok c.as_slice.ensures.value in
    subst (λ (l : List (List ℕ)). OnOk c.rewrite_first.result (KeepsSetRules l)) bytes c.rewrite_first.ensures.accepted

pub returns-clause-refused : goal.returns-clause-refused
returns-clause-refused c =
    let bytes = same_bytes c.args.files.now c.in-Ok.set.items c.as_slice.result.now c.in-Ok.ensures.ok c.as_slice.ensures.value in
    subst (λ (l : List (List ℕ)). OnRefused c.rewrite_first.result (IsSetRefusal l)) bytes c.rewrite_first.ensures.refused
