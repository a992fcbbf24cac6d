use Rattle.std.proofs.Common.{◌≡◌, ◌∙◌, length, arith}
use Rattle.cil_base.proofs.RefusalLaws.{IfRefused-weaker}
use Rattle.set_check.proofs.SetLaws.{all_read, so_many, read_more, unread_more, bytes_there}
use Rattle.set_check.proofs.read.read_set.Goals as goal

pub read_more-requires-clause-few : goal.read_more-requires-clause-few
read_more-requires-clause-few c =
    let many : length c.loop-k.set.items ≡ c.loop-k.k = so_many c.args.files.now c.loop-k.k c.loop-k.set.items (omega (arith, c.loop-k-test.true)) c.loop-k.invariant in
    omega (arith, many, c.loop-k-test.true, c.requires.few)

pub returns-in-Err-clause-refused : goal.returns-in-Err-clause-refused
returns-in-Err-clause-refused c =
    let all = c.args.files.now in
    let bytes = c.as_slice.ensures ∙ bytes_there all c.loop-k.k c.index-files-k.result c.loop-k-test.true c.index-files-k.is in
    IfRefused-weaker c.in-Err.fault _ _ (λ r x. unread_more all c.loop-k.k c.loop-k.set.items c.as_slice.result.now r c.loop-k-test.true c.loop-k.invariant bytes x) c.in-Err.ensures.refused

pub loop-k-preserved : goal.loop-k-preserved
loop-k-preserved c =
    let all = c.args.files.now in
    let bytes = c.as_slice.ensures ∙ bytes_there all c.loop-k.k c.index-files-k.result c.loop-k-test.true c.index-files-k.is in
    read_more all c.loop-k.k c.loop-k.set.items c.read_more.new.set.items c.as_slice.result.now c.loop-k-test.true c.loop-k.invariant bytes c.in-Ok.ensures.accepted c.in-Ok.ensures.ok

pub returns-clause-accepted : goal.returns-clause-accepted
returns-clause-accepted c = all_read c.args.files.now 0 (length c.args.files.now) (λ j x y. c.loop-k.invariant.read j x (omega (arith, y, c.loop-k-test.false)))
