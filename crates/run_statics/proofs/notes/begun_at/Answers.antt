use Rattle.run_statics.proofs.NoteLaws.{begun_there}
use Rattle.run_statics.proofs.notes.begun_at.Goals as goal

pub returns : goal.returns
returns c =
    λ s i. begun_there c.args.list.now c.args.owner c.args.ty.now c.index-list-owner.result s c.in_ok-cells.cells c.new-all.result c.append_copies.new.all c.push_begun.new.statics c.append_copies-2.new.all
    c.new-all.ensures c.in_ok-append_copies.ensures c.in_ok-push_begun.ensures c.in_ok-append_copies-2.ensures c.in_ok-cells.ensures c.index-list-owner.is c.requires i
