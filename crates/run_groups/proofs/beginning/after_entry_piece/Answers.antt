use Rattle.std.proofs.Common.{◌≡◌, ◌∙◌, ap, ◌+◌}
use Rattle.cil_model.specs.declared.contract.Group.TheVariants as group
use Rattle.cil_model.specs.declared.program.Program.{Program}
use Rattle.cil_semantics.specs.Contracted.{Plan}
use Rattle.cil_semantics.specs.State.{Next, lowered}
use Rattle.cil_semantics.specs.Unwind.{begin_piece, begin_rest, next_piece}
use Rattle.cil_semantics.specs.declared.Frame.{Frame}
use Rattle.cil_semantics.specs.declared.World.{World}
use Rattle.run_groups.proofs.beginning.after_entry_piece.Goals as goal

pub returns : goal.returns
returns c fs =
    let p : Program = c.args.program.now in
    let k : Plan = c.args.plan.now in
    let f : Frame = c.args.frame.now in
    let w : World = lowered c.args.world.now in
    let over : Next = begin_rest p k f fs w in
    let none : over ≡ begin_piece p group.Entry (next_piece p k group.Entry (c.args.number + 1) f fs c.args.world.now) f fs c.args.world.now over = rw c.if-branch.false at (c.in_ok-begin_next.ensures.begun fs c.args.world.now over) in
    rw c.lower_depth.ensures (c.begin_rest.ensures fs w ∙ ap (λ (g : Frame). begin_rest p k g fs w) (c.in_ok-begin_next.ensures.kept c.if-branch.false) ∙ none)
