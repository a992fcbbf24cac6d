use Rattle.std.proofs.Common.{◌≡◌, ◌∷◌, ◌≤◌, drop, length}
use Rattle.cil_semantics.specs.Outside.{by_ref_args, stored_back}
use Rattle.run_outside.specs.Asking.{TellsSame}
use Rattle.run_outside.proofs.back.store_back.Given as goal

abbrev pub invariant-loop-i : goal.invariant-loop-i
invariant-loop-i l = record {
  within : l.count ≤ length l.back;
  told : TellsSame l.world l.fn.world;
  stored : stored_back l.program (by_ref_args (drop l.i l.tys) (drop l.i l.arguments)) (drop l.count l.back) (l.top ∷ l.below) l.world ≡ stored_back l.program (by_ref_args l.tys l.arguments) l.back (l.fn.top ∷ l.fn.below) l.fn.world;
}
