-- The entry group is passed over where none of its pieces runs.
use Rattle.std.proofs.Common.{◌≡◌, refl, ℕ, Bool, true, false, List, Option, Some, None}
use Rattle.std.specs.Prelude.{if◌then◌else◌, option_map}
use Rattle.cil_model.specs.declared.contract.Group.TheVariants as group
use Rattle.cil_model.specs.declared.program.Program.{Program}
use Rattle.cil_semantics.specs.Contracted.{Piece, Plan, runs_at}
use Rattle.cil_semantics.specs.Unwind.{begin_entry, begin_first, go_to_rest, next_piece}
use Rattle.cil_semantics.specs.declared.Frame.{Frame}
use Rattle.cil_semantics.specs.declared.World.{World}
use Rattle.run_groups.specs.Begun.{place_of_entry, place_of_piece}

module _ (p : Program) (k : Plan) (f : Frame) (fs : List Frame) (w : World) where
  none_begins : (runs : Bool) (next : Option (ℕ × Piece)) → None ≡ (if runs then option_map (place_of_piece group.Entry) next else None) → go_to_rest p k f fs w ≡ (if runs then begin_first p k next f fs w else go_to_rest p k f fs w)
  none_begins true None e = refl
  none_begins true (Some x) e = cc
  none_begins false next e = refl

  pub passed_over : None ≡ place_of_entry p k f fs w → go_to_rest p k f fs w ≡ begin_entry p k f fs w
  passed_over e = none_begins (runs_at k group.Entry w.depth) (next_piece p k group.Entry 0 f fs w) e
