-- The seams of both bodies, as they are asked for.
use Rattle.std.proofs.Common.{refl}
use Rattle.machine_rows.specs.Everything.{everything}
use Rattle.splice_program.specs.Facts.{SeamsMeet}
use Rattle.splice_program.specs.Program.{input, contracts, numbers, next_plan}
use Rattle.splice_program.specs.Written.{output, next_marks}
use Rattle.splice_program.proofs.GroupsLaws as seams
use Rattle.splice_program.proofs.IncLaws.{inc_groups}
use Rattle.splice_program.proofs.NextCode.{entry_code, entry_frame, throw_frame}
use Rattle.splice_program.proofs.NextSeams.{next_full}
use Rattle.splice_program.proofs.RuntimeLaws.{depths, helpers}
use Rattle.splice_program.proofs.SeamLaws.{next_groups, many, few, small}

pub seams_meet : SeamsMeet
unfolding everything next_full entry_code
seams_meet =
    record {
      next_is = refl;
      inc_is = refl;
      depths = depths;
      helpers = helpers;
      entry_frame = entry_frame;
      throw_frame = throw_frame;
      entry = seams.entry input contracts output numbers 2 depths helpers 0 next_plan next_marks next_full many few small refl;
      captures = seams.captures input contracts output numbers 2 depths helpers 0 next_plan next_marks next_full many few small refl;
      recalls = seams.recalls input contracts output numbers 2 depths helpers 0 next_plan next_marks next_full many few small refl;
      exit = seams.exit input contracts output numbers 2 depths helpers 0 next_plan next_marks next_full many few small refl;
      returns = seams.returns input contracts output numbers 2 depths helpers 0 next_plan next_marks next_full many few small refl;
      throw_group = seams.throw_group input contracts output numbers 2 depths helpers 0 next_plan next_marks next_full many few small refl;
      wrapper = seams.wrapper input contracts output numbers 2 depths helpers 0 next_plan next_marks next_full many few small refl;
      invariant = seams.invariant input contracts output numbers 2 depths helpers 0 next_plan next_marks next_full many few small refl;
      next_groups = next_groups;
      inc_groups = inc_groups;
    }
