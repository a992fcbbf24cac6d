use Rattle.std.proofs.Common.{Ok, Err, arith, sym}
use Rattle.il_code.proofs.PlaceLaws.{missing, searched_place}
use Rattle.il_code.proofs.targets.index_in.Goals as goal

pub returns-then-at-gt4294967295 : goal.returns-then-at-gt4294967295
returns-then-at-gt4294967295 c = sym (missing c.args.offsets.now c.args.at (λ j below e. let fits = c.type_inv.offsets j in absurd (omega arith)))

pub returns-in-Ok : goal.returns-in-Ok
returns-in-Ok c = sym (searched_place c.args.offsets.now c.args.at (Ok c.in-Ok.k) c.requires.rise c.in-Ok.ensures.position)

pub returns-in-Err : goal.returns-in-Err
returns-in-Err c = sym (searched_place c.args.offsets.now c.args.at (Err c.in-Err.field-0) c.requires.rise c.in-Err.ensures.position)
