-- Each seam of the two written bodies does what is asked of it.
use Rattle.std.proofs.Common.{◌≡◌, ◌≤◌, refl, arith, length}
use Rattle.cil_model.specs.declared.contract.Group.TheVariants as group
use Rattle.cil_semantics.specs.Contracted.{pieces}
use Rattle.machine_laws.specs.Same.{most_clauses}
use Rattle.machine_rows.specs.Everything.{everything}
use Rattle.splice_facts.specs.Spliced.{Groups}
use Rattle.throw_laws.specs.WrapperCode.{WrapperSeams}
use Rattle.splice_program.specs.Program.{input, contracts, numbers, next_plan}
use Rattle.splice_program.specs.Written.{output, next_marks}
use Rattle.splice_program.proofs.GroupsLaws.{groups, wrapper}
use Rattle.splice_program.proofs.NextSeams.{next_full}
use Rattle.splice_program.proofs.RuntimeLaws.{depths, helpers}

pub many : 1 ≤ most_clauses contracts input 0 input.methods
unfolding everything
many = let e : most_clauses contracts input 0 input.methods ≡ 4 = refl in omega (arith, e)

pub few : length (pieces next_plan group.Throw) ≤ most_clauses contracts input 0 input.methods
unfolding everything
few = many

pub small : 4 ≤ 100
small = omega arith

pub next_groups : Groups input contracts output numbers 2 depths 0 next_plan next_marks
next_groups = groups input contracts output numbers 2 depths helpers 0 next_plan next_marks next_full many few small refl

pub next_wrapper : WrapperSeams input contracts output numbers 2 depths 0 next_plan next_marks
next_wrapper = wrapper input contracts output numbers 2 depths helpers 0 next_plan next_marks next_full many few small refl
