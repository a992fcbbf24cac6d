use Rattle.std.proofs.Common.{refl}
use Rattle.cil_base.proofs.RefusalLaws.{IfRefused-weaker}
use Rattle.set_check.specs.Sets.{assemblies_of, bytes_of}
use Rattle.set_list.proofs.HeightLaws.{have_heights, are_short}
use Rattle.set_list.proofs.ListLaws.{block_refused, blocks_kept, told_none, told_some, unread_behind}
use Rattle.set_list.proofs.contracts.checked_contracts.Goals as goal

pub own_contracts-requires-clause-heights : goal.own_contracts-requires-clause-heights
own_contracts-requires-clause-heights c = have_heights (assemblies_of (bytes_of c.args.set.now)) c.args.program.now c.requires.program

pub own_contracts-requires-clause-short : goal.own_contracts-requires-clause-short
own_contracts-requires-clause-short c = are_short (assemblies_of (bytes_of c.args.set.now)) c.args.program.now c.requires.program (bytes_of c.args.set.now) refl c.requires.short

pub returns-in-Err-clause-refused : goal.returns-in-Err-clause-refused
returns-in-Err-clause-refused c = IfRefused-weaker c.in-Err.fault _ _ (λ r x. block_refused (bytes_of c.args.set.now) c.args.program.now c.requires.program r x) c.in-Err.ensures.refused

pub returns-in-Ok-None-clause-accepted : goal.returns-in-Ok-None-clause-accepted
returns-in-Ok-None-clause-accepted c =
    let set = bytes_of c.args.set.now in
    blocks_kept set c.args.program.now c.requires.program c.in-Ok.ensures.accepted (told_none set c.in-Ok-None.field-0 c.in-Ok-None.field-0-is c.in-Ok-None.ensures)

pub returns-in-Ok-Some-clause-refused : goal.returns-in-Ok-Some-clause-refused
returns-in-Ok-Some-clause-refused c =
    let set = bytes_of c.args.set.now in
    unread_behind set c.args.program.now c.requires.program c.in-Ok-Some.refusal c.in-Ok.ensures.accepted (told_some set c.in-Ok-Some.field-0 c.in-Ok-Some.refusal c.in-Ok-Some.field-0-is c.in-Ok-Some.ensures)
