use Rattle.std.proofs.Common.{length}
use Rattle.member_table.specs.Environments.{environment_in}
use Rattle.member_table.specs.Numbers.{all_noted, outside_in, references_in}
use Rattle.member_table.proofs.BaseLaws.{if_ok_is}
use Rattle.member_table.proofs.NoteLaws.{walked, walked_in}
use Rattle.member_table.proofs.outside.outside_members_in.Goals as goal

pub returns : goal.returns
returns c =
    if_ok_is c.note_assembly.result (all_noted (outside_in (environment_in c.args.assemblies.now c.args.types.now) c.args.is_field) c.in_ok-found.found (references_in (environment_in c.args.assemblies.now c.args.types.now) 0)) (walked_in c.args.is_field (environment_in c.args.assemblies.now c.args.types.now) (length c.args.assemblies.now))
    (walked (outside_in (environment_in c.args.assemblies.now c.args.types.now) c.args.is_field) (references_in (environment_in c.args.assemblies.now c.args.types.now)) (length c.args.assemblies.now) c.in_ok-found.found c.if-assemblies-eq0.false c.in_ok-found.ensures)
    c.note_assembly.ensures
