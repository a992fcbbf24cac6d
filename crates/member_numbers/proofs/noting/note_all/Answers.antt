use Rattle.std.proofs.Common.{◌-◌, length}
use Rattle.std.specs.Prelude.{flat_map}
use Rattle.std.specs.List.{range_with_len}
use Rattle.member_table.specs.Environments.{environment_in}
use Rattle.member_table.specs.Numbers.{outside_in, references_in}
use Rattle.member_numbers.proofs.NotedLaws.{all_walked}
use Rattle.member_numbers.proofs.noting.note_all.Goals as goal

pub returns : goal.returns
returns c =
    all_walked (outside_in (environment_in c.args.assemblies.now c.args.types.now) c.args.is_field) (references_in (environment_in c.args.assemblies.now c.args.types.now)) (length c.args.assemblies.now) c.note_assembly.result c.if-assemblies-eq0.false
    (c.note_assembly.ensures (flat_map (references_in (environment_in c.args.assemblies.now c.args.types.now)) (range_with_len 1 (length c.args.assemblies.now - 1))) c.in_ok-noted.ensures)
