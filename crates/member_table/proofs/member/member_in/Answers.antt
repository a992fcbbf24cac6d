use Rattle.std.proofs.Common.{◌≡◌, ◌∙◌, sym, ap}
use Rattle.std.specs.Prelude.{Some, slice_get}
use Rattle.std.specs.Option.{option_copied}
use Rattle.set_types.specs.CodedTypes.{coded_of}
use Rattle.member_table.specs.Environments.{environment_in}
use Rattle.member_table.specs.Members.{of_reference, member_in}
use Rattle.member_table.proofs.BaseLaws.{member_of, if_ok_is}
use Rattle.member_table.proofs.member.member_in.Goals as goal

pub returns-in-Some : goal.returns-in-Some
returns-in-Some c =
    if_ok_is c.of_reference.result (of_reference (environment_in c.args.assemblies.now c.args.types.now) c.args.a c.in-Some.assembly.now.rows (coded_of c.in-Some.assembly.now.coded) c.args.row) (member_in (environment_in c.args.assemblies.now c.args.types.now) c.args.a c.args.row)
    (member_of c.args.assemblies.now c.args.types.now c.args.a c.args.row c.in-Some.assembly.now (sym c.at.ensures ∙ ap option_copied c.in-Some.is)) c.of_reference.ensures
