use Rattle.std.proofs.Common.{◌∙◌, ap, List}
use Rattle.members.specs.declared.assembly_members.AssemblyMembers.{AssemblyMembers}
use Rattle.members.specs.declared.set_type.SetType.{SetType}
use Rattle.member_table.specs.Environments.{Environment, environment_in}
use Rattle.member_table.specs.Members.{member, member_in}
use Rattle.member_table.proofs.BaseLaws.{if_ok_is}
use Rattle.member_table.proofs.EnvironmentLaws.{environment_same}
use Rattle.member_table.proofs.table.MemberTable.member.Goals as goal

pub returns : goal.returns
returns c = λ s h.
    if_ok_is c.member_in.result (member_in (environment_in c.as_slice.result.now c.as_slice-2.result.now) c.args.a c.args.row) (member s c.args.a c.args.row)
    (ap (λ (e : Environment). member_in e c.args.a c.args.row)
    (ap (λ (l : List AssemblyMembers). environment_in l c.as_slice-2.result.now) c.as_slice.ensures.value
    ∙ ap (λ (l : List SetType). environment_in c.args.self.now.assemblies.items l) c.as_slice-2.ensures.value
    ∙ environment_same s c.args.self.now.assemblies.items c.args.self.now.types.items h))
    c.member_in.ensures
