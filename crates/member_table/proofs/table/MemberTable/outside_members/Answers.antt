use Rattle.std.proofs.Common.{◌∙◌, ap, List, length}
use Rattle.members.specs.declared.assembly_members.AssemblyMembers.{AssemblyMembers}
use Rattle.members.specs.declared.set_type.SetType.{SetType}
use Rattle.member_table.specs.Environments.{environment_in}
use Rattle.member_table.specs.Numbers.{outside_members}
use Rattle.member_table.proofs.BaseLaws.{if_ok_is}
use Rattle.member_table.proofs.NoteLaws.{walked_in, outside_same}
use Rattle.member_table.proofs.table.MemberTable.outside_members.Goals as goal

pub returns : goal.returns
returns c = λ s h.
    if_ok_is c.outside_members_in.result (walked_in c.args.is_field (environment_in c.as_slice.result.now c.as_slice-2.result.now) (length c.as_slice.result.now)) (outside_members s c.args.is_field)
    (ap (λ (l : List AssemblyMembers). walked_in c.args.is_field (environment_in l c.as_slice-2.result.now) (length l)) c.as_slice.ensures.value
    ∙ ap (λ (l : List SetType). walked_in c.args.is_field (environment_in c.args.self.now.assemblies.items l) (length c.args.self.now.assemblies.items)) c.as_slice-2.ensures.value
    ∙ outside_same s c.args.self.now.assemblies.items c.args.self.now.types.items c.args.is_field h)
    c.outside_members_in.ensures
