use Rattle.std.proofs.Common.{◌∙◌, ap, true, get_or}
use Rattle.members.specs.declared.outside_member.OutsideMember.{OutsideMember}
use Rattle.member_table.specs.declared.named.MemberId.TheVariants as id
use Rattle.member_table.specs.Numbers.{outside_members}
use Rattle.descriptions.specs.Descriptions.{field_desc}
use Rattle.program_build.proofs.OutsideLaws.{names_it, row_there, pushed_item}
use Rattle.program_build.proofs.fields.push_outside.Goals as goal

pub outside_field_of-requires-clause-at : goal.outside_field_of-requires-clause-at
outside_field_of-requires-clause-at c =
    names_it c.args.tables.now c.args.members.now (outside_members c.args.tables.now true) c.args.rows.now c.loop-k.k c.index-members-k.result c.requires.members c.requires.rows c.loop-k-test.true c.index-members-k.is

pub outside_field_of-requires-clause-there : goal.outside_field_of-requires-clause-there
outside_field_of-requires-clause-there c =
    row_there c.args.tables.now c.index-members-k.result (get_or c.args.rows.now c.loop-k.k (0, 0))
    (names_it c.args.tables.now c.args.members.now (outside_members c.args.tables.now true) c.args.rows.now c.loop-k.k c.index-members-k.result c.requires.members c.requires.rows c.loop-k-test.true c.index-members-k.is)

pub loop-k-preserved : goal.loop-k-preserved
loop-k-preserved c =
    pushed_item (λ (m : OutsideMember). field_desc c.args.tables.now (id.Outside m)) c.args.members.now c.loop-k.k c.index-members-k.result c.args.out.now c.loop-k.out c.push.new.self c.in_ok-outside_field_of.field-0
    c.in_ok-push.ensures.ok c.loop-k.invariant c.loop-k-test.true (c.in_ok-outside_field_of.ensures ∙ ap (λ (m : OutsideMember). field_desc c.args.tables.now (id.Outside m)) c.index-members-k.is)
