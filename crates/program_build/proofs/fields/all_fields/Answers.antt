use Rattle.std.proofs.Common.{◌≡◌, ◌∙◌, ap, ◌-◌, ◌++◌, length, ℕ, List, true}
use Rattle.cil_base.specs.declared.tables.TheConstants.{FIELD}
use Rattle.cil_model.specs.declared.program.FieldDesc.{FieldDesc}
use Rattle.set_rows.specs.Sets.{Assembly, Assemblies, assembly_at, count_in}
use Rattle.set_program.specs.Numbering.{cut}
use Rattle.member_table.specs.declared.named.MemberId.TheVariants as id
use Rattle.member_table.specs.Numbers.{of_row, outside_members, member_ids}
use Rattle.member_numbers.proofs.NumberingLaws.{cut_low}
use Rattle.descriptions.specs.Descriptions.{field_desc}
use Rattle.program_build.specs.Orders.{of_others, field_at_row, outside_fields}
use Rattle.program_build.proofs.OrderLaws.{at_index, in_parts, all_in_order}
use Rattle.program_build.proofs.KnownLaws.{known_first}
use Rattle.program_build.proofs.fields.all_fields.Goals as goal

pub returns : goal.returns
unfolding member_ids
returns c =
    let s : Assemblies = c.args.tables.now in
    let here : c.index-set-0.result ≡ assembly_at s 0 = at_index s c.set.result.now 0 c.index-set-0.result c.set.ensures c.requires.some c.index-set-0.is in
    let old : c.members_before_class-old.result ≡ cut (assembly_at s 0) FIELD - 1 = c.members_before_class-old.ensures ∙ ap (λ (x : Assembly). cut x FIELD - 1) here in
    let count : c.count.result ≡ count_in (assembly_at s 0) FIELD = c.count.ensures ∙ ap (λ (x : Assembly). count_in x FIELD) here in
    let own : c.saturating_sub-own.result ≡ count_in (assembly_at s 0) FIELD - c.members_before_class-old.result = c.saturating_sub-own.ensures ∙ ap (λ (n : ℕ). n - c.members_before_class-old.result) count in
    in_parts s FIELD (field_at_row s) (outside_fields s) c.push_others.new.out c.push_fields.new.out c.push_outside.new.out c.push_fields-2.new.out c.members_before_class-old.result c.saturating_sub-own.result
    (cut_low (assembly_at s 0) true) old own
    (c.in_ok-push_others.ensures ∙ ap (λ (l : List FieldDesc). l ++ of_others s FIELD (field_at_row s) (length s - 1)) c.new-out.ensures)
    c.in_ok-push_fields.ensures c.in_ok-push_outside.ensures c.in_ok-push_fields-2.ensures
    ∙ all_in_order s FIELD of_row id.Outside (field_desc s) (outside_members s true) c.requires.some

pub push_fields-requires-clause-known : goal.push_fields-requires-clause-known
push_fields-requires-clause-known c = known_first c.args.tables.now c.args.known.now c.index-known-0.result c.requires.known c.requires.some c.index-known-0.is

pub push_fields-requires-2-clause-known : goal.push_fields-requires-2-clause-known
push_fields-requires-2-clause-known c = known_first c.args.tables.now c.args.known.now c.index-known-0-2.result c.requires.known c.requires.some c.index-known-0-2.is
