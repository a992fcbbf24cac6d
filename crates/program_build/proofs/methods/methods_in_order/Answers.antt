use Rattle.std.proofs.Common.{◌≡◌, ◌∙◌, ap, ◌-◌, ◌++◌, length, ℕ, List, false}
use Rattle.cil_base.specs.declared.tables.TheConstants.{METHOD_DEF}
use Rattle.cil_model.specs.declared.program.MethodDesc.{MethodDesc}
use Rattle.set_rows.specs.Sets.{Assembly, Assemblies, assembly_at, count_in}
use Rattle.set_program.specs.Numbering.{cut}
use Rattle.member_table.specs.declared.named.MemberId.TheVariants as id
use Rattle.member_table.specs.Numbers.{of_row, outside_members, member_ids}
use Rattle.member_numbers.proofs.NumberingLaws.{cut_low}
use Rattle.descriptions.specs.Descriptions.{method_desc}
use Rattle.program_build.specs.Orders.{of_others, method_at_row, outside_methods}
use Rattle.program_build.proofs.OrderLaws.{at_index, in_parts, all_in_order}
use Rattle.program_build.proofs.KnownLaws.{known_first}
use Rattle.program_build.proofs.methods.methods_in_order.Goals as goal

pub returns : goal.returns
unfolding member_ids
returns c =
    let s : Assemblies = c.args.tables.now in
    let here : c.index-set-0.result ≡ assembly_at s 0 = at_index s c.set.result.now 0 c.index-set-0.result c.set.ensures c.requires.some c.index-set-0.is in
    let old : c.members_before_class-old.result ≡ cut (assembly_at s 0) METHOD_DEF - 1 = c.members_before_class-old.ensures ∙ ap (λ (x : Assembly). cut x METHOD_DEF - 1) here in
    let count : c.count.result ≡ count_in (assembly_at s 0) METHOD_DEF = c.count.ensures ∙ ap (λ (x : Assembly). count_in x METHOD_DEF) here in
    let own : c.saturating_sub-own.result ≡ count_in (assembly_at s 0) METHOD_DEF - c.members_before_class-old.result = c.saturating_sub-own.ensures ∙ ap (λ (n : ℕ). n - c.members_before_class-old.result) count in
    in_parts s METHOD_DEF (method_at_row s) (outside_methods s) c.push_others.new.out c.push_methods.new.out c.push_outside.new.out c.push_methods-2.new.out c.members_before_class-old.result c.saturating_sub-own.result
    (cut_low (assembly_at s 0) false) old own
    (c.in_ok-push_others.ensures ∙ ap (λ (l : List MethodDesc). l ++ of_others s METHOD_DEF (method_at_row s) (length s - 1)) c.new-out.ensures)
    c.in_ok-push_methods.ensures c.in_ok-push_outside.ensures c.in_ok-push_methods-2.ensures
    ∙ all_in_order s METHOD_DEF of_row id.Outside (method_desc s) (outside_members s false) c.requires.some

pub push_methods-requires-clause-known : goal.push_methods-requires-clause-known
push_methods-requires-clause-known c = known_first c.args.tables.now c.args.known.now c.index-known-0.result c.requires.known c.requires.some c.index-known-0.is

pub push_methods-requires-2-clause-known : goal.push_methods-requires-2-clause-known
push_methods-requires-2-clause-known c = known_first c.args.tables.now c.args.known.now c.index-known-0-2.result c.requires.known c.requires.some c.index-known-0-2.is
