use Rattle.std.proofs.Common.{◌≡◌, ◌∙◌, ap, ◌-◌, ◌++◌, length, ℕ, List, false}
use Rattle.std.specs.Prelude.{Option, Some, map}
use Rattle.cil_base.specs.declared.tables.TheConstants.{METHOD_DEF}
use Rattle.set_rows.specs.Sets.{Assembly, Assemblies, assembly_at, count_in}
use Rattle.set_program.specs.Numbering.{cut}
use Rattle.members.specs.declared.outside_member.OutsideMember.{OutsideMember}
use Rattle.member_table.specs.declared.named.MemberId.TheVariants as id
use Rattle.member_table.specs.Numbers.{of_row, outside_members, member_ids}
use Rattle.member_numbers.proofs.NumberingLaws.{cut_low}
use Rattle.descriptions.specs.Descriptions.{id_signature, all_signatures}
use Rattle.program_build.specs.Orders.{of_others, signature_at, outside_signatures}
use Rattle.program_build.proofs.OrderLaws.{at_index, in_parts, all_in_order}
use Rattle.program_build.proofs.signatures.signatures_in_order.Goals as goal

pub returns : goal.returns
unfolding member_ids all_signatures
returns c =
    let s : Assemblies = c.args.tables.now in
    let here : c.index-set-0.result ≡ assembly_at s 0 = at_index s c.set.result.now 0 c.index-set-0.result c.set.ensures c.requires.some c.index-set-0.is in
    let old : c.members_before_class-old.result ≡ cut (assembly_at s 0) METHOD_DEF - 1 = c.members_before_class-old.ensures ∙ ap (λ (x : Assembly). cut x METHOD_DEF - 1) here in
    let count : c.count.result ≡ count_in (assembly_at s 0) METHOD_DEF = c.count.ensures ∙ ap (λ (x : Assembly). count_in x METHOD_DEF) here in
    let own : c.saturating_sub-own.result ≡ count_in (assembly_at s 0) METHOD_DEF - c.members_before_class-old.result = c.saturating_sub-own.ensures ∙ ap (λ (n : ℕ). n - c.members_before_class-old.result) count in
    in_parts s METHOD_DEF (signature_at s) (outside_signatures s) c.push_others.new.out.items c.push_signatures.new.out.items c.push_outside.new.out.items c.push_signatures-2.new.out.items c.members_before_class-old.result c.saturating_sub-own.result
    (cut_low (assembly_at s 0) false) old own
    (c.in_ok-push_others.ensures ∙ ap (λ (l : List (Option (List ℕ))). l ++ of_others s METHOD_DEF (signature_at s) (length s - 1)) c.new-out.ensures.items)
    c.in_ok-push_signatures.ensures
    (c.in_ok-push_outside.ensures ∙ ap (λ (l : List OutsideMember). c.push_signatures.new.out.items ++ map (λ m. Some m.shape.signature) l) (c.as_slice-members.ensures ∙ c.outside.ensures ∙ ap (λ (t : Assemblies). outside_members t false) c.numbers.ensures))
    c.in_ok-push_signatures-2.ensures
    ∙ all_in_order s METHOD_DEF of_row id.Outside (id_signature s) (outside_members s false) c.requires.some
