use Rattle.std.proofs.Common.{◌≡◌, ◌∙◌, ap, ◌-◌, ℕ, List, [], length}
use Rattle.cil_base.specs.declared.tables.TheConstants.{TYPE_DEF}
use Rattle.set_rows.specs.Sets.{Assembly, Assemblies, assembly_at, count_in}
use Rattle.set_program.specs.Numbering.{type_cut}
use Rattle.set_program.specs.Environment.{types_of}
use Rattle.members.specs.declared.assembly_members.AssemblyMembers.{AssemblyMembers}
use Rattle.member_table.specs.Environments.{environment_in}
use Rattle.member_numbers.proofs.TypesLaws.{all_of, are_of}
use Rattle.member_numbers.proofs.table.member_table.Goals as goal

pub returns : goal.returns
returns c =
    let s : Assemblies = c.args.set.now in
    let own : c.count.result ≡ count_in (assembly_at s 0) TYPE_DEF = c.count.ensures ∙ ap (λ (x : Assembly). count_in x TYPE_DEF) c.first-target.ensures in
    are_of s c.in_ok-assemblies.assemblies.items c.args.coded.items c.in_ok-types.types.items c.in_ok-assemblies.ensures.rows c.in_ok-assemblies.ensures.coded c.requires.coded
    c.types_before_class-old.result c.saturating_sub-new.result c.len.result c.requires.some
    (c.types_before_class-old.ensures ∙ ap (λ (x : Assembly). type_cut x - 1) c.first-target.ensures)
    (c.saturating_sub-new.ensures ∙ ap (λ (n : ℕ). n - c.types_before_class-old.result) own)
    (c.len.ensures ∙ ap (λ (u : Assemblies). length (types_of u)) c.requires.typed)
    (c.in_ok-types.ensures ∙ ap (λ (l : List AssemblyMembers). all_of (environment_in l []) (length l) c.len.result c.types_before_class-old.result c.saturating_sub-new.result) c.as_slice.ensures.value)
