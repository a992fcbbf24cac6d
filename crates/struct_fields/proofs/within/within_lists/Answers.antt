use Rattle.std.proofs.Common.{◌∙◌, ap, subst, sym, ℕ, List, length, ◌<◌, ◌^◌}
use Rattle.std.specs.Prelude.{map}
use Rattle.std.specs.List.{range_with_len}
use Rattle.set_rows.specs.Sets.{Assemblies}
use Rattle.members.specs.declared.assembly_members.AssemblyMembers.{AssemblyMembers}
use Rattle.members.specs.declared.set_type.SetType.{SetType}
use Rattle.struct_fields.specs.StructFields.{within_at}
use Rattle.struct_fields.proofs.WithinLaws.{within_all, count_types}
use Rattle.struct_fields.proofs.within.within_lists.Goals as goal

pub within_each-requires : goal.within_each-requires
within_each-requires c =
    subst (λ (n : ℕ). n < 2 ^ 32) (sym (ap length c.as_slice-2.ensures.value ∙ count_types c.args.structs.now c.args.table.now.assemblies.items c.args.table.now.types.items c.requires.table)) c.requires.few

pub returns : goal.returns
returns c =
    let s : Assemblies = c.args.structs.now in
    let ms : List AssemblyMembers = c.args.table.now.assemblies.items in
    c.in_ok-lists.ensures
    ∙ ap (λ (l : List AssemblyMembers). map (within_at s l c.as_slice-2.result.now) (range_with_len 0 (length c.as_slice-2.result.now))) c.as_slice.ensures.value
    ∙ ap (λ (types : List SetType). map (within_at s ms types) (range_with_len 0 (length types))) c.as_slice-2.ensures.value
    ∙ within_all s ms c.args.table.now.types.items c.requires.table
