use Rattle.std.proofs.Common.{◌≡◌, ◌∙◌, sym, ap, subst, List}
use Rattle.std.specs.Prelude.{map}
use Rattle.members.specs.declared.assembly_members.AssemblyMembers.{AssemblyMembers}
use Rattle.members.specs.declared.set_type.SetType.{SetType}
use Rattle.type_circles.specs.Structs.{AreStructs, is_struct_of}
use Rattle.type_circles.proofs.KindLaws.{flags_are}
use Rattle.type_circles.proofs.structs.Structs.new.Goals as goal

pub invariant_of-result : goal.invariant_of-result
invariant_of-result c =
    let ms : List AssemblyMembers = c.args.table.now.assemblies.items in
    let types : List SetType = c.args.table.now.types.items in
    let e : c.in_ok-flags.flags.items ≡ map (is_struct_of ms) types =
    c.in_ok-flags.ensures
    ∙ ap (λ (l : List AssemblyMembers). map (is_struct_of l) c.as_slice-2.result.now) c.as_slice.ensures.value
    ∙ ap (map (is_struct_of ms)) c.as_slice-2.ensures.value in
    subst (AreStructs c.args.types.now) (sym e) (flags_are c.args.types.now ms types c.requires)
