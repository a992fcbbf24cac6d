use Rattle.std.proofs.Common.{◌≡◌, ◌∙◌, ap, arith, ◌-◌, ◌++◌, length, ℕ, List}
use Rattle.std.specs.Prelude.{map}
use Rattle.cil_base.specs.declared.tables.TheConstants.{TYPE_DEF}
use Rattle.cil_model.specs.declared.program.TypeDesc.{TypeDesc}
use Rattle.set_names.specs.Names.{Name}
use Rattle.set_rows.specs.Sets.{Assembly, Assemblies, assembly_at, count_in}
use Rattle.set_program.specs.declared.identity.TypeId.TheVariants.{Outside}
use Rattle.set_program.specs.Numbering.{type_cut, of_row, outside_names, type_ids}
use Rattle.set_program.specs.Attributes.{attribute_outside}
use Rattle.set_program.specs.Environment.{types_of}
use Rattle.type_table.proofs.NumberingLaws.{cut_low, cut_high}
use Rattle.descriptions.specs.Descriptions.{type_row, outside_type, type_desc}
use Rattle.program_build.specs.Orders.{of_others}
use Rattle.program_build.proofs.OrderLaws.{at_index, in_parts, all_in_order}
use Rattle.program_build.proofs.KnownLaws.{known_first}
use Rattle.program_build.proofs.types.all_types.Goals as goal

pub push_types-requires-clause-within : goal.push_types-requires-clause-within
push_types-requires-clause-within c =
    let s : Assemblies = c.args.tables.now in
    let here : c.index-set-0.result ≡ assembly_at s 0 = at_index s c.set.result.now 0 c.index-set-0.result c.set.ensures c.requires.some c.index-set-0.is in
    let old : c.types_before_class-old.result ≡ type_cut (assembly_at s 0) - 1 = c.types_before_class-old.ensures ∙ ap (λ (x : Assembly). type_cut x - 1) here in
    omega (arith, old, cut_high (assembly_at s 0))

pub push_types-requires-2-clause-within : goal.push_types-requires-2-clause-within
push_types-requires-2-clause-within c =
    let s : Assemblies = c.args.tables.now in
    let here : c.index-set-0.result ≡ assembly_at s 0 = at_index s c.set.result.now 0 c.index-set-0.result c.set.ensures c.requires.some c.index-set-0.is in
    let old : c.types_before_class-old.result ≡ type_cut (assembly_at s 0) - 1 = c.types_before_class-old.ensures ∙ ap (λ (x : Assembly). type_cut x - 1) here in
    let count : c.count.result ≡ count_in (assembly_at s 0) TYPE_DEF = c.count.ensures ∙ ap (λ (x : Assembly). count_in x TYPE_DEF) here in
    omega (arith, old, count, c.saturating_sub-own.ensures, cut_high (assembly_at s 0))

pub returns : goal.returns
unfolding types_of type_ids
returns c =
    let s : Assemblies = c.args.tables.now in
    let names : List Name = outside_names s (attribute_outside s) in
    let here : c.index-set-0.result ≡ assembly_at s 0 = at_index s c.set.result.now 0 c.index-set-0.result c.set.ensures c.requires.some c.index-set-0.is in
    let old : c.types_before_class-old.result ≡ type_cut (assembly_at s 0) - 1 = c.types_before_class-old.ensures ∙ ap (λ (x : Assembly). type_cut x - 1) here in
    let count : c.count.result ≡ count_in (assembly_at s 0) TYPE_DEF = c.count.ensures ∙ ap (λ (x : Assembly). count_in x TYPE_DEF) here in
    let own : c.saturating_sub-own.result ≡ count_in (assembly_at s 0) TYPE_DEF - c.types_before_class-old.result = c.saturating_sub-own.ensures ∙ ap (λ (n : ℕ). n - c.types_before_class-old.result) count in
    in_parts s TYPE_DEF (type_row s) (map outside_type names) c.push_others.new.out c.push_types.new.out c.push_outside.new.out c.push_types-2.new.out c.types_before_class-old.result c.saturating_sub-own.result
    (cut_low (assembly_at s 0)) old own
    (c.in_ok-push_others.ensures ∙ ap (λ (l : List TypeDesc). l ++ of_others s TYPE_DEF (type_row s) (length s - 1)) c.new-out.ensures)
    c.in_ok-push_types.ensures
    (c.in_ok-push_outside.ensures ∙ ap (λ (l : List Name). c.push_types.new.out ++ map outside_type l) (c.outside.ensures ∙ ap (λ (t : Assemblies). outside_names t (attribute_outside t)) c.types.ensures))
    c.in_ok-push_types-2.ensures
    ∙ all_in_order s TYPE_DEF of_row Outside (type_desc s) names c.requires.some

pub push_types-requires-clause-known : goal.push_types-requires-clause-known
push_types-requires-clause-known c = known_first c.args.tables.now c.args.known.now c.index-known-0.result c.requires.known c.requires.some c.index-known-0.is

pub push_types-requires-2-clause-known : goal.push_types-requires-2-clause-known
push_types-requires-2-clause-known c = known_first c.args.tables.now c.args.known.now c.index-known-0-2.result c.requires.known c.requires.some c.index-known-0-2.is
