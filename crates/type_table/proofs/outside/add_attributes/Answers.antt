use Rattle.std.proofs.Common.{◌≡◌, ◌∙◌, sym, ap, arith, ◌+◌, ℕ, suc, List, length, get_or}
use Rattle.std.specs.Prelude.{Option, filter, filter_map}
use Rattle.std.specs.List.{range_with_len}
use Rattle.std.proofs.lemmas.List.FromFn.{get_or-map-range_with_len, length-map-range_with_len}
use Rattle.cil_base.specs.declared.tables.TheConstants.{CUSTOM_ATTRIBUTE}
use Rattle.set_names.specs.Names.{Name}
use Rattle.set_names.specs.Distinct.{distinct}
use Rattle.set_rows.specs.Sets.{Assemblies, assembly_at, count_in}
use Rattle.set_program.specs.Numbering.{outside_name}
use Rattle.set_program.specs.Attributes.{attribute_name, attribute_type, names_type}
use Rattle.type_table.specs.Outside.{outside_by_attributes}
use Rattle.type_table.proofs.OutsideLaws.{row_kept, row_left, attributes_all, type_is_named}
use Rattle.type_table.proofs.outside.add_attributes.Goals.{then-names_type+in_ok-add_attribute, else-names_type}
use Rattle.type_table.proofs.outside.add_attributes.Goals as goal

pub loop-k-init : goal.loop-k-init
loop-k-init c = λ n e.
    let s : Assemblies = c.args.set.now in
    let long : length c.args.types.now ≡ count_in (assembly_at s c.args.a) CUSTOM_ATTRIBUTE = ap length c.requires.types ∙ length-map-range_with_len (attribute_name s c.args.a) 1 (count_in (assembly_at s c.args.a) CUSTOM_ATTRIBUTE) in
    attributes_all s c.args.a n c.args.names.now (omega (arith, e, long))

pub returns : goal.returns
returns c = c.loop-k.invariant 0 (omega (arith, c.loop-k-test.false, c.loop-k.auto.k-end))

pub loop-k-preserved : goal.loop-k-preserved
loop-k-preserved c = λ n e.
    let s : Assemblies = c.args.set.now in
    let k : ℕ = c.loop-k.k in
    let f : ℕ → Option Name = λ row. outside_name (attribute_type s c.args.a row) in
    let count : ℕ = count_in (assembly_at s c.args.a) CUSTOM_ATTRIBUTE in
    let long : length c.args.types.now ≡ count = ap length c.requires.types ∙ length-map-range_with_len (attribute_name s c.args.a) 1 count in
    let named : c.index-types-k.result ≡ attribute_name s c.args.a (k + 1) =
    c.index-types-k.is ∙ ap (λ (l : List (Option Name)). get_or l k c.index-types-k.result) c.requires.types
    ∙ get_or-map-range_with_len (attribute_name s c.args.a) 1 count k (k + 1) c.index-types-k.result (omega (arith, c.loop-k-test.true, long)) (omega arith) in
    let test : c.names_type.result ≡ names_type s c.args.a (k + 1) = c.names_type.ensures ∙ type_is_named s c.args.a (k + 1) c.index-types-k.result named in
    let whole : List Name = distinct c.args.names.now (outside_by_attributes s c.args.a) in
    let before : distinct c.loop-k.names (filter_map f (filter (names_type s c.args.a) (range_with_len (k + 1) (suc n)))) ≡ whole = c.loop-k.invariant (suc n) (omega (arith, e)) in
    elim c.if-names_type.branch [
      | then-names_type+in_ok-add_attribute w ↦
          row_kept (names_type s c.args.a) f (k + 1) n c.loop-k.names c.if-names_type.names whole (sym test ∙ w.if-names_type.true) (w.names-is ∙ w.in_ok-add_attribute.ensures) before
      | else-names_type w ↦
          ap (λ (l : List Name). distinct l (filter_map f (filter (names_type s c.args.a) (range_with_len (k + 1 + 1) n)))) w.names-is
          ∙ row_left (names_type s c.args.a) f (k + 1) n c.loop-k.names whole (sym test ∙ w.if-names_type.false) before
    ]
