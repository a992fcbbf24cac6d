use Rattle.std.proofs.Common.{◌≡◌, ◌∙◌, sym, ap, arith, ◌+◌, ℕ, suc}
use Rattle.std.specs.Prelude.{Option, filter_map, option_to_list}
use Rattle.std.specs.List.{range_with_len}
use Rattle.std.proofs.lemmas.List.{get_or_default}
use Rattle.cil_base.specs.declared.tables.TheConstants.{TYPE_REF}
use Rattle.set_names.specs.Names.{Name}
use Rattle.set_names.specs.Distinct.{distinct}
use Rattle.set_rows.specs.Sets.{Assembly, Assemblies, no_assembly, assembly_at, count_in}
use Rattle.set_program.specs.declared.identity.TypeId.{TypeId}
use Rattle.set_program.specs.References.{reference}
use Rattle.set_program.specs.Numbering.{outside_name, names_outside}
use Rattle.type_table.proofs.OutsideLaws.{one_added, references_all}
use Rattle.type_table.proofs.outside.add_references.Goals as goal

pub loop-k-init : goal.loop-k-init
loop-k-init c = λ n e.
    let s : Assemblies = c.args.set.now in
    let there : assembly_at s c.args.a ≡ c.index-set-a.result = get_or_default s c.args.a no_assembly c.index-set-a.result c.requires.there ∙ sym c.index-set-a.is in
    let all : n ≡ c.count-count.result = omega (arith, e) in
    references_all s c.args.a n c.args.names.now (all ∙ c.count-count.ensures ∙ ap (λ (x : Assembly). count_in x TYPE_REF) (sym there))

pub loop-k-preserved : goal.loop-k-preserved
loop-k-preserved c = λ n e.
    let s : Assemblies = c.args.set.now in
    let f : ℕ → Option Name = λ row. outside_name (reference s c.args.a row) in
    one_added c.loop-k.names c.add_outside.new.names (f (c.loop-k.k + 1)) (filter_map f (range_with_len (c.loop-k.k + 1 + 1) n)) (distinct c.args.names.now (names_outside s c.args.a))
    (c.in_ok-add_outside.ensures ∙ ap (λ (o : Option TypeId). distinct c.loop-k.names (option_to_list (outside_name o))) c.in_ok-id.ensures)
    (c.loop-k.invariant (suc n) (omega (arith, e)))

pub returns : goal.returns
returns c = c.loop-k.invariant 0 (omega (arith, c.loop-k-test.false, c.loop-k.auto.k-end))
