use Rattle.std.proofs.Common.{◌≡◌, ◌<◌, ◌∙◌, ap, sym, arith, ℕ, length}
use Rattle.std.specs.Prelude.{Some, None, ◌==◌}
use Rattle.std.proofs.lemmas.List.{get_or_default}
use Rattle.set_program.specs.declared.identity.TypeId.TheVariants.{Outside}
use Rattle.set_rows.specs.Sets.{Assembly, no_assembly, assembly_at, assembly_named, cell, text}
use Rattle.set_types.specs.CodedIndexes.{tag, row_of}
use Rattle.set_names.specs.Names.{Name}
use Rattle.set_program.specs.TypeNames.{type_named}
use Rattle.set_program.specs.References.{exported_named}
use Rattle.set_program.proofs.ForwardLaws.{asked_past, asked_next, asked_out, asked_file, none_else, not_eq}
use Rattle.set_program.proofs.references.asked.Goals.{then-implementation-eq1+in_default-assembly_named, else-implementation-eq1}
use Rattle.cil_base.specs.declared.tables.TheConstants.{ASSEMBLY_REF, EXPORTED_TYPE}
use Rattle.set_program.proofs.references.asked.Goals as goal

pub returns-then-a-set : goal.returns-then-a-set
returns-then-a-set c = λ go. asked_past go c.args.set.now c.args.name.now c.args.a (omega (arith, c.if-a-set.true))

pub returns-in-Some-assembly_named : goal.returns-in-Some-assembly_named
returns-in-Some-assembly_named c = λ go.
    let x : Assembly = c.index-set-a.result in
    let below : c.args.a < length c.args.set.now = omega (arith, c.if-a-set.false) in
    let there : assembly_at c.args.set.now c.args.a ≡ x = get_or_default c.args.set.now c.args.a no_assembly x below ∙ sym c.index-set-a.is in
    let i : c.cell-implementation.result ≡ cell x EXPORTED_TYPE c.in-Some-exported_named.e 4 = c.cell-implementation.ensures in
    asked_next go c.args.set.now c.args.name.now c.args.a x there (sym c.type_named.ensures ∙ none_else c.type_named.result c.in_default.not-Some) c.in-Some-exported_named.e c.in-Some-assembly_named.next
    (sym c.exported_named.ensures ∙ c.in-Some-exported_named.is)
    (ap (λ (k : ℕ). tag k == 1) (sym i) ∙ ap (λ (k : ℕ). k == 1) c.if-implementation-eq1.true)
    (ap (λ (k : ℕ). assembly_named c.args.set.now (text x ASSEMBLY_REF (row_of k) 6)) (sym i) ∙ ap (assembly_named c.args.set.now) (sym c.text.ensures) ∙ sym c.assembly_named.ensures ∙ c.in-Some-assembly_named.is)

pub returns : goal.returns
returns c = λ go.
    let x : Assembly = c.index-set-a.result in
    let below : c.args.a < length c.args.set.now = omega (arith, c.if-a-set.false) in
    let there : assembly_at c.args.set.now c.args.a ≡ x = get_or_default c.args.set.now c.args.a no_assembly x below ∙ sym c.index-set-a.is in
    let i : c.cell-implementation.result ≡ cell x EXPORTED_TYPE c.in-Some-exported_named.e 4 = c.cell-implementation.ensures in
    let unknown : type_named x c.args.name.now ≡ None = sym c.type_named.ensures ∙ none_else c.type_named.result c.in_default.not-Some in
    let found : exported_named x c.args.name.now ≡ Some c.in-Some-exported_named.e = sym c.exported_named.ensures ∙ c.in-Some-exported_named.is in
    ap (λ (n : Name). Some (Outside n)) c.in_ok-from_slice.ensures
    ∙ elim c.if-implementation-eq1.branch [
      | then-implementation-eq1+in_default-assembly_named w ↦
          asked_out go c.args.set.now c.args.name.now c.args.a x there unknown c.in-Some-exported_named.e found
          (ap (λ (k : ℕ). tag k == 1) (sym i) ∙ ap (λ (k : ℕ). k == 1) w.if-implementation-eq1.true)
          (ap (λ (k : ℕ). assembly_named c.args.set.now (text x ASSEMBLY_REF (row_of k) 6)) (sym i) ∙ ap (assembly_named c.args.set.now) (sym w.text.ensures) ∙ sym w.assembly_named.ensures ∙ none_else w.assembly_named.result w.in_default-assembly_named.not-Some)
      | else-implementation-eq1 w ↦
          asked_file go c.args.set.now c.args.name.now c.args.a x there unknown c.in-Some-exported_named.e found
          (ap (λ (k : ℕ). tag k == 1) (sym i) ∙ not_eq (tag c.cell-implementation.result) 1 w.if-implementation-eq1.false)
    ]
