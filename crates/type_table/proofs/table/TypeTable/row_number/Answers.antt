use Rattle.type_table.proofs.table.TypeTable.row_number.Goals.{then-a-self-via-then-a-self, then-a-self-via-else-a-self+then-row-eq0}
use Rattle.std.proofs.Common.{◌≡◌, ◌∙◌, sym, ap, subst, arith, ◌+◌, ◌-◌, ◌<◌, ◌≤◌, ℕ, length, get_or}
use Rattle.std.specs.Prelude.{Some}
use Rattle.cil_base.specs.declared.tables.TheConstants.{TYPE_DEF}
use Rattle.std.proofs.lemmas.List.{get_or_default}
use Rattle.set_rows.specs.Sets.{Assembly, Assemblies, no_assembly, assembly_at, count_in}
use Rattle.type_table.specs.Table.{types_before, IsNumbered}
use Rattle.type_table.proofs.NumberingLaws.{number_other, no_number}
use Rattle.type_table.proofs.TableLaws.{other_fits}
use Rattle.type_table.proofs.table.TypeTable.row_number.Goals as goal

pub returns-then-a-self : goal.returns-then-a-self
returns-then-a-self c =
    let inv : IsNumbered c.args.self.now c.self.inside.starts.items c.self.inside.old c.self.inside.all c.self.inside.names =
    subst (λ s. IsNumbered s c.self.inside.starts.items c.self.inside.old c.self.inside.all c.self.inside.names) c.self.view_is c.self.invariant in
    elim c.then-a-self.branch [
      | then-a-self-via-then-a-self w ↦ no_number c.args.self.now c.args.a c.args.row inv.some (λ high low. absurd (omega (arith, w.if-a-self.true, high, ap length c.self.view_is)))
      | then-a-self-via-else-a-self+then-row-eq0 w ↦ no_number c.args.self.now c.args.a c.args.row inv.some (λ high low. absurd (omega (arith, w.if-row-eq0.true, low)))
    ]

pub returns-then-row-count : goal.returns-then-row-count
returns-then-row-count c =
    let inv : IsNumbered c.args.self.now c.self.inside.starts.items c.self.inside.old c.self.inside.all c.self.inside.names =
    subst (λ s. IsNumbered s c.self.inside.starts.items c.self.inside.old c.self.inside.all c.self.inside.names) c.self.view_is c.self.invariant in
    let below : c.args.a < length c.self.inside.set.now = omega (arith, c.if-a-self.false) in
    let there : assembly_at c.args.self.now c.args.a ≡ get_or c.self.inside.set.now c.args.a c.index-self-a.result =
    ap (λ (s : Assemblies). assembly_at s c.args.a) (sym c.self.view_is) ∙ get_or_default c.self.inside.set.now c.args.a no_assembly c.index-self-a.result below in
    let counted : c.count.result ≡ count_in (assembly_at c.args.self.now c.args.a) TYPE_DEF = c.count.ensures ∙ ap (λ (x : Assembly). count_in x TYPE_DEF) (sym there) in
    let many : count_in (assembly_at c.args.self.now c.args.a) TYPE_DEF < c.args.row = omega (arith, c.if-row-count.true, counted) in
    no_number c.args.self.now c.args.a c.args.row inv.some (λ high low. many)

pub overflow_add-result : goal.overflow_add-result
overflow_add-result c =
    let inv : IsNumbered c.args.self.now c.self.inside.starts.items c.self.inside.old c.self.inside.all c.self.inside.names =
    subst (λ s. IsNumbered s c.self.inside.starts.items c.self.inside.old c.self.inside.all c.self.inside.names) c.self.view_is c.self.invariant in
    let below : c.args.a < length c.self.inside.set.now = omega (arith, c.if-a-self.false) in
    let there : assembly_at c.args.self.now c.args.a ≡ get_or c.self.inside.set.now c.args.a c.index-self-a.result =
    ap (λ (s : Assemblies). assembly_at s c.args.a) (sym c.self.view_is) ∙ get_or_default c.self.inside.set.now c.args.a no_assembly c.index-self-a.result below in
    let counted : c.count.result ≡ count_in (assembly_at c.args.self.now c.args.a) TYPE_DEF = c.count.ensures ∙ ap (λ (x : Assembly). count_in x TYPE_DEF) (sym there) in
    let to : c.args.row ≤ count_in (assembly_at c.args.self.now c.args.a) TYPE_DEF = omega (arith, c.if-row-count.false, counted) in
    let low : 1 ≤ c.args.a = omega (arith, c.if-a-eq0.false) in
    let from : 1 ≤ c.args.row = omega (arith, c.if-row-eq0.false) in
    let high : c.args.a < length c.args.self.now = omega (arith, below, ap length c.self.view_is) in
    let fit : types_before c.args.self.now c.args.a + (c.args.row - 1) ≤ c.self.inside.all = other_fits c.args.self.now c.self.inside.starts.items c.self.inside.old c.self.inside.all c.self.inside.names inv c.args.a c.args.row low high to in
    omega (arith, fit, inv.fits, c.before-before.ensures)

pub returns : goal.returns
returns c =
    let inv : IsNumbered c.args.self.now c.self.inside.starts.items c.self.inside.old c.self.inside.all c.self.inside.names =
    subst (λ s. IsNumbered s c.self.inside.starts.items c.self.inside.old c.self.inside.all c.self.inside.names) c.self.view_is c.self.invariant in
    let below : c.args.a < length c.self.inside.set.now = omega (arith, c.if-a-self.false) in
    let there : assembly_at c.args.self.now c.args.a ≡ get_or c.self.inside.set.now c.args.a c.index-self-a.result =
    ap (λ (s : Assemblies). assembly_at s c.args.a) (sym c.self.view_is) ∙ get_or_default c.self.inside.set.now c.args.a no_assembly c.index-self-a.result below in
    let counted : c.count.result ≡ count_in (assembly_at c.args.self.now c.args.a) TYPE_DEF = c.count.ensures ∙ ap (λ (x : Assembly). count_in x TYPE_DEF) (sym there) in
    let to : c.args.row ≤ count_in (assembly_at c.args.self.now c.args.a) TYPE_DEF = omega (arith, c.if-row-count.false, counted) in
    let low : 1 ≤ c.args.a = omega (arith, c.if-a-eq0.false) in
    let from : 1 ≤ c.args.row = omega (arith, c.if-row-eq0.false) in
    let high : c.args.a < length c.args.self.now = omega (arith, below, ap length c.self.view_is) in
    ap (λ (n : ℕ). Some (n + (c.args.row - 1))) c.before-before.ensures ∙ sym (number_other c.args.self.now c.args.a c.args.row low high from to)
