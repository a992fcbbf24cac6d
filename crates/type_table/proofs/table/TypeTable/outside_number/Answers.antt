use Rattle.std.proofs.Common.{◌≡◌, ◌∙◌, sym, ap, subst, arith, ◌+◌, ◌-◌, ◌<◌, ◌≤◌, ℕ, List, length, get_or}
use Rattle.std.specs.Prelude.{option_map}
use Rattle.type_table.specs.Table.{types_before, IsNumbered}
use Rattle.type_table.proofs.TableLaws.{name_fits, outside_is}
use Rattle.type_table.proofs.table.TypeTable.outside_number.Goals as goal

pub overflow_add-result : goal.overflow_add-result
overflow_add-result c =
    let inv : IsNumbered c.args.self.now c.self.inside.starts.items c.self.inside.old c.self.inside.all c.self.inside.names =
    subst (λ s. IsNumbered s c.self.inside.starts.items c.self.inside.old c.self.inside.all c.self.inside.names) c.self.view_is c.self.invariant in
    let fit : types_before c.args.self.now (length c.args.self.now) + c.self.inside.old + c.in-Some.k ≤ c.self.inside.all = name_fits c.args.self.now c.self.inside.starts.items c.self.inside.old c.self.inside.all c.self.inside.names inv c.args.name.now c.in-Some.k (sym c.place.ensures ∙ c.in-Some.is) in
    omega (arith, fit, inv.fits, c.before_own.ensures)

pub overflow_cast-result : goal.overflow_cast-result
overflow_cast-result c =
    let inv : IsNumbered c.args.self.now c.self.inside.starts.items c.self.inside.old c.self.inside.all c.self.inside.names =
    subst (λ s. IsNumbered s c.self.inside.starts.items c.self.inside.old c.self.inside.all c.self.inside.names) c.self.view_is c.self.invariant in
    let fit : types_before c.args.self.now (length c.args.self.now) + c.self.inside.old + c.in-Some.k ≤ c.self.inside.all = name_fits c.args.self.now c.self.inside.starts.items c.self.inside.old c.self.inside.all c.self.inside.names inv c.args.name.now c.in-Some.k (sym c.place.ensures ∙ c.in-Some.is) in
    omega (arith, fit, inv.fits)

pub overflow_add-result-in-Some : goal.overflow_add-result-in-Some
overflow_add-result-in-Some c =
    let inv : IsNumbered c.args.self.now c.self.inside.starts.items c.self.inside.old c.self.inside.all c.self.inside.names =
    subst (λ s. IsNumbered s c.self.inside.starts.items c.self.inside.old c.self.inside.all c.self.inside.names) c.self.view_is c.self.invariant in
    let fit : types_before c.args.self.now (length c.args.self.now) + c.self.inside.old + c.in-Some.k ≤ c.self.inside.all = name_fits c.args.self.now c.self.inside.starts.items c.self.inside.old c.self.inside.all c.self.inside.names inv c.args.name.now c.in-Some.k (sym c.place.ensures ∙ c.in-Some.is) in
    omega (arith, fit, inv.fits, c.before_own.ensures)

pub returns-in-Some : goal.returns-in-Some
returns-in-Some c =
    let inv : IsNumbered c.args.self.now c.self.inside.starts.items c.self.inside.old c.self.inside.all c.self.inside.names =
    subst (λ s. IsNumbered s c.self.inside.starts.items c.self.inside.old c.self.inside.all c.self.inside.names) c.self.view_is c.self.invariant in
    ap (option_map (λ k. (c.before_own.result + c.self.inside.old) + k)) (sym c.in-Some.is ∙ c.place.ensures) ∙ outside_is c.args.self.now c.self.inside.starts.items c.self.inside.old c.self.inside.all c.self.inside.names inv c.args.name.now c.before_own.result c.before_own.ensures

pub returns-in-None : goal.returns-in-None
returns-in-None c =
    let inv : IsNumbered c.args.self.now c.self.inside.starts.items c.self.inside.old c.self.inside.all c.self.inside.names =
    subst (λ s. IsNumbered s c.self.inside.starts.items c.self.inside.old c.self.inside.all c.self.inside.names) c.self.view_is c.self.invariant in
    let n : ℕ = types_before c.args.self.now (length c.args.self.now) in
    ap (option_map (λ k. (n + c.self.inside.old) + k)) (sym c.in-None.is ∙ c.place.ensures) ∙ outside_is c.args.self.now c.self.inside.starts.items c.self.inside.old c.self.inside.all c.self.inside.names inv c.args.name.now n Rattle.std.proofs.Common.refl
