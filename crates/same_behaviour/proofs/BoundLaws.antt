-- What is appended has no contract, so the bound on steps stays.
use Rattle.std.proofs.Common.{◌≡◌, ℕ, suc, ◌+◌, ◌*◌, ◌<◌, ◌≤◌, max, List, [], ◌∷◌, length, Option, None, refl, sym, ap, ◌∙◌, subst, arith}
use Rattle.std.specs.Prelude.{◌==◌, Bool, if◌then◌else◌, slice_get}
use Rattle.cil_model.specs.declared.contract.Contracts.{Contracts}
use Rattle.cil_model.specs.declared.contract.Effective.{Effective}
use Rattle.cil_model.specs.declared.program.Program.{Program}
use Rattle.cil_model.specs.declared.program.MethodDesc.{MethodDesc}
use Rattle.cil_semantics.specs.Words.{maybe}
use Rattle.cil_semantics.specs.Lookups.{method_of}
use Rattle.cil_semantics.specs.Checks.{AddedNumbers}
use Rattle.cil_semantics.specs.Contracted.{effective_of}
use Rattle.machine_laws.specs.Growth.{Extends}
use Rattle.machine_laws.specs.Same.{count_clauses, most_clauses, bound_of}
use Rattle.splice_facts.specs.Related.{Rewritten}
use Rattle.same_behaviour.specs.Behaviour.{OfInput}

module _ (k : Contracts) (p0 p : Program) (n : ℕ) (old : (m : ℕ) → m < n → effective_of k p m ≡ effective_of k p0 m) (new : (m : ℕ) → n ≤ m → effective_of k p m ≡ None) where
  none_appended : (m : ℕ) (ds : List MethodDesc) → n ≤ m → most_clauses k p m ds ≡ 0
  none_appended m [] l = refl
  none_appended m (d ∷ ds) l =
      ap (λ (o : Option Effective). max (maybe 0 count_clauses o) (most_clauses k p (suc m) ds)) (new m l) ∙ ap (max 0) (none_appended (suc m) ds (omega (arith, l)))

  most_same : (m : ℕ) (ds es : List MethodDesc) → m + length ds ≡ n → length ds ≤ length es → most_clauses k p m es ≡ most_clauses k p0 m ds
  most_same m [] es e l = none_appended m es (omega (arith, e))
  most_same m (d ∷ ds) [] e l = absurd (omega (arith, l))
  most_same m (d ∷ ds) (d' ∷ es) e l =
      ap (λ (o : Option Effective). max (maybe 0 count_clauses o) (most_clauses k p (suc m) es)) (old m (omega (arith, e)))
      ∙ ap (max (maybe 0 count_clauses (effective_of k p0 m))) (most_same (suc m) ds es (omega (arith, e)) (omega (arith, l)))

pub effective_same : (k : Contracts) (p0 p : Program) → Extends p0 p → (m : ℕ) → m < length p0.methods → effective_of k p m ≡ effective_of k p0 m
effective_same k p0 p kept m l =
    ap (λ (b : Bool). if b then None else if (method_of p m).assembly == k.target then slice_get k.by_method m else None) (kept.methods m l).outside
    ∙ ap (λ (a : ℕ). if (method_of p0 m).outside then None else if a == k.target then slice_get k.by_method m else None) (kept.methods m l).assembly

pub same_bound : (p0 p : Program) (k : Contracts) (ms : List MethodDesc) (g : AddedNumbers) (r : Rewritten p k ms g) → OfInput p0 p k ms g r → bound_of k p ≡ bound_of k p0
same_bound p0 p k ms g r x =
    let kept = x.grows.tables.extends in
    ap (λ n. 64 * (1 + n)) (most_same k p0 p (length p0.methods) (effective_same k p0 p kept) (λ m l. r.appended m (subst (λ n. n ≤ m) (sym x.methods) l)) 0 p0.methods p.methods (omega arith) kept.more_methods)
