-- The bodies of a set as lists.
use Rattle.std.proofs.Common.{◌≡◌, ◌⊎◌, ◌∙◌, sym, ap, refl, subst, inl, inr, arith, ℕ, zero, suc, ◌+◌, ◌-◌, ◌<◌, ◌≤◌, List, [], ◌∷◌, length, get_or, Option, Some, None, Bool, true, false, rules}
use Rattle.std.specs.Prelude.{IfSome, map, slice_get, Vec, ◌==◌, if◌then◌else◌}
use Rattle.std.specs.declared.alloc.Global.{Global}
use Rattle.std.proofs.lemmas.Bool.{cases_lt}
use Rattle.std.proofs.lemmas.List.{length-map}
use Rattle.cil_base.specs.declared.tables.TheConstants.{METHOD_DEF}
use Rattle.cil_model.specs.declared.body.Body.{Body}
use Rattle.cil_model.specs.declared.program.MethodDesc.{MethodDesc}
use Rattle.cil_model.specs.declared.program.Program.{Program}
use Rattle.set_rows.specs.Sets.{Assemblies, assembly_at, count_in}
use Rattle.member_table.specs.declared.named.MemberId.{MemberId}
use Rattle.member_table.specs.declared.named.MemberId.TheVariants as id
use Rattle.descriptions.specs.WholePrograms.{IsProgramOf}
use Rattle.method_bodies.specs.Plain.{IsPlain}
use Rattle.method_bodies.specs.Rows.{code_in}
use Rattle.body_rules.specs.Sets.{AreAllBodies, AreReadBodies, IsSoundAt}
use Rattle.program_bodies.specs.Filled.{AreSetBodies, HoldsBodies, body_of_id}
use Rattle.program_bodies.proofs.TakenLaws.{nothing_past, no_bodies}
use Rattle.set_check.specs.Sets.{IsReadBody, IsReadProgram}

abbrev Bodies : Type 0
Bodies = Vec (Option Body) Global

abbrev lists : List Bodies → List (List (Option Body))
lists all = map (λ v. v.items) all

-- what is there at a place
record There (all : List Bodies) (a : ℕ) : Type 0 where
  pub bodies : Bodies
  pub at : slice_get all a ≡ Some bodies
  pub items : get_or (lists all) a [] ≡ bodies.items

there : (all : List Bodies) (a : ℕ) → a < length all → There all a
there [] a l = absurd (omega (arith, l))
there (v ∷ all) zero l = record { bodies = v; at = refl; items = refl }
there (v ∷ all) (suc a) l = next (there all a (omega (arith, l)))
  where
    next : There all a → There (v ∷ all) (suc a)
    next t = record { bodies = t.bodies; at = t.at; items = t.items }

module _ (s : Assemblies) (all : List Bodies) (are : AreAllBodies s all) where
  counted : length (lists all) ≡ length s
  counted = length-map all (λ v. v.items) ∙ are.count

  read : (a : ℕ) → a < length s → AreReadBodies s a (get_or (lists all) a [])
  read a l = go (there all a (omega (arith, l, are.count)))
    where
      go : There all a → AreReadBodies s a (get_or (lists all) a [])
      go t = subst (AreReadBodies s a) (sym t.items) (are.each a t.bodies t.at)

  pub set_bodies_are : AreSetBodies s (lists all)
  set_bodies_are = record { count = counted; each = λ a l. (read a l).are }

  -- ---- what holds of each body

  abbrev Holds : ℕ → ℕ → Option Body → Type 0
  Holds a row body = IfSome body IsPlain × IsSoundAt s a row body

  none_holds : (a row : ℕ) (o : Option Body) → o ≡ None → Holds a row o
  none_holds a row None e = (tt, tt)
  none_holds a row (Some b) e = absurd cc

  row_holds : (a row : ℕ) → 1 ≤ row → AreReadBodies s a (get_or (lists all) a []) → (count_in (assembly_at s a) METHOD_DEF < row) ⊎ (row ≤ count_in (assembly_at s a) METHOD_DEF) → Holds a row (get_or (get_or (lists all) a []) (row - 1) None)
  row_holds a row low h (inl past) =
      let count : length (get_or (lists all) a []) ≡ count_in (assembly_at s a) METHOD_DEF = h.are.count in
      none_holds a row (get_or (get_or (lists all) a []) (row - 1) None) (nothing_past (get_or (lists all) a []) (row - 1) None (omega (arith, low, past, count)))
  row_holds a row low h (inr high) = (h.plain row low high, h.sound row low high)

  assembly_holds : (a row : ℕ) → 1 ≤ row → (a < length s) ⊎ (length s ≤ a) → Holds a row (get_or (get_or (lists all) a []) (row - 1) None)
  assembly_holds a row low (inl l) = row_holds a row low (read a l) (cases_lt (count_in (assembly_at s a) METHOD_DEF) row)
  assembly_holds a row low (inr le) =
      let none : get_or (lists all) a [] ≡ [] = nothing_past (lists all) a [] (omega (arith, le, counted)) in
      none_holds a row (get_or (get_or (lists all) a []) (row - 1) None) (ap (λ (l : List (Option Body)). get_or l (row - 1) None) none ∙ nothing_past no_bodies (row - 1) None (omega arith))

  id_holds : (a row : ℕ) (b : Bool) → (row == 0) ≡ b → Holds a row (if b then None else get_or (get_or (lists all) a []) (row - 1) None)
  id_holds a row true e = (tt, tt)
  id_holds a row false e =
      let some : row ≡ 0 → ⊥ = λ f. search (rules, e, f) in
      assembly_holds a row (omega (arith, some)) (cases_lt a (length s))

  member_read : (m : MemberId) → IsReadBody s m (body_of_id (lists all) m)
  member_read (id.Row a row) = id_holds a row (row == 0) refl
  member_read (id.Outside o) = tt

  pub program_read : (p : Program) → IsProgramOf (code_in s) s p → HoldsBodies s (lists all) p → IsReadProgram s p
  program_read p whole held = record { whole = whole; bodies = λ k m d there at. subst (IsReadBody s m) (sym (held k m d there at)) (member_read m) }
