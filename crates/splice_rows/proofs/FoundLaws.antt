-- Where nothing overrides and no type is an interface, the body that a method has for a type is its own, seen in the type of its owner.
use Rattle.std.proofs.Common.{◌≡◌, ◌∙◌, sym, ap, refl, subst, arith, ℕ, zero, suc, ◌<◌, List, [], ◌∷◌, ◌++◌, Bool, true, false}
use Rattle.std.specs.Prelude.{cond, ◌&&◌, ◌||◌, ◌==◌, not, map, filter, reverse, slice_get, unwrap_or, Option, Some, None, option_map, option_and_then, is_some, is_none, if◌then◌else◌, IsTrue, nat_lt}
use Rattle.cil_model.specs.declared.ty.Ty.{Ty, out-Ty}
use Rattle.cil_model.specs.declared.program.Program.{Program}
use Rattle.cil_model.specs.declared.program.Impl.{Impl}
use Rattle.cil_semantics.specs.Words.{any, maybe}
use Rattle.cil_semantics.specs.Types.{same_ty}
use Rattle.cil_semantics.specs.Lookups.{type_of, method_of, in_set, chain, most_bases}
use Rattle.cil_semantics.specs.Dispatch.{Seen, same_seen, same_shape, is_virtual, takes_new_slot, methods_of, owner_among, seen_in, row_names, by_rows, bases, hidden_by, overrides, overrides_outside, is_interface, interface_slot, slot_of, overriders, chosen, nearest, body_for}
use Rattle.cil_semantics.specs.Calls.{body_seen}
use Rattle.machine_laws.specs.Answers.{Each, is_below}

pub record OverridesNothing (p : Program) : Type 0 where
  pub interfaces : (t : Ty) → is_interface p t ≡ false
  pub rows : (k : ℕ) → (type_of p k).impls ≡ []
  pub virtual : (m : ℕ) → is_virtual (method_of p m) ≡ false

-- what holds of each row, and of what stands for a row that isn't there, holds at each number
pub each_at : {A : Type 0} (P : A → Type 0) (xs : List A) (other : A) → Each P xs → P other → (k : ℕ) → P (unwrap_or (slice_get xs k) other)
each_at P [] other all o k = o
each_at P (x ∷ xs) other all o zero = all.0
each_at P (x ∷ xs) other all o (suc k) = each_at P xs other all.1 o k

this_seen : (a b : Seen) → Some a ≡ Some b → a ≡ b
this_seen a b e = cc e

and_false : (b : Bool) → (b && false) ≡ false
and_false true = refl
and_false false = refl

module _ (p : Program) (none : OverridesNothing p) where
  no_rows : (t : Ty) (s : Seen) → by_rows p t s ≡ []
  unfolding by_rows
  no_rows t s = ap (λ (is : List Impl). map (λ (i : Impl). i.body) (filter (row_names p t s) is)) (by_number (in_set (out-Ty t)))
    where
      by_number : (o : Option (ℕ × List Ty)) → maybe [] (λ (d : ℕ × List Ty). (type_of p d.0).impls) o ≡ []
      by_number None = refl
      by_number (Some d) = none.rows d.0

  no_override : (x slot : Seen) → overrides p x slot ≡ false
  unfolding overrides
  no_override x slot =
      ap (λ (ms : List ℕ). if any (λ m. m == x.1) ms then any (same_ty slot.0) (bases p x.0) else (is_virtual (method_of p x.1) && not (takes_new_slot (method_of p x.1))) && maybe false (same_seen slot) (hidden_by p x)) (no_rows x.0 slot)
      ∙ ap (λ (b : Bool). (b && not (takes_new_slot (method_of p x.1))) && maybe false (same_seen slot) (hidden_by p x)) (none.virtual x.1)

  none_outside : (x slot : Seen) → overrides_outside p x slot ≡ false
  unfolding overrides_outside
  none_outside x slot =
      ap (λ (b : Bool). (method_of p slot.1).outside && ((b && not (takes_new_slot (method_of p x.1))) && (is_none (hidden_by p x) && (any (same_ty slot.0) (bases p x.0) && same_shape p x slot)))) (none.virtual x.1)
      ∙ and_false (method_of p slot.1).outside

  abbrev adds : Seen → Seen → Bool
  adds slot x = any (λ s. overrides p x s || overrides_outside p x s) (slot ∷ [])

  none_added : (slot : Seen) (xs : List Seen) → filter (adds slot) xs ≡ []
  none_added slot [] = refl
  none_added slot (x ∷ xs) =
      ap (λ (b : Bool). cond b (x ∷ filter (adds slot) xs) (filter (adds slot) xs))
      (ap (λ (b : Bool). (b || overrides_outside p x slot) || false) (no_override x slot) ∙ ap (λ (b : Bool). b || false) (none_outside x slot))
      ∙ none_added slot xs

  no_overriders : (ts : List Ty) (slot : Seen) → overriders p ts (slot ∷ []) ≡ slot ∷ []
  unfolding overriders
  no_overriders [] slot = refl
  no_overriders (t ∷ ts) slot = ap (λ (added : List Seen). overriders p ts ((slot ∷ []) ++ added)) (none_added slot (map (λ m. (t, m)) (methods_of p t))) ∙ no_overriders ts slot

  nearest_is : (slot x : Seen) (ts : List Ty) → nearest p slot (slot ∷ []) ts ≡ Some x → slot ≡ x
  nearest_is slot x [] e = absurd (cc e)
  nearest_is slot x (t ∷ ts) e = by_test (same_ty slot.0 t && is_some (method_of p slot.1).body) (λ f. nearest_is slot x ts f) e
    where
      by_test : (b : Bool) → (nearest p slot (slot ∷ []) ts ≡ Some x → slot ≡ x) → chosen p slot t (cond b (slot ∷ []) []) (nearest p slot (slot ∷ []) ts) ≡ Some x → slot ≡ x
      by_test true again f = this_seen slot x f
      by_test false again f = again f

  slot_is : (t : Ty) (s : Seen) → slot_of p t s ≡ Some s
  unfolding slot_of
  slot_is t s = ap (λ (b : Bool). if b then interface_slot (most_bases p) p s t else Some s) (none.interfaces s.0)

  own_body : (t : Ty) (s x : Seen) → body_for p t s ≡ Some x → s ≡ x
  unfolding body_for
  own_body t s x e =
      nearest_is s x (chain p t)
      (sym (ap (λ (seen : List Seen). nearest p s seen (chain p t)) (no_overriders (reverse (chain p t)) s))
      ∙ (sym (ap (option_and_then (λ slot. nearest p slot (overriders p (reverse (chain p t)) (slot ∷ [])) (chain p t))) (slot_is t s)) ∙ e))

  own_seen : (t : Ty) (s x : Seen) → body_seen p t s ≡ Some x → seen_in p t s.1 ≡ Some x
  own_seen t s x e = by_body (body_for p t s) (λ y f. own_body t s y f) e
    where
      by_body : (o : Option Seen) → ((y : Seen) → o ≡ Some y → s ≡ y) → option_and_then (λ (y : Seen). seen_in p t y.1) o ≡ Some x → seen_in p t s.1 ≡ Some x
      by_body None h f = absurd (cc f)
      by_body (Some y) h f = subst (λ (z : Seen). seen_in p t z.1 ≡ Some x) (sym (h y refl)) f

module _ (p : Program) (n : ℕ) where
  owner_below : (m : ℕ) (ts : List Ty) (u : Ty) → (method_of p m).owner < n → owner_among p m ts ≡ Some u → IsTrue (is_below n u)
  owner_below m [] u l e = absurd (cc e)
  owner_below m (t ∷ ts) u l e = by_number (in_set (out-Ty t)) refl (λ f. owner_below m ts u l f) e
    where
      is_it : Some t ≡ Some u → t ≡ u
      is_it f = cc f

      by_test : (d : ℕ × List Ty) (b : Bool) → in_set (out-Ty t) ≡ Some d → (d.0 == (method_of p m).owner) ≡ b → (owner_among p m ts ≡ Some u → IsTrue (is_below n u)) → (if b then Some t else owner_among p m ts) ≡ Some u → IsTrue (is_below n u)
      by_test d true here same again f =
          let low : IsTrue (nat_lt d.0 n) = grind (arith, same, l) in
          subst (λ v. IsTrue (is_below n v)) (is_it f) (subst (λ (o : Option (ℕ × List Ty)). IsTrue (maybe true (λ (d : ℕ × List Ty). nat_lt d.0 n) o)) (sym here) low)
      by_test d false here same again f = again f

      by_number : (o : Option (ℕ × List Ty)) → in_set (out-Ty t) ≡ o → (owner_among p m ts ≡ Some u → IsTrue (is_below n u)) → (if maybe false (λ (d : ℕ × List Ty). d.0 == (method_of p m).owner) o then Some t else owner_among p m ts) ≡ Some u → IsTrue (is_below n u)
      by_number None here again f = again f
      by_number (Some d) here again f = by_test d (d.0 == (method_of p m).owner) here refl again f

  seen_below : (t : Ty) (m : ℕ) (x : Seen) → (method_of p m).owner < n → seen_in p t m ≡ Some x → (m ≡ x.1) × IsTrue (is_below n x.0)
  seen_below t m x l e = by_owner (owner_among p m (chain p t)) (λ u f. owner_below m (chain p t) u l f) e
    where
      by_owner : (o : Option Ty) → ((u : Ty) → o ≡ Some u → IsTrue (is_below n u)) → option_map {U = Seen} (λ u. (u, m)) o ≡ Some x → (m ≡ x.1) × IsTrue (is_below n x.0)
      by_owner None h f = absurd (cc f)
      by_owner (Some u) h f = subst (λ (z : Seen). (m ≡ z.1) × IsTrue (is_below n z.0)) (this_seen (u, m) x f) (refl, h u refl)

-- So a method of the first types has no body but its own, seen in one of them.
pub found_below : (p : Program) (n k : ℕ) → OverridesNothing p → ((m : ℕ) → m < k → (method_of p m).owner < n) → (t : Ty) (s x : Seen) → s.1 < k → body_seen p t s ≡ Some x → (x.1 < k) × IsTrue (is_below n x.0)
found_below p n k none members t s x l e =
    let seen = seen_below p n t s.1 x (members s.1 l) (own_seen p none t s x e) in
    (subst (λ m. m < k) seen.0 l, seen.1)
