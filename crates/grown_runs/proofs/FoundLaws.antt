-- What a virtual call finds is a method of the program, and the same one where the program has grown.
use Rattle.std.proofs.Common.{◌≡◌, ◌∙◌, sym, ap, refl, subst, rules, ℕ, zero, suc, ◌<◌, ◌≤◌, List, [], ◌∷◌, ◌++◌, length, Bool, true, false, ◌⊎◌, inl, inr}
use Rattle.std.specs.Prelude.{◌&&◌, ◌||◌, ◌==◌, map, filter, find, reverse, Option, Some, None, option_map, option_and_then, is_some, if◌then◌else◌}
use Rattle.std.proofs.lemmas.Bool.{cases_lt}
use Rattle.std.proofs.Math.ListN.{get_or-eq_default}
use Rattle.std.proofs.lemmas.Option.{unwrap_or-slice_get}
use Rattle.cil_model.specs.declared.ty.Ty.{Ty, out-Ty}
use Rattle.cil_model.specs.declared.program.Impl.{Impl}
use Rattle.cil_model.specs.declared.program.Program.{Program}
use Rattle.cil_model.specs.declared.program.TypeDesc.{TypeDesc}
use Rattle.cil_semantics.specs.Words.{any, or_else, first_some, only, maybe}
use Rattle.cil_semantics.specs.Types.{same_ty}
use Rattle.cil_semantics.specs.Lookups.{contract_exception, type_of, method_of, in_set, base_of, interfaces_of, chain, most_bases}
use Rattle.cil_semantics.specs.Dispatch.{Seen, is_virtual, is_public, same_shape, methods_of, impls_of, owner_among, seen_in, row_names, by_rows, bases, overrides, overrides_outside, public_like, first_row, implementing, is_interface, interface_slot, slot_of, overriders, bodies_in, chosen, nearest, body_for}
use Rattle.cil_semantics.specs.Calls.{body_seen}
use Rattle.machine_laws.specs.Answers.{Each, NamesOwn}
use Rattle.machine_laws.specs.Growth.{Extends}
use Rattle.machine_laws.proofs.AnswerLaws.{each_filter}
use Rattle.machine_laws.proofs.FindLaws.{find_each, each_map, each_append}

this_seen : (a b : Seen) → Some a ≡ Some b → a ≡ b
this_seen a b f = search (rules, f)

-- ---- what a look-up finds is a method of the program

module _ (p : Program) (whole : NamesOwn p) where
  abbrev IsLow : ℕ → Type 0
  IsLow m = m < length p.methods

  abbrev pub IsLowSeen : Seen → Type 0
  IsLowSeen s = s.1 < length p.methods

  abbrev HasMethods : Impl → Type 0
  HasMethods i = (i.body < length p.methods) × (i.declaration < length p.methods)

  -- a number past the types has neither methods nor rows
  unknown : (k : ℕ) → length p.types ≤ k → type_of p k ≡ contract_exception
  unknown k l = unwrap_or-slice_get p.types k contract_exception ∙ get_or-eq_default p.types contract_exception l

  methods_low : (t : Ty) → Each IsLow (methods_of p t)
  unfolding contract_exception
  methods_low t = go (in_set (out-Ty t))
    where
      by_side : (k : ℕ) → (k < length p.types) ⊎ (length p.types ≤ k) → Each IsLow (type_of p k).methods
      by_side k (inl l) = whole.methods k l
      by_side k (inr l) = subst (λ (d : TypeDesc). Each IsLow d.methods) (sym (unknown k l)) tt

      go : (o : Option (ℕ × List Ty)) → Each IsLow (maybe [] (λ (d : ℕ × List Ty). (type_of p d.0).methods) o)
      go None = tt
      go (Some d) = by_side d.0 (cases_lt d.0 (length p.types))

  impls_low : (t : Ty) → Each HasMethods (impls_of p t)
  unfolding contract_exception
  impls_low t = go (in_set (out-Ty t))
    where
      by_side : (k : ℕ) → (k < length p.types) ⊎ (length p.types ≤ k) → Each HasMethods (type_of p k).impls
      by_side k (inl l) = whole.impls k l
      by_side k (inr l) = subst (λ (d : TypeDesc). Each HasMethods d.impls) (sym (unknown k l)) tt

      go : (o : Option (ℕ × List Ty)) → Each HasMethods (maybe [] (λ (d : ℕ × List Ty). (type_of p d.0).impls) o)
      go None = tt
      go (Some d) = by_side d.0 (cases_lt d.0 (length p.types))

  rows_low : (t : Ty) (s : Seen) → Each IsLow (by_rows p t s)
  unfolding by_rows
  rows_low t s = each_map HasMethods IsLow (λ (i : Impl). i.body) (filter (row_names p t s) (impls_of p t)) (λ i h. h.0) (each_filter HasMethods (row_names p t s) (impls_of p t) (impls_low t))

  abbrev public_test : Seen → Ty → ℕ → Bool
  public_test s t m = is_public (method_of p m) && (is_virtual (method_of p m) && same_shape p (t, m) s)

  public_low : (s : Seen) (t : Ty) (v : Seen) → public_like p s t ≡ Some v → IsLowSeen v
  public_low s t v e = go (find (public_test s t) (methods_of p t)) (λ m f. find_each IsLow (public_test s t) (methods_of p t) m (methods_low t) f) e
    where
      go : (o : Option ℕ) → ((m : ℕ) → o ≡ Some m → IsLow m) → option_map {U = Seen} (λ m. (t, m)) o ≡ Some v → IsLowSeen v
      go None h f = absurd cc
      go (Some m) h f = subst IsLowSeen (this_seen (t, m) v f) (h m refl)

  either_low : (a b : Option Seen) (v : Seen) → ((w : Seen) → a ≡ Some w → IsLowSeen w) → ((w : Seen) → b ≡ Some w → IsLowSeen w) → or_else a b ≡ Some v → IsLowSeen v
  either_low None b v h k e = k v e
  either_low (Some a) b v h k e = h v e

  first_low : (f : Ty → Option Seen) (ts : List Ty) (v : Seen) → ((t : Ty) (w : Seen) → f t ≡ Some w → IsLowSeen w) → first_some f ts ≡ Some v → IsLowSeen v
  first_low f [] v k e = absurd cc
  first_low f (t ∷ ts) v k e = either_low (f t) (first_some f ts) v (λ w g. k t w g) (λ w g. first_low f ts w k g) e

  implementing_low : (s : Seen) (t : Ty) (v : Seen) → implementing p s t ≡ Some v → IsLowSeen v
  unfolding implementing
  implementing_low s t v e = go (by_rows p t s) (rows_low t s) e
    where
      go : (ms : List ℕ) → Each IsLow ms → first_row p s t ms ≡ Some v → IsLowSeen v
      go [] h f = public_low s t v f
      go (m ∷ ms) h f = by_owner (owner_among p m (chain p t)) f
        where
          by_owner : (o : Option Ty) → option_map {U = Seen} (λ u. (u, m)) o ≡ Some v → IsLowSeen v
          by_owner None g = absurd cc
          by_owner (Some u) g = subst IsLowSeen (this_seen (u, m) v g) h.0

  interface_low : (n : ℕ) (s : Seen) (t : Ty) (v : Seen) → interface_slot n p s t ≡ Some v → IsLowSeen v
  unfolding interface_slot
  interface_low zero s t v e = absurd cc
  interface_low (suc n) s t v e = go (λ u w f. interface_low n s u w f) (find (λ u. any (same_ty s.0) (interfaces_of p u)) (chain p t)) e
    where
      go : ((u : Ty) (w : Seen) → interface_slot n p s u ≡ Some w → IsLowSeen w) → (o : Option Ty)
          → option_and_then (λ u. or_else (implementing p s u) (or_else (option_and_then (interface_slot n p s) (base_of p u)) (first_some (public_like p s) (bases p u)))) o ≡ Some v → IsLowSeen v
      go again None f = absurd cc
      go again (Some u) f =
          either_low (implementing p s u) (or_else (option_and_then (interface_slot n p s) (base_of p u)) (first_some (public_like p s) (bases p u))) v
          (λ w g. implementing_low s u w g)
          (λ w g. either_low (option_and_then (interface_slot n p s) (base_of p u)) (first_some (public_like p s) (bases p u)) w
          (λ x i. below (base_of p u) x i)
          (λ x i. first_low (public_like p s) (bases p u) x (λ y z j. public_low s y z j) i) g)
          f
        where
          below : (o : Option Ty) → (x : Seen) → option_and_then (interface_slot n p s) o ≡ Some x → IsLowSeen x
          below None x i = absurd cc
          below (Some y) x i = again y x i

  slot_low : (t : Ty) (s v : Seen) → IsLowSeen s → slot_of p t s ≡ Some v → IsLowSeen v
  unfolding slot_of
  slot_low t s v h e = go (is_interface p s.0) e
    where
      go : (b : Bool) → (if b then interface_slot (most_bases p) p s t else Some s) ≡ Some v → IsLowSeen v
      go true f = interface_low (most_bases p) s t v f
      go false f = subst IsLowSeen (this_seen s v f) h

  abbrev joins : List Seen → Seen → Bool
  joins seen x = any (λ s. overrides p x s || overrides_outside p x s) seen

  abbrev all : Ty → List Seen
  all t = map {B = Seen} (λ m. (t, m)) (methods_of p t)

  overriders_low : (ts : List Ty) (seen : List Seen) → Each IsLowSeen seen → Each IsLowSeen (overriders p ts seen)
  unfolding overriders
  overriders_low [] seen h = h
  overriders_low (t ∷ ts) seen h =
      overriders_low ts (seen ++ filter (joins seen) (all t))
      (each_append IsLowSeen seen (filter (joins seen) (all t)) h
      (each_filter IsLowSeen (joins seen) (all t) (each_map IsLow IsLowSeen (λ m. (t, m)) (methods_of p t) (λ m l. l) (methods_low t))))

  only_low : (xs : List Seen) (v : Seen) → Each IsLowSeen xs → only xs ≡ Some v → IsLowSeen v
  only_low [] v h e = absurd cc
  only_low (x ∷ []) v h e = subst IsLowSeen (this_seen x v e) h.0
  only_low (x ∷ y ∷ xs) v h e = absurd cc

  chosen_low : (slot : Seen) (t : Ty) (xs : List Seen) (o : Option Seen) (v : Seen) → Each IsLowSeen xs → (o ≡ Some v → IsLowSeen v) → chosen p slot t xs o ≡ Some v → IsLowSeen v
  chosen_low slot t [] o v h k e = k e
  chosen_low slot t (x ∷ []) o v h k e = subst IsLowSeen (this_seen x v e) h.0
  chosen_low slot t (x ∷ y ∷ xs) o v h k e =
      only_low (filter (λ (z : Seen). any (λ m. m == z.1) (by_rows p t slot)) (x ∷ y ∷ xs)) v (each_filter IsLowSeen (λ (z : Seen). any (λ m. m == z.1) (by_rows p t slot)) (x ∷ y ∷ xs) h) e

  nearest_low : (slot : Seen) (seen : List Seen) (ts : List Ty) (v : Seen) → Each IsLowSeen seen → nearest p slot seen ts ≡ Some v → IsLowSeen v
  nearest_low slot seen [] v h e = absurd cc
  nearest_low slot seen (t ∷ ts) v h e =
      chosen_low slot t (bodies_in p seen t) (nearest p slot seen ts) v (each_filter IsLowSeen (λ (x : Seen). same_ty x.0 t && is_some (method_of p x.1).body) seen h) (λ f. nearest_low slot seen ts v h f) e

  pub body_low : (t : Ty) (s v : Seen) → IsLowSeen s → body_for p t s ≡ Some v → IsLowSeen v
  unfolding body_for
  body_low t s v h e = go (slot_of p t s) (λ w f. slot_low t s w h f) e
    where
      go : (o : Option Seen) → ((w : Seen) → o ≡ Some w → IsLowSeen w) → option_and_then (λ slot. nearest p slot (overriders p (reverse (chain p t)) (slot ∷ [])) (chain p t)) o ≡ Some v → IsLowSeen v
      go None k f = absurd cc
      go (Some slot) k f = nearest_low slot (overriders p (reverse (chain p t)) (slot ∷ [])) (chain p t) v (overriders_low (reverse (chain p t)) (slot ∷ []) (k slot refl, tt)) f

-- ---- where it is seen

module _ (p0 p : Program) (kept : Extends p0 p) where
  owner_same : (m : ℕ) (ts : List Ty) → m < length p0.methods → owner_among p m ts ≡ owner_among p0 m ts
  owner_same m [] l = refl
  owner_same m (t ∷ ts) l =
      ap (λ (k : ℕ). if maybe false (λ (d : ℕ × List Ty). d.0 == k) (in_set (out-Ty t)) then Some t else owner_among p m ts) (kept.methods m l).owner
      ∙ ap (λ (o : Option Ty). if maybe false (λ (d : ℕ × List Ty). d.0 == (method_of p0 m).owner) (in_set (out-Ty t)) then Some t else o) (owner_same m ts l)

  pub seen_in_same : (t : Ty) (m : ℕ) → chain p t ≡ chain p0 t → m < length p0.methods → seen_in p t m ≡ seen_in p0 t m
  seen_in_same t m c l = ap (λ (ts : List Ty). option_map {U = Seen} (λ u. (u, m)) (owner_among p m ts)) c ∙ ap (option_map {U = Seen} (λ u. (u, m))) (owner_same m (chain p0 t) l)

  pub body_seen_same : NamesOwn p0 → (t : Ty) (s : Seen) → chain p t ≡ chain p0 t → body_for p t s ≡ body_for p0 t s → s.1 < length p0.methods → body_seen p t s ≡ body_seen p0 t s
  body_seen_same whole t s c b l = ap (option_and_then (λ (x : Seen). seen_in p t x.1)) b ∙ go (body_for p0 t s) (λ v e. body_low p0 whole t s v l e)
    where
      go : (o : Option Seen) → ((v : Seen) → o ≡ Some v → v.1 < length p0.methods) → option_and_then (λ (x : Seen). seen_in p t x.1) o ≡ option_and_then (λ (x : Seen). seen_in p0 t x.1) o
      go None k = refl
      go (Some v) k = seen_in_same t v.1 c (k v refl)
