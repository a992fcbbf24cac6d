-- What a place keeps it keeps again.
use Rattle.std.proofs.Common.{◌≡◌, ℕ, zero, suc, ◌-◌, ◌<◌, ◌≤◌, Bool, true, false, List, [], ◌∷◌, length, Option, Some, None, refl, ap, ◌∙◌, subst, arith}
use Rattle.std.specs.Prelude.{◌%◌, ◌^◌, ◌==◌, nat_lt, if◌then◌else◌, option_map, option_and_then, ℤ, pos, negsuc}
use Rattle.std.proofs.Math.Nat.{mod-lt, mod-eq_of_lt}
use Rattle.std.proofs.lemmas.Nat.{pow_pos}
use Rattle.cil_model.specs.declared.ty.Ty.{Ty}
use Rattle.cil_model.specs.declared.value.Value.{Value, out-Value, I4, I8, Native}
use Rattle.cil_model.specs.declared.value.Value as values
use Rattle.cil_model.specs.declared.value.Value.TheOpen.{Value-F}
use Rattle.cil_model.specs.declared.program.Program.{Program}
use Rattle.cil_semantics.specs.Numbers.{low_bits, as_signed, truncated, truncated_small}
use Rattle.il_opcodes.specs.declared.class.Bits.{Bits}
use Rattle.il_opcodes.specs.declared.class.Bits.TheVariants.{B8, B16, B32}
use Rattle.il_opcodes.specs.declared.class.Storage.{Storage}
use Rattle.il_opcodes.specs.declared.class.Storage.TheVariants.{Truncated, Long, NativeInt, Reference, Address, Fields, Opaque, Anything, Void}
use Rattle.cil_semantics.specs.Places.{storage, stored, truncated_value, if_long, to_native, if_reference, if_address, if_struct, if_opaque, stored_in, stored_within, stored_by_storage, stored_struct, each_stored, field_types}
use Rattle.cil_semantics.specs.declared.state.Frame.{Frame}
use Rattle.cil_semantics.specs.Returns.{returned, result_type, kept_as}
use Rattle.splice_facts.specs.Input.{top_of}

low_below : (n : ℕ) (z : ℤ) → low_bits n z < 2 ^ n
low_below n (pos a) = mod-lt a (pow_pos n)
low_below n (negsuc a) = let h = pow_pos n in below (2 ^ n) (a % 2 ^ n) h
  where
    below : (m x : ℕ) → 0 < m → m - 1 - x < m
    below m x h = omega (arith, h)

low_again : (n v : ℕ) → v < 2 ^ n → (b : Bool) → low_bits n (if b then pos v else negsuc (2 ^ n - 1 - v)) ≡ v
low_again n v h true = mod-eq_of_lt h
low_again n v h false = ap (λ x. 2 ^ n - 1 - x) (mod-eq_of_lt (less (2 ^ n) v h)) ∙ back (2 ^ n) v h
  where
    less : (m x : ℕ) → x < m → m - 1 - x < m
    less m x l = omega (arith, l)

    back : (m x : ℕ) → x < m → m - 1 - (m - 1 - x) ≡ x
    back m x l = omega (arith, l)

cut_twice : (n : ℕ) (s : Bool) (z : ℤ) → truncated n s (truncated n s z) ≡ truncated n s z
cut_twice n true z = ap (as_signed n) (low_again n (low_bits n z) (low_below n z) (nat_lt (low_bits n z) (2 ^ (n - 1))))
cut_twice n false z = ap pos (mod-eq_of_lt (low_below n z))

-- a number that is cut to fewer bits is one of 4 bytes as it is
kept_low : (a : ℕ) → a < 2 ^ 31 → truncated 32 true (pos a) ≡ pos a
kept_low a h =
    let m : a % 2 ^ 32 ≡ a = mod-eq_of_lt (omega (arith, h)) in
    ap (as_signed 32) m ∙ ap (λ b. if b then pos a else negsuc (2 ^ 32 - 1 - a)) (is_low a h)
  where
    is_low : (v : ℕ) → v < 2 ^ 31 → nat_lt v (2 ^ 31) ≡ true
    is_low v l = grind (arith, l)

kept_negative : (a : ℕ) → a < 2 ^ 31 → truncated 32 true (negsuc a) ≡ negsuc a
kept_negative a h =
    let m : a % 2 ^ 32 ≡ a = mod-eq_of_lt (omega (arith, h)) in
    ap (λ v. as_signed 32 (2 ^ 32 - 1 - v)) m ∙ ap (λ b. if b then pos (2 ^ 32 - 1 - a) else negsuc (2 ^ 32 - 1 - (2 ^ 32 - 1 - a))) (is_high a h) ∙ ap negsuc (back a h)
  where
    is_high : (v : ℕ) → v < 2 ^ 31 → nat_lt (2 ^ 32 - 1 - v) (2 ^ 31) ≡ false
    is_high v l = grind (arith, l)

    back : (v : ℕ) → v < 2 ^ 31 → 2 ^ 32 - 1 - (2 ^ 32 - 1 - v) ≡ v
    back v l = omega (arith, l)

signed_kept : (n v : ℕ) → 2 ^ n ≤ 2 ^ 31 → v < 2 ^ n → (b : Bool) → truncated 32 true (if b then pos v else negsuc (2 ^ n - 1 - v)) ≡ (if b then pos v else negsuc (2 ^ n - 1 - v))
signed_kept n v le h true = kept_low v (omega (arith, le, h))
signed_kept n v le h false = kept_negative (2 ^ n - 1 - v) (omega (arith, le, h))

small_kept : (n : ℕ) (s : Bool) (z : ℤ) → 2 ^ n ≤ 2 ^ 31 → truncated 32 true (truncated n s z) ≡ truncated n s z
small_kept n true z le = signed_kept n (low_bits n z) le (low_below n z) (nat_lt (low_bits n z) (2 ^ (n - 1)))
small_kept n false z le = kept_low (low_bits n z) (less (low_bits n z) (2 ^ n) (low_below n z) le)
  where
    less : (a m : ℕ) → a < m → m ≤ 2 ^ 31 → a < 2 ^ 31
    less a m x y = omega (arith, x, y)

cut_small_twice : (b : Bits) (s : Bool) (z : ℤ) → truncated_small b s (truncated_small b s z) ≡ truncated_small b s z
cut_small_twice B8 s z = ap (λ x. truncated 32 true (truncated 8 s x)) (small_kept 8 s z (omega arith)) ∙ ap (truncated 32 true) (cut_twice 8 s z)
cut_small_twice B16 s z = ap (λ x. truncated 32 true (truncated 16 s x)) (small_kept 16 s z (omega arith)) ∙ ap (truncated 32 true) (cut_twice 16 s z)
cut_small_twice B32 true z = ap (λ x. truncated 32 true (truncated 32 true x)) (cut_twice 32 true z) ∙ cut_twice 32 true (truncated 32 true z)
cut_small_twice B32 false z = ap (λ v. truncated 32 true (pos v)) (low_again 32 (low_bits 32 (pos (low_bits 32 z))) (low_below 32 (pos (low_bits 32 z))) (nat_lt (low_bits 32 (pos (low_bits 32 z))) (2 ^ 31))) ∙ ap (λ v. truncated 32 true (pos v)) (mod-eq_of_lt (low_below 32 z))

again : (h : Storage) (v x : Value) → v ≡ x → stored h v ≡ Some x → stored h x ≡ Some x
again h v x e s = subst (λ y. stored h y ≡ Some x) e s

cut_again : (n : Bits) (s : Bool) (o : Value-F Value) (x : Value) → truncated_value n s o ≡ Some x → stored (Truncated n s) x ≡ Some x
unfolding values.out-Value denote.Hole.Carrier.out
cut_again n s (Value-F.I4 z) x e = let q : I4 (truncated_small n s z) ≡ x = cc e in subst (λ y. stored (Truncated n s) y ≡ Some y) q (ap (λ i. Some (I4 i)) (cut_small_twice n s z))
cut_again n s _ x e = absurd (cc e)

long_again : (o : Value-F Value) (x : Value) → if_long o ≡ Some x → stored Long x ≡ Some x
unfolding values.out-Value denote.Hole.Carrier.out
long_again (Value-F.I8 z) x e = let q : I8 z ≡ x = cc e in subst (λ y. stored Long y ≡ Some y) q refl
long_again _ x e = absurd (cc e)

native_again : (o : Value-F Value) (x : Value) → to_native o ≡ Some x → stored NativeInt x ≡ Some x
unfolding values.out-Value denote.Hole.Carrier.out
native_again (Value-F.Native z) x e = let q : Native z ≡ x = cc e in subst (λ y. stored NativeInt y ≡ Some y) q refl
native_again (Value-F.I4 z) x e = let q : Native z ≡ x = cc e in subst (λ y. stored NativeInt y ≡ Some y) q refl
native_again _ x e = absurd (cc e)

same_reference : (o : Value-F Value) (v x : Value) → if_reference o v ≡ Some x → v ≡ x
same_reference Value-F.Null v x e = cc e
same_reference (Value-F.Obj k) v x e = cc e
same_reference (Value-F.Text u) v x e = cc e
same_reference _ v x e = absurd (cc e)

same_address : (o : Value-F Value) (v x : Value) → if_address o v ≡ Some x → v ≡ x
same_address (Value-F.Ptr q) v x e = cc e
same_address Value-F.Null v x e = cc e
same_address _ v x e = absurd (cc e)

same_unread : (o : Value-F Value) (v x : Value) → if_opaque o v ≡ Some x → v ≡ x
same_unread (Value-F.Opaque q) v x e = cc e
same_unread _ v x e = absurd (cc e)

same_struct : (n : ℕ) (o : Value-F Value) (v x : Value) → if_struct n o v ≡ Some x → v ≡ x
same_struct n (Value-F.Struct vs) v x e = by_test (length vs == n) e
  where
    by_test : (b : Bool) → (if b then Some v else None) ≡ Some x → v ≡ x
    by_test true q = cc q
    by_test false q = absurd (cc q)
same_struct n _ v x e = absurd (cc e)

pub stored_again : (h : Storage) (v x : Value) → stored h v ≡ Some x → stored h x ≡ Some x
stored_again (Truncated n s) v x e = cut_again n s (out-Value v) x e
stored_again Long v x e = long_again (out-Value v) x e
stored_again NativeInt v x e = native_again (out-Value v) x e
stored_again Reference v x e = again Reference v x (same_reference (out-Value v) v x e) e
stored_again Address v x e = again Address v x (same_address (out-Value v) v x e) e
stored_again (Fields ts) v x e = again (Fields ts) v x (same_struct ts (out-Value v) v x e) e
stored_again Opaque v x e = again Opaque v x (same_unread (out-Value v) v x e) e
stored_again Anything v x e = refl
stored_again Void v x e = absurd (cc e)

-- ---- by a type: the fields of a struct too

out_struct : (vs : List Value) → out-Value (values.Struct vs) ≡ Value-F.Struct vs
unfolding values.out-Value denote.Hole.Carrier.out denote.Hole.Carrier.hidden denote.Hole.Carrier.shown
out_struct vs = ap Value-F.Struct (values.items_shown-the_row-Value-0 _ _ ∙ values.items_hidden-the_row-Value-0 vs)

module _ (store : Ty → Value → Option Value) (again_each : (t : Ty) (v x : Value) → store t v ≡ Some x → store t x ≡ Some x) where
  each_again : (ts : List Ty) (vs ws : List Value) → each_stored store ts vs ≡ Some ws → each_stored store ts ws ≡ Some ws
  each_again [] [] ws e = let q : [] ≡ ws = cc e in subst (λ l. each_stored store [] l ≡ Some l) q refl
  each_again [] (v ∷ vs) ws e = absurd (cc e)
  each_again (t ∷ ts) [] ws e = absurd (cc e)
  each_again (t ∷ ts) (v ∷ vs) ws e = by_first (λ l q. each_again ts vs l q) (store t v) (each_stored store ts vs) refl refl e
    where
      by_first : ((l : List Value) → each_stored store ts vs ≡ Some l → each_stored store ts l ≡ Some l) → (o : Option Value) (r : Option (List Value)) → store t v ≡ o → each_stored store ts vs ≡ r → option_and_then (λ w. option_map (λ l. w ∷ l) r) o ≡ Some ws → each_stored store (t ∷ ts) ws ≡ Some ws
      by_first ih None r so sr q = absurd (cc q)
      by_first ih (Some w) None so sr q = absurd (cc q)
      by_first ih (Some w) (Some l) so sr q =
          let same : w ∷ l ≡ ws = cc q in
          subst (λ z. each_stored store (t ∷ ts) z ≡ Some z) same (ap (option_and_then (λ y. option_map (λ z. y ∷ z) (each_stored store ts l))) (again_each t v w so) ∙ ap (option_map (λ z. w ∷ z)) (ih l sr))

  struct_again : (ts : List Ty) (o : Value-F Value) (x : Value) → stored_struct store ts o ≡ Some x → stored_struct store ts (out-Value x) ≡ Some x
  struct_again ts (Value-F.Struct vs) x e = by_each (each_stored store ts vs) refl e
    where
      by_each : (r : Option (List Value)) → each_stored store ts vs ≡ r → option_map values.Struct r ≡ Some x → stored_struct store ts (out-Value x) ≡ Some x
      by_each None sr q = absurd (cc q)
      by_each (Some ws) sr q =
          let same : values.Struct ws ≡ x = cc q in
          subst (λ y. stored_struct store ts (out-Value y) ≡ Some y) same (ap (stored_struct store ts) (out_struct ws) ∙ ap (option_map values.Struct) (each_again ts vs ws sr))
  struct_again ts _ x e = absurd (cc e)

  held_again : (ts : List Ty) (h : Storage) (v x : Value) → stored_by_storage store ts v h ≡ Some x → stored_by_storage store ts x h ≡ Some x
  held_again ts (Fields n) v x e = struct_again ts (out-Value v) x e
  held_again ts (Truncated n s) v x e = stored_again (Truncated n s) v x e
  held_again ts Long v x e = stored_again Long v x e
  held_again ts NativeInt v x e = stored_again NativeInt v x e
  held_again ts Reference v x e = stored_again Reference v x e
  held_again ts Address v x e = stored_again Address v x e
  held_again ts Opaque v x e = stored_again Opaque v x e
  held_again ts Anything v x e = stored_again Anything v x e
  held_again ts Void v x e = stored_again Void v x e

module _ (p : Program) where
  within_again : (n : ℕ) (t : Ty) (v x : Value) → stored_within n p t v ≡ Some x → stored_within n p t x ≡ Some x
  unfolding stored_within
  within_again zero t v x e = absurd (cc e)
  within_again (suc n) t v x e = held_again (stored_within n p) (within_again n) (field_types p t) (storage p t) v x e

  pub stored_in_again : (t : Ty) (v x : Value) → stored_in p t v ≡ Some x → stored_in p t x ≡ Some x
  stored_in_again t v x e = within_again 1001 t v x e

-- what was kept of a value on top is kept of it alone
pub some_of : (s : Option Value) (r : Option Value) → option_map Some s ≡ Some r → ((x : Value) → r ≡ Some x → s ≡ Some x)
some_of None r e x q = absurd (cc e)
some_of (Some z) r e x q = let a : Some z ≡ r = cc e in a ∙ q

not_none : (s : Option Value) → option_map Some s ≡ Some None → ⊥
not_none None y = cc y
not_none (Some z) y = let a : Some z ≡ None = cc y in cc a

module _ (p : Program) (t : Ty) where
  pub kept_twice : (h : Storage) (s : List Value) (r : Option Value) → kept_as p t h s ≡ Some r → kept_as p t h (top_of r) ≡ Some r
  kept_twice Void s r e = let q : None ≡ r = cc e in subst (λ y. kept_as p t Void (top_of y) ≡ Some y) q refl
  kept_twice (Truncated n b) [] r e = absurd (cc e)
  kept_twice Long [] r e = absurd (cc e)
  kept_twice NativeInt [] r e = absurd (cc e)
  kept_twice Reference [] r e = absurd (cc e)
  kept_twice Address [] r e = absurd (cc e)
  kept_twice (Fields n) [] r e = absurd (cc e)
  kept_twice Opaque [] r e = absurd (cc e)
  kept_twice Anything [] r e = absurd (cc e)
  kept_twice (Truncated n b) (v ∷ s) None e = absurd (not_none (stored_in p t v) e)
  kept_twice Long (v ∷ s) None e = absurd (not_none (stored_in p t v) e)
  kept_twice NativeInt (v ∷ s) None e = absurd (not_none (stored_in p t v) e)
  kept_twice Reference (v ∷ s) None e = absurd (not_none (stored_in p t v) e)
  kept_twice Address (v ∷ s) None e = absurd (not_none (stored_in p t v) e)
  kept_twice (Fields n) (v ∷ s) None e = absurd (not_none (stored_in p t v) e)
  kept_twice Opaque (v ∷ s) None e = absurd (not_none (stored_in p t v) e)
  kept_twice Anything (v ∷ s) None e = absurd (not_none (stored_in p t v) e)
  kept_twice (Truncated n b) (v ∷ s) (Some x) e = ap (option_map Some) (stored_in_again p t v x (some_of (stored_in p t v) (Some x) e x refl))
  kept_twice Long (v ∷ s) (Some x) e = ap (option_map Some) (stored_in_again p t v x (some_of (stored_in p t v) (Some x) e x refl))
  kept_twice NativeInt (v ∷ s) (Some x) e = ap (option_map Some) (stored_in_again p t v x (some_of (stored_in p t v) (Some x) e x refl))
  kept_twice Reference (v ∷ s) (Some x) e = ap (option_map Some) (stored_in_again p t v x (some_of (stored_in p t v) (Some x) e x refl))
  kept_twice Address (v ∷ s) (Some x) e = ap (option_map Some) (stored_in_again p t v x (some_of (stored_in p t v) (Some x) e x refl))
  kept_twice (Fields n) (v ∷ s) (Some x) e = ap (option_map Some) (stored_in_again p t v x (some_of (stored_in p t v) (Some x) e x refl))
  kept_twice Opaque (v ∷ s) (Some x) e = ap (option_map Some) (stored_in_again p t v x (some_of (stored_in p t v) (Some x) e x refl))
  kept_twice Anything (v ∷ s) (Some x) e = ap (option_map Some) (stored_in_again p t v x (some_of (stored_in p t v) (Some x) e x refl))

pub returned_stays : (p : Program) (f : Frame) (s : List Value) (r : Option Value) → returned p f s ≡ Some r → returned p f (top_of r) ≡ Some r
returned_stays p f s r e = kept_twice p (result_type p f) (storage p (result_type p f)) s r e

-- ---- places that hold no struct

abbrev pub IsPlain : Storage → Type 0
IsPlain (Fields n) = ⊥
IsPlain h = Unit {0}

module _ (p : Program) where
  by_storage : (t : Ty) (v : Value) → stored_in p t v ≡ stored_by_storage (stored_within 1000 p) (field_types p t) v (storage p t)
  unfolding stored_within
  by_storage t v = refl

  held_plain : (ts : List Ty) (h : Storage) (v : Value) → IsPlain h → stored_by_storage (stored_within 1000 p) ts v h ≡ stored h v
  held_plain ts (Truncated n s) v q = refl
  held_plain ts Long v q = refl
  held_plain ts NativeInt v q = refl
  held_plain ts Reference v q = refl
  held_plain ts Address v q = refl
  held_plain ts (Fields n) v q = absurd q
  held_plain ts Opaque v q = refl
  held_plain ts Anything v q = refl
  held_plain ts Void v q = refl

  pub stored_plain : (t : Ty) (h : Storage) (v : Value) → storage p t ≡ h → IsPlain h → stored_in p t v ≡ stored h v
  stored_plain t h v e q = by_storage t v ∙ ap (stored_by_storage (stored_within 1000 p) (field_types p t) v) e ∙ held_plain (field_types p t) h v q
