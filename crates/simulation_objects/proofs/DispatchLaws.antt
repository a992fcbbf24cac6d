-- The body that a virtual call runs is the same in two programs that differ in their bodies.
use Rattle.std.proofs.Common.{◌≡◌, ℕ, zero, suc, Bool, false, List, [], ◌∷◌, ◌++◌, Option, Some, None, refl, ap, ◌∙◌}
use Rattle.std.specs.Prelude.{◌&&◌, ◌||◌, ◌==◌, not, bytes_eq, if◌then◌else◌, map, filter, find, reverse, option_map, option_and_then, is_none}
use Rattle.cil_model.specs.declared.ty.Ty.{Ty, out-Ty}
use Rattle.cil_model.specs.declared.program.Program.{Program}
use Rattle.cil_model.specs.declared.program.Impl.{Impl}
use Rattle.cil_model.specs.declared.program.MethodDesc.{MethodDesc}
use Rattle.cil_semantics.specs.Words.{any, or_else, first_some, only, maybe}
use Rattle.cil_semantics.specs.Types.{under, same_ty}
use Rattle.cil_semantics.specs.Lookups.{method_of, in_set, args_of, chain, most_bases}
use Rattle.cil_semantics.specs.Dispatch.{Seen, is_virtual, takes_new_slot, is_public, same_seen, same_signature, same_shape, methods_of, impls_of, owner_among, seen_in, row_counts, row_names, by_rows, bases, virtual_like, hidden_by, overrides, overrides_outside, public_like, first_row, implementing, is_interface, interface_slot, slot_of, overriders, bodies_in, chosen, nearest, body_for}
use Rattle.cil_semantics.specs.Calls.{body_seen, own_body}
use Rattle.splice_facts.specs.Bodies.{with_methods, SameMethods}
use Rattle.simulation.proofs.ProgramLaws.{chain_within_same, base_same, interfaces_same}

-- what of a method a look-up reads, but whether it has a body
abbrev row_of : MethodDesc → MethodDesc
row_of d = record { assembly = d.assembly; row = 0; owner = d.owner; name = d.name; params = d.params; result = d.result; sig = d.sig; is_static = d.is_static; flags = d.flags; outside = d.outside; abbreviator = false; invariant = false; generated = false; body = None; generics = d.generics }

module _ (p : Program) (ms : List MethodDesc) (same : SameMethods p ms) where
  abbrev p' : Program
  p' = with_methods p ms

  rows : (m : ℕ) → row_of (method_of p' m) ≡ row_of (method_of p m)
  rows m =
      λ i. record { assembly = (same m).assembly i; row = 0; owner = (same m).owner i; name = (same m).name i; params = (same m).params i; result = (same m).result i; sig = (same m).sig i; is_static = (same m).is_static i; flags = (same m).flags i; outside = (same m).outside i; abbreviator = false; invariant = false; generated = false; body = None; generics = (same m).generics i }

  chain_same : (t : Ty) → chain p' t ≡ chain p t
  chain_same t = chain_within_same p ms (most_bases p) t

  bases_same : (t : Ty) → bases p' t ≡ bases p t
  bases_same t = λ i. maybe [] (λ u. chain_same u i) (base_same p ms t i)

  -- ---- names and signatures

  shape_same : (x y : Seen) → same_shape p' x y ≡ same_shape p x y
  unfolding same_shape same_signature
  shape_same x y = λ i. shaped (rows x.1 i) (rows y.1 i)
    where
      shaped : MethodDesc → MethodDesc → Bool
      shaped d e = bytes_eq d.name e.name && ((d.generics == e.generics) && same_signature d (args_of x.0) e (args_of y.0))

  among_same : (m : ℕ) (ts : List Ty) → owner_among p' m ts ≡ owner_among p m ts
  among_same m [] = refl
  among_same m (t ∷ ts) = λ i. if maybe false (λ (d : ℕ × List Ty). d.0 == (same m).owner i) (in_set (out-Ty t)) then Some t else among_same m ts i

  nearest_owner : (t : Ty) (m : ℕ) → owner_among p' m (chain p' t) ≡ owner_among p m (chain p t)
  nearest_owner t m = ap (owner_among p' m) (chain_same t) ∙ among_same m (chain p t)

  pub seen_same : (t : Ty) (m : ℕ) → seen_in p' t m ≡ seen_in p t m
  seen_same t m = ap (λ o. option_map (λ (u : Ty). (u, m)) o) (nearest_owner t m)

  -- ---- rows of MethodImpl

  counts_same : (t : Ty) (x : Impl) → row_counts p' t x ≡ row_counts p t x
  unfolding row_counts same_signature
  counts_same t x = λ i. counted (rows x.body i) (rows x.declaration i) (maybe [] args_of (nearest_owner t x.body i))
    where
      counted : MethodDesc → MethodDesc → List Ty → Bool
      counted d e a = d.outside || (e.outside || ((d.generics == e.generics) && same_signature d a e (args_of (under (args_of t) [] x.owner))))

  named_same : (t : Ty) (s : Seen) → row_names p' t s ≡ row_names p t s
  named_same t s = λ i x. (x.declaration == s.1) && (same_ty (under (args_of t) [] x.owner) s.0 && counts_same t x i)

  by_rows_same : (t : Ty) (s : Seen) → by_rows p' t s ≡ by_rows p t s
  unfolding by_rows
  by_rows_same t s = ap (λ test. map (λ (x : Impl). x.body) (filter test (impls_of p t))) (named_same t s)

  -- ---- overriding and implementing

  virtual_same : (s : Seen) (t : Ty) → virtual_like p' s t ≡ virtual_like p s t
  virtual_same s t = λ i. option_map (λ m. (t, m)) (find (λ m. is_virtual (rows m i) && shape_same (t, m) s i) (methods_of p t))

  hidden_same : (s : Seen) → hidden_by p' s ≡ hidden_by p s
  hidden_same s = λ i. first_some (λ t. virtual_same s t i) (bases_same s.0 i)

  overrides_same : (s slot : Seen) → overrides p' s slot ≡ overrides p s slot
  unfolding overrides
  overrides_same s slot =
      λ i. if any (λ b. b == s.1) (by_rows_same s.0 slot i) then any (same_ty slot.0) (bases_same s.0 i)
      else (is_virtual (rows s.1 i) && not (takes_new_slot (rows s.1 i))) && maybe false (same_seen slot) (hidden_same s i)

  outside_same : (s slot : Seen) → overrides_outside p' s slot ≡ overrides_outside p s slot
  unfolding overrides_outside
  outside_same s slot =
      λ i. (rows slot.1 i).outside && ((is_virtual (rows s.1 i) && not (takes_new_slot (rows s.1 i))) && (is_none (hidden_same s i) && (any (same_ty slot.0) (bases_same s.0 i) && shape_same s slot i)))

  public_same : (s : Seen) (t : Ty) → public_like p' s t ≡ public_like p s t
  public_same s t = λ i. option_map (λ m. (t, m)) (find (λ m. is_public (rows m i) && (is_virtual (rows m i) && shape_same (t, m) s i)) (methods_of p t))

  first_row_same : (s : Seen) (t : Ty) (bs : List ℕ) → first_row p' s t bs ≡ first_row p s t bs
  first_row_same s t [] = public_same s t
  first_row_same s t (m ∷ bs) = seen_same t m

  implementing_same : (s : Seen) (t : Ty) → implementing p' s t ≡ implementing p s t
  unfolding implementing
  implementing_same s t = ap (first_row p' s t) (by_rows_same t s) ∙ first_row_same s t (by_rows p t s)

  interface_same : (n : ℕ) (s : Seen) (t : Ty) → interface_slot n p' s t ≡ interface_slot n p s t
  unfolding interface_slot
  interface_same zero s t = refl
  interface_same (suc n) s t =
      λ i. option_and_then
      (λ u. or_else (implementing_same s u i) (or_else (option_and_then (λ v. interface_same n s v i) (base_same p ms u i)) (first_some (λ v. public_same s v i) (bases_same u i))))
      (find (λ u. any (same_ty s.0) (interfaces_same p ms u i)) (chain_same t i))

  slot_same : (t : Ty) (s : Seen) → slot_of p' t s ≡ slot_of p t s
  unfolding slot_of is_interface
  slot_same t s = ap (λ o. if is_interface p s.0 then o else Some s) (interface_same (most_bases p) s t)

  -- ---- the body

  overriders_same : (ts : List Ty) (seen : List Seen) → overriders p' ts seen ≡ overriders p ts seen
  unfolding overriders
  overriders_same [] seen = refl
  overriders_same (t ∷ ts) seen = ap (λ xs. overriders p' ts (seen ++ xs)) found ∙ overriders_same ts (seen ++ among p)
    where
      among : Program → List Seen
      among q = filter (λ (x : Seen). any (λ s. overrides q x s || overrides_outside q x s) seen) (map (λ m. (t, m)) (methods_of p t))

      found : among p' ≡ among p
      found = λ i. filter (λ (x : Seen). any (λ s. overrides_same x s i || outside_same x s i) seen) (map (λ m. (t, m)) (methods_of p t))

  bodies_same : (seen : List Seen) (t : Ty) → bodies_in p' seen t ≡ bodies_in p seen t
  bodies_same seen t = λ i. filter (λ (x : Seen). same_ty x.0 t && (same x.1).has_body i) seen

  chosen_same : (slot : Seen) (t : Ty) (xs : List Seen) (other : Option Seen) → chosen p' slot t xs other ≡ chosen p slot t xs other
  chosen_same slot t [] other = refl
  chosen_same slot t (x ∷ []) other = refl
  chosen_same slot t (x ∷ y ∷ xs) other = ap (λ bs. only (filter (λ (z : Seen). any (λ m. m == z.1) bs) (x ∷ y ∷ xs))) (by_rows_same t slot)

  nearest_same : (slot : Seen) (seen : List Seen) (ts : List Ty) → nearest p' slot seen ts ≡ nearest p slot seen ts
  nearest_same slot seen [] = refl
  nearest_same slot seen (t ∷ ts) =
      ap (λ xs. chosen p' slot t xs (nearest p' slot seen ts)) (bodies_same seen t) ∙ ap (chosen p' slot t (bodies_in p seen t)) (nearest_same slot seen ts) ∙ chosen_same slot t (bodies_in p seen t) (nearest p slot seen ts)

  body_on : (t : Ty) (slot : Seen) → nearest p' slot (overriders p' (reverse (chain p' t)) (slot ∷ [])) (chain p' t) ≡ nearest p slot (overriders p (reverse (chain p t)) (slot ∷ [])) (chain p t)
  body_on t slot =
      ap (λ ts. nearest p' slot (overriders p' (reverse ts) (slot ∷ [])) ts) (chain_same t)
      ∙ ap (λ seen. nearest p' slot seen (chain p t)) (overriders_same (reverse (chain p t)) (slot ∷ []))
      ∙ nearest_same slot (overriders p (reverse (chain p t)) (slot ∷ [])) (chain p t)

  pub body_same : (t : Ty) (s : Seen) → body_for p' t s ≡ body_for p t s
  unfolding body_for
  body_same t s = λ i. option_and_then (λ slot. body_on t slot i) (slot_same t s i)

  pub body_seen_same : (t : Ty) (s : Seen) → body_seen p' t s ≡ body_seen p t s
  body_seen_same t s = λ i. option_and_then (λ (x : Seen). seen_same t x.1 i) (body_same t s i)

  pub own_body_same : (t : Ty) (s : Seen) → own_body p' t s ≡ own_body p t s
  own_body_same t s = ap (λ o. option_and_then (λ (x : Seen). if same_ty x.0 t then Some x else None) o) (body_seen_same t s)
