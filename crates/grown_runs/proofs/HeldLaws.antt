-- Look-ups on the types that objects of a run have: those of the input, those outside, and the class of failures.
use Rattle.std.proofs.Common.{◌≡◌, ◌∙◌, sym, ap, refl, subst, arith, ℕ, suc, ◌<◌, ◌≤◌, List, [], ◌∷◌, ◌++◌, length, Bool, true, false, inl, inr}
use Rattle.std.specs.Prelude.{cond, ◌&&◌, ◌||◌, ◌==◌, not, map, Option, Some, None, option_map, option_and_then, option_to_list, is_some, if◌then◌else◌}
use Rattle.std.proofs.lemmas.Bool.{eqb-true}
use Rattle.std.proofs.Math.ListN.{get_or-eq_default}
use Rattle.std.proofs.lemmas.Option.{unwrap_or-slice_get}
use Rattle.cil_model.specs.declared.ty.Ty.{Ty, out-Ty, Known}
use Rattle.cil_model.specs.declared.ty.Ty as types
use Rattle.cil_model.specs.declared.program.Program.{Program}
use Rattle.cil_model.specs.declared.program.TypeDesc.{TypeDesc}
use Rattle.cil_semantics.specs.Words.{any, maybe}
use Rattle.cil_semantics.specs.Types.{under, all_under, same_ty}
use Rattle.cil_semantics.specs.Core.{object_ty, exception_ty}
use Rattle.cil_semantics.specs.Lookups.{contract_exception, type_of, field_of, method_of, base_of, interfaces_of, most_bases, chain, is_sub, is_sub_within}
use Rattle.cil_semantics.specs.Dispatch.{Seen, is_virtual, slot_of, is_interface, chosen, nearest, body_for}
use Rattle.cil_semantics.specs.Places.{own_fields, layouts, layout, place_of, field_place}
use Rattle.cil_semantics.specs.Acts.{ty_name}
use Rattle.cil_semantics.specs.Calls.{body_seen}
use Rattle.machine_laws.specs.Answers.{Each, IsOld, IsSeen, AnswersAlike}
use Rattle.machine_laws.proofs.AnswerLaws.{each_filter}
use Rattle.machine_laws.proofs.RankLaws.{far_enough}
use Rattle.machine_laws.proofs.FindLaws.{answers_alike}
use Rattle.grown_runs.specs.Grown.{IsGrownInput, IsFailureRow, IsHeld}
use Rattle.grown_runs.proofs.FailureLaws.{IsException, IsQuiet, exceptions, chain_is, object_slot, slot_is, body_is}
use Rattle.grown_runs.proofs.FoundLaws.{body_seen_same}
use Rattle.grown_runs.proofs.NameLaws.{name_same}

-- ---- the class of failures in a program

base_known : (q : Program) (j : ℕ) → (type_of q j).base ≡ Some exception_ty → base_of q (Known j) ≡ Some exception_ty
unfolding base_of types.out-Ty denote.Hole.Carrier.out
base_known q j e = ap (λ (o : Option Ty). Some (maybe object_ty (under [] []) o)) e

none_known : (q : Program) (j : ℕ) → (type_of q j).interfaces ≡ [] → interfaces_of q (Known j) ≡ []
unfolding interfaces_of types.out-Ty denote.Hole.Carrier.out
none_known q j e = ap (all_under [] []) e

known_quiet : (q : Program) (j : ℕ) → (type_of q j).interfaces ≡ [] → (type_of q j).impls ≡ [] → Each (λ m. is_virtual (method_of q m) ≡ false) (type_of q j).methods → IsQuiet q (Known j)
unfolding types.out-Ty denote.Hole.Carrier.out
known_quiet q j i r m = record { interfaces = none_known q j i; rows = r; methods = m }

-- no place is that of a field that isn't there
no_place : (q : Program) (f n : ℕ) (args : List Ty) (fs : List ℕ) → f < n → Each (λ g. n ≤ g) fs → place_of f (map {B = ℕ × Ty} (λ g. (g, under args [] (field_of q g).ty)) fs) ≡ None
no_place q f n args [] l h = refl
no_place q f n args (g ∷ gs) l h = by_test (g == f) refl (no_place q f n args gs l h.1)
  where
    by_test : (b : Bool) → (g == f) ≡ b → place_of f (map {B = ℕ × Ty} (λ g. (g, under args [] (field_of q g).ty)) gs) ≡ None
        → (if b then Some 0 else option_map suc (place_of f (map {B = ℕ × Ty} (λ g. (g, under args [] (field_of q g).ty)) gs))) ≡ None
    by_test true e again = let same : g ≡ f = eqb-true g f e in absurd (omega (arith, same, l, h.0))
    by_test false e again = ap (option_map suc) again

failure_places : (q : Program) (j f n : ℕ) → IsException q (Known j) → f < n → Each (λ g. n ≤ g) (type_of q j).fields → field_place q (Known j) f ≡ None
unfolding layout types.out-Ty denote.Hole.Carrier.out
failure_places q j f n x l h =
    ap (λ (us : List Ty). place_of f (layouts q us)) (chain_is q (Known j) x)
    ∙ no_place q f n [] (own_fields q (type_of q j)) l (each_filter (λ g. n ≤ g) (λ g. not (field_of q g).is_static) (type_of q j).fields h)

-- a type that names no interface is a sub of itself and of what its base is
one_above : (q : Program) (n : ℕ) (t u e : Ty) → base_of q t ≡ Some e → interfaces_of q t ≡ [] → is_sub_within (suc n) q t u ≡ (same_ty t u || (is_sub_within n q e u || false))
unfolding is_sub_within
one_above q n t u e b i =
    ap (λ (o : Option Ty). same_ty t u || any (λ c. is_sub_within n q c u) (option_to_list o ++ interfaces_of q t)) b
    ∙ ap (λ (is : List Ty). same_ty t u || any (λ c. is_sub_within n q c u) (e ∷ is)) i

above : (q : Program) (t u : Ty) → IsException q t → is_sub q t u ≡ (same_ty t u || (is_sub q exception_ty u || false))
above q t u x =
    let far = far_enough q x.ranked in
    sym (far.subs (suc (most_bases q)) t u (omega arith)) ∙ one_above q (most_bases q) t u exception_ty x.base x.quiet.interfaces ∙ ap (λ (b : Bool). same_ty t u || (b || false)) (far.subs (most_bases q) exception_ty u (omega arith))

-- ---- in the input and where it has grown

module _ (p0 p : Program) (h : IsGrownInput p0 p) (j : ℕ) (row : IsFailureRow p0 p j) where
  abbrev alike : AnswersAlike p0 p
  alike = answers_alike p0 p h.extends h.names_own h.names_none

  object_old : IsOld p0 object_ty
  unfolding types.out-Ty denote.Hole.Carrier.out
  object_old = refl

  exception_old : IsOld p0 exception_ty
  unfolding types.out-Ty denote.Hole.Carrier.out
  exception_old = refl

  unknown : type_of p0 j ≡ contract_exception
  unknown = unwrap_or-slice_get p0.types j contract_exception ∙ get_or-eq_default p0.types contract_exception row.beyond

  in_grown : IsException p (Known j)
  in_grown = record { ranked = h.extends.ranked_too; base = base_known p j row.base; quiet = known_quiet p j (h.names_none j row.beyond) row.impls row.methods }

  in_input : IsException p0 (Known j)
  unfolding contract_exception
  in_input =
      record {
        ranked = h.extends.ranked;
        base = base_known p0 j (ap (λ (d : TypeDesc). d.base) unknown);
        quiet =
            known_quiet p0 j (ap (λ (d : TypeDesc). d.interfaces) unknown) (ap (λ (d : TypeDesc). d.impls) unknown)
            (subst (λ (d : TypeDesc). Each (λ m. is_virtual (method_of p0 m) ≡ false) d.methods) (sym unknown) tt);
      }

  pub chain_held : (t : Ty) → IsHeld p0 j t → chain p t ≡ chain p0 t
  chain_held t (inl old) = alike.chains t old
  chain_held t (inr e) = subst (λ u. chain p u ≡ chain p0 u) (sym e) (chain_is p (Known j) in_grown ∙ sym (chain_is p0 (Known j) in_input))

  pub sub_held : (t u : Ty) → IsHeld p0 j t → is_sub p t u ≡ is_sub p0 t u
  sub_held t u (inl old) = alike.subs t u old
  sub_held t u (inr e) =
      subst (λ v. is_sub p v u ≡ is_sub p0 v u) (sym e)
      (above p (Known j) u in_grown ∙ ap (λ (b : Bool). same_ty (Known j) u || (b || false)) (alike.subs exception_ty u exception_old) ∙ sym (above p0 (Known j) u in_input))

  -- ---- bodies

  body_there : (m : ℕ) → m < length p0.methods → is_some (method_of p m).body ≡ is_some (method_of p0 m).body
  body_there m l = (h.extends.methods m l).has_body

  nearest_same : (slot : Seen) (ts : List Ty) → slot.1 < length p0.methods → nearest p slot (slot ∷ []) ts ≡ nearest p0 slot (slot ∷ []) ts
  nearest_same slot [] l = refl
  nearest_same slot (t ∷ ts) l =
      ap (λ (b : Bool). chosen p slot t (cond (same_ty slot.0 t && b) (slot ∷ []) []) (nearest p slot (slot ∷ []) ts)) (body_there slot.1 l)
      ∙ by_test (same_ty slot.0 t && is_some (method_of p0 slot.1).body) (nearest_same slot ts l)
    where
      by_test : (b : Bool) → nearest p slot (slot ∷ []) ts ≡ nearest p0 slot (slot ∷ []) ts → chosen p slot t (cond b (slot ∷ []) []) (nearest p slot (slot ∷ []) ts) ≡ chosen p0 slot t (cond b (slot ∷ []) []) (nearest p0 slot (slot ∷ []) ts)
      by_test true again = refl
      by_test false again = again

  -- a method that is none of an interface is its own slot on System.Object
  abbrev as_slot : Seen → Bool → Option Seen
  as_slot s b = if b then None else Some s

  as_slot_tells : (s : Seen) (a b : Bool) → as_slot s a ≡ as_slot s b → a ≡ b
  as_slot_tells s true true e = refl
  as_slot_tells s true false e = absurd (cc e)
  as_slot_tells s false true e = absurd (cc e)
  as_slot_tells s false false e = refl

  interface_same : (s : Seen) → IsSeen p0 s → is_interface p s.0 ≡ is_interface p0 s.0
  interface_same s seen = as_slot_tells s (is_interface p s.0) (is_interface p0 s.0) (sym (object_slot p s) ∙ alike.slots object_ty s object_old seen ∙ object_slot p0 s)

  slot_same : (s : Seen) → IsSeen p0 s → slot_of p (Known j) s ≡ slot_of p0 (Known j) s
  slot_same s seen = slot_is p (Known j) in_grown s ∙ ap (λ (b : Bool). if b then None else Some s) (interface_same s seen) ∙ sym (slot_is p0 (Known j) in_input s)

  failure_body : (s : Seen) → IsSeen p0 s → body_for p (Known j) s ≡ body_for p0 (Known j) s
  failure_body s seen =
      body_is p (Known j) in_grown s
      ∙ ap (option_and_then (λ slot. nearest p slot (slot ∷ []) (exceptions (Known j)))) (slot_same s seen ∙ slot_is p0 (Known j) in_input s)
      ∙ by_test (is_interface p0 s.0)
      ∙ sym (body_is p0 (Known j) in_input s ∙ ap (option_and_then (λ slot. nearest p0 slot (slot ∷ []) (exceptions (Known j)))) (slot_is p0 (Known j) in_input s))
    where
      by_test : (b : Bool) → option_and_then (λ slot. nearest p slot (slot ∷ []) (exceptions (Known j))) (if b then None else Some s) ≡ option_and_then (λ slot. nearest p0 slot (slot ∷ []) (exceptions (Known j))) (if b then None else Some s)
      by_test true = refl
      by_test false = nearest_same s (exceptions (Known j)) seen.1

  body_held : (t : Ty) (s : Seen) → IsHeld p0 j t → IsSeen p0 s → body_for p t s ≡ body_for p0 t s
  body_held t s (inl old) seen = alike.bodies t s old seen
  body_held t s (inr e) seen = subst (λ u. body_for p u s ≡ body_for p0 u s) (sym e) (failure_body s seen)

  pub seen_held : (t : Ty) (s : Seen) → IsHeld p0 j t → IsSeen p0 s → body_seen p t s ≡ body_seen p0 t s
  seen_held t s held seen = body_seen_same p0 p h.extends h.names_own t s (chain_held t held) (body_held t s held seen) seen.1

  -- ---- places and names

  pub place_held : (t : Ty) (f : ℕ) → IsHeld p0 j t → f < length p0.fields → field_place p t f ≡ field_place p0 t f
  unfolding contract_exception
  place_held t f (inl old) l = ap (place_of f) (alike.layouts t old)
  place_held t f (inr e) l =
      subst (λ u. field_place p u f ≡ field_place p0 u f) (sym e)
      (failure_places p j f (length p0.fields) in_grown l row.fields ∙ sym (failure_places p0 j f (length p0.fields) in_input l none_there))
    where
      none_there : Each (λ g. length p0.fields ≤ g) (type_of p0 j).fields
      none_there = subst (λ (d : TypeDesc). Each (λ g. length p0.fields ≤ g) d.fields) (sym unknown) tt

  failure_name : ty_name p (Known j) ≡ ty_name p0 (Known j)
  unfolding contract_exception types.out-Ty denote.Hole.Carrier.out
  failure_name = row.name ∙ sym (ap (λ (d : TypeDesc). d.name) unknown)

  pub name_held : (t : Ty) → IsHeld p0 j t → ty_name p t ≡ ty_name p0 t
  name_held t (inl old) = name_same p0 p h t old
  name_held t (inr e) = subst (λ u. ty_name p u ≡ ty_name p0 u) (sym e) failure_name
