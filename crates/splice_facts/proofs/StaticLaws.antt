-- Statics of the input beside those of what was appended.
use Rattle.std.proofs.Common.{◌≡◌, ◌≢◌, ℕ, Bool, true, false, ◌≤◌, List, [], ◌∷◌, Some, None, refl, sym, ap, ◌∙◌, subst, arith}
use Rattle.std.specs.Prelude.{◌==◌, if◌then◌else◌, filter, nat_lt, ◌&&◌}
use Rattle.std.proofs.lemmas.Bool.{eqb-true}
use Rattle.cil_model.specs.declared.ty.Ty.{Ty, out-Ty, Prim, Known, Outside, Array', ByRef', Var, MVar, Opaque, Inst'}
use Rattle.cil_model.specs.declared.ty.Ty as types
use Rattle.cil_model.specs.declared.ty.Ty.TheOpen.{Ty-F}
use Rattle.cil_semantics.specs.Words.{maybe}
use Rattle.cil_semantics.specs.Types.{Layer, same_ty, is_prim, is_known, is_outside, is_array, is_by_ref, is_var, is_mvar, is_opaque, is_inst}
use Rattle.cil_semantics.specs.Lookups.{in_set}
use Rattle.cil_semantics.specs.declared.state.Statics.{Statics}
use Rattle.cil_semantics.specs.Unwind.{set_statics, find_statics}
use Rattle.machine_laws.specs.Answers.{is_below}

abbrev below_layer : ℕ → Layer → Bool
below_layer n l = maybe true (λ (d : ℕ × List Ty). nat_lt d.0 n) (in_set l)

known_below : (n j : ℕ) (l : Layer) → is_known j l ≡ true → nat_lt j n ≡ below_layer n l
known_below n j (Ty-F.Known i) e = ap (λ z. nat_lt z n) (eqb-true j i e)
known_below n j _ e = absurd (cc e)

and_left : (a b : Bool) → (a && b) ≡ true → a ≡ true
and_left true b e = refl
and_left false b e = absurd (cc e)

inst_below : (n j : ℕ) (test : List Ty → Bool) (l : Layer) → is_inst j test l ≡ true → nat_lt j n ≡ below_layer n l
inst_below n j test (Ty-F.Inst i args) e = ap (λ z. nat_lt z n) (eqb-true j i (and_left (j == i) (test args) e))
inst_below n j test _ e = absurd (cc e)

prim_below : (n j : ℕ) (l : Layer) → is_prim j l ≡ true → true ≡ below_layer n l
prim_below n j (Ty-F.Prim i) e = refl
prim_below n j _ e = absurd (cc e)

outside_below : (n : ℕ) (name : List ℕ) (l : Layer) → is_outside name l ≡ true → true ≡ below_layer n l
outside_below n name (Ty-F.Outside other v) e = refl
outside_below n name _ e = absurd (cc e)

array_below : (n : ℕ) (test : Ty → Bool) (l : Layer) → is_array test l ≡ true → true ≡ below_layer n l
array_below n test (Ty-F.Array t) e = refl
array_below n test _ e = absurd (cc e)

ref_below : (n : ℕ) (test : Ty → Bool) (l : Layer) → is_by_ref test l ≡ true → true ≡ below_layer n l
ref_below n test (Ty-F.ByRef t) e = refl
ref_below n test _ e = absurd (cc e)

var_below : (n j : ℕ) (l : Layer) → is_var j l ≡ true → true ≡ below_layer n l
var_below n j (Ty-F.Var i) e = refl
var_below n j _ e = absurd (cc e)

mvar_below : (n j : ℕ) (l : Layer) → is_mvar j l ≡ true → true ≡ below_layer n l
mvar_below n j (Ty-F.MVar i) e = refl
mvar_below n j _ e = absurd (cc e)

opaque_below : (n : ℕ) (l : Layer) → is_opaque l ≡ true → true ≡ below_layer n l
opaque_below n Ty-F.Opaque e = refl
opaque_below n _ e = absurd (cc e)

-- two types that are the same are both of the input or neither
pub same_below : (n : ℕ) (a b : Ty) → same_ty a b ≡ true → is_below n a ≡ is_below n b
unfolding types.out-Ty denote.Hole.Carrier.out
same_below n (Prim j) b e = prim_below n j (out-Ty b) e
same_below n (Known j) b e = known_below n j (out-Ty b) e
same_below n (Outside name v) b e = outside_below n name (out-Ty b) e
same_below n (Array' q parts) b e = array_below n _ (out-Ty b) e
same_below n (ByRef' q parts) b e = ref_below n _ (out-Ty b) e
same_below n (Var j) b e = var_below n j (out-Ty b) e
same_below n (MVar j) b e = mvar_below n j (out-Ty b) e
same_below n Opaque b e = opaque_below n (out-Ty b) e
same_below n (Inst' j shape parts) b e = inst_below n j _ (out-Ty b) e

module _ (n : ℕ) where
  abbrev pub IsOf : Statics → Bool
  IsOf s = is_below n s.owner

  abbrev pub input : List Statics → List Statics
  input ss = filter IsOf ss

  -- a type of the input isn't the owner of statics that aren't of the input
  other_owner : (t : Ty) (x : Statics) → is_below n t ≡ true → is_below n x.owner ≡ false → same_ty t x.owner ≡ false
  other_owner t x a b = by_test (same_ty t x.owner) refl
    where
      by_test : (c : Bool) → same_ty t x.owner ≡ c → c ≡ false
      by_test true e = absurd (cc (sym a ∙ same_below n t x.owner e ∙ b))
      by_test false e = refl

  other_found : (t : Ty) (x : Statics) → is_below n t ≡ true → is_below n x.owner ≡ false → same_ty x.owner t ≡ false
  other_found t x a b = by_test (same_ty x.owner t) refl
    where
      by_test : (c : Bool) → same_ty x.owner t ≡ c → c ≡ false
      by_test true e = absurd (cc (sym a ∙ sym (same_below n x.owner t e) ∙ b))
      by_test false e = refl

  pub find_input : (t : Ty) (ss : List Statics) → is_below n t ≡ true → find_statics t ss ≡ find_statics t (input ss)
  find_input t [] a = refl
  find_input t (x ∷ xs) a = by_test (find_input t xs a) (is_below n x.owner) refl
    where
      by_test : find_statics t xs ≡ find_statics t (input xs) → (c : Bool) → is_below n x.owner ≡ c → find_statics t (x ∷ xs) ≡ find_statics t (if c then x ∷ input xs else input xs)
      by_test ih true e = ap (λ o. if same_ty x.owner t then Some x else o) ih
      by_test ih false e = ap (λ b. if b then Some x else find_statics t xs) (other_found t x a e) ∙ ih

  pub set_input : (t : Ty) (s : Statics) (ss : List Statics) → is_below n t ≡ true → is_below n s.owner ≡ true → input (set_statics (same_ty t) s ss) ≡ set_statics (same_ty t) s (input ss)
  set_input t s [] a b = ap (λ c. if c then s ∷ [] else []) b
  set_input t s (x ∷ xs) a b = by_test (set_input t s xs a b) (is_below n x.owner) refl
    where
      by_test : input (set_statics (same_ty t) s xs) ≡ set_statics (same_ty t) s (input xs) → (c : Bool) → is_below n x.owner ≡ c → input (set_statics (same_ty t) s (x ∷ xs)) ≡ set_statics (same_ty t) s (if c then x ∷ input xs else input xs)
      by_test ih true e = owned (same_ty t x.owner)
        where
          owned : (d : Bool) → input (if d then s ∷ xs else x ∷ set_statics (same_ty t) s xs) ≡ (if d then s ∷ input xs else x ∷ set_statics (same_ty t) s (input xs))
          owned true = ap (λ c. if c then s ∷ input xs else input xs) b
          owned false = ap (λ c. if c then x ∷ input (set_statics (same_ty t) s xs) else input (set_statics (same_ty t) s xs)) e ∙ ap (λ l. x ∷ l) ih
      by_test ih false e =
          ap (λ d. input (if d then s ∷ xs else x ∷ set_statics (same_ty t) s xs)) (other_owner t x a e)
          ∙ ap (λ c. if c then x ∷ input (set_statics (same_ty t) s xs) else input (set_statics (same_ty t) s xs)) e ∙ ih

  -- ---- the class that is appended

  not_below : (c : ℕ) → n ≤ c → is_below n (Known c) ≡ false
  unfolding types.out-Ty denote.Hole.Carrier.out
  not_below c le = grind (arith, le)

  pub isnt_appended : (c : ℕ) → n ≤ c → (t : Ty) → is_below n t ≡ true → same_ty t (Known c) ≡ false
  isnt_appended c le t a = by_test (same_ty t (Known c)) refl
    where
      by_test : (b : Bool) → same_ty t (Known c) ≡ b → b ≡ false
      by_test true e = absurd (cc (sym a ∙ same_below n t (Known c) e ∙ not_below c le))
      by_test false e = refl

  -- a store in statics of the input changes nothing of those of the class
  pub find_other : (c : ℕ) → n ≤ c → (t : Ty) (s : Statics) (ss : List Statics) → is_below n t ≡ true → is_below n s.owner ≡ true → find_statics (Known c) (set_statics (same_ty t) s ss) ≡ find_statics (Known c) ss
  find_other c le t s [] a b = ap (λ z. if z then Some s else None) (isnt_appended c le s.owner b)
  find_other c le t s (x ∷ xs) a b = by_test (find_other c le t s xs a b) (same_ty t x.owner) refl
    where
      by_test : find_statics (Known c) (set_statics (same_ty t) s xs) ≡ find_statics (Known c) xs → (z : Bool) → same_ty t x.owner ≡ z → find_statics (Known c) (if z then s ∷ xs else x ∷ set_statics (same_ty t) s xs) ≡ find_statics (Known c) (x ∷ xs)
      by_test ih true e =
          ap (λ z. if z then Some s else find_statics (Known c) xs) (isnt_appended c le s.owner b)
          ∙ sym (ap (λ z. if z then Some x else find_statics (Known c) xs) (isnt_appended c le x.owner (sym (same_below n t x.owner e) ∙ a)))
      by_test ih false e = ap (λ o. if same_ty x.owner (Known c) then Some x else o) ih

  -- ---- and a store in its own

  known_both : (c j : ℕ) → (c == j) ≡ (j == c)
  known_both c j = grind arith

  pub same_either : (c : ℕ) (t : Ty) → same_ty t (Known c) ≡ same_ty (Known c) t
  unfolding types.out-Ty denote.Hole.Carrier.out
  same_either c (Prim j) = refl
  same_either c (Known j) = known_both j c
  same_either c (Outside name v) = refl
  same_either c (Array' q parts) = refl
  same_either c (ByRef' q parts) = refl
  same_either c (Var j) = refl
  same_either c (MVar j) = refl
  same_either c Opaque = refl
  same_either c (Inst' j shape parts) = refl

  pub itself : (c : ℕ) → same_ty (Known c) (Known c) ≡ true
  unfolding types.out-Ty denote.Hole.Carrier.out
  itself c = grind arith

  pub find_set : (c : ℕ) (s : Statics) (ss : List Statics) → same_ty s.owner (Known c) ≡ true → find_statics (Known c) (set_statics (same_ty (Known c)) s ss) ≡ Some s
  find_set c s [] e = ap (λ z. if z then Some s else None) e
  find_set c s (x ∷ xs) e = by_test (find_set c s xs e) (same_ty (Known c) x.owner) refl
    where
      by_test : find_statics (Known c) (set_statics (same_ty (Known c)) s xs) ≡ Some s → (z : Bool) → same_ty (Known c) x.owner ≡ z → find_statics (Known c) (if z then s ∷ xs else x ∷ set_statics (same_ty (Known c)) s xs) ≡ Some s
      by_test ih true h = ap (λ z. if z then Some s else find_statics (Known c) xs) e
      by_test ih false h = ap (λ z. if z then Some x else find_statics (Known c) (set_statics (same_ty (Known c)) s xs)) (same_either c x.owner ∙ h) ∙ ih

  pub set_own : (c : ℕ) → n ≤ c → (s : Statics) (ss : List Statics) → same_ty s.owner (Known c) ≡ true → input (set_statics (same_ty (Known c)) s ss) ≡ input ss
  set_own c le s [] e = ap (λ z. if z then s ∷ [] else []) (same_below n s.owner (Known c) e ∙ not_below c le)
  set_own c le s (x ∷ xs) e = by_test (set_own c le s xs e) (same_ty (Known c) x.owner) refl
    where
      own : is_below n s.owner ≡ false
      own = same_below n s.owner (Known c) e ∙ not_below c le

      by_test : input (set_statics (same_ty (Known c)) s xs) ≡ input xs → (z : Bool) → same_ty (Known c) x.owner ≡ z → input (if z then s ∷ xs else x ∷ set_statics (same_ty (Known c)) s xs) ≡ input (x ∷ xs)
      by_test ih true h = ap (λ z. if z then s ∷ input xs else input xs) own ∙ sym (ap (λ z. if z then x ∷ input xs else input xs) (sym (same_below n (Known c) x.owner h) ∙ not_below c le))
      by_test ih false h = ap (λ l. if is_below n x.owner then x ∷ l else l) ih

  pub found_owner : (t : Ty) (ss : List Statics) (s : Statics) → find_statics t ss ≡ Some s → same_ty s.owner t ≡ true
  found_owner t [] s e = absurd (cc e)
  found_owner t (x ∷ xs) s e = by_test (λ h. found_owner t xs s h) (same_ty x.owner t) refl e
    where
      by_test : (find_statics t xs ≡ Some s → same_ty s.owner t ≡ true) → (z : Bool) → same_ty x.owner t ≡ z → (if z then Some x else find_statics t xs) ≡ Some s → same_ty s.owner t ≡ true
      by_test ih true h q = let z1 : x ≡ s = cc q in subst (λ (y : Statics). same_ty y.owner t ≡ true) z1 h
      by_test ih false h q = ih q

  known_apart : (c x : ℕ) → c ≢ x → same_ty (Known c) (Known x) ≡ false
  unfolding types.out-Ty denote.Hole.Carrier.out
  known_apart c x d = grind (arith, d)

  -- what is the one class isn't the other
  only_one : (c x : ℕ) → c ≢ x → (t : Ty) → same_ty t (Known c) ≡ true → same_ty t (Known x) ≡ false
  unfolding types.out-Ty denote.Hole.Carrier.out
  only_one c x d (Known j) e = grind (arith, d, e)
  only_one c x d (Prim j) e = absurd (cc e)
  only_one c x d (Outside name v) e = absurd (cc e)
  only_one c x d (Array' q parts) e = absurd (cc e)
  only_one c x d (ByRef' q parts) e = absurd (cc e)
  only_one c x d (Var j) e = absurd (cc e)
  only_one c x d (MVar j) e = absurd (cc e)
  only_one c x d Opaque e = absurd (cc e)
  only_one c x d (Inst' j shape parts) e = absurd (cc e)

  pub find_apart : (c x : ℕ) → c ≢ x → (s : Statics) (ss : List Statics) → same_ty s.owner (Known c) ≡ true → find_statics (Known x) (set_statics (same_ty (Known c)) s ss) ≡ find_statics (Known x) ss
  find_apart c x d s [] e = ap (λ z. if z then Some s else None) (only_one c x d s.owner e)
  find_apart c x d s (y ∷ ys) e = by_test (find_apart c x d s ys e) (same_ty (Known c) y.owner) refl
    where
      by_test : find_statics (Known x) (set_statics (same_ty (Known c)) s ys) ≡ find_statics (Known x) ys → (z : Bool) → same_ty (Known c) y.owner ≡ z → find_statics (Known x) (if z then s ∷ ys else y ∷ set_statics (same_ty (Known c)) s ys) ≡ find_statics (Known x) (y ∷ ys)
      by_test ih true h =
          ap (λ z. if z then Some s else find_statics (Known x) ys) (only_one c x d s.owner e)
          ∙ sym (ap (λ z. if z then Some y else find_statics (Known x) ys) (only_one c x d y.owner (same_either c y.owner ∙ h)))
      by_test ih false h = ap (λ o. if same_ty y.owner (Known x) then Some y else o) ih
