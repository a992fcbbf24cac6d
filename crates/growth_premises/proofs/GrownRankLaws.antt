-- No type of a grown program is above itself, where none was: what is new stands above all that was there.
use Rattle.std.proofs.Common.{◌≡◌, ◌∙◌, sym, ap, refl, subst, arith, ℕ, zero, suc, ◌+◌, ◌-◌, ◌<◌, ◌≤◌, List, [], ◌∷◌, length, Bool, true, false, ◌⊎◌, inl, inr}
use Rattle.std.specs.Prelude.{Option, Some, None, nat_lt, slice_get, unwrap_or, if◌then◌else◌, codes, Contains, get_or}
use Rattle.std.proofs.lemmas.Bool.{cases_lt, lt-ltb}
use Rattle.cil_model.specs.declared.ty.Ty.{Ty, out-Ty, out-roll-Ty, Prim, Known, Outside, Array', ByRef', Var, MVar, Opaque, Inst'}
use Rattle.cil_model.specs.declared.ty.Ty as types
use Rattle.cil_model.specs.declared.program.Program.{Program}
use Rattle.cil_model.specs.declared.program.TypeDesc.{TypeDesc}
use Rattle.cil_semantics.specs.Words.{maybe}
use Rattle.cil_semantics.specs.Types.{under, all_under}
use Rattle.cil_semantics.specs.Core.{object_ty, class_named}
use Rattle.cil_semantics.specs.Lookups.{type_of, in_set, base_from, base_of, interfaces_from, interfaces_of, contract_exception, most_bases}
use Rattle.machine_laws.specs.Answers.{Each, NamesOwn, NamesNone, IsAmong, is_below}
use Rattle.machine_laws.specs.Growth.{Ranked}
use Rattle.machine_laws.proofs.AnswerLaws.{AreClosed}
use Rattle.machine_laws.proofs.ClosedLaws.{are_closed}
use Rattle.set_growth.proofs.FindLaws.{lt_true, lt_false, lt_from}
use Rattle.program_growth.specs.Kept.{KeepsProgram}
use Rattle.growth_premises.specs.Bases.{BasesBelow}

-- ---- a type's own number, whatever stands for parameters

under_below : (n : ℕ) (a b : List Ty) (t : Ty) → IsAmong n (out-Ty t) → is_below n (under a b t) ≡ true
unfolding types.out-Ty denote.Hole.Carrier.out denote.Hole.Carrier.hidden denote.Hole.Carrier.shown
under_below n a b (Prim x) h = refl
under_below n a b (Known k) h = lt-ltb k n h
under_below n a b (Outside name value) h = refl
under_below n a b (Array' x parts) h = refl
under_below n a b (ByRef' x parts) h = refl
under_below n a b (Var k) h = absurd h
under_below n a b (MVar k) h = absurd h
under_below n a b Opaque h = refl
under_below n a b (Inst' k shape parts) h = lt-ltb k n h

-- a base, or System.Object where none is named
above_below : (n : ℕ) (args : List Ty) (o : Option Ty) → ((t : Ty) → o ≡ Some t → IsAmong n (out-Ty t)) → is_below n (maybe object_ty (under args []) o) ≡ true
unfolding types.out-Ty denote.Hole.Carrier.out
above_below n args None h = refl
above_below n args (Some t) h = under_below n args [] t (h t refl)

exception_base : (t : Ty) → contract_exception.base ≡ Some t → IsAmong 0 (out-Ty t)
unfolding contract_exception types.out-Ty denote.Hole.Carrier.out
exception_base t e = subst (λ (u : Ty). IsAmong 0 (out-Ty u)) (this (class_named (codes "System.Exception")) t e) tt
  where
    this : (a b : Ty) → Some a ≡ Some b → a ≡ b
    this a b e = ap (λ (o : Option Ty). unwrap_or o a) e

same_some : (a b : Ty) → Some a ≡ Some b → a ≡ b
same_some a b e = ap (λ (o : Option Ty). unwrap_or o a) e

past_all : {A : Type 0} (xs : List A) (k : ℕ) (other : A) → length xs ≤ k → unwrap_or (slice_get xs k) other ≡ other
past_all [] k other h = refl
past_all (x ∷ xs) zero other h = absurd (omega (arith, h))
past_all (x ∷ xs) (suc k) other h = past_all xs k other (omega (arith, h))

each_has : {A : Type 0} (P : A → Type 0) (xs : List A) (x : A) → Each P xs → Contains xs x → P x
each_has {A} P xs x all c = go xs c.0 all c.1 c.2
  where
    go : (l : List A) (k : ℕ) → Each P l → k < length l → get_or l k x ≡ x → P x
    go [] k all h e = absurd (omega (arith, h))
    go (y ∷ l) zero all h e = subst P e all.0
    go (y ∷ l) (suc k) all h e = go l k all.1 (omega (arith, h)) e

-- ---- ranks

module _ (p q : Program) (kept : KeepsProgram p q) (ranked : Ranked p) (own : NamesOwn p) (none : NamesNone p q) (below : BasesBelow p q) where
  abbrev n : ℕ
  n = length p.types

  abbrev m : ℕ
  m = length q.types

  closed : AreClosed p q (is_below n)
  closed = are_closed p q own none

  abbrev placed : Option (ℕ × List Ty) → ℕ → ℕ
  placed None r = r
  placed (Some d) r = if nat_lt d.0 n then r else if nat_lt d.0 m then most_bases p + (d.0 - n) else r

  abbrev place : Ty → ℕ
  place t = placed (in_set (out-Ty t)) (ranked.rank t)

  within : (t : Ty) → place t < most_bases q
  within t = go (in_set (out-Ty t))
    where
      go : (o : Option (ℕ × List Ty)) → placed o (ranked.rank t) < most_bases q
      go None = omega (arith, ranked.within t, kept.more_types)
      go (Some d) = by_number (nat_lt d.0 n) (nat_lt d.0 m) (cases_lt d.0 n) refl (λ e. lt_from d.0 m e)
        where
          by_number : (b c : Bool) → (d.0 < n) ⊎ (n ≤ d.0) → nat_lt d.0 n ≡ b → (c ≡ true → d.0 < m) → (if b then ranked.rank t else if c then most_bases p + (d.0 - n) else ranked.rank t) < most_bases q
          by_number true c o f h = omega (arith, ranked.within t, kept.more_types)
          by_number false true (inl l) f h = absurd (let wrong : true ≡ false = sym (lt_true d.0 n l) ∙ f in cc)
          by_number false true (inr l) f h = let high : d.0 < m = h refl in omega (arith, l, high, kept.more_types)
          by_number false false o f h = omega (arith, ranked.within t, kept.more_types)

  -- a type of p keeps its rank
  old_place : (t : Ty) → is_below n t ≡ true → place t ≡ ranked.rank t
  old_place t h = go (in_set (out-Ty t)) h
    where
      go : (o : Option (ℕ × List Ty)) → maybe true (λ (d : ℕ × List Ty). nat_lt d.0 n) o ≡ true → placed o (ranked.rank t) ≡ ranked.rank t
      go None e = refl
      go (Some d) e = ap (λ (b : Bool). if b then ranked.rank t else if nat_lt d.0 m then most_bases p + (d.0 - n) else ranked.rank t) e

  -- a type below a new number stands below it
  low_place : (k : ℕ) (t : Ty) → n ≤ k → is_below k t ≡ true → place t < most_bases p + (k - n)
  low_place k t low h = go (in_set (out-Ty t)) h
    where
      go : (o : Option (ℕ × List Ty)) → maybe true (λ (d : ℕ × List Ty). nat_lt d.0 k) o ≡ true → placed o (ranked.rank t) < most_bases p + (k - n)
      go None e = omega (arith, ranked.within t)
      go (Some d) e = by_number (nat_lt d.0 n) (nat_lt d.0 m) (cases_lt d.0 n) refl
        where
          by_number : (b c : Bool) → (d.0 < n) ⊎ (n ≤ d.0) → nat_lt d.0 n ≡ b → (if b then ranked.rank t else if c then most_bases p + (d.0 - n) else ranked.rank t) < most_bases p + (k - n)
          by_number true c o f = omega (arith, ranked.within t)
          by_number false true (inl l) f = absurd (let wrong : true ≡ false = sym (lt_true d.0 n l) ∙ f in cc)
          by_number false true (inr l) f = omega (arith, l, lt_from d.0 k e)
          by_number false false o f = omega (arith, ranked.within t)

  new_place : (t : Ty) (d : ℕ × List Ty) → in_set (out-Ty t) ≡ Some d → n ≤ d.0 → d.0 < m → place t ≡ most_bases p + (d.0 - n)
  new_place t d e low high =
      ap (λ (o : Option (ℕ × List Ty)). placed o (ranked.rank t)) e
      ∙ ap (λ (b : Bool). if b then ranked.rank t else if nat_lt d.0 m then most_bases p + (d.0 - n) else ranked.rank t) (lt_false d.0 n low)
      ∙ ap (λ (b : Bool). if b then most_bases p + (d.0 - n) else ranked.rank t) (lt_true d.0 m high)

  past_place : (t : Ty) (d : ℕ × List Ty) → in_set (out-Ty t) ≡ Some d → n ≤ d.0 → m ≤ d.0 → place t ≡ ranked.rank t
  past_place t d e low high =
      ap (λ (o : Option (ℕ × List Ty)). placed o (ranked.rank t)) e
      ∙ ap (λ (b : Bool). if b then ranked.rank t else if nat_lt d.0 m then most_bases p + (d.0 - n) else ranked.rank t) (lt_false d.0 n low)
      ∙ ap (λ (b : Bool). if b then most_bases p + (d.0 - n) else ranked.rank t) (lt_false d.0 m high)

  -- ---- what stands above a type

  base_is : (r : Program) (t : Ty) (d : ℕ × List Ty) → in_set (out-Ty t) ≡ Some d → base_of r t ≡ Some (maybe object_ty (under d.1 []) (type_of r d.0).base)
  unfolding base_of
  base_is r t d e = ap (λ (o : Option (ℕ × List Ty)). base_from r o (out-Ty t)) e

  base_apart : (t : Ty) → in_set (out-Ty t) ≡ None → base_of p t ≡ base_of q t
  unfolding base_of
  base_apart t e = ap (λ (o : Option (ℕ × List Ty)). base_from p o (out-Ty t)) e ∙ sym (ap (λ (o : Option (ℕ × List Ty)). base_from q o (out-Ty t)) e)

  falls_old : (t u : Ty) → is_below n t ≡ true → base_of p t ≡ Some u → place u < place t
  falls_old t u h e = omega (arith, ranked.base t u e, old_place t h, old_place u (closed.base t u h e))

  apart_below : (k : ℕ) (t : Ty) → in_set (out-Ty t) ≡ None → is_below k t ≡ true
  apart_below k t e = ap (maybe true (λ (d : ℕ × List Ty). nat_lt d.0 k)) e

  number_below : (t : Ty) (d : ℕ × List Ty) → in_set (out-Ty t) ≡ Some d → d.0 < n → is_below n t ≡ true
  number_below t d e h = ap (maybe true (λ (d : ℕ × List Ty). nat_lt d.0 n)) e ∙ lt_true d.0 n h

  weaker : (k : ℕ) (t : Ty) → is_below 0 t ≡ true → is_below k t ≡ true
  weaker k t h = go (in_set (out-Ty t)) h
    where
      go : (o : Option (ℕ × List Ty)) → maybe true (λ (d : ℕ × List Ty). nat_lt d.0 0) o ≡ true → maybe true (λ (d : ℕ × List Ty). nat_lt d.0 k) o ≡ true
      go None e = refl
      go (Some d) e = absurd (let wrong : d.0 < 0 = lt_from d.0 0 e in omega (arith, wrong))

  falls : (t u : Ty) → base_of q t ≡ Some u → place u < place t
  falls t u e = go (in_set (out-Ty t)) refl
    where
      go : (o : Option (ℕ × List Ty)) → in_set (out-Ty t) ≡ o → place u < place t
      go None f = falls_old t u (apart_below n t f) (base_apart t f ∙ e)
      go (Some d) f = by_number (cases_lt d.0 n) (cases_lt d.0 m)
        where
          above : maybe object_ty (under d.1 []) (type_of q d.0).base ≡ u
          above = same_some (maybe object_ty (under d.1 []) (type_of q d.0).base) u (sym (base_is q t d f) ∙ e)

          by_number : (d.0 < n) ⊎ (n ≤ d.0) → (d.0 < m) ⊎ (m ≤ d.0) → place u < place t
          by_number (inl l) o = falls_old t u (number_below t d f l) (base_is p t d f ∙ ap (λ (b : Option Ty). Some (maybe object_ty (under d.1 []) b)) (sym (kept.types d.0 l).base) ∙ sym (base_is q t d f) ∙ e)
          by_number (inr l) (inl h) =
              let low : is_below d.0 u ≡ true = ap (is_below d.0) (sym above) ∙ above_below d.0 d.1 (type_of q d.0).base (λ v g. below d.0 v l h g) in
              omega (arith, low_place d.0 u l low, new_place t d f l h)
          by_number (inr l) (inr h) =
              let old : type_of p d.0 ≡ contract_exception = past_all p.types d.0 contract_exception l in
              let new : type_of q d.0 ≡ contract_exception = past_all q.types d.0 contract_exception h in
              let same : base_of p t ≡ Some u = base_is p t d f ∙ ap (λ (x : TypeDesc). Some (maybe object_ty (under d.1 []) x.base)) (old ∙ sym new) ∙ sym (base_is q t d f) ∙ e in
              let none_of : is_below 0 u ≡ true = ap (is_below 0) (sym above) ∙ above_below 0 d.1 (type_of q d.0).base (λ v g. exception_base v (sym (ap (λ (x : TypeDesc). x.base) new) ∙ g)) in
              omega (arith, ranked.base t u same, past_place t d f l h, old_place u (weaker n u none_of))

  interfaces_are : (r : Program) (t : Ty) (d : ℕ × List Ty) → in_set (out-Ty t) ≡ Some d → interfaces_of r t ≡ all_under d.1 [] (type_of r d.0).interfaces
  unfolding interfaces_of
  interfaces_are r t d e = ap (interfaces_from r) e

  interfaces_apart : (t : Ty) → in_set (out-Ty t) ≡ None → interfaces_of q t ≡ []
  unfolding interfaces_of
  interfaces_apart t e = ap (interfaces_from q) e

  no_element : (u : Ty) → Contains [] u → ⊥
  no_element u c = absurd (omega (arith, c.1))

  interfaces_fall : (t u : Ty) → Contains (interfaces_of q t) u → place u < place t
  interfaces_fall t u c = go (in_set (out-Ty t)) refl
    where
      go : (o : Option (ℕ × List Ty)) → in_set (out-Ty t) ≡ o → place u < place t
      go None f = absurd (no_element u (subst (λ (l : List Ty). Contains l u) (interfaces_apart t f) c))
      go (Some d) f = by_number (cases_lt d.0 n)
        where
          by_number : (d.0 < n) ⊎ (n ≤ d.0) → place u < place t
          by_number (inl l) =
              let same : interfaces_of q t ≡ interfaces_of p t = interfaces_are q t d f ∙ ap (all_under d.1 []) (kept.types d.0 l).interfaces ∙ sym (interfaces_are p t d f) in
              let there : Contains (interfaces_of p t) u = subst (λ (l : List Ty). Contains l u) same c in
              let old : is_below n t ≡ true = number_below t d f l in
              let low : is_below n u ≡ true = each_has (λ (v : Ty). is_below n v ≡ true) (interfaces_of p t) u (closed.interfaces t old) there in
              omega (arith, ranked.interfaces t u there, old_place t old, old_place u low)
          by_number (inr l) = absurd (no_element u (subst (λ (l : List Ty). Contains l u) (interfaces_are q t d f ∙ ap (all_under d.1 []) (none d.0 l)) c))

  pub grown_ranked : Ranked q
  grown_ranked = record { rank = place; within = within; base = falls; interfaces = interfaces_fall }
