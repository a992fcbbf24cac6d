-- The statics of a closed type among those of all.
use Rattle.std.proofs.Common.{◌≡◌, ◌∙◌, sym, ap, refl, arith, ℕ, suc, ◌<◌, Bool, true, false, if◌then◌else◌, List, [], ◌∷◌, ◌++◌, length}
use Rattle.std.specs.Prelude.{Option, None, Some, map, option_map, slice_get, slice_set}
use Rattle.cil_model.specs.declared.ty.Ty.{Ty}
use Rattle.cil_model.specs.declared.program.Program.{Program}
use Rattle.cil_semantics.specs.Places.{default_cells, static_layout}
use Rattle.cil_semantics.specs.Types.{same_ty}
use Rattle.cil_semantics.specs.Words.{maybe}
use Rattle.cil_semantics.specs.declared.Cell.{Cell}
use Rattle.cil_semantics.specs.declared.Statics.{Statics}
use Rattle.cil_semantics.specs.Unwind.{find_statics, set_statics}
use Rattle.run_places.specs.Owners.{cells_of, owner_place, set_owner}
use Rattle.run_places.proofs.SameLaws.{turned}

-- there are none
pub no_owner : (t : Ty) (ss : List Statics) → None ≡ owner_place t ss → find_statics t ss ≡ None
no_owner t [] e = refl
no_owner t (x ∷ xs) e = cases (no_owner t xs) (same_ty x.owner t) e
  where
    behind : (None ≡ owner_place t xs → find_statics t xs ≡ None) → (o : Option ℕ) → owner_place t xs ≡ o → None ≡ option_map suc o → find_statics t xs ≡ None
    behind rec None k h = rec (sym k)
    behind rec (Some j) k h = absurd cc

    cases : (None ≡ owner_place t xs → find_statics t xs ≡ None) → (b : Bool) → None ≡ (if b then Some 0 else option_map suc (owner_place t xs)) → (if b then Some x else find_statics t xs) ≡ None
    cases rec true h = absurd cc
    cases rec false h = behind rec (owner_place t xs) refl h

pub pushed_owner : (t : Ty) (ss : List Statics) (s : Statics) → None ≡ owner_place t ss → set_statics (same_ty t) s ss ≡ ss ++ s ∷ []
pushed_owner t [] s e = refl
pushed_owner t (x ∷ xs) s e = ap (λ (b : Bool). if b then s ∷ xs else x ∷ set_statics (same_ty t) s xs) (turned t x.owner) ∙ cases (pushed_owner t xs s) (same_ty x.owner t) e
  where
    behind : (None ≡ owner_place t xs → set_statics (same_ty t) s xs ≡ xs ++ s ∷ []) → (o : Option ℕ) → owner_place t xs ≡ o → None ≡ option_map suc o → x ∷ set_statics (same_ty t) s xs ≡ x ∷ (xs ++ s ∷ [])
    behind rec None k h = ap (λ (r : List Statics). x ∷ r) (rec (sym k))
    behind rec (Some j) k h = absurd cc

    cases : (None ≡ owner_place t xs → set_statics (same_ty t) s xs ≡ xs ++ s ∷ []) → (b : Bool) → None ≡ (if b then Some 0 else option_map suc (owner_place t xs)) → (if b then s ∷ xs else x ∷ set_statics (same_ty t) s xs) ≡ x ∷ (xs ++ s ∷ [])
    cases rec true h = absurd cc
    cases rec false h = behind rec (owner_place t xs) refl h

-- there are some
pub owner_within : (t : Ty) (ss : List Statics) (k : ℕ) → Some k ≡ owner_place t ss → k < length ss
owner_within t [] k e = absurd cc
owner_within t (x ∷ xs) k e = cases (owner_within t xs) (same_ty x.owner t) e
  where
    behind : ((j : ℕ) → Some j ≡ owner_place t xs → j < length xs) → (o : Option ℕ) → owner_place t xs ≡ o → Some k ≡ option_map suc o → k < suc (length xs)
    behind rec None r h = absurd cc
    behind rec (Some j) r h = let q : k ≡ suc j = cc in let l : j < length xs = rec j (sym r) in omega arith

    cases : ((j : ℕ) → Some j ≡ owner_place t xs → j < length xs) → (b : Bool) → Some k ≡ (if b then Some 0 else option_map suc (owner_place t xs)) → k < suc (length xs)
    cases rec true h = let q : k ≡ 0 = cc in omega arith
    cases rec false h = behind rec (owner_place t xs) refl h

pub owner_found : (t : Ty) (ss : List Statics) (k : ℕ) → Some k ≡ owner_place t ss → find_statics t ss ≡ slice_get ss k
owner_found t [] k e = absurd cc
owner_found t (x ∷ xs) k e = cases (owner_found t xs) (same_ty x.owner t) e
  where
    behind : ((j : ℕ) → Some j ≡ owner_place t xs → find_statics t xs ≡ slice_get xs j) → (o : Option ℕ) → owner_place t xs ≡ o → Some k ≡ option_map suc o → find_statics t xs ≡ slice_get (x ∷ xs) k
    behind rec None r h = absurd cc
    behind rec (Some j) r h = let q : suc j ≡ k = cc in rec j (sym r) ∙ ap (slice_get (x ∷ xs)) q

    cases : ((j : ℕ) → Some j ≡ owner_place t xs → find_statics t xs ≡ slice_get xs j) → (b : Bool) → Some k ≡ (if b then Some 0 else option_map suc (owner_place t xs)) → (if b then Some x else find_statics t xs) ≡ slice_get (x ∷ xs) k
    cases rec true h = let q : 0 ≡ k = cc in ap (slice_get (x ∷ xs)) q
    cases rec false h = behind rec (owner_place t xs) refl h

pub owner_set : (t : Ty) (ss : List Statics) (k : ℕ) (s : Statics) → Some k ≡ owner_place t ss → set_statics (same_ty t) s ss ≡ slice_set ss k s
owner_set t [] k s e = absurd cc
owner_set t (x ∷ xs) k s e = ap (λ (b : Bool). if b then s ∷ xs else x ∷ set_statics (same_ty t) s xs) (turned t x.owner) ∙ cases (λ j. owner_set t xs j s) (same_ty x.owner t) e
  where
    behind : ((j : ℕ) → Some j ≡ owner_place t xs → set_statics (same_ty t) s xs ≡ slice_set xs j s) → (o : Option ℕ) → owner_place t xs ≡ o → Some k ≡ option_map suc o → x ∷ set_statics (same_ty t) s xs ≡ slice_set (x ∷ xs) k s
    behind rec None r h = absurd cc
    behind rec (Some j) r h = let q : suc j ≡ k = cc in ap (λ (l : List Statics). x ∷ l) (rec j (sym r)) ∙ ap (λ (n : ℕ). slice_set (x ∷ xs) n s) q

    cases : ((j : ℕ) → Some j ≡ owner_place t xs → set_statics (same_ty t) s xs ≡ slice_set xs j s) → (b : Bool) → Some k ≡ (if b then Some 0 else option_map suc (owner_place t xs)) → (if b then s ∷ xs else x ∷ set_statics (same_ty t) s xs) ≡ slice_set (x ∷ xs) k s
    cases rec true h = let q : 0 ≡ k = cc in ap (λ (n : ℕ). slice_set (x ∷ xs) n s) q
    cases rec false h = behind rec (owner_place t xs) refl h

pub owner_there : {P : Type 0} (t : Ty) (ss : List Statics) (k : ℕ) → Some k ≡ owner_place t ss → ((s : Statics) → slice_get ss k ≡ Some s → P) → P
owner_there t [] k e go = absurd cc
owner_there {P} t (x ∷ xs) k e go = cases (λ j. owner_there t xs j) (same_ty x.owner t) e
  where
    behind : ((j : ℕ) → Some j ≡ owner_place t xs → ((s : Statics) → slice_get xs j ≡ Some s → P) → P) → (o : Option ℕ) → owner_place t xs ≡ o → Some k ≡ option_map suc o → P
    behind rec None r h = absurd cc
    behind rec (Some j) r h = let q : k ≡ suc j = cc in rec j (sym r) (λ s i. go s (ap (slice_get (x ∷ xs)) q ∙ i))

    cases : ((j : ℕ) → Some j ≡ owner_place t xs → ((s : Statics) → slice_get xs j ≡ Some s → P) → P) → (b : Bool) → Some k ≡ (if b then Some 0 else option_map suc (owner_place t xs)) → P
    cases rec true h = let q : k ≡ 0 = cc in go x (ap (slice_get (x ∷ xs)) q)
    cases rec false h = behind rec (owner_place t xs) refl h

-- ---- a store among the statics

mapped : {X Y : Type 0} (f g : X → Y) (o : Option X) → ((x : X) → f x ≡ g x) → option_map f o ≡ option_map g o
mapped f g None h = refl
mapped f g (Some x) h = ap Some (h x)

abbrev defaults : Program → Ty → List Cell
defaults p t = default_cells p (map (λ (x : ℕ × Ty). x.1) (static_layout p t))

abbrev stored_for : Ty → List Statics → List Cell → Option Statics → List Statics
stored_for t ss cs o = set_statics (same_ty t) (maybe (record { owner = t; init = None; cells = cs }) (λ (s : Statics). record s { cells = cs }) o) ss

-- the first store for a type
pub first_store : (p : Program) (t : Ty) (ss : List Statics) (set_cells : List Cell → Option (List Cell)) → None ≡ owner_place t ss → option_map (λ cs. ss ++ record { owner = t; init = None; cells = cs } ∷ []) (set_cells (defaults p t)) ≡ option_map (set_owner t ss) (set_cells (cells_of p t ss))
first_store p t ss set_cells e =
    let none : find_statics t ss ≡ None = no_owner t ss e in
    mapped (λ cs. ss ++ record { owner = t; init = None; cells = cs } ∷ []) (set_owner t ss) (set_cells (defaults p t)) (λ cs. sym (ap (stored_for t ss cs) none ∙ pushed_owner t ss (record { owner = t; init = None; cells = cs }) e))
    ∙ ap (λ (o : Option Statics). option_map (set_owner t ss) (set_cells (maybe (defaults p t) (λ (s : Statics). s.cells) o))) (sym none)

-- a later one
pub later_store : (p : Program) (t : Ty) (ss : List Statics) (k : ℕ) (s : Statics) (set_cells : List Cell → Option (List Cell)) → Some k ≡ owner_place t ss → slice_get ss k ≡ Some s → option_map (λ cs. slice_set ss k (record s { cells = cs })) (set_cells s.cells) ≡ option_map (set_owner t ss) (set_cells (cells_of p t ss))
later_store p t ss k s set_cells e i =
    let some : find_statics t ss ≡ Some s = owner_found t ss k e ∙ i in
    mapped (λ cs. slice_set ss k (record s { cells = cs })) (set_owner t ss) (set_cells s.cells) (λ cs. sym (ap (stored_for t ss cs) some ∙ owner_set t ss k (record s { cells = cs }) e))
    ∙ ap (λ (o : Option Statics). option_map (set_owner t ss) (set_cells (maybe (defaults p t) (λ (s : Statics). s.cells) o))) (sym some)
