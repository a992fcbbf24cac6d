-- What is noted of initializers, at the place of a type's statics.
use Rattle.std.proofs.Common.{◌≡◌, ◌∙◌, sym, ap, refl, arith, ℕ, zero, suc, ◌+◌, ◌-◌, ◌<◌, List, [], ◌∷◌, ◌++◌, drop, get_or, length, take}
use Rattle.std.specs.Prelude.{Option, None, Some, map, slice_get, slice_set}
use Rattle.std.proofs.Math.Seq.{take-length}
use Rattle.std.proofs.lemmas.List.{length-drop}
use Rattle.cil_model.specs.declared.ty.Ty.{Ty}
use Rattle.cil_model.specs.declared.program.Program.{Program}
use Rattle.cil_semantics.specs.Places.{default_cells, static_layout}
use Rattle.cil_semantics.specs.declared.state.Init.TheVariants.{Begun}
use Rattle.cil_semantics.specs.Types.{same_ty}
use Rattle.cil_semantics.specs.Unwind.{set_statics}
use Rattle.cil_semantics.specs.Words.{maybe}
use Rattle.cil_semantics.specs.declared.Cell.{Cell}
use Rattle.cil_semantics.specs.declared.Statics.{Statics}
use Rattle.run_places.specs.Owners.{owner_place}
use Rattle.run_places.proofs.OwnerLaws.{no_owner, owner_found, owner_set, pushed_owner}
use Rattle.run_statics.specs.Noted.{begun}

abbrev defaults : Program → Ty → List Cell
defaults p t = default_cells p (map (λ (x : ℕ × Ty). x.1) (static_layout p t))

abbrev begun_with : Ty → List Cell → Statics
begun_with t cs = record { owner = t; init = Some Begun; cells = cs }

pub first_begun : (p : Program) (t : Ty) (ss : List Statics) → None ≡ owner_place t ss → ss ++ begun_with t (defaults p t) ∷ [] ≡ begun p t ss
first_begun p t ss e =
    sym (pushed_owner t ss (begun_with t (defaults p t)) e)
    ∙ ap (λ (o : Option Statics). set_statics (same_ty t) (begun_with t (maybe (defaults p t) (λ (s : Statics). s.cells) o)) ss) (sym (no_owner t ss e))

pub later_begun : (p : Program) (t : Ty) (ss : List Statics) (k : ℕ) (s : Statics) → Some k ≡ owner_place t ss → slice_get ss k ≡ Some s → slice_set ss k (begun_with t s.cells) ≡ begun p t ss
later_begun p t ss k s e i =
    sym (owner_set t ss k (begun_with t s.cells) e)
    ∙ ap (λ (o : Option Statics). set_statics (same_ty t) (begun_with t (maybe (defaults p t) (λ (s : Statics). s.cells) o)) ss) (sym (owner_found t ss k e ∙ i))

-- ---- one of a list put in another's place

put_at : (xs : List Statics) (k : ℕ) (y : Statics) → k < length xs → (take k xs ++ y ∷ []) ++ drop (suc k) xs ≡ slice_set xs k y
put_at [] k y h = absurd (omega arith)
put_at (x ∷ xs) zero y h = refl
put_at (x ∷ xs) (suc k) y h = ap (λ (l : List Statics). x ∷ l) (put_at xs k y (omega arith))

is_there : (xs : List Statics) (k : ℕ) (x s : Statics) → x ≡ get_or xs k x → slice_get xs k ≡ Some s → x ≡ s
is_there [] k x s i e = absurd cc
is_there (y ∷ ys) zero x s i e = cc
is_there (y ∷ ys) (suc k) x s i e = is_there ys k x s i e

pub begun_there : (list : List Statics) (k : ℕ) (t : Ty) (x s : Statics) (cs : List Cell) (a b c d : List Statics) → a ≡ [] → b ≡ a ++ take k list → c ≡ b ++ begun_with t cs ∷ [] → d ≡ c ++ take (length list - (k + 1)) (drop (k + 1) list) → cs ≡ (get_or list k x).cells → x ≡ get_or list k x → k < length list → slice_get list k ≡ Some s → d ≡ slice_set list k (begun_with t s.cells)
begun_there list k t x s cs a b c d none front middle back copy found within got =
    let after : k + 1 ≡ suc k = omega arith in
    back
    ∙ ap (λ (l : List Statics). c ++ l) (ap (λ (n : ℕ). take n (drop (k + 1) list)) (sym (length-drop (k + 1) list)) ∙ take-length (drop (k + 1) list))
    ∙ ap (λ (l : List Statics). l ++ drop (k + 1) list) (middle ∙ ap (λ (l : List Statics). l ++ begun_with t cs ∷ []) (front ∙ ap (λ (l : List Statics). l ++ take k list) none))
    ∙ ap (λ (n : ℕ). (take k list ++ begun_with t cs ∷ []) ++ drop n list) after
    ∙ put_at list k (begun_with t cs) within
    ∙ ap (λ (l : List Cell). slice_set list k (begun_with t l)) (copy ∙ ap (λ (z : Statics). z.cells) (sym found ∙ is_there list k x s found got))
