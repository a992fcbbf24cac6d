-- Values that are returned, and the last of some places.
use Rattle.std.proofs.Common.{◌≡◌, ◌∙◌, sym, ap, refl, arith, ℕ, zero, suc, ◌-◌, List, [], ◌∷◌, ◌++◌, length, reverse, take}
use Rattle.std.specs.Prelude.{Bool, true, false, Option, None, Some, option_map, slice_get}
use Rattle.std.proofs.lemmas.List.{reverse-append}
use Rattle.cil_model.specs.declared.ty.Ty.{Ty}
use Rattle.cil_model.specs.declared.value.Value.{Value}
use Rattle.cil_model.specs.declared.program.Program.{Program}
use Rattle.il_opcodes.specs.declared.class.Storage.{Storage}
use Rattle.il_opcodes.specs.declared.class.Storage.TheVariants.{Truncated, Long, NativeInt, Reference, Address, Fields, Opaque, Anything, Void}
use Rattle.cil_semantics.specs.Places.{is_void, stored_in}
use Rattle.cil_semantics.specs.Returns.{kept_as, last_cell}
use Rattle.cil_semantics.specs.declared.Cell.{Cell}
use Rattle.run_returns.specs.Left.{below_top, left_of}

pub nothing_kept : (p : Program) (t : Ty) (h : Storage) (vs : List Value) → is_void h ≡ true → Some None ≡ kept_as p t h vs
nothing_kept p t (Truncated n s) vs e = absurd cc
nothing_kept p t Long vs e = absurd cc
nothing_kept p t NativeInt vs e = absurd cc
nothing_kept p t Reference vs e = absurd cc
nothing_kept p t Address vs e = absurd cc
nothing_kept p t (Fields n) vs e = absurd cc
nothing_kept p t Opaque vs e = absurd cc
nothing_kept p t Anything vs e = absurd cc
nothing_kept p t Void vs e = refl

pub nothing_left : (h : Storage) (vs : List Value) → is_void h ≡ true → vs ≡ left_of h vs
nothing_left (Truncated n s) vs e = absurd cc
nothing_left Long vs e = absurd cc
nothing_left NativeInt vs e = absurd cc
nothing_left Reference vs e = absurd cc
nothing_left Address vs e = absurd cc
nothing_left (Fields n) vs e = absurd cc
nothing_left Opaque vs e = absurd cc
nothing_left Anything vs e = absurd cc
nothing_left Void vs e = refl

pub none_there : (p : Program) (t : Ty) (h : Storage) (vs : List Value) → is_void h ≡ false → vs ≡ [] → None ≡ kept_as p t h vs
none_there p t (Truncated n s) vs e i = sym (ap (kept_as p t (Truncated n s)) i)
none_there p t Long vs e i = sym (ap (kept_as p t Long) i)
none_there p t NativeInt vs e i = sym (ap (kept_as p t NativeInt) i)
none_there p t Reference vs e i = sym (ap (kept_as p t Reference) i)
none_there p t Address vs e i = sym (ap (kept_as p t Address) i)
none_there p t (Fields n) vs e i = sym (ap (kept_as p t (Fields n)) i)
none_there p t Opaque vs e i = sym (ap (kept_as p t Opaque) i)
none_there p t Anything vs e i = sym (ap (kept_as p t Anything) i)
none_there p t Void vs e i = absurd cc

pub none_left : (h : Storage) (vs ws : List Value) → is_void h ≡ false → vs ≡ [] → ws ≡ [] → ws ≡ left_of h vs
none_left (Truncated n s) vs ws e i j = j ∙ sym (ap below_top i)
none_left Long vs ws e i j = j ∙ sym (ap below_top i)
none_left NativeInt vs ws e i j = j ∙ sym (ap below_top i)
none_left Reference vs ws e i j = j ∙ sym (ap below_top i)
none_left Address vs ws e i j = j ∙ sym (ap below_top i)
none_left (Fields n) vs ws e i j = j ∙ sym (ap below_top i)
none_left Opaque vs ws e i j = j ∙ sym (ap below_top i)
none_left Anything vs ws e i j = j ∙ sym (ap below_top i)
none_left Void vs ws e i j = absurd cc

pub top_left : (h : Storage) (v : Value) (vs ws : List Value) → is_void h ≡ false → vs ≡ v ∷ ws → ws ≡ left_of h vs
top_left (Truncated n s) v vs ws e i = sym (ap below_top i)
top_left Long v vs ws e i = sym (ap below_top i)
top_left NativeInt v vs ws e i = sym (ap below_top i)
top_left Reference v vs ws e i = sym (ap below_top i)
top_left Address v vs ws e i = sym (ap below_top i)
top_left (Fields n) v vs ws e i = sym (ap below_top i)
top_left Opaque v vs ws e i = sym (ap below_top i)
top_left Anything v vs ws e i = sym (ap below_top i)
top_left Void v vs ws e i = absurd cc

pub none_stored : (p : Program) (t : Ty) (h : Storage) (v : Value) (vs ws : List Value) → is_void h ≡ false → vs ≡ v ∷ ws → None ≡ stored_in p t v → None ≡ kept_as p t h vs
none_stored p t (Truncated n s) v vs ws e i k = ap (option_map Some) k ∙ sym (ap (kept_as p t (Truncated n s)) i)
none_stored p t Long v vs ws e i k = ap (option_map Some) k ∙ sym (ap (kept_as p t Long) i)
none_stored p t NativeInt v vs ws e i k = ap (option_map Some) k ∙ sym (ap (kept_as p t NativeInt) i)
none_stored p t Reference v vs ws e i k = ap (option_map Some) k ∙ sym (ap (kept_as p t Reference) i)
none_stored p t Address v vs ws e i k = ap (option_map Some) k ∙ sym (ap (kept_as p t Address) i)
none_stored p t (Fields n) v vs ws e i k = ap (option_map Some) k ∙ sym (ap (kept_as p t (Fields n)) i)
none_stored p t Opaque v vs ws e i k = ap (option_map Some) k ∙ sym (ap (kept_as p t Opaque) i)
none_stored p t Anything v vs ws e i k = ap (option_map Some) k ∙ sym (ap (kept_as p t Anything) i)
none_stored p t Void v vs ws e i k = absurd cc

pub some_stored : (p : Program) (t : Ty) (h : Storage) (v w : Value) (vs ws : List Value) → is_void h ≡ false → vs ≡ v ∷ ws → Some w ≡ stored_in p t v → Some (Some w) ≡ kept_as p t h vs
some_stored p t (Truncated n s) v w vs ws e i k = ap (option_map Some) k ∙ sym (ap (kept_as p t (Truncated n s)) i)
some_stored p t Long v w vs ws e i k = ap (option_map Some) k ∙ sym (ap (kept_as p t Long) i)
some_stored p t NativeInt v w vs ws e i k = ap (option_map Some) k ∙ sym (ap (kept_as p t NativeInt) i)
some_stored p t Reference v w vs ws e i k = ap (option_map Some) k ∙ sym (ap (kept_as p t Reference) i)
some_stored p t Address v w vs ws e i k = ap (option_map Some) k ∙ sym (ap (kept_as p t Address) i)
some_stored p t (Fields n) v w vs ws e i k = ap (option_map Some) k ∙ sym (ap (kept_as p t (Fields n)) i)
some_stored p t Opaque v w vs ws e i k = ap (option_map Some) k ∙ sym (ap (kept_as p t Opaque) i)
some_stored p t Anything v w vs ws e i k = ap (option_map Some) k ∙ sym (ap (kept_as p t Anything) i)
some_stored p t Void v w vs ws e i k = absurd cc

-- ---- the last of some places

ends_in : (cs : List Cell) (n : ℕ) (c : Cell) → length cs ≡ suc n → slice_get cs n ≡ Some c → cs ≡ take n cs ++ c ∷ []
ends_in [] n c e h = absurd cc
ends_in (d ∷ []) zero c e h = let q : d ≡ c = cc in ap (λ (x : Cell). x ∷ []) q
ends_in (d ∷ []) (suc n) c e h = absurd cc
ends_in (d ∷ x ∷ xs) zero c e h = absurd cc
ends_in (d ∷ x ∷ xs) (suc n) c e h = let l : length (x ∷ xs) ≡ suc n = omega arith in ap (λ (r : List Cell). d ∷ r) (ends_in (x ∷ xs) n c l h)

last_behind : (cs : List Cell) (c : Cell) → last_cell (cs ++ c ∷ []) ≡ Some c.value
last_behind cs c = by_list (reverse (cs ++ c ∷ [])) refl (reverse-append cs (c ∷ []))
  where
    by_list : (ys : List Cell) → reverse (cs ++ c ∷ []) ≡ ys → reverse (cs ++ c ∷ []) ≡ c ∷ reverse cs → last_cell (cs ++ c ∷ []) ≡ Some c.value
    by_list [] e h = absurd cc
    by_list (y ∷ ys) e h = let q : y ≡ c = cc in rw e (ap (λ (z : Cell). Some z.value) q)

pub last_is : (cs : List Cell) (n : ℕ) (c : Cell) → length cs ≡ suc n → slice_get cs n ≡ Some c → Some c.value ≡ last_cell cs
last_is cs n c e h = sym (ap last_cell (ends_in cs n c e h) ∙ last_behind (take n cs) c)

pub none_last : (cs : List Cell) → length cs ≡ 0 → None ≡ last_cell cs
none_last [] e = refl
none_last (c ∷ cs) e = absurd cc
