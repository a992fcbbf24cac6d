-- The first row of a key is the first member of a type with its name and signature.
use Rattle.std.proofs.Common.{◌≡◌, ◌∙◌, sym, ap, subst, refl, arith, ℕ, zero, suc, ◌+◌, ◌-◌, ◌≤◌, ◌<◌, List, [], ◌∷◌, ◌++◌, Bool, true, false}
use Rattle.std.specs.Prelude.{cond, map, find, ◌&&◌, ◌==◌, Option, Some, None, Result, Ok, Err, IfOk}
use Rattle.std.specs.List.{range_with_len}
use Rattle.std.proofs.lemmas.List.FromFn.{map-range_with_len_more, get_or-map-range_with_len, length-map-range_with_len}
use Rattle.set_rows.specs.Sets.{Assembly, count_in, rows_in, text, blob}
use Rattle.set_names.specs.Names.{is_name}
use Rattle.set_names.specs.Names.{is_under, first_under}
use Rattle.set_types.specs.SignatureTypes.{Coded}
use Rattle.set_names.specs.Names.{Noted, number_under}
use Rattle.members.proofs.ListLaws.{fun_same}
use Rattle.set_signatures.specs.declared.shape.Shape.{Shape}
use Rattle.set_signatures.specs.Shapes.{is_same, shape_of}
use Rattle.members.specs.Keys.{member_key}
use Rattle.members.specs.MemberRows.{member_table, name_column, signature_column, row_shape, row_owner, is_owner, passes, key_of, row_key, declared}
use Rattle.members.proofs.KeyLaws.{key_same}

pub one_more : {A : Type 0} (f : ℕ → A) (k : ℕ) (xs xs' : List A) (x : A) → xs' ≡ xs ++ x ∷ [] → x ≡ f (k + 1) → xs ≡ map f (range_with_len 1 k) → xs' ≡ map f (range_with_len 1 (k + 1))
one_more {A} f k xs xs' x e n h =
    e ∙ ap (λ (l : List A). l ++ x ∷ []) h ∙ ap (λ (o : A). map f (range_with_len 1 k) ++ o ∷ []) n
    ∙ sym (map-range_with_len_more f 1 k (k + 1) (omega arith))

find_on : (f g : ℕ → Bool) (a n : ℕ) → ((r : ℕ) → a ≤ r → r < a + n → f r ≡ g r) → find f (range_with_len a n) ≡ find g (range_with_len a n)
find_on f g a zero h = refl
find_on f g a (suc n) h =
    ap (λ (b : Bool). cond b (Some a) (find f (range_with_len (a + 1) n))) (h a (omega arith) (omega arith))
    ∙ ap (cond (g a) (Some a)) (find_on f g (a + 1) n (λ r low high. h r (omega (arith, low)) (omega (arith, high))))

-- the first row of a key is found by the keys of all rows
pub first_found : (f : ℕ → Option (List ℕ)) (count : ℕ) (key : List ℕ) → first_under (map f (range_with_len 1 count)) key ≡ find (λ row. is_name key (f row)) (range_with_len 1 count)
first_found f count key =
    ap (λ (n : ℕ). find (is_under (map f (range_with_len 1 count)) key) (range_with_len 1 n)) (length-map-range_with_len f 1 count)
    ∙ find_on (is_under (map f (range_with_len 1 count)) key) (λ row. is_name key (f row)) 1 count
    (λ r low high. ap (is_name key) (get_or-map-range_with_len f 1 count (r - 1) r None (omega (arith, low, high)) (omega (arith, low))))

and_false : (b : Bool) → false ≡ (b && false)
and_false true = refl
and_false false = refl

-- a key is that of a row just where the type and the member are
same_test : (row : ℕ) (x : Shape) (o : Option ℕ) (y : Option Shape) → is_name (member_key row x) (key_of o y) ≡ (is_owner row o && passes (is_same x) y)
same_test row x None y = refl
same_test row x (Some o) None = and_false (row == o)
same_test row x (Some o) (Some y) = key_same row o x y

pub declared_found : (x : Assembly) (c : Coded) (is_field : Bool) (keys : List (Option (List ℕ))) (row : ℕ) (y : Shape) → keys ≡ map (row_key x c is_field) (rows_in x (member_table is_field))
    → first_under keys (member_key row y) ≡ declared x c [] (is_same y) is_field row
unfolding declared
declared_found x c is_field keys row y e =
    ap (λ (l : List (Option (List ℕ))). first_under l (member_key row y)) e
    ∙ first_found (row_key x c is_field) (count_in x (member_table is_field)) (member_key row y)
    ∙ ap (λ (g : ℕ → Bool). find g (rows_in x (member_table is_field)))
    (fun_same (λ k. is_name (member_key row y) (row_key x c is_field k)) (λ k. is_owner row (row_owner x is_field k) && passes (is_same y) (row_shape x c [] is_field k))
    (λ k. same_test row y (row_owner x is_field k) (row_shape x c [] is_field k)))

pub found_by_key : {E : Type 0} (x : Assembly) (c : Coded) (is_field : Bool) (keys : List (Option (List ℕ))) (result : Result Noted E) → keys ≡ map (row_key x c is_field) (rows_in x (member_table is_field))
    → IfOk result (λ found. (key : List ℕ) → number_under found key ≡ first_under keys key) → IfOk result (λ found. (row : ℕ) (y : Shape) → number_under found (member_key row y) ≡ declared x c [] (is_same y) is_field row)
found_by_key x c is_field keys (Ok found) e h = λ row y. h (member_key row y) ∙ declared_found x c is_field keys row y e
found_by_key x c is_field keys (Err e) f h = tt

pub shape_is : {E : Type 0} (x : Assembly) (c : Coded) (args : List (List ℕ)) (is_field : Bool) (k table column other : ℕ) (name bytes : List ℕ) (result : Result (Option Shape) E)
    → table ≡ member_table is_field → column ≡ name_column is_field → other ≡ signature_column is_field → name ≡ text x table k column → bytes ≡ blob x table k other
    → IfOk result (λ o. o ≡ shape_of c args name bytes) → IfOk result (λ o. o ≡ row_shape x c args is_field k)
unfolding row_shape
shape_is x c args is_field k table column other name bytes result t n m e f h =
    let named : name ≡ text x (member_table is_field) k (name_column is_field) = e ∙ ap (λ (a : ℕ). text x a k column) t ∙ ap (text x (member_table is_field) k) n in
    let read : bytes ≡ blob x (member_table is_field) k (signature_column is_field) = f ∙ ap (λ (a : ℕ). blob x a k other) t ∙ ap (blob x (member_table is_field) k) m in
    subst (λ (o : Option Shape). IfOk result (λ (y : Option Shape). y ≡ o)) (ap (λ (l : List ℕ). shape_of c args l bytes) named ∙ ap (shape_of c args (text x (member_table is_field) k (name_column is_field))) read) h
