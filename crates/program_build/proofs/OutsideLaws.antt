-- The rows that name outside members first, and lists that are pushed one by one.
use Rattle.std.proofs.Common.{◌≡◌, ◌∙◌, ◌⊎◌, inl, inr, sym, ap, refl, arith, append_assoc, ℕ, zero, suc, ◌+◌, ◌≤◌, ◌<◌, List, [], ◌∷◌, ◌++◌, take, get_or, length, Bool, true, false}
use Rattle.std.specs.Prelude.{cond, find, map, flat_map, slice_get, Option, Some}
use Rattle.std.specs.List.{range_with_len}
use Rattle.std.proofs.lemmas.List.{length-map, map-append}
use Rattle.cil_base.specs.declared.tables.TheConstants.{MEMBER_REF}
use Rattle.set_names.specs.Names.{Name}
use Rattle.set_rows.specs.Sets.{Assemblies, count_in, or_empty}
use Rattle.set_program.specs.Numbering.{Cell, order}
use Rattle.members.specs.declared.outside_member.OutsideMember.{OutsideMember}
use Rattle.member_table.specs.Environments.{environment}
use Rattle.member_table.specs.Numbers.{references_in, reference_rows, names_member, outside_in, outside_row}

-- ---- the assembly of a row that is found

module _ (p : Cell → Bool) (c : Cell) where
  cells_of : (a from n : ℕ) → find p (map (λ (row : ℕ). (a, row)) (range_with_len from n)) ≡ Some c → c.0 ≡ a
  cells_of a from zero e = absurd cc
  cells_of a from (suc n) e = go (p (a, from)) (cells_of a (from + 1) n) e
    where
      go : (b : Bool) → (find p (map (λ (row : ℕ). (a, row)) (range_with_len (from + 1) n)) ≡ Some c → c.0 ≡ a)
          → cond b (Some (a, from)) (find p (map (λ (row : ℕ). (a, row)) (range_with_len (from + 1) n))) ≡ Some c → c.0 ≡ a
      go true rest f = let same : (a, from) ≡ c = cc in sym (ap (λ (d : Cell). d.0) same)
      go false rest f = rest f

  found_in : (xs ys : List Cell) → find p (xs ++ ys) ≡ Some c → (find p xs ≡ Some c) ⊎ (find p ys ≡ Some c)
  found_in [] ys e = inr e
  found_in (x ∷ xs) ys e = go (p x) (found_in xs ys) e
    where
      go : (b : Bool) → (find p (xs ++ ys) ≡ Some c → (find p xs ≡ Some c) ⊎ (find p ys ≡ Some c)) → cond b (Some x) (find p (xs ++ ys)) ≡ Some c
          → (cond b (Some x) (find p xs) ≡ Some c) ⊎ (find p ys ≡ Some c)
      go true rest f = inl f
      go false rest f = rest f

abbrev Below : ℕ → List ℕ → Type 0
Below n [] = Unit {0}
Below n (x ∷ xs) = (x < n) × Below n xs

range_below : (n from k : ℕ) → from + k ≤ n → Below n (range_with_len from k)
range_below n from zero h = tt
range_below n from (suc k) h = (omega (arith, h), range_below n (from + 1) k (omega (arith, h)))

with_one : (n x : ℕ) (xs : List ℕ) → x < n → Below n xs → Below n (xs ++ x ∷ [])
with_one n x [] low h = (low, tt)
with_one n x (y ∷ xs) low h = (h.0, with_one n x xs low h.1)

order_below : (s : Assemblies) → Below (length s) (order s)
order_below [] = tt
order_below (x ∷ xs) =
    let all : 1 + length xs ≤ suc (length xs) = omega arith in
    with_one (suc (length xs)) 0 (range_with_len 1 (length xs)) (omega arith) (range_below (suc (length xs)) 1 (length xs) all)

row_below : (s : Assemblies) (p : Cell → Bool) (c : Cell) (n : ℕ) (l : List ℕ) → Below n l → find p (flat_map (references_in (environment s)) l) ≡ Some c → c.0 < n
row_below s p c n [] h e = absurd cc
row_below s p c n (a ∷ l) h e = go (row_below s p c n l h.1) (found_in p c (references_in (environment s) a) (flat_map (references_in (environment s)) l) e)
  where
    go : (find p (flat_map (references_in (environment s)) l) ≡ Some c → c.0 < n) → (find p (references_in (environment s) a) ≡ Some c) ⊎ (find p (flat_map (references_in (environment s)) l) ≡ Some c) → c.0 < n
    go rest (inl f) = let same : c.0 ≡ a = cells_of p c a 1 (count_in ((environment s).assembly a) MEMBER_REF) f in omega (arith, same, h.0)
    go rest (inr f) = rest f

-- the row that names an outside member first is of the set
pub row_there : (s : Assemblies) (m : OutsideMember) (c : Cell) → Some c ≡ outside_row s m → c.0 < length s
unfolding outside_row reference_rows
row_there s m c e = row_below s (λ d. names_member m (outside_in (environment s) m.shape.is_field d)) c (length s) (order s) (order_below s) (sym e)

-- ---- lists beside one another

pub as_many : {A B : Type 0} (f : A → Option B) (xs : List A) (ys : List B) → map (λ y. Some y) ys ≡ map f xs → length ys ≡ length xs
as_many f xs ys e = sym (length-map ys (λ y. Some y)) ∙ ap length e ∙ length-map xs f

pub paired : {A B : Type 0} (f : A → Option B) (xs : List A) (ys : List B) (k : ℕ) (dx : A) (dy : B) → map (λ y. Some y) ys ≡ map f xs → k < length xs → Some (get_or ys k dy) ≡ f (get_or xs k dx)
paired f [] ys k dx dy e h = absurd (omega (arith, h))
paired f (x ∷ xs) [] k dx dy e h = absurd cc
paired f (x ∷ xs) (y ∷ ys) zero dx dy e h = let same : Some y ≡ f x = cc in same
paired f (x ∷ xs) (y ∷ ys) (suc k) dx dy e h = let rest : map (λ y. Some y) ys ≡ map f xs = cc in paired f xs ys k dx dy rest (omega (arith, h))

-- the row beside an outside member names it first
pub names_it : (s : Assemblies) (members all : List OutsideMember) (rows : List Cell) (k : ℕ) (m : OutsideMember) → members ≡ all → map (λ c. Some c) rows ≡ map (outside_row s) all → k < length members → m ≡ get_or members k m
    → Some (get_or rows k (0, 0)) ≡ outside_row s m
names_it s members all rows k m e h short is =
    let within : k < length all = omega (arith, short, ap length e) in
    paired (outside_row s) all rows k m (0, 0) h within ∙ ap (outside_row s) (sym (is ∙ ap (λ (l : List OutsideMember). get_or l k m) e))

-- the name at a place
pub name_at : (names : List Name) (k : ℕ) → or_empty (slice_get names k) ≡ get_or names k []
name_at [] k = refl
name_at (x ∷ names) zero = refl
name_at (x ∷ names) (suc k) = name_at names k

-- ---- pushed one by one

take_more : {A : Type 0} (l : List A) (k : ℕ) (d : A) → k < length l → take (suc k) l ≡ take k l ++ get_or l k d ∷ []
take_more [] k d h = absurd (omega (arith, h))
take_more (x ∷ l) zero d h = refl
take_more {A} (x ∷ l) (suc k) d h = ap (λ (m : List A). x ∷ m) (take_more l k d (omega (arith, h)))

pub take_all : {A : Type 0} (l : List A) (k : ℕ) → length l ≤ k → take k l ≡ l
take_all [] zero h = refl
take_all [] (suc k) h = refl
take_all (x ∷ l) zero h = absurd (omega (arith, h))
take_all {A} (x ∷ l) (suc k) h = ap (λ (m : List A). x ∷ m) (take_all l k (omega (arith, h)))

pub pushed_item : {A X : Type 0} (f : A → X) (l : List A) (k : ℕ) (d : A) (start older newer : List X) (t : X) → newer ≡ older ++ t ∷ [] → older ≡ start ++ map f (take k l) → k < length l → t ≡ f (get_or l k d) → newer ≡ start ++ map f (take (k + 1) l)
pushed_item {A} {X} f l k d start older newer t e h short g =
    let next : suc k ≡ k + 1 = omega arith in
    e ∙ ap (λ (m : List X). m ++ t ∷ []) h
    ∙ append_assoc start (map f (take k l)) (t ∷ [])
    ∙ ap (λ (y : X). start ++ (map f (take k l) ++ y ∷ [])) g
    ∙ ap (λ (m : List X). start ++ m) (sym (ap (map f) (take_more l k d short) ∙ map-append f (take k l) (get_or l k d ∷ [])))
    ∙ ap (λ (n : ℕ). start ++ map f (take n l)) next
