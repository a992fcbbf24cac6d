-- Lists over the rows of a set in the order of the numbers, by the parts that are pushed.
use Rattle.std.proofs.Common.{◌≡◌, ◌∙◌, sym, ap, refl, arith, append_assoc, ℕ, suc, ◌+◌, ◌-◌, ◌≤◌, ◌<◌, List, [], ◌∷◌, ◌++◌, length, get_or}
use Rattle.std.specs.Prelude.{map, flat_map}
use Rattle.std.specs.List.{range_with_len}
use Rattle.std.proofs.lemmas.List.{map-append, append-nil, get_or_default}
use Rattle.std.proofs.lemmas.List.FromFn.{map-range_with_len_more}
use Rattle.std.proofs.lemmas.Grind.{flat_map-append}
use Rattle.std.proofs.lemmas.Simd.{map-map}
use Rattle.set_program.proofs.NumberLaws.{range_split}
use Rattle.set_rows.specs.Sets.{Assembly, Assemblies, no_assembly, assembly_at, count_in}
use Rattle.set_program.specs.Numbering.{Cell, cut, rows_between, old_rows, new_rows}
use Rattle.program_build.specs.Orders.{of_assembly, of_others, before_class, from_class, in_order}

module _ {X : Type 0} (s : Assemblies) (table : ℕ) (g : Cell → X) where
  abbrev at : ℕ → ℕ → X
  at a row = g (a, row)

  between : (a from to : ℕ) → map g (rows_between a from to) ≡ map (at a) (range_with_len from (to - from))
  between a from to = map-map g (λ (row : ℕ). (a, row)) (range_with_len from (to - from))

  whole : (a : ℕ) → map g (rows_between a 1 (count_in (assembly_at s a) table + 1)) ≡ of_assembly s table at a
  whole a =
      let all : count_in (assembly_at s a) table + 1 - 1 ≡ count_in (assembly_at s a) table = omega arith in
      between a 1 (count_in (assembly_at s a) table + 1) ∙ ap (λ (n : ℕ). map (at a) (range_with_len 1 n)) all

  others : (l : List ℕ) → map g (flat_map (λ a. rows_between a 1 (count_in (assembly_at s a) table + 1)) l) ≡ flat_map (of_assembly s table at) l
  others [] = refl
  others (a ∷ l) =
      map-append g (rows_between a 1 (count_in (assembly_at s a) table + 1)) (flat_map (λ b. rows_between b 1 (count_in (assembly_at s b) table + 1)) l)
      ∙ ap (λ (xs : List X). xs ++ map g (flat_map (λ b. rows_between b 1 (count_in (assembly_at s b) table + 1)) l)) (whole a)
      ∙ ap (λ (xs : List X). of_assembly s table at a ++ xs) (others l)

-- of the rows before the runtime class
old_in_order : {X : Type 0} (s : Assemblies) (table : ℕ) (g : Cell → X) → 0 < length s
    → map g (old_rows s table) ≡ of_others s table (λ a row. g (a, row)) (length s - 1) ++ before_class s table (λ a row. g (a, row))
old_in_order [] table g some = absurd (omega (arith, some))
old_in_order {X} (x ∷ xs) table g some =
    let many : length xs ≡ suc (length xs) - 1 = omega arith in
    map-append g (flat_map (λ a. rows_between a 1 (count_in (assembly_at (x ∷ xs) a) table + 1)) (range_with_len 1 (length xs))) (rows_between 0 1 (cut x table))
    ∙ ap (λ (l : List X). l ++ map g (rows_between 0 1 (cut x table))) (others (x ∷ xs) table g (range_with_len 1 (length xs)))
    ∙ ap (λ (l : List X). of_others (x ∷ xs) table (λ a row. g (a, row)) (length xs) ++ l) (between (x ∷ xs) table g 0 1 (cut x table))
    ∙ ap (λ (n : ℕ). of_others (x ∷ xs) table (λ a row. g (a, row)) n ++ before_class (x ∷ xs) table (λ a row. g (a, row))) many

new_in_order : {X : Type 0} (s : Assemblies) (table : ℕ) (g : Cell → X) → map g (new_rows s table) ≡ from_class s table (λ a row. g (a, row))
new_in_order s table g = between s table g 0 (cut (assembly_at s 0) table) (count_in (assembly_at s 0) table + 1)

-- Of things named by rows, and of things outside.
pub all_in_order : {I O X : Type 0} (s : Assemblies) (table : ℕ) (by_row : Cell → I) (by_outside : O → I) (d : I → X) (outside : List O) → 0 < length s
    → in_order s table (λ a row. d (by_row (a, row))) (map (λ o. d (by_outside o)) outside)
    ≡ map d (map by_row (old_rows s table) ++ (map by_outside outside ++ map by_row (new_rows s table)))
all_in_order {I} {O} {X} s table by_row by_outside d outside some = sym (
    map-append d (map by_row (old_rows s table)) (map by_outside outside ++ map by_row (new_rows s table))
    ∙ ap (λ (l : List X). l ++ map d (map by_outside outside ++ map by_row (new_rows s table))) (map-map d by_row (old_rows s table) ∙ old_in_order s table (λ c. d (by_row c)) some)
    ∙ ap (λ (l : List X). (of_others s table (λ a row. d (by_row (a, row))) (length s - 1) ++ before_class s table (λ a row. d (by_row (a, row)))) ++ l)
    (map-append d (map by_outside outside) (map by_row (new_rows s table))
    ∙ ap (λ (l : List X). l ++ map d (map by_row (new_rows s table))) (map-map d by_outside outside)
    ∙ ap (λ (l : List X). map (λ o. d (by_outside o)) outside ++ l) (map-map d by_row (new_rows s table) ∙ new_in_order s table (λ c. d (by_row c)))))

-- ---- what is pushed

-- an assembly by its number
pub at_index : (s t : Assemblies) (k : ℕ) (x : Assembly) → t ≡ s → k < length s → x ≡ get_or t k x → x ≡ assembly_at s k
at_index s t k x e short is = is ∙ ap (λ (l : Assemblies). get_or l k x) e ∙ sym (get_or_default s k no_assembly x short)

-- in parts: o rows of TARGET before its runtime class, and n behind
pub in_parts : {X : Type 0} (s : Assemblies) (table : ℕ) (item : ℕ → ℕ → X) (outside first second third all : List X) (o n : ℕ)
    → 1 ≤ cut (assembly_at s 0) table → o ≡ cut (assembly_at s 0) table - 1 → n ≡ count_in (assembly_at s 0) table - o
    → first ≡ [] ++ of_others s table item (length s - 1) → second ≡ first ++ map (item 0) (range_with_len (0 + 1) o) → third ≡ second ++ outside → all ≡ third ++ map (item 0) (range_with_len (o + 1) n)
    → all ≡ in_order s table item outside
in_parts {X} s table item outside first second third all o n low e f h1 h2 h3 h4 =
    let start : o + 1 ≡ cut (assembly_at s 0) table = omega (arith, low, e) in
    let count : n ≡ count_in (assembly_at s 0) table + 1 - cut (assembly_at s 0) table = omega (arith, low, e, f) in
    let others : List X = of_others s table item (length s - 1) in
    h4
    ∙ ap (λ (k : ℕ). third ++ map (item 0) (range_with_len k n)) start
    ∙ ap (λ (k : ℕ). third ++ map (item 0) (range_with_len (cut (assembly_at s 0) table) k)) count
    ∙ ap (λ (l : List X). l ++ from_class s table item) (
    h3
    ∙ ap (λ (l : List X). l ++ outside) (
    h2
    ∙ ap (λ (k : ℕ). first ++ map (item 0) (range_with_len (0 + 1) k)) e
    ∙ ap (λ (l : List X). l ++ before_class s table item) h1))
    ∙ append_assoc (others ++ before_class s table item) outside (from_class s table item)

pub pushed_row : {X : Type 0} (f : ℕ → X) (from k row : ℕ) (start older newer : List X) (t : X) → newer ≡ older ++ t ∷ [] → older ≡ start ++ map f (range_with_len from k) → row ≡ from + k → t ≡ f row → newer ≡ start ++ map f (range_with_len from (k + 1))
pushed_row {X} f from k row start older newer t e h r g =
    e ∙ ap (λ (l : List X). l ++ t ∷ []) h
    ∙ append_assoc start (map f (range_with_len from k)) (t ∷ [])
    ∙ ap (λ (y : X). start ++ (map f (range_with_len from k) ++ y ∷ [])) (g ∙ ap f r)
    ∙ ap (λ (l : List X). start ++ l) (sym (map-range_with_len_more f from k (from + k) refl))

pub pushed_rows : {X : Type 0} (f : ℕ → List X) (k : ℕ) (start older newer : List X) → newer ≡ older ++ f (k + 1) → older ≡ start ++ flat_map f (range_with_len 1 k) → newer ≡ start ++ flat_map f (range_with_len 1 (k + 1))
pushed_rows {X} f k start older newer e h =
    let next : k + 1 ≡ 1 + k = omega arith in
    e ∙ ap (λ (l : List X). l ++ f (k + 1)) h
    ∙ append_assoc start (flat_map f (range_with_len 1 k)) (f (k + 1))
    ∙ ap (λ (a : ℕ). start ++ (flat_map f (range_with_len 1 k) ++ f a)) next
    ∙ ap (λ (l : List X). start ++ (flat_map f (range_with_len 1 k) ++ l)) (sym (append-nil (f (1 + k))))
    ∙ ap (λ (l : List X). start ++ l) (sym (flat_map-append f (range_with_len 1 k) (range_with_len (1 + k) 1)) ∙ ap (flat_map f) (sym (range_split 1 k 1)))

-- of an assembly by how many rows it has
pub pushed_assembly : {X : Type 0} (s : Assemblies) (table : ℕ) (item : ℕ → ℕ → X) (k count : ℕ) (x : Assembly) (start older newer : List X)
    → count ≡ count_in x table → x ≡ assembly_at s (k + 1) → newer ≡ older ++ map (item (k + 1)) (range_with_len (0 + 1) count) → older ≡ start ++ of_others s table item k → newer ≡ start ++ of_others s table item (k + 1)
pushed_assembly {X} s table item k count x start older newer e same h so_far =
    pushed_rows (of_assembly s table item) k start older newer (h ∙ ap (λ (n : ℕ). older ++ map (item (k + 1)) (range_with_len 1 n)) (e ∙ ap (λ (y : Assembly). count_in y table) same)) so_far
