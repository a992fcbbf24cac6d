-- Numbers of parameters by lists of rows.
use Rattle.std.proofs.Common.{◌≡◌, ◌∙◌, ap, refl, arith, ℕ, zero, suc, ◌+◌, ◌*◌, ◌≤◌, ◌<◌, ◌^◌, List, [], ◌∷◌, length, get_or, Bool, true, false}
use Rattle.std.specs.Prelude.{map, filter, if◌then◌else◌}
use Rattle.std.specs.List.{range_with_len}
use Rattle.cil_base.specs.declared.tables.TheConstants.{GENERIC_PARAM}
use Rattle.set_rows.specs.Sets.{Assembly, count_in, rows_in}
use Rattle.set_program.specs.Kinds.{generics}
use Rattle.row_descriptions.specs.RowLists.{AreListed, rows_with}

fewer : (p : ℕ → Bool) (xs : List ℕ) → length (filter p xs) ≤ length xs
fewer p [] = omega arith
fewer p (x ∷ xs) = go (p x) (fewer p xs)
  where
    go : (b : Bool) → length (filter p xs) ≤ length xs → length (if b then x ∷ filter p xs else filter p xs) ≤ suc (length xs)
    go true h = omega (arith, h)
    go false h = omega (arith, h)

long : (a n : ℕ) → length (range_with_len a n) ≡ n
long a zero = refl
long a (suc n) = ap suc (long (a + 1) n)

map_same : (f g : ℕ → ℕ) (a n : ℕ) → ((row : ℕ) → a ≤ row → row < a + n → f row ≡ g row) → map f (range_with_len a n) ≡ map g (range_with_len a n)
map_same f g a zero h = refl
map_same f g a (suc n) h =
    ap (λ (k : ℕ). k ∷ map f (range_with_len (a + 1) n)) (h a (omega arith) (omega arith))
    ∙ ap (λ (l : List ℕ). g a ∷ l) (map_same f g (a + 1) n (λ row low high. h row (omega (arith, low)) (omega (arith, high))))

module _ (x : Assembly) (bound : ℕ) (slice lists : List (List ℕ)) (e : slice ≡ lists) (l : AreListed (rows_with x GENERIC_PARAM 2) bound lists) where
  pub lists_short : (count : ℕ) → count ≡ count_in x GENERIC_PARAM → count < 2 ^ 32 → (n : ℕ) → n < length slice → length (get_or slice n []) < 2 ^ 32
  lists_short count is small n within =
      let same : length slice ≡ length lists = ap length e in
      let at : get_or slice n [] ≡ rows_with x GENERIC_PARAM 2 n = ap (λ (m : List (List ℕ)). get_or m n []) e ∙ l.items n (omega (arith, within, l.count, same)) in
      let fewer_at : length (rows_with x GENERIC_PARAM 2 n) ≤ length (rows_in x GENERIC_PARAM) = fewer _ (rows_in x GENERIC_PARAM) in
      let all : length (rows_in x GENERIC_PARAM) ≡ count_in x GENERIC_PARAM = long 1 (count_in x GENERIC_PARAM) in
      let length_at : length (get_or slice n []) ≡ length (rows_with x GENERIC_PARAM 2 n) = ap length at in
      omega (arith, length_at, fewer_at, all, is, small)

  pub counted : (table tag count : ℕ) (items : List ℕ) → tag < 2 → count * 2 + 2 ≤ bound → count ≡ count_in x table
      → items ≡ map (λ row. length (get_or slice (row * 2 + tag) [])) (range_with_len 1 count) → items ≡ map (λ row. generics x (row * 2 + tag)) (rows_in x table)
  counted table tag count items small fits is h =
      h ∙ ap (λ (m : List (List ℕ)). map (λ row. length (get_or m (row * 2 + tag) [])) (range_with_len 1 count)) e
      ∙ map_same (λ row. length (get_or lists (row * 2 + tag) [])) (λ row. generics x (row * 2 + tag)) 1 count (λ row low high. ap length (l.items (row * 2 + tag) (omega (arith, high, small, fits))))
      ∙ ap (λ (n : ℕ). map (λ row. generics x (row * 2 + tag)) (range_with_len 1 n)) is

nothing_more : (row : ℕ) → row * 2 + 0 ≡ row * 2
nothing_more row = omega arith

pub of_types : (x : Assembly) (rows items : List ℕ) → items ≡ map (λ row. generics x (row * 2 + 0)) rows → items ≡ map (λ row. generics x (row * 2)) rows
of_types x rows items h = h ∙ (λ i. map (λ row. generics x (nothing_more row i)) rows)
