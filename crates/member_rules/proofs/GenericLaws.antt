-- Numbers of parameters as lists.
use Rattle.std.proofs.Common.{◌≡◌, ◌∙◌, sym, ap, refl, arith, ℕ, zero, suc, ◌+◌, ◌<◌, ◌≤◌, List, [], ◌∷◌, ◌++◌, length, get_or, Bool, true, false}
use Rattle.std.specs.Prelude.{Some, map, filter, slice_get, if◌then◌else◌}
use Rattle.std.specs.List.{range_with_len}
use Rattle.std.proofs.lemmas.List.FromFn.{length-map-range_with_len, map-range_with_len_more}
use Rattle.cil_base.specs.declared.tables.TheConstants.{GENERIC_PARAM}
use Rattle.set_rows.specs.Sets.{Assembly, Assemblies, assembly_at, no_assembly}
use Rattle.set_program.specs.Kinds.{generics}
use Rattle.row_descriptions.specs.RowLists.{AreListed, rows_with}
use Rattle.member_rules.specs.Parameters.{AreGenerics}

pub zero_more : (f : ℕ → ℕ) (k : ℕ) (xs xs' : List ℕ) (x : ℕ) → xs' ≡ xs ++ x ∷ [] → x ≡ f k → xs ≡ map f (range_with_len 0 k) → xs' ≡ map f (range_with_len 0 (k + 1))
zero_more f k xs xs' x e n h =
    e ∙ ap (λ (l : List ℕ). l ++ x ∷ []) h ∙ ap (λ (o : ℕ). map f (range_with_len 0 k) ++ o ∷ []) n
    ∙ sym (map-range_with_len_more f 0 k k (omega arith))

at_range : (f : ℕ → ℕ) (k m j n : ℕ) → Some n ≡ slice_get (map f (range_with_len k m)) j → n ≡ f (k + j)
at_range f k zero j n e = absurd cc
at_range f k (suc m) zero n e =
    let same : n ≡ f k = cc in
    let place : k ≡ k + 0 = omega arith in
    same ∙ ap f place
at_range f k (suc m) (suc j) n e =
    let place : k + 1 + j ≡ k + suc j = omega arith in
    at_range f (k + 1) m j n e ∙ ap f place

pub known_is : (x : Assembly) (l : List ℕ) (owner n : ℕ) → AreGenerics x l → Some n ≡ slice_get l owner → n ≡ generics x owner
known_is x l owner n h e =
    let place : 0 + owner ≡ owner = omega arith in
    at_range (generics x) 0 (length l) owner n (e ∙ ap (λ (m : List ℕ). slice_get m owner) h) ∙ ap (generics x) place

none_there : (owner : ℕ) → 0 ≡ generics no_assembly owner
unfolding no_assembly
none_there owner = refl

past : (s : Assemblies) (a : ℕ) → length s ≤ a → assembly_at s a ≡ no_assembly
past [] a h = refl
past (x ∷ xs) zero h = absurd (omega (arith, h))
past (x ∷ xs) (suc a) h = past xs a (omega (arith, h))

pub none_past : (s : Assemblies) (a owner : ℕ) → length s ≤ a → 0 ≡ generics (assembly_at s a) owner
none_past s a owner h = none_there owner ∙ ap (λ (x : Assembly). generics x owner) (sym (past s a h))

map_same : (f g : ℕ → ℕ) (a n : ℕ) → ((row : ℕ) → a ≤ row → row < a + n → f row ≡ g row) → map f (range_with_len a n) ≡ map g (range_with_len a n)
map_same f g a zero h = refl
map_same f g a (suc n) h =
    ap (λ (k : ℕ). k ∷ map f (range_with_len (a + 1) n)) (h a (omega arith) (omega arith))
    ∙ ap (λ (l : List ℕ). g a ∷ l) (map_same f g (a + 1) n (λ row low high. h row (omega (arith, low)) (omega (arith, high))))

pub of_lists : (x : Assembly) (bound : ℕ) (slice lists : List (List ℕ)) (v : List ℕ) → slice ≡ lists → AreListed (rows_with x GENERIC_PARAM 2) bound lists
    → v ≡ map (λ n. length (get_or slice n [])) (range_with_len 0 (length slice)) → AreGenerics x v
of_lists x bound slice lists v e l h =
    let many : length slice ≡ length lists = ap length e in
    let long : length v ≡ length slice = ap length h ∙ length-map-range_with_len (λ n. length (get_or slice n [])) 0 (length slice) in
    h ∙ map_same (λ n. length (get_or slice n [])) (generics x) 0 (length slice) (λ n low high. ap length (ap (λ (m : List (List ℕ)). get_or m n []) e ∙ l.items n (omega (arith, high, many, l.count))))
    ∙ ap (λ (m : ℕ). map (generics x) (range_with_len 0 m)) (sym long)

-- one row more
pub counts_on : (p : ℕ → Bool) (k n count more total : ℕ) → more ≡ (if p (k + 1) then count + 1 else count) → count + length (filter p (range_with_len (k + 1) (suc n))) ≡ total
    → more + length (filter p (range_with_len (k + 1 + 1) n)) ≡ total
counts_on p k n count more total e h = go (p (k + 1)) e h
  where
    go : (b : Bool) → more ≡ (if b then count + 1 else count) → count + length (if b then (k + 1) ∷ filter p (range_with_len (k + 1 + 1) n) else filter p (range_with_len (k + 1 + 1) n)) ≡ total
        → more + length (filter p (range_with_len (k + 1 + 1) n)) ≡ total
    go true f g = omega (arith, f, g)
    go false f g = omega (arith, f, g)

pub no_more : (b : Bool) (k count more : ℕ) → more ≡ (if b then count + 1 else count) → count ≤ k → more ≤ k + 1
no_more true k count more e h = omega (arith, e, h)
no_more false k count more e h = omega (arith, e, h)
