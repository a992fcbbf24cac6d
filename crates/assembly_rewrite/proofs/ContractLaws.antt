-- Rows of the namespace of Code Contracts, and the first of them.
use Rattle.std.proofs.Common.{◌≡◌, ◌⊎◌, ℕ, zero, suc, ◌+◌, ◌-◌, ◌^◌, ◌<◌, ◌≤◌, eqb, Bool, true, cond, List, [], ◌∷◌, ◌++◌, length, get_or, take, drop, Option, Some, None, refl, sym, ap, ◌∙◌, subst, inl, inr, arith, add-one, option_map}
use Rattle.std.specs.Prelude.{slice_get, position}
use Rattle.std.specs.List.{starts_with}
use Rattle.std.proofs.lemmas.Slice.Eq.{bytes_eq-Decides}
use Rattle.std.proofs.lemmas.Bool.{cases_lt, lt-ltb, ne_eqb, eqb-true}
use Rattle.std.proofs.lemmas.List.{take_more, take-append-drop, length-append, length-take-le, get_or_past}
use Rattle.std.proofs.lemmas.List.Quantifiers.{position-Some}
use Rattle.std.proofs.lemmas.Option.{slice_get-get_or, slice_get_past, get_or_from_slice_get}
use Rattle.cil_base.specs.declared.refusal.Refusal.{Refusal}
use Rattle.cil_base.specs.declared.rule.Rule.TheVariants.{Z1}
use Rattle.cil_base.specs.Rules.{rule_number}
use Rattle.cil_base.specs.Refusals.{First, NoneBroken}
use Rattle.cil_base.proofs.RefusalLaws.{not_less}
use Rattle.cli_heaps.specs.Root as root
use Rattle.cli_heaps.specs.Root.{strings, is_zero}
use Rattle.cli_heaps.specs.Entries.{string_at, until_zero}
use Rattle.cli_tables.specs.Schema.{columns_of}
use Rattle.cli_tables.specs.Tables.{column_of, cell_of, IsShaped, AreIn}
use Rattle.assembly_rewrite.specs.Rewrite.{IsContractRow, IsFirstRow, IsContract, contract_row, contracts_namespace}

-- ---- the name, with the zero byte behind it

named_front : (rest : List ℕ) → until_zero (contracts_namespace ++ 0 ∷ [] ++ rest) ≡ Some contracts_namespace
named_front rest =
    let lt : 28 < length (contracts_namespace ++ 0 ∷ [] ++ rest) = omega (arith, length-append (contracts_namespace ++ 0 ∷ []) rest) in
    ap (λ (b : Bool). option_map (λ (n : ℕ). take n (contracts_namespace ++ 0 ∷ [] ++ rest)) (cond b (Some 28) None)) (lt-ltb 28 (length (contracts_namespace ++ 0 ∷ [] ++ rest)) lt)

begins : (l : List ℕ) → contracts_namespace ++ 0 ∷ [] ≡ take 29 l → until_zero l ≡ Some contracts_namespace
begins l e =
    let split : contracts_namespace ++ 0 ∷ [] ++ drop 29 l ≡ l = ap (λ (p : List ℕ). p ++ drop 29 l) e ∙ take-append-drop 29 l in
    subst (λ (x : List ℕ). until_zero x ≡ Some contracts_namespace) split (named_front (drop 29 l))

begun : (l : List ℕ) (o : Option ℕ) → position is_zero l ≡ o → option_map (λ (n : ℕ). take n l) o ≡ Some contracts_namespace → contracts_namespace ++ 0 ∷ [] ≡ take 29 l
begun l None e h = absurd cc
begun l (Some i) e h =
    let found = position-Some is_zero l i 0 e in
    let front : take i l ≡ contracts_namespace = some_is (take i l) contracts_namespace h in
    let long : length (take i l) ≡ i = length-take-le i l (omega (arith, found.0)) in
    let many : length (take i l) ≡ 28 = ap (λ (x : List ℕ). length x) front in
    let here : i + 1 ≡ 29 = omega (arith, long, many) in
    sym (ap (λ (n : ℕ). take n l) (sym here) ∙ take_more l i 0 found.0 ∙ ap (λ (x : List ℕ). x ++ get_or l i 0 ∷ []) front ∙ ap (λ (z : ℕ). contracts_namespace ++ z ∷ []) (eqb-true (get_or l i 0) 0 found.1))
  where
    some_is : (x y : List ℕ) → Some x ≡ Some y → x ≡ y
    some_is x y k = cc

later : (heap : List ℕ) (at : ℕ) → (at ≡ 0 → ⊥) → string_at heap at ≡ until_zero (drop at heap)
later heap at some = ap (λ (b : Bool). cond b (Some []) (until_zero (drop at heap))) (ne_eqb at 0 some)

pub is_name : (heap : List ℕ) (at : ℕ) → (at ≡ 0 → ⊥) → starts_with eqb (drop at heap) (contracts_namespace ++ 0 ∷ []) ≡ true → string_at heap at ≡ Some contracts_namespace
is_name heap at some h = later heap at some ∙ begins (drop at heap) ((bytes_eq-Decides (contracts_namespace ++ 0 ∷ []) (take 29 (drop at heap))).0 h)

pub name_begins : (heap : List ℕ) (at : ℕ) → (at ≡ 0 → ⊥) → string_at heap at ≡ Some contracts_namespace → starts_with eqb (drop at heap) (contracts_namespace ++ 0 ∷ []) ≡ true
name_begins heap at some h =
    (bytes_eq-Decides (contracts_namespace ++ 0 ∷ []) (take 29 (drop at heap))).1 (begun (drop at heap) (position is_zero (drop at heap)) refl (sym (later heap at some) ∙ h))

-- ---- cells of a column

pub few : (ts : List (List (List ℕ))) (t c : ℕ) → IsShaped ts → length (column_of ts t c) < 2 ^ 32
few ts t c shape = elim (cases_lt c (length (columns_of t))) [
  | inl lt ↦ omega (arith, shape.rows t c lt, shape.few t)
  | inr out ↦ omega (arith, ap (λ (l : List ℕ). length l) (get_or_past (get_or ts t []) c [] (omega (arith, out, shape.columns t))))
]

-- the cell of the row behind so many
at_row : (ts : List (List (List ℕ))) (t k c : ℕ) → cell_of ts t (suc k) c ≡ slice_get (column_of ts t c) k
at_row ts t k c =
    let less : suc k - 1 ≡ k = omega arith in
    ap (λ (b : Bool). cond b None (slice_get (column_of ts t c) (suc k - 1))) (ne_eqb (suc k) 0 (λ z. absurd (omega (arith, z)))) ∙ ap (λ (j : ℕ). slice_get (column_of ts t c) j) less

-- a row is one of the column's
pub record IsPlace (meta : List ℕ) (ts : List (List (List ℕ))) (t row : ℕ) : Type 0 where
  pub k : ℕ
  pub row_is : row ≡ k + 1
  pub within : k < length (column_of ts t 2)
  pub name : string_at (strings meta) (get_or (column_of ts t 2) k 0) ≡ Some contracts_namespace

pub row_there : (meta : List ℕ) (ts : List (List (List ℕ))) (t k : ℕ) → AreIn (root.tables meta) ts → k < length (column_of ts t 2) → string_at (strings meta) (get_or (column_of ts t 2) k 0) ≡ Some contracts_namespace → IsContractRow meta t (k + 1)
row_there meta ts t k are lt name = (
  get_or (column_of ts t 2) k 0,
  sym (are.cells t (k + 1) 2) ∙ ap (λ (r : ℕ). cell_of ts t r 2) (add-one k) ∙ at_row ts t k 2 ∙ slice_get-get_or (column_of ts t 2) k 0 lt,
  name,
)

pub place_of : (meta : List ℕ) (ts : List (List (List ℕ))) (t row : ℕ) → AreIn (root.tables meta) ts → IsContractRow meta t row → IsPlace meta ts t row
place_of meta ts t zero are x = absurd (none (are.cells t zero 2 ∙ x.1))
  where
    none : None ≡ Some x.0 → ⊥
    none e = cc
place_of meta ts t (suc k) are x =
    let here : slice_get (column_of ts t 2) k ≡ Some x.0 = sym (at_row ts t k 2) ∙ are.cells t (suc k) 2 ∙ x.1 in
    elim (cases_lt k (length (column_of ts t 2))) [
      | inl lt ↦ record { k = k; row_is = sym (add-one k); within = lt; name = subst (λ (p : ℕ). string_at (strings meta) p ≡ Some contracts_namespace) (sym (get_or_from_slice_get (column_of ts t 2) k x.0 0 here)) x.2 }
      | inr past ↦ absurd (none (sym (slice_get_past (column_of ts t 2) k past) ∙ here))
    ]
  where
    none : None ≡ Some x.0 → ⊥
    none e = cc

-- ---- the first row

-- no place before has the name
abbrev pub NoneBefore : List ℕ → List ℕ → ℕ → Type 0
NoneBefore meta places n = (j : ℕ) → j < n → string_at (strings meta) (get_or places j 0) ≡ Some contracts_namespace → ⊥

pub first_row : (meta : List ℕ) (ts : List (List (List ℕ))) (t k : ℕ) → AreIn (root.tables meta) ts → k < length (column_of ts t 2) → NoneBefore meta (column_of ts t 2) k → string_at (strings meta) (get_or (column_of ts t 2) k 0) ≡ Some contracts_namespace
    → IsFirstRow meta t (k + 1)
first_row meta ts t k are lt none name = record {
  there = row_there meta ts t k are lt name;
  none_before = λ before less x. let p = place_of meta ts t before are x in none p.k (omega (arith, less, p.row_is)) p.name;
}

pub no_row : (meta : List ℕ) (ts : List (List (List ℕ))) (t : ℕ) → AreIn (root.tables meta) ts → NoneBefore meta (column_of ts t 2) (length (column_of ts t 2)) → (row : ℕ) → IsContractRow meta t row → ⊥
no_row meta ts t are none row x = let p = place_of meta ts t row are x in none p.k p.within p.name

-- ---- the first refusal

pub first_contracts : (meta : List ℕ) (a t row : ℕ) → (t ≡ 1) ⊎ (t ≡ 2) → IsFirstRow meta t row → ((s : Refusal) → IsContract meta a s → t ≤ s.table) → First (IsContract meta a) (contract_row a t row)
first_contracts meta a t row which first above = record {
  broken = record { rule = refl; assembly_is = refl; table = which; row = first.there; at = refl };
  none_before = λ s x.
      not_less s.assembly a (s.table ∷ s.row ∷ s.at ∷ rule_number s.rule ∷ []) (t ∷ row ∷ 0 ∷ rule_number Z1 ∷ []) (omega (arith, x.assembly_is)) (λ _.
      not_less s.table t (s.row ∷ s.at ∷ rule_number s.rule ∷ []) (row ∷ 0 ∷ rule_number Z1 ∷ []) (above s x) (λ same.
      not_less s.row row (s.at ∷ rule_number s.rule ∷ []) (0 ∷ rule_number Z1 ∷ []) (later s x same) (λ _.
      not_less s.at 0 (rule_number s.rule ∷ []) (rule_number Z1 ∷ []) (omega arith) (λ _.
      not_less (rule_number s.rule) (rule_number Z1) [] [] (omega (arith, ap rule_number x.rule)) (λ _. refl)))));
}
  where
    later : (s : Refusal) → IsContract meta a s → s.table ≡ t → row ≤ s.row
    later s x same = elim (cases_lt s.row row) [
      | inl less ↦ absurd (first.none_before s.row less (subst (λ (n : ℕ). IsContractRow meta n s.row) same x.row))
      | inr le ↦ le
    ]

pub contracts_in_first : (meta : List ℕ) (a row : ℕ) → IsFirstRow meta 1 row → First (IsContract meta a) (contract_row a 1 row)
contracts_in_first meta a row first = first_contracts meta a 1 row (inl refl) first (λ s x. go s x.table)
  where
    go : (s : Refusal) → (s.table ≡ 1) ⊎ (s.table ≡ 2) → 1 ≤ s.table
    go s (inl e) = omega (arith, e)
    go s (inr e) = omega (arith, e)

pub contracts_in_second : (meta : List ℕ) (a row : ℕ) → ((r : ℕ) → IsContractRow meta 1 r → ⊥) → IsFirstRow meta 2 row → First (IsContract meta a) (contract_row a 2 row)
contracts_in_second meta a row none first = first_contracts meta a 2 row (inr refl) first (λ s x. go s x.row x.table)
  where
    go : (s : Refusal) → IsContractRow meta s.table s.row → (s.table ≡ 1) ⊎ (s.table ≡ 2) → 2 ≤ s.table
    go s x (inl e) = absurd (none s.row (subst (λ (n : ℕ). IsContractRow meta n s.row) e x))
    go s x (inr e) = omega (arith, e)

pub no_contracts : (meta : List ℕ) (a : ℕ) → ((r : ℕ) → IsContractRow meta 1 r → ⊥) → ((r : ℕ) → IsContractRow meta 2 r → ⊥) → NoneBroken (IsContract meta a)
no_contracts meta a one two s x = go x.row x.table
  where
    go : IsContractRow meta s.table s.row → (s.table ≡ 1) ⊎ (s.table ≡ 2) → ⊥
    go y (inl e) = one s.row (subst (λ (n : ℕ). IsContractRow meta n s.row) e y)
    go y (inr e) = two s.row (subst (λ (n : ℕ). IsContractRow meta n s.row) e y)

-- the number is that of the heaps
pub numbered : (meta : List ℕ) (a t row number : ℕ) (r : Refusal) → number ≡ a → r ≡ contract_row number t row → First (IsContract meta a) (contract_row a t row) → First (IsContract meta a) r
numbered meta a t row number r n e first =
    subst (λ (x : Refusal). First (IsContract meta a) x) (sym (e ∙ ap (λ (k : ℕ). contract_row k t row) n)) first
