-- Tests of rows, one after another.
use Rattle.std.proofs.Common.{◌≡◌, ◌∙◌, sym, ap, refl, arith, ℕ, zero, suc, ◌+◌, ◌-◌, ◌<◌, ◌≤◌, Bool, true, false, List, [], ◌∷◌, ◌++◌, length, get_or}
use Rattle.std.specs.Prelude.{Option, Some, None, is_none, is_some, flat_map, map, if◌then◌else◌, ◌||◌, option_to_list}
use Rattle.std.specs.List.{range_with_len}
use Rattle.std.proofs.lemmas.List.FromFn.{get_or-map-range_with_len, length-map-range_with_len}
use Rattle.cil_base.specs.declared.tables.TheConstants.{ASSEMBLY, EXPORTED_TYPE, TYPE_REF}
use Rattle.cil_base.specs.declared.rule.Rule.{Rule}
use Rattle.cil_base.specs.declared.rule.Rule.TheVariants.{N1, N4}
use Rattle.cil_base.specs.declared.refusal.Refusal.{Refusal}
use Rattle.cil_base.specs.Refusals.{Test, refusal, first_of}
use Rattle.set_names.specs.Cycles.{any}
use Rattle.set_rows.specs.Sets.{Assembly, Assemblies, assembly_at, assembly_name, count_in, rows_in, text}
use Rattle.set_program.specs.declared.identity.TypeId.{TypeId}
use Rattle.set_program.specs.References.{reference}
use Rattle.set_program.specs.TypeRules.{test, type_tests, exported, assembly_is_taken}
use Rattle.type_table.specs.Names.{AreReferences}
use Rattle.set_rules.specs.TableTests.{table_tests}
use Rattle.set_rules.specs.RowTests.{row_test, is_unnamed}

module _ (rule : Rule) (a table : ℕ) (fails : ℕ → Bool) where
  abbrev after : Bool → ℕ → ℕ → Option Refusal
  after b k n = if b then Some (refusal rule (record { assembly = a; table = table; row = k }) 0) else first_of (flat_map (row_test rule a table fails) (range_with_len (k + 1) n))

  pub goes_on : (whole : Option Refusal) (k n : ℕ) → fails k ≡ false → first_of (flat_map (row_test rule a table fails) (range_with_len k (suc n))) ≡ whole
      → first_of (flat_map (row_test rule a table fails) (range_with_len (k + 1) n)) ≡ whole
  goes_on whole k n e h = ap (λ (b : Bool). after b k n) (sym e) ∙ h

  pub stops_at : (whole : Option Refusal) (k n : ℕ) → fails k ≡ true → first_of (flat_map (row_test rule a table fails) (range_with_len k (suc n))) ≡ whole
      → Some (refusal rule (record { assembly = a; table = table; row = k }) 0) ≡ whole
  stops_at whole k n e h = ap (λ (b : Bool). after b k n) (sym e) ∙ h

  pub none_fails : (k n : ℕ) → ((j : ℕ) → fails j ≡ false) → first_of (flat_map (row_test rule a table fails) (range_with_len k n)) ≡ None
  none_fails k zero h = refl
  none_fails k (suc n) h = ap (λ (b : Bool). after b k n) (h k) ∙ none_fails (k + 1) n h

-- the same tests of rows that are tested alike
pub same_rows : (f g : ℕ → List Test) (k n : ℕ) → ((j : ℕ) → k ≤ j → j < k + n → f j ≡ g j) → flat_map f (range_with_len k n) ≡ flat_map g (range_with_len k n)
same_rows f g k zero h = refl
same_rows f g k (suc n) h =
    ap (λ (l : List Test). l ++ flat_map f (range_with_len (k + 1) n)) (h k (omega arith) (omega arith))
    ∙ ap (λ (l : List Test). g k ++ l) (same_rows f g (k + 1) n (λ j p q. h j (omega (arith, p)) (omega (arith, q))))

-- ---- rows that name types

-- where these are what the rows name
pub unnamed_is : (f : ℕ → Option TypeId) (ids : List (Option TypeId)) (a table n : ℕ) → ids ≡ map f (range_with_len 1 n)
    → flat_map (row_test N1 a table (is_unnamed ids)) (range_with_len 1 n) ≡ flat_map (row_test N1 a table (λ row. is_none (f row))) (range_with_len 1 n)
unnamed_is f ids a table n e = same_rows (row_test N1 a table (is_unnamed ids)) (row_test N1 a table (λ row. is_none (f row))) 1 n (λ j p q.
    let named : get_or ids (j - 1) None ≡ f j =
    ap (λ (l : List (Option TypeId)). get_or l (j - 1) None) e ∙ get_or-map-range_with_len f 1 n (j - 1) j None (omega (arith, p, q)) (omega (arith, p)) in
    ap (λ (o : Option TypeId). test N1 a table j (is_none o) ∷ []) named)

pub references_are : (s : Assemblies) (a : ℕ) (ids : List (Option TypeId)) (whole : Option Refusal) → AreReferences s a ids
    → whole ≡ first_of (flat_map (row_test N1 a TYPE_REF (is_unnamed ids)) (range_with_len 1 (length ids))) → whole ≡ first_of (table_tests s a TYPE_REF)
references_are s a ids whole h e =
    let n : ℕ = count_in (assembly_at s a) TYPE_REF in
    let long : length ids ≡ n = ap length h ∙ length-map-range_with_len (reference s a) 1 n in
    e ∙ ap (λ (m : ℕ). first_of (flat_map (row_test N1 a TYPE_REF (is_unnamed ids)) (range_with_len 1 m))) long
    ∙ ap first_of (unnamed_is (reference s a) ids a TYPE_REF n h)

pub exported_are : (s : Assemblies) (a n : ℕ) (ids : List (Option TypeId)) (whole : Option Refusal) → ids ≡ map (exported s a) (rows_in (assembly_at s a) EXPORTED_TYPE) → n ≡ count_in (assembly_at s a) EXPORTED_TYPE
    → whole ≡ first_of (flat_map (row_test N1 a EXPORTED_TYPE (is_unnamed ids)) (range_with_len 1 n)) → whole ≡ first_of (table_tests s a EXPORTED_TYPE)
exported_are s a n ids whole h m e =
    e ∙ ap (λ (k : ℕ). first_of (flat_map (row_test N1 a EXPORTED_TYPE (is_unnamed ids)) (range_with_len 1 k))) m
    ∙ ap first_of (unnamed_is (exported s a) ids a EXPORTED_TYPE (count_in (assembly_at s a) EXPORTED_TYPE) h)

-- ---- assemblies

pub not_taken : (s : Assemblies) (a : ℕ) → assembly_is_taken s a ≡ false → None ≡ first_of (table_tests s a ASSEMBLY)
not_taken s a e = sym (none_fails N4 a ASSEMBLY (λ row. assembly_is_taken s a) 1 (count_in (assembly_at s a) ASSEMBLY) (λ j. e))

pub no_assemblies : (s : Assemblies) (a : ℕ) → count_in (assembly_at s a) ASSEMBLY ≡ 0 → None ≡ first_of (table_tests s a ASSEMBLY)
no_assemblies s a e = sym (ap (λ (n : ℕ). first_of (flat_map (type_tests s a ASSEMBLY) (range_with_len 1 n))) e)

pub taken : (s : Assemblies) (a : ℕ) → assembly_is_taken s a ≡ true → (count_in (assembly_at s a) ASSEMBLY ≡ 0 → ⊥)
    → Some (refusal N4 (record { assembly = a; table = ASSEMBLY; row = 1 }) 0) ≡ first_of (table_tests s a ASSEMBLY)
taken s a e h = go (count_in (assembly_at s a) ASSEMBLY) h
  where
    go : (n : ℕ) → (n ≡ 0 → ⊥) → Some (refusal N4 (record { assembly = a; table = ASSEMBLY; row = 1 }) 0) ≡ first_of (flat_map (type_tests s a ASSEMBLY) (range_with_len 1 n))
    go zero g = absurd (g refl)
    go (suc n) g = stops_at N4 a ASSEMBLY (λ row. assembly_is_taken s a) (first_of (flat_map (type_tests s a ASSEMBLY) (range_with_len 1 (suc n)))) 1 n e refl

-- ---- rows with several tests

pub none_here : (xs ys : List Test) → None ≡ first_of xs → first_of (xs ++ ys) ≡ first_of ys
none_here [] ys h = refl
none_here (t ∷ ts) ys h = go t.fails (none_here ts ys) h
  where
    go : (b : Bool) → (None ≡ first_of ts → first_of (ts ++ ys) ≡ first_of ys) → None ≡ (if b then Some t.refusal else first_of ts) → (if b then Some t.refusal else first_of (ts ++ ys)) ≡ first_of ys
    go true more g = absurd cc
    go false more g = more g

pub one_here : (xs ys : List Test) (r : Refusal) → Some r ≡ first_of xs → Some r ≡ first_of (xs ++ ys)
one_here [] ys r h = absurd cc
one_here (t ∷ ts) ys r h = go t.fails (one_here ts ys r) h
  where
    go : (b : Bool) → (Some r ≡ first_of ts → Some r ≡ first_of (ts ++ ys)) → Some r ≡ (if b then Some t.refusal else first_of ts) → Some r ≡ (if b then Some t.refusal else first_of (ts ++ ys))
    go true more g = g
    go false more g = more g

pub some_here : (o : Option Refusal) (xs ys : List Test) → is_some o ≡ true → o ≡ first_of xs → o ≡ first_of (xs ++ ys)
some_here None xs ys h e = absurd cc
some_here (Some r) xs ys h e = one_here xs ys r e

pub nothing_here : (o : Option Refusal) (xs ys : List Test) → is_some o ≡ false → o ≡ first_of xs → first_of (xs ++ ys) ≡ first_of ys
nothing_here None xs ys h e = none_here xs ys e
nothing_here (Some r) xs ys h e = absurd cc

-- ---- tests of numbers one after another

pub first_any : (test : ℕ → Bool) (k n : ℕ) (whole : Bool) → test k ≡ true → any test (range_with_len k (suc n)) ≡ whole → true ≡ whole
first_any test k n whole e h = ap (λ (b : Bool). b || any test (range_with_len (k + 1) n)) (sym e) ∙ h

pub next_any : (test : ℕ → Bool) (k n : ℕ) (whole : Bool) → test k ≡ false → any test (range_with_len k (suc n)) ≡ whole → any test (range_with_len (k + 1) n) ≡ whole
next_any test k n whole e h = ap (λ (b : Bool). b || any test (range_with_len (k + 1) n)) (sym e) ∙ h

or_none : (b : Bool) → b ≡ (b || false)
or_none true = refl
or_none false = refl

-- what is said by number
pub said_of : (f : ℕ → Bool) (said : List Bool) (n k : ℕ) (o : Option ℕ) → said ≡ map f (range_with_len 0 n) → k < n → Some k ≡ o → get_or said k false ≡ any f (option_to_list o)
said_of f said n k o h below e =
    ap (λ (l : List Bool). get_or l k false) h
    ∙ get_or-map-range_with_len f 0 n k k false below (omega arith)
    ∙ or_none (f k)
    ∙ ap (λ (p : Option ℕ). any f (option_to_list p)) e

pub name_at : (s : Assemblies) (a : ℕ) (x : Assembly) (bytes : List ℕ) → assembly_at s a ≡ x → bytes ≡ text x ASSEMBLY 1 7 → assembly_name (assembly_at s a) ≡ bytes
name_at s a x bytes there e = ap assembly_name there ∙ sym e
