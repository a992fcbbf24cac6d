-- Names that are there already.
use Rattle.std.proofs.Common.{◌≡◌, ◌∙◌, sym, ap, refl, arith, ℕ, zero, suc, ◌+◌, ◌-◌, ◌<◌, ◌≤◌, Bool, true, false, ◌||◌, List, [], ◌∷◌, length, cond}
use Rattle.std.specs.Prelude.{Some, map, find, bytes_eq}
use Rattle.std.specs.List.{range_with_len, position_from}
use Rattle.std.proofs.lemmas.Bool.{le-ltb, lt-ltb}
use Rattle.cil_base.specs.declared.tables.TheConstants.{TYPE_DEF}
use Rattle.cil_model.specs.declared.ty.Ty.{Ty}
use Rattle.cil_semantics.specs.Core.{core_classes, prim_names}
use Rattle.set_names.specs.Names.{Name, is_name}
use Rattle.set_names.specs.Cycles.{any}
use Rattle.set_rows.specs.Sets.{Assembly, Assemblies, count_in}
use Rattle.set_program.specs.declared.identity.TypeId.{TypeId}
use Rattle.set_program.specs.Numbering.{same_id}
use Rattle.set_program.specs.Environment.{types_of, number_of}
use Rattle.set_program.specs.TypeNames.{full_name, type_named}
use Rattle.set_program.specs.TypeRules.{is_taken}
use Rattle.set_rules.specs.CoreNames.{class_names, byte_names, is_before}

from_on : (test : ℕ → Bool) (k n row : ℕ) → row ≤ k → is_before (find test (range_with_len k n)) row ≡ false
from_on test k zero row h = refl
from_on test k (suc n) row h = go (test k) (from_on test (k + 1) n row (omega arith))
  where
    go : (b : Bool) → is_before (find test (range_with_len (k + 1) n)) row ≡ false → is_before (cond b (Some k) (find test (range_with_len (k + 1) n))) row ≡ false
    go true more = le-ltb k row h
    go false more = more

before_found : (test : ℕ → Bool) (k m n : ℕ) → m ≤ n → any test (range_with_len k m) ≡ is_before (find test (range_with_len k n)) (k + m)
before_found test k zero n h = sym (from_on test k n (k + 0) (omega arith))
before_found test k (suc m) zero h = absurd (omega arith)
before_found test k (suc m) (suc n) h = go (test k) (before_found test (k + 1) m n (omega arith))
  where
    go : (b : Bool) → any test (range_with_len (k + 1) m) ≡ is_before (find test (range_with_len (k + 1) n)) (k + 1 + m)
        → (b || any test (range_with_len (k + 1) m)) ≡ is_before (cond b (Some k) (find test (range_with_len (k + 1) n))) (k + suc m)
    go true more = let p : k < k + suc m = omega arith in sym (lt-ltb k (k + suc m) p)
    go false more = let e : k + 1 + m ≡ k + suc m = omega arith in more ∙ ap (is_before (find test (range_with_len (k + 1) n))) e

-- the first of this name stands before just where one before has it
pub taken_before : (x : Assembly) (name : Name) (row : ℕ) → 0 < row → row ≤ count_in x TYPE_DEF → is_taken (λ k. is_name name (full_name x k)) row ≡ is_before (type_named x name) row
unfolding type_named
taken_before x name row some most =
    let e : 1 + (row - 1) ≡ row = omega arith in
    before_found (λ k. is_name name (full_name x k)) 1 (row - 1) (count_in x TYPE_DEF) (omega arith)
    ∙ ap (is_before (find (λ k. is_name name (full_name x k)) (range_with_len 1 (count_in x TYPE_DEF)))) e

any_map : {A B : Type 0} (test : B → Bool) (f : A → B) (xs : List A) → any test (map f xs) ≡ any (λ x. test (f x)) xs
any_map test f [] = refl
any_map test f (x ∷ xs) = ap (λ (b : Bool). test (f x) || b) (any_map test f xs)

pub among_classes : (name : Name) → any (bytes_eq name) class_names ≡ any (λ (c : Name × Ty). bytes_eq name c.0) core_classes
unfolding class_names
among_classes name = any_map (bytes_eq name) (λ (c : Name × Ty). c.0) core_classes

pub among_bytes : (name : Name) → any (bytes_eq name) byte_names ≡ any (λ (p : ℕ × Name). bytes_eq name p.1) prim_names
unfolding byte_names
among_bytes name = any_map (bytes_eq name) (λ (p : ℕ × Name). p.1) prim_names

-- ---- places in a list

pub place_below : {A : Type 0} (test : A → Bool) (i : ℕ) (xs : List A) (k : ℕ) → position_from test i xs ≡ Some k → k < i + length xs
place_below test i [] k h = absurd cc
place_below test i (x ∷ xs) k h = go (test x) (place_below test (i + 1) xs k) h
  where
    go : (b : Bool) → (position_from test (i + 1) xs ≡ Some k → k < i + 1 + length xs) → cond b (Some i) (position_from test (i + 1) xs) ≡ Some k → k < i + suc (length xs)
    go true more e = let f : i ≡ k = cc in omega arith
    go false more e = let below : k < i + 1 + length xs = more e in omega arith

pub number_below : (s : Assemblies) (id : TypeId) (k : ℕ) → number_of s id ≡ Some k → k < length (types_of s)
number_below s id k e = let below : k < 0 + length (types_of s) = place_below (same_id id) 0 (types_of s) k e in omega arith
