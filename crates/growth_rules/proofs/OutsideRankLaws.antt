-- How many types stand above one that isn't of the set.
use Rattle.std.proofs.Common.{◌≡◌, ◌∙◌, sym, ap, refl, subst, arith, ℕ, ◌<◌, ◌≤◌, List, [], ◌∷◌, Bool, true, false}
use Rattle.std.specs.Prelude.{Option, Some, None, cond, is_none, find, map, option_map, nat_lt, nat_le, bytes_eq, codes, ◌&&◌, ◌||◌, ◌==◌, if◌then◌else◌}
use Rattle.std.specs.List.{list_all}
use Rattle.cil_model.specs.declared.ty.Ty.{Ty, out-Ty}
use Rattle.cil_model.specs.declared.ty.Ty.TheOpen.{Ty-F}
use Rattle.cil_model.specs.declared.ty.Ty as types
use Rattle.cil_semantics.specs.Types.{Layer}
use Rattle.cil_semantics.specs.Words.{maybe}
use Rattle.cil_semantics.specs.Core.{Name, class_named, object_ty, core_classes, failure_kind, ends_with, leaf_base, base_or, outside_base}
use Rattle.cil_semantics.specs.Lookups.{in_set, built_in_base}
use Rattle.set_growth.proofs.FindLaws.{lt_from, le_from}

-- a core class, its base, and how many types stand above it
abbrev pub Line : Type 0
Line = Name × Ty × ℕ

abbrev pub lines : List Line
lines =
    (codes "System.ValueType", object_ty, 1)
    ∷ (codes "System.Enum", class_named (codes "System.ValueType"), 2)
    ∷ (codes "System.Array", object_ty, 1)
    ∷ (codes "System.Delegate", object_ty, 1)
    ∷ (codes "System.MulticastDelegate", class_named (codes "System.Delegate"), 2)
    ∷ (codes "System.Exception", object_ty, 1)
    ∷ (codes "System.SystemException", class_named (codes "System.Exception"), 2)
    ∷ (codes "System.ArgumentException", class_named (codes "System.SystemException"), 3)
    ∷ (codes "System.ArgumentNullException", class_named (codes "System.ArgumentException"), 4)
    ∷ (codes "System.ArgumentOutOfRangeException", class_named (codes "System.ArgumentException"), 4)
    ∷ (codes "System.ArithmeticException", class_named (codes "System.SystemException"), 3)
    ∷ (codes "System.DivideByZeroException", class_named (codes "System.ArithmeticException"), 4)
    ∷ (codes "System.OverflowException", class_named (codes "System.ArithmeticException"), 4)
    ∷ (codes "System.ArrayTypeMismatchException", class_named (codes "System.SystemException"), 3)
    ∷ (codes "System.FormatException", class_named (codes "System.SystemException"), 3)
    ∷ (codes "System.IndexOutOfRangeException", class_named (codes "System.SystemException"), 3)
    ∷ (codes "System.InvalidCastException", class_named (codes "System.SystemException"), 3)
    ∷ (codes "System.InvalidOperationException", class_named (codes "System.SystemException"), 3)
    ∷ (codes "System.ObjectDisposedException", class_named (codes "System.InvalidOperationException"), 4)
    ∷ (codes "System.NotImplementedException", class_named (codes "System.SystemException"), 3)
    ∷ (codes "System.NotSupportedException", class_named (codes "System.SystemException"), 3)
    ∷ (codes "System.NullReferenceException", class_named (codes "System.SystemException"), 3)
    ∷ (codes "System.TypeInitializationException", class_named (codes "System.SystemException"), 3)
    ∷ []

abbrev pub named : Name → Line → Bool
named name line = bytes_eq line.0 name

abbrev pub line_rank : Option Line → ℕ
line_rank None = 2
line_rank (Some line) = line.2

unfoldable pub rank_named : Name → ℕ
rank_named name = line_rank (find (named name) lines)

abbrev pub layer_rank : Layer → ℕ
layer_rank (Ty-F.Prim b) = if b == 0x1C then 0 else 2
layer_rank (Ty-F.Outside name value) = rank_named name
layer_rank _ = 2

-- the base of each line is outside and stands lower, and none stands high
abbrev falls : Line → Bool
falls line = is_none (in_set (out-Ty line.1)) && (nat_lt (layer_rank (out-Ty line.1)) line.2 && nat_le line.2 6)

all_fall : list_all falls lines ≡ true
unfolding rank_named types.out-Ty denote.Hole.Carrier.out denote.Hole.Carrier.hidden denote.Hole.Carrier.shown
all_fall = refl

same_table : core_classes ≡ map (λ (line : Line). (line.0, line.1)) lines
unfolding core_classes
same_table = refl

both_left : (a b : Bool) → (a && b) ≡ true → a ≡ true
both_left true b e = refl
both_left false b e = absurd cc

both_right : (a b : Bool) → (a && b) ≡ true → b ≡ true
both_right true b e = e
both_right false b e = absurd cc

found_falls : (p : Line → Bool) (l : List Line) (line : Line) → list_all falls l ≡ true → find p l ≡ Some line → falls line ≡ true
found_falls p [] line all e = absurd cc
found_falls p (x ∷ l) line all e = go (p x) (λ f. found_falls p l line (both_right (falls x) (list_all falls l) all) f) e
  where
    go : (b : Bool) → (find p l ≡ Some line → falls line ≡ true) → cond b (Some x) (find p l) ≡ Some line → falls line ≡ true
    go true later f = ap (λ (o : Option Line). maybe true falls o) (sym f) ∙ both_left (falls x) (list_all falls l) all
    go false later f = later f

found_pair : (name : Name) (l : List Line) → find (λ (row : Name × Ty). bytes_eq row.0 name) (map (λ (line : Line). (line.0, line.1)) l) ≡ option_map (λ (line : Line). (line.0, line.1)) (find (named name) l)
found_pair name [] = refl
found_pair name (x ∷ l) = go (bytes_eq x.0 name) (found_pair name l)
  where
    go : (b : Bool) → find (λ (row : Name × Ty). bytes_eq row.0 name) (map (λ (line : Line). (line.0, line.1)) l) ≡ option_map (λ (line : Line). (line.0, line.1)) (find (named name) l)
        → cond b (Some (x.0, x.1)) (find (λ (row : Name × Ty). bytes_eq row.0 name) (map (λ (line : Line). (line.0, line.1)) l)) ≡ option_map (λ (line : Line). (line.0, line.1)) (cond b (Some x) (find (named name) l))
    go true e = refl
    go false e = e

-- an outside type below a rank
pub record IsLow (t : Ty) (rank : ℕ) : Type 0 where
  pub apart : in_set (out-Ty t) ≡ None
  pub low : layer_rank (out-Ty t) < rank

none_is : {A : Type 0} (o : Option A) → is_none o ≡ true → o ≡ None
none_is None e = refl
none_is (Some v) e = absurd cc

line_low : (line : Line) → falls line ≡ true → IsLow line.1 line.2
line_low line e = record {
  apart = none_is (in_set (out-Ty line.1)) (both_left (is_none (in_set (out-Ty line.1))) (nat_lt (layer_rank (out-Ty line.1)) line.2 && nat_le line.2 6) e);
  low = lt_from (layer_rank (out-Ty line.1)) line.2 (both_left (nat_lt (layer_rank (out-Ty line.1)) line.2) (nat_le line.2 6) (both_right (is_none (in_set (out-Ty line.1))) (nat_lt (layer_rank (out-Ty line.1)) line.2 && nat_le line.2 6) e));
}

line_few : (line : Line) → falls line ≡ true → line.2 ≤ 6
line_few line e = le_from line.2 6 (both_right (nat_lt (layer_rank (out-Ty line.1)) line.2) (nat_le line.2 6) (both_right (is_none (in_set (out-Ty line.1))) (nat_lt (layer_rank (out-Ty line.1)) line.2 && nat_le line.2 6) e))

pub object_low : (rank : ℕ) → 0 < rank → IsLow object_ty rank
unfolding types.out-Ty denote.Hole.Carrier.out denote.Hole.Carrier.hidden denote.Hole.Carrier.shown
object_low rank h = record { apart = refl; low = h }

exception_low : IsLow (class_named (codes "System.Exception")) 2
unfolding rank_named types.out-Ty denote.Hole.Carrier.out denote.Hole.Carrier.hidden denote.Hole.Carrier.shown
exception_low = record { apart = refl; low = omega arith }

value_low : IsLow (class_named (codes "System.ValueType")) 2
unfolding rank_named types.out-Ty denote.Hole.Carrier.out denote.Hole.Carrier.hidden denote.Hole.Carrier.shown
value_low = record { apart = refl; low = omega arith }

array_low : IsLow (class_named (codes "System.Array")) 2
unfolding rank_named types.out-Ty denote.Hole.Carrier.out denote.Hole.Carrier.hidden denote.Hole.Carrier.shown
array_low = record { apart = refl; low = omega arith }

pub contract_low : IsLow (class_named (codes "System.Exception")) 7
contract_low = record { apart = exception_low.apart; low = omega (arith, exception_low.low) }

leaf_low : (name : Name) (value : Bool) → IsLow (leaf_base name value) 2
unfolding leaf_base
leaf_low name value = go (ends_with name (codes "Exception")) (value || bytes_eq name failure_kind)
  where
    go : (a b : Bool) → IsLow (if a then class_named (codes "System.Exception") else if b then class_named (codes "System.ValueType") else object_ty) 2
    go true b = exception_low
    go false true = value_low
    go false false = object_low 2 (omega arith)

outside_low : (name : Name) (value : Bool) → IsLow (outside_base name value) (rank_named name)
unfolding outside_base rank_named
outside_low name value =
    subst (λ (o : Option (Name × Ty)). IsLow (base_or o (leaf_base name value)) (line_rank (find (named name) lines)))
    (sym (ap (find (λ (row : Name × Ty). bytes_eq row.0 name)) same_table ∙ found_pair name lines))
    (go (find (named name) lines) refl)
  where
    go : (o : Option Line) → find (named name) lines ≡ o → IsLow (base_or (option_map (λ (line : Line). (line.0, line.1)) o) (leaf_base name value)) (line_rank o)
    go None e = leaf_low name value
    go (Some line) e = line_low line (found_falls (named name) lines line all_fall e)

prim_low : (b : ℕ) (u : Ty) → built_in_base (Ty-F.Prim b) ≡ Some u → IsLow u (layer_rank (Ty-F.Prim b))
prim_low b u e = go (b == 0x1C) (b == 0x0E) e
  where
    go : (c d : Bool) → (if c then None else if d then Some object_ty else Some (class_named (codes "System.ValueType"))) ≡ Some u → IsLow u (if c then 0 else 2)
    go true d f = absurd (let wrong : None ≡ Some u = f in cc)
    go false true f = subst (λ (o : Option Ty). IsLow (maybe object_ty (λ t. t) o) 2) f (object_low 2 (omega arith))
    go false false f = subst (λ (o : Option Ty). IsLow (maybe object_ty (λ t. t) o) 2) f value_low

-- the base of a type outside stands below it
pub built_in_low : (l : Layer) (u : Ty) → built_in_base l ≡ Some u → IsLow u (layer_rank l)
built_in_low (Ty-F.Prim b) u e = prim_low b u e
built_in_low (Ty-F.Outside name value) u e = subst (λ (o : Option Ty). IsLow (maybe object_ty (λ t. t) o) (rank_named name)) e (outside_low name value)
built_in_low (Ty-F.Array item) u e = subst (λ (o : Option Ty). IsLow (maybe object_ty (λ t. t) o) 2) e array_low
built_in_low (Ty-F.Known k) u e = subst (λ (o : Option Ty). IsLow (maybe object_ty (λ t. t) o) 2) e (object_low 2 (omega arith))
built_in_low (Ty-F.ByRef item) u e = subst (λ (o : Option Ty). IsLow (maybe object_ty (λ t. t) o) 2) e (object_low 2 (omega arith))
built_in_low (Ty-F.Var k) u e = subst (λ (o : Option Ty). IsLow (maybe object_ty (λ t. t) o) 2) e (object_low 2 (omega arith))
built_in_low (Ty-F.MVar k) u e = subst (λ (o : Option Ty). IsLow (maybe object_ty (λ t. t) o) 2) e (object_low 2 (omega arith))
built_in_low Ty-F.Opaque u e = subst (λ (o : Option Ty). IsLow (maybe object_ty (λ t. t) o) 2) e (object_low 2 (omega arith))
built_in_low (Ty-F.Inst k args) u e = subst (λ (o : Option Ty). IsLow (maybe object_ty (λ t. t) o) 2) e (object_low 2 (omega arith))

rank_few : (name : Name) → rank_named name ≤ 6
unfolding rank_named
rank_few name = go (find (named name) lines) refl
  where
    go : (o : Option Line) → find (named name) lines ≡ o → line_rank o ≤ 6
    go None e = omega arith
    go (Some line) e = line_few line (found_falls (named name) lines line all_fall e)

-- no type outside stands high
pub layer_few : (l : Layer) → layer_rank l ≤ 6
layer_few (Ty-F.Prim b) = go (b == 0x1C)
  where
    go : (c : Bool) → (if c then 0 else 2) ≤ 6
    go true = omega arith
    go false = omega arith
layer_few (Ty-F.Outside name value) = rank_few name
layer_few (Ty-F.Array item) = omega arith
layer_few (Ty-F.Known k) = omega arith
layer_few (Ty-F.ByRef item) = omega arith
layer_few (Ty-F.Var k) = omega arith
layer_few (Ty-F.MVar k) = omega arith
layer_few Ty-F.Opaque = omega arith
layer_few (Ty-F.Inst k args) = omega arith
