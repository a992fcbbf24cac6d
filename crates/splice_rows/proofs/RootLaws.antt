-- Each type is under System.Object, where the types of a program name core classes as their bases.
use Rattle.std.proofs.Common.{◌≡◌, ℕ, zero, suc, Bool, true, false, List, [], ◌∷◌, ◌++◌, Some, None, Option, refl, ap, ◌∙◌}
use Rattle.std.specs.Prelude.{if◌then◌else◌, ◌||◌, ◌==◌, find, codes, bytes_eq, option_to_list}
use Rattle.cil_model.specs.declared.ty.Ty.{Ty, Prim, Known, Outside, Array', ByRef', Var, MVar, Opaque, Inst'}
use Rattle.cil_model.specs.declared.program.Program.{Program}
use Rattle.cil_semantics.specs.Words.{any, maybe}
use Rattle.cil_semantics.specs.Types.{under, same_ty}
use Rattle.cil_semantics.specs.Core.{Name, object_ty, class_named, core_classes, leaf_base, outside_base, base_or, ends_with, failure_kind}
use Rattle.cil_semantics.specs.Lookups.{is_sub_within, base_of, interfaces_of, type_of}
use Rattle.machine_laws.specs.Answers.{Each}
use Rattle.machine_rows.specs.Everything.{everything}

abbrev pub Rooted : ℕ → Program → Ty → Type 0
Rooted n p t = is_sub_within n p t object_ty ≡ true

by_base : (n : ℕ) (p : Program) (t c : Ty) → base_of p t ≡ Some c → Rooted n p c → Rooted (suc n) p t
unfolding is_sub_within
by_base n p t c e h =
    ap (λ o. same_ty t object_ty || any (λ u. is_sub_within n p u object_ty) (option_to_list o ++ interfaces_of p t)) e
    ∙ ap (λ b. same_ty t object_ty || (b || any (λ u. is_sub_within n p u object_ty) (interfaces_of p t))) h ∙ whichever (same_ty t object_ty)
  where
    whichever : (b : Bool) → (b || true) ≡ true
    whichever true = refl
    whichever false = refl

pub at_root : (n : ℕ) (p : Program) → Rooted n p object_ty
unfolding is_sub_within everything
at_root zero p = refl
at_root (suc n) p = refl

module _ (n : ℕ) (p : Program) where
  value_type : Rooted (suc n) p (class_named (codes "System.ValueType"))
  unfolding everything
  value_type = by_base n p (class_named (codes "System.ValueType")) object_ty refl (at_root n p)

  pub exception : Rooted (suc n) p (class_named (codes "System.Exception"))
  unfolding everything
  exception = by_base n p (class_named (codes "System.Exception")) object_ty refl (at_root n p)

  delegate : Rooted (suc n) p (class_named (codes "System.Delegate"))
  unfolding everything
  delegate = by_base n p (class_named (codes "System.Delegate")) object_ty refl (at_root n p)

  array : Rooted (suc n) p (class_named (codes "System.Array"))
  unfolding everything
  array = by_base n p (class_named (codes "System.Array")) object_ty refl (at_root n p)

system : (n : ℕ) (p : Program) → Rooted (suc (suc n)) p (class_named (codes "System.SystemException"))
unfolding everything
system n p = by_base (suc n) p (class_named (codes "System.SystemException")) (class_named (codes "System.Exception")) refl (exception n p)

argument : (n : ℕ) (p : Program) → Rooted (suc (suc (suc n))) p (class_named (codes "System.ArgumentException"))
unfolding everything
argument n p = by_base (suc (suc n)) p (class_named (codes "System.ArgumentException")) (class_named (codes "System.SystemException")) refl (system n p)

arithmetic : (n : ℕ) (p : Program) → Rooted (suc (suc (suc n))) p (class_named (codes "System.ArithmeticException"))
unfolding everything
arithmetic n p = by_base (suc (suc n)) p (class_named (codes "System.ArithmeticException")) (class_named (codes "System.SystemException")) refl (system n p)

invalid : (n : ℕ) (p : Program) → Rooted (suc (suc (suc n))) p (class_named (codes "System.InvalidOperationException"))
unfolding everything
invalid n p = by_base (suc (suc n)) p (class_named (codes "System.InvalidOperationException")) (class_named (codes "System.SystemException")) refl (system n p)

-- the bases of the core classes
abbrev BaseRooted : ℕ → Program → Name × Ty → Type 0
BaseRooted n p row = Rooted (suc (suc (suc n))) p row.1

abbrev IfRooted : ℕ → Program → Option (Name × Ty) → Type 0
IfRooted n p None = Unit {0}
IfRooted n p (Some row) = BaseRooted n p row

core_bases : (n : ℕ) (p : Program) → Each (BaseRooted n p) core_classes
unfolding core_classes
core_bases n p =
    let o : Rooted (suc (suc (suc n))) p object_ty = at_root (suc (suc (suc n))) p in
    let v = value_type (suc (suc n)) p in
    let d = delegate (suc (suc n)) p in
    let x = exception (suc (suc n)) p in
    let s = system (suc n) p in
    let a = argument n p in
    let i = arithmetic n p in
    let c = invalid n p in
    (o, (v, (o, (o, (d, (o, (x, (s, (a, (a, (s, (i, (i, (s, (s, (s, (s, (s, (c, (s, (s, (s, (s, tt)))))))))))))))))))))))

outside_rooted : (n : ℕ) (p : Program) (name : Name) (value : Bool) → Rooted (suc (suc (suc n))) p (outside_base name value)
unfolding outside_base leaf_base
outside_rooted n p name value = by_row (find (λ (row : Name × Ty). bytes_eq row.0 name) core_classes) (found (λ (row : Name × Ty). bytes_eq row.0 name) core_classes (core_bases n p))
  where
    found : (test : Name × Ty → Bool) (rows : List (Name × Ty)) → Each (BaseRooted n p) rows → IfRooted n p (find test rows)
    found test [] all = tt
    found test (row ∷ rows) all = by_test (test row) (found test rows all.1)
      where
        by_test : (b : Bool) → IfRooted n p (find test rows) → IfRooted n p (if b then Some row else find test rows)
        by_test true more = all.0
        by_test false more = more

    leaf : (a b : Bool) → Rooted (suc (suc (suc n))) p (if a then class_named (codes "System.Exception") else if b then class_named (codes "System.ValueType") else object_ty)
    leaf true b = exception (suc (suc n)) p
    leaf false true = value_type (suc (suc n)) p
    leaf false false = at_root (suc (suc (suc n))) p

    by_row : (o : Option (Name × Ty)) → IfRooted n p o → Rooted (suc (suc (suc n))) p (base_or o (leaf_base name value))
    by_row None h = leaf (ends_with name (codes "Exception")) (value || bytes_eq name failure_kind)
    by_row (Some row) h = h

-- each type, where it is so of the bases that rows name
module _ (n : ℕ) (p : Program) (rows : (k : ℕ) (args : List Ty) → Rooted (suc (suc (suc (suc n)))) p (maybe object_ty (under args []) (type_of p k).base)) where
  abbrev m : ℕ
  m = suc (suc (suc (suc n)))

  is_object : (b : ℕ) → (b == 0x1C) ≡ true → Rooted (suc m) p (Prim b)
  unfolding is_sub_within everything
  is_object b e = ap (λ c. c || any (λ u. is_sub_within m p u object_ty) (option_to_list (base_of p (Prim b)) ++ interfaces_of p (Prim b))) e

  under_object : (t : Ty) → base_of p t ≡ Some object_ty → Rooted (suc m) p t
  under_object t e = by_base m p t object_ty e (at_root m p)

  pub rooted_from : (t : Ty) → Rooted (suc m) p t
  unfolding everything
  rooted_from (Prim b) = by_object (b == 0x1C) refl
    where
      by_string : (c d : Bool) → (b == 0x1C) ≡ c → (b == 0x0E) ≡ d → c ≡ false → Rooted (suc m) p (Prim b)
      by_string true d e1 e2 z = absurd (cc z)
      by_string false true e1 e2 z = by_base m p (Prim b) object_ty (ap (λ c. if c then None else if b == 0x0E then Some object_ty else Some (class_named (codes "System.ValueType"))) e1 ∙ ap (λ d. if d then Some object_ty else Some (class_named (codes "System.ValueType"))) e2) (at_root m p)
      by_string false false e1 e2 z = by_base m p (Prim b) (class_named (codes "System.ValueType")) (ap (λ c. if c then None else if b == 0x0E then Some object_ty else Some (class_named (codes "System.ValueType"))) e1 ∙ ap (λ d. if d then Some object_ty else Some (class_named (codes "System.ValueType"))) e2) (value_type (suc (suc (suc n))) p)

      by_object : (c : Bool) → (b == 0x1C) ≡ c → Rooted (suc m) p (Prim b)
      by_object true e = is_object b e
      by_object false e = by_string false (b == 0x0E) e refl refl
  rooted_from (Known k) = by_base m p (Known k) (maybe object_ty (under [] []) (type_of p k).base) refl (rows k [])
  rooted_from (Outside name value) = by_base m p (Outside name value) (outside_base name value) refl (outside_rooted (suc n) p name value)
  rooted_from (Array' q parts) = by_base m p (Array' q parts) (class_named (codes "System.Array")) refl (array (suc (suc (suc n))) p)
  rooted_from (ByRef' q parts) = under_object (ByRef' q parts) refl
  rooted_from (Var k) = under_object (Var k) refl
  rooted_from (MVar k) = under_object (MVar k) refl
  rooted_from Opaque = under_object Opaque refl
  rooted_from (Inst' k shape parts) = by_base m p (Inst' k shape parts) _ refl (rows k _)
