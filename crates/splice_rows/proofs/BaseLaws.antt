-- The base of a type has no void among its arguments, where those that types name have none: built-in bases have no arguments.
use Rattle.std.proofs.Common.{◌≡◌, ℕ, Bool, true, false, List, [], ◌∷◌, Option, Some, None, refl, subst}
use Rattle.std.specs.Prelude.{◌==◌, ◌||◌, bytes_eq, codes, find, if◌then◌else◌}
use Rattle.cil_model.specs.declared.ty.Ty.{Ty, out-Ty}
use Rattle.cil_model.specs.declared.ty.Ty.TheOpen.{Ty-F}
use Rattle.cil_model.specs.declared.program.Program.{Program}
use Rattle.cil_semantics.specs.Words.{maybe}
use Rattle.cil_semantics.specs.Core.{Name, class_named, object_ty, core_classes, outside_base, leaf_base, base_or, ends_with, failure_kind}
use Rattle.cil_semantics.specs.Lookups.{type_of, in_set, args_of, built_in_base, base_from, base_of}
use Rattle.cil_semantics.specs.Types.{Layer, under}
use Rattle.splice_facts.specs.WellFormed.{NoneVoid}

module _ (p : Program) where
  abbrev Whole : Ty → Type 0
  Whole t = NoneVoid p (args_of t)

  pub class_whole : (name : Name) → Whole (class_named name)
  unfolding out-Ty denote.Hole.Carrier.out
  class_whole name = tt

  pub object_whole : Whole object_ty
  unfolding out-Ty denote.Hole.Carrier.out
  object_whole = tt

  -- ---- of types outside

  abbrev RowWhole : Name × Ty → Type 0
  RowWhole row = Whole row.1

  abbrev IfWhole : Option (Name × Ty) → Type 0
  IfWhole None = Unit {0}
  IfWhole (Some row) = RowWhole row

  abbrev AllRows : List (Name × Ty) → Type 0
  AllRows [] = Unit {0}
  AllRows (row ∷ rows) = RowWhole row × AllRows rows

  core_rows : AllRows core_classes
  unfolding core_classes out-Ty denote.Hole.Carrier.out
  core_rows = (tt, (tt, (tt, (tt, (tt, (tt, (tt, (tt, (tt, (tt, (tt, (tt, (tt, (tt, (tt, (tt, (tt, (tt, (tt, (tt, (tt, (tt, (tt, tt)))))))))))))))))))))))

  outside_whole : (name : Name) (value : Bool) → Whole (outside_base name value)
  unfolding outside_base leaf_base
  outside_whole name value = by_row (find (λ (row : Name × Ty). bytes_eq row.0 name) core_classes) (found (λ (row : Name × Ty). bytes_eq row.0 name) core_classes core_rows)
    where
      found : (test : Name × Ty → Bool) (rows : List (Name × Ty)) → AllRows rows → IfWhole (find test rows)
      found test [] all = tt
      found test (row ∷ rows) all = by_test (test row) (found test rows all.1)
        where
          by_test : (b : Bool) → IfWhole (find test rows) → IfWhole (if b then Some row else find test rows)
          by_test true more = all.0
          by_test false more = more

      leaf : (a b : Bool) → Whole (if a then class_named (codes "System.Exception") else if b then class_named (codes "System.ValueType") else object_ty)
      leaf true b = class_whole (codes "System.Exception")
      leaf false true = class_whole (codes "System.ValueType")
      leaf false false = object_whole

      by_row : (o : Option (Name × Ty)) → IfWhole o → Whole (base_or o (leaf_base name value))
      by_row None h = leaf (ends_with name (codes "Exception")) (value || bytes_eq name failure_kind)
      by_row (Some row) h = h

  -- ---- of any type

  at_object : (u : Ty) → Some object_ty ≡ Some u → Whole u
  at_object u e = let q : object_ty ≡ u = cc e in subst Whole q object_whole

  at_class : (name : Name) (u : Ty) → Some (class_named name) ≡ Some u → Whole u
  at_class name u e = let q : class_named name ≡ u = cc e in subst Whole q (class_whole name)

  built_in : (l : Layer) (u : Ty) → built_in_base l ≡ Some u → Whole u
  built_in (Ty-F.Prim b) u e = by_tests (b == 0x1C) (b == 0x0E) e
    where
      by_tests : (a c : Bool) → (if a then None else if c then Some object_ty else Some (class_named (codes "System.ValueType"))) ≡ Some u → Whole u
      by_tests true c q = absurd (cc q)
      by_tests false true q = at_object u q
      by_tests false false q = at_class (codes "System.ValueType") u q
  built_in (Ty-F.Outside name value) u e = let q : outside_base name value ≡ u = cc e in subst Whole q (outside_whole name value)
  built_in (Ty-F.Array item) u e = at_class (codes "System.Array") u e
  built_in (Ty-F.Known k) u e = at_object u e
  built_in (Ty-F.Inst k args) u e = at_object u e
  built_in (Ty-F.ByRef t) u e = at_object u e
  built_in (Ty-F.Var k) u e = at_object u e
  built_in (Ty-F.MVar k) u e = at_object u e
  built_in Ty-F.Opaque u e = at_object u e

  -- So it is of each base, where it is of those that types of the set name.
  pub bases_whole : ((k : ℕ) (args : List Ty) → Whole (maybe object_ty (under args []) (type_of p k).base)) → (t u : Ty) → base_of p t ≡ Some u → Whole u
  unfolding base_of
  bases_whole h t u e = by_set (in_set (out-Ty t)) e
    where
      by_set : (o : Option (ℕ × List Ty)) → base_from p o (out-Ty t) ≡ Some u → Whole u
      by_set None q = built_in (out-Ty t) u q
      by_set (Some d) q = let z : maybe object_ty (under d.1 []) (type_of p d.0).base ≡ u = cc q in subst Whole z (h d.0 d.1)
