-- The types of a program, with those outside, are closed under what stands above them.
use Rattle.std.proofs.Common.{◌≡◌, ◌∙◌, sym, ap, refl, subst, rules, ℕ, ◌<◌, List, [], ◌∷◌, length, Bool, true, false}
use Rattle.std.specs.Prelude.{Option, Some, None, nat_lt, nat_eq, find, cond, bytes_eq, codes, if◌then◌else◌}
use Rattle.std.proofs.lemmas.Bool.{ltb-true, lt-ltb}
use Rattle.cil_model.specs.declared.ty.Ty.{Ty, out-Ty, out-roll-Ty, Prim, Known, Outside, Array', ByRef', Var, MVar, Opaque, Inst'}
use Rattle.cil_model.specs.declared.ty.Ty as types
use Rattle.cil_model.specs.declared.ty.Ty.TheOpen.{Ty-F}
use Rattle.cil_model.specs.declared.program.Program.{Program}
use Rattle.cil_semantics.specs.Words.{maybe}
use Rattle.cil_semantics.specs.Types.{Layer, under, all_under}
use Rattle.cil_semantics.specs.Core.{Name, object_ty, class_named, core_classes, leaf_base, outside_base, base_or, ends_with, failure_kind}
use Rattle.cil_semantics.specs.Lookups.{type_of, in_set, built_in_base, base_from, base_of, interfaces_from, interfaces_of}
use Rattle.machine_laws.specs.Answers.{Each, NamesOwn, NamesNone, IsAmong, is_below}
use Rattle.machine_laws.proofs.AnswerLaws.{AreClosed}

-- a type that is not of the set
abbrev IsApart : Ty → Type 0
IsApart t = in_set (out-Ty t) ≡ None

apart_below : (n : ℕ) (t : Ty) → IsApart t → is_below n t ≡ true
apart_below n t e = ap (maybe true (λ (d : ℕ × List Ty). nat_lt d.0 n)) e

object_apart : IsApart object_ty
unfolding types.out-Ty denote.Hole.Carrier.out
object_apart = refl

class_apart : (name : Name) → IsApart (class_named name)
unfolding types.out-Ty denote.Hole.Carrier.out
class_apart name = refl

leaf_apart : (name : Name) (value : Bool) → IsApart (leaf_base name value)
unfolding leaf_base
leaf_apart name value = by_name (ends_with name (codes "Exception")) (Rattle.std.specs.Prelude.◌||◌ value (bytes_eq name failure_kind))
  where
    by_name : (a b : Bool) → IsApart (if a then class_named (codes "System.Exception") else if b then class_named (codes "System.ValueType") else object_ty)
    by_name true b = class_apart _
    by_name false true = class_apart _
    by_name false false = object_apart

rows_apart : Each (λ (row : Name × Ty). IsApart row.1) core_classes
unfolding core_classes types.out-Ty denote.Hole.Carrier.out
rows_apart = (refl, (refl, (refl, (refl, (refl, (refl, (refl, (refl, (refl, (refl, (refl, (refl, (refl, (refl, (refl, (refl, (refl, (refl, (refl, (refl, (refl, (refl, (refl, tt)))))))))))))))))))))))

found_apart : (name : Name) (rows : List (Name × Ty)) (other : Ty) → Each (λ (row : Name × Ty). IsApart row.1) rows → IsApart other → IsApart (base_or (find (λ (row : Name × Ty). bytes_eq row.0 name) rows) other)
found_apart name [] other all o = o
found_apart name (row ∷ rows) other all o = by_test (bytes_eq row.0 name) (found_apart name rows other all.1 o)
  where
    by_test : (b : Bool) → IsApart (base_or (find (λ (x : Name × Ty). bytes_eq x.0 name) rows) other) → IsApart (base_or (cond b (Some row) (find (λ (x : Name × Ty). bytes_eq x.0 name) rows)) other)
    by_test true h = all.0
    by_test false h = h

outside_apart : (name : Name) (value : Bool) → IsApart (outside_base name value)
unfolding outside_base
outside_apart name value = found_apart name core_classes (leaf_base name value) rows_apart (leaf_apart name value)

this_one : (t u : Ty) → Some t ≡ Some u → t ≡ u
this_one t u e = search (rules, e)

built_in_apart : (l : Layer) (u : Ty) → built_in_base l ≡ Some u → IsApart u
built_in_apart (Ty-F.Prim b) u e = by_byte (nat_eq b 0x1C) (nat_eq b 0x0E) e
  where
    by_byte : (x y : Bool) → (if x then None else if y then Some object_ty else Some (class_named (codes "System.ValueType"))) ≡ Some u → IsApart u
    by_byte true y f = absurd (cc f)
    by_byte false true f = subst IsApart (this_one object_ty u f) object_apart
    by_byte false false f = subst IsApart (this_one (class_named (codes "System.ValueType")) u f) (class_apart _)
built_in_apart (Ty-F.Outside name value) u e = subst IsApart (this_one (outside_base name value) u e) (outside_apart name value)
built_in_apart (Ty-F.Array item) u e = subst IsApart (this_one (class_named (codes "System.Array")) u e) (class_apart _)
built_in_apart (Ty-F.Known k) u e = subst IsApart (this_one object_ty u e) object_apart
built_in_apart (Ty-F.ByRef item) u e = subst IsApart (this_one object_ty u e) object_apart
built_in_apart (Ty-F.Var k) u e = subst IsApart (this_one object_ty u e) object_apart
built_in_apart (Ty-F.MVar k) u e = subst IsApart (this_one object_ty u e) object_apart
built_in_apart Ty-F.Opaque u e = subst IsApart (this_one object_ty u e) object_apart
built_in_apart (Ty-F.Inst k args) u e = subst IsApart (this_one object_ty u e) object_apart

-- what stands for parameters changes nothing of a type's own number
module _ (n : ℕ) (a b : List Ty) where
  abbrev below_by : Layer → Bool
  below_by l = maybe true (λ (d : ℕ × List Ty). nat_lt d.0 n) (in_set l)

  under_below : (t : Ty) → IsAmong n (out-Ty t) → is_below n (under a b t) ≡ true
  unfolding types.out-Ty denote.Hole.Carrier.out denote.Hole.Carrier.hidden denote.Hole.Carrier.shown
  under_below (Prim x) h = refl
  under_below (Known k) h = lt-ltb k n h
  under_below (Outside name value) h = refl
  under_below (Array' x parts) h = refl
  under_below (ByRef' x parts) h = refl
  under_below (Var k) h = absurd h
  under_below (MVar k) h = absurd h
  under_below Opaque h = refl
  under_below (Inst' k shape parts) h = lt-ltb k n h

  all_below : (ts : List Ty) → Each (λ t. IsAmong n (out-Ty t)) ts → Each (λ t. is_below n t ≡ true) (all_under a b ts)
  all_below [] h = tt
  all_below (t ∷ ts) h = (under_below t h.0, all_below ts h.1)

module _ (p q : Program) (whole : NamesOwn p) (none : NamesNone p q) where
  abbrev n : ℕ
  n = length p.types

  numbered : (o : Option (ℕ × List Ty)) (d : ℕ × List Ty) → maybe true (λ (d : ℕ × List Ty). nat_lt d.0 n) o ≡ true → o ≡ Some d → d.0 < n
  numbered o d b e = ltb-true d.0 n (sym (ap (maybe true (λ (d : ℕ × List Ty). nat_lt d.0 n)) e) ∙ b)

  base_below : (t u : Ty) → is_below n t ≡ true → base_of p t ≡ Some u → is_below n u ≡ true
  unfolding base_of
  base_below t u b e = by_number (in_set (out-Ty t)) (λ d f. numbered (in_set (out-Ty t)) d b f) e
    where
      by_base : (d : ℕ × List Ty) (o : Option Ty) → ((v : Ty) → o ≡ Some v → IsAmong n (out-Ty v)) → Some (maybe object_ty (under d.1 []) o) ≡ Some u → is_below n u ≡ true
      by_base d None h f = subst (λ v. is_below n v ≡ true) (this_one object_ty u f) (apart_below n object_ty object_apart)
      by_base d (Some v) h f = subst (λ x. is_below n x ≡ true) (this_one (under d.1 [] v) u f) (under_below n d.1 [] v (h v refl))

      by_number : (o : Option (ℕ × List Ty)) → ((d : ℕ × List Ty) → o ≡ Some d → d.0 < n) → base_from p o (out-Ty t) ≡ Some u → is_below n u ≡ true
      by_number None h f = apart_below n u (built_in_apart (out-Ty t) u f)
      by_number (Some d) h f = by_base d (type_of p d.0).base (λ v g. whole.bases d.0 v (h d refl) g) f

  interfaces_below : (t : Ty) → is_below n t ≡ true → Each (λ u. is_below n u ≡ true) (interfaces_of p t)
  unfolding interfaces_of
  interfaces_below t b = by_number (in_set (out-Ty t)) (λ d f. numbered (in_set (out-Ty t)) d b f)
    where
      by_number : (o : Option (ℕ × List Ty)) → ((d : ℕ × List Ty) → o ≡ Some d → d.0 < n) → Each (λ u. is_below n u ≡ true) (interfaces_from p o)
      by_number None h = tt
      by_number (Some d) h = all_below n d.1 [] (type_of p d.0).interfaces (whole.interfaces d.0 (h d refl))

  pub are_closed : AreClosed p q (is_below n)
  are_closed =
      record {
        number = λ t d b e. numbered (in_set (out-Ty t)) d b e;
        base = base_below;
        interfaces = interfaces_below;
        names_none = none;
      }
