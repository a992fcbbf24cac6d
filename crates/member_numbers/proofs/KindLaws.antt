-- A MemberRef row names no outside member of the kind that its signature isn't of.
use mathlib.Core.Bool as bools
use Rattle.std.proofs.Common.{◌≡◌, ◌∙◌, ap, refl, sym, ℕ, ◌/◌, ◌%◌, List, [], Bool, true, false}
use Rattle.std.specs.Prelude.{◌==◌, Option, Some, None, option_map, option_and_then, if◌then◌else◌}
use Rattle.cil_base.specs.declared.tables.TheConstants.{MEMBER_REF}
use Rattle.cil_model.specs.declared.ty.Ty.{Ty, out-Ty}
use Rattle.cil_semantics.specs.Lookups.{in_set}
use Rattle.set_rows.specs.Sets.{cell, text, blob}
use Rattle.set_types.specs.SignatureTypes.{Coded}
use Rattle.set_signatures.specs.Blobs.{is_field_blob}
use Rattle.set_signatures.specs.Shapes.{same_bool, shape_of, signature_numbers}
use Rattle.set_signatures.specs.declared.shape.Shape.{Shape}
use Rattle.members.specs.declared.outside_member.OutsideMember.{OutsideMember}
use Rattle.member_table.specs.declared.named.Named.TheVariants as named
use Rattle.member_table.specs.declared.named.Found.{Found}
use Rattle.member_table.specs.Environments.{Environment}
use Rattle.member_table.specs.Members.{found_from, found_or_missing, member_in, of_method, of_parent, of_reference, of_type, outside_or_missing, owner_name, parent_type, reference_shape}
use Rattle.member_table.specs.Numbers.{outside_in, outside_of}

pub kinds_differ : (a b c : Bool) → b ≡ c → bools.beq a b ≡ false → same_bool a c ≡ false
kinds_differ a b c e h = go a c (ap (bools.beq a) (sym e) ∙ h)
  where
    go : (a c : Bool) → bools.beq a c ≡ false → same_bool a c ≡ false
    go true true g = g
    go true false g = refl
    go false true g = refl
    go false false g = g

of_found : (k : Bool) (o : Option Found) → outside_of k (found_or_missing o) ≡ None
of_found k None = refl
of_found k (Some f) = refl

module _ (k : Bool) (bytes : List ℕ) (other : same_bool k (is_field_blob bytes) ≡ false) (c : Coded) (name : List ℕ) where
  abbrev shape_with : List ℕ → Shape
  shape_with numbers = record { name = name; is_field = is_field_blob bytes; signature = numbers }

  of_shape : (t : Option Ty) → outside_of k (outside_or_missing t (shape_of c [] name bytes)) ≡ None
  of_shape t = go (signature_numbers c [] bytes)
    where
      go : (o : Option (List ℕ)) → outside_of k (outside_or_missing t (option_map shape_with o)) ≡ None
      go None = refl
      go (Some numbers) = let m : OutsideMember = record { owner = owner_name t; shape = shape_with numbers } in ap (λ (b : Bool). if b then Some m else None) other

  of_types : (e : Environment) (t : Option Ty) → outside_of k (of_parent e (shape_of c [] name bytes) t) ≡ None
  of_types e None = of_shape None
  of_types e (Some t) = go (in_set (out-Ty t))
    where
      go : (d : Option (ℕ × List Ty)) → outside_of k (of_type e (shape_of c [] name bytes) t d) ≡ None
      go None = of_shape (Some t)
      go (Some d) = of_found k (option_and_then (found_from e t d.0) (shape_of c [] name bytes))

pub other_kind : (e : Environment) (k : Bool) (a row : ℕ) → same_bool k (is_field_blob (blob (e.assembly a) MEMBER_REF row 2)) ≡ false → outside_in e k (a, row) ≡ None
unfolding member_in
other_kind e k a row other = by_number (e.has a)
  where
    by_parent : (b : Bool)
        → outside_of k (if b then of_method a (e.assembly a) (e.coded a) (cell (e.assembly a) MEMBER_REF row 0 / 8) else of_parent e (reference_shape (e.assembly a) (e.coded a) row) (parent_type (e.assembly a) (e.coded a) row)) ≡ None
    by_parent true = of_found k _
    by_parent false = of_types k (blob (e.assembly a) MEMBER_REF row 2) other (e.coded a) (text (e.assembly a) MEMBER_REF row 1) e (parent_type (e.assembly a) (e.coded a) row)

    by_number : (b : Bool) → outside_of k (if b then of_reference e a (e.assembly a) (e.coded a) row else named.Missing) ≡ None
    by_number true = by_parent (cell (e.assembly a) MEMBER_REF row 0 % 8 == 3)
    by_number false = refl
