-- Members in bases, and the bases of an instance, one after another.
use Rattle.std.proofs.Common.{◌≡◌, ◌∙◌, sym, ap, arith, refl, subst, ℕ, zero, suc, ◌-◌, ◌*◌, List, [], length, Bool, true, false}
use Rattle.std.proofs.Math.Nat.{mul-div_cancel, mul-mod_left}
use Rattle.std.specs.Prelude.{◌==◌, ◌%◌, Option, Some, None, slice_get, get_or, is_some, option_and_then, if◌then◌else◌, Result, IfOk}
use Rattle.cil_model.specs.declared.ty.Ty.{Ty, out-Ty}
use Rattle.cil_semantics.specs.Lookups.{in_set}
use Rattle.set_signatures.specs.Shapes.{is_same}
use Rattle.set_signatures.specs.declared.shape.Shape.{Shape}
use Rattle.members.specs.declared.assembly_members.AssemblyMembers.{AssemblyMembers}
use Rattle.members.specs.declared.set_type.SetType.{SetType}
use Rattle.members.specs.MemberRows.{declared}
use Rattle.members.specs.Bases.{arguments, arguments_in, declared_in, with_arguments, onwards, here_or, in_bases}
use Rattle.members.specs.Bases as below
use Rattle.member_table.specs.Environments.{Environment, environment_in, rows_or, coded_or, base_under, is_of, seen_within}
use Rattle.set_types.specs.CodedTypes.{coded_of, named_row}
use Rattle.set_types.specs.declared.coded.CodedTypes.{CodedTypes}
use Rattle.member_table.specs.declared.named.Found.{Found}
use Rattle.member_table.specs.declared.named.Named.TheVariants as named
use Rattle.member_table.specs.Members.{by_type, found_within, found_at, found_from, found_or_missing, of_reference, member_in}

-- ---- a member in the nearest of a type and its bases

stops : (go : List (List ℕ) → ℕ → Option (ℕ × ℕ)) (base : Option ℕ) → onwards go None base ≡ None
stops go None = refl
stops go (Some base) = refl

in_assembly : (go : List (List ℕ) → ℕ → Option (ℕ × ℕ)) (args : List (List ℕ)) (x : Shape) (k : ℕ) (t : SetType) (a : Option AssemblyMembers)
    → here_or k (onwards go (arguments_in args t.args a) t.base) (declared_in args x t.row a)
    ≡ (if is_some a then here_or k (onwards go (arguments (coded_or a) args t.args) t.base) (declared (rows_or a) (coded_or a) args (is_same x) x.is_field t.row) else None)
in_assembly go args x k t None = stops go t.base
in_assembly go args x k t (Some a) = refl

-- found by the assemblies as data, and in the environment that they are
pub found_same : (assemblies : List AssemblyMembers) (types : List SetType) (x : Shape) (n : ℕ) (args : List (List ℕ)) (k : ℕ) → in_bases assemblies types x n args k ≡ found_within (environment_in assemblies types) x n args k
unfolding in_bases found_within
found_same assemblies types x zero args k = refl
found_same assemblies types x (suc n) args k = by_number (λ i more base. found_same assemblies types x n more base i) (slice_get types k)
  where
    by_number : in_bases assemblies types x n ≡ found_within (environment_in assemblies types) x n → (t : Option SetType) → below.by_type (in_bases assemblies types x n) assemblies args x k t ≡ by_type (found_within (environment_in assemblies types) x n) (environment_in assemblies types) args x k t
    by_number same None = refl
    by_number same (Some t) =
        in_assembly (in_bases assemblies types x n) args x k t (slice_get assemblies t.assembly)
        ∙ ap (λ (go : List (List ℕ) → ℕ → Option (ℕ × ℕ)). by_type go (environment_in assemblies types) args x k (Some t)) same

module _ (assemblies : List AssemblyMembers) (types : List SetType) (t : Ty) (k : ℕ) (x : Shape) where
  pub found_none : None ≡ in_bases assemblies types x (length types) [] k → named.Missing ≡ found_or_missing (found_from (environment_in assemblies types) t k x)
  found_none h = ap (λ (o : Option (ℕ × ℕ)). found_or_missing (option_and_then (found_at (environment_in assemblies types) x.is_field t) o)) (h ∙ found_same assemblies types x (length types) [] k)

  pub found_is : (f : ℕ × ℕ) (found : Option Found) → Some f ≡ in_bases assemblies types x (length types) [] k → found ≡ found_at (environment_in assemblies types) x.is_field t f → found_or_missing found ≡ found_or_missing (found_from (environment_in assemblies types) t k x)
  found_is f found h e = ap found_or_missing (e ∙ ap (option_and_then (found_at (environment_in assemblies types) x.is_field t)) (h ∙ found_same assemblies types x (length types) [] k))

pub member_of : (assemblies : List AssemblyMembers) (types : List SetType) (a row : ℕ) (m : AssemblyMembers) → slice_get assemblies a ≡ Some m
    → of_reference (environment_in assemblies types) a m.rows (coded_of m.coded) row ≡ member_in (environment_in assemblies types) a row
unfolding member_in
member_of assemblies types a row m h = sym (ap (λ (o : Option AssemblyMembers). if is_some o then of_reference (environment_in assemblies types) a (rows_or o) (coded_or o) row else named.Missing) h)

-- the type of a TypeDef row, as a coded type
pub definition_is : (c : CodedTypes) (row : ℕ) → (if row == 0 then None else slice_get c.defs (row - 1)) ≡ named_row c (row * 4)
definition_is c row = sym (ap (λ (r : ℕ). by_tag r (row * 4 % 4)) (mul-div_cancel row (omega arith)) ∙ ap (by_tag row) (mul-mod_left row 4))
  where
    by_tag : ℕ → ℕ → Option Ty
    by_tag r t = if r == 0 then None else if t == 0 then slice_get c.defs (r - 1) else if t == 1 then get_or c.refs.items (r - 1) None else None

pub if_ok_is : {A E : Type 0} (r : Result A E) (x y : A) → x ≡ y → IfOk r (λ v. v ≡ x) → IfOk r (λ v. v ≡ y)
if_ok_is r x y e h = subst (λ z. IfOk r (λ v. v ≡ z)) e h

-- ---- a type and its bases

module _ (e : Environment) (k n : ℕ) (t : Ty) (whole : Option Ty) where
  pub seen_here : true ≡ is_of k (in_set (out-Ty t)) → seen_within e k (suc n) t ≡ whole → Some t ≡ whole
  unfolding seen_within
  seen_here h f = ap (λ (b : Bool). if b then Some t else option_and_then (seen_within e k n) (option_and_then (base_under e) (in_set (out-Ty t)))) h ∙ f

  pub seen_on : (base : Option Ty) → false ≡ is_of k (in_set (out-Ty t)) → base ≡ option_and_then (base_under e) (in_set (out-Ty t)) → seen_within e k (suc n) t ≡ whole → option_and_then (seen_within e k n) base ≡ whole
  unfolding seen_within
  seen_on base h b f =
      ap (option_and_then (seen_within e k n)) b
      ∙ ap (λ (b : Bool). if b then Some t else option_and_then (seen_within e k n) (option_and_then (base_under e) (in_set (out-Ty t)))) h
      ∙ f

pub seen_over : (e : Environment) (k : ℕ) (t : Ty) (whole : Option Ty) → seen_within e k 0 t ≡ whole → None ≡ whole
unfolding seen_within
seen_over e k t whole h = h
