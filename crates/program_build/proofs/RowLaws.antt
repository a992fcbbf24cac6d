-- Single types, fields, methods and signatures by what is known of them.
use Rattle.std.proofs.Common.{◌≡◌, ◌∙◌, sym, ap, refl, subst, ℕ, ◌≤◌, List, [], length}
use Rattle.std.specs.Prelude.{Option, Some, None, Result, Ok, Err, IfOk}
use Rattle.cil_base.specs.declared.tables.TheConstants.{MEMBER_REF, METHOD_DEF, TYPE_DEF}
use Rattle.cil_model.specs.declared.ty.Ty.{Ty}
use Rattle.set_names.specs.Names.{Noted, number_under, first_under}
use Rattle.set_rows.specs.Sets.{Assembly, Assemblies, assembly_at, count_in, blob}
use Rattle.set_rows.specs.Owners.{AreOwners}
use Rattle.set_types.specs.SignatureTypes.{Coded}
use Rattle.set_signatures.specs.Blobs.{method_sig}
use Rattle.set_signatures.specs.Shapes.{signature_numbers}
use Rattle.set_program.specs.declared.identity.TypeId.TheVariants as type_id
use Rattle.set_program.specs.Numbering.{Cell}
use Rattle.set_program.specs.Environment.{number_of, number_or, coded_in}
use Rattle.members.specs.declared.outside_member.OutsideMember.{OutsideMember}
use Rattle.member_table.specs.declared.named.MemberId.TheVariants as id
use Rattle.member_table.specs.Numbers.{outside_row}
use Rattle.coded_tables.specs.declared.counts.GenericCounts.{GenericCounts}
use Rattle.coded_tables.specs.Counts.{AreCounts}
use Rattle.row_descriptions.specs.declared.methods.MethodFacts.{MethodFacts}
use Rattle.row_descriptions.specs.declared.methods.Parameters.{Parameters}
use Rattle.row_descriptions.specs.RowDescriptions.{field_ty, field_row, parameters_of, method_row}
use Rattle.descriptions.specs.declared.facts.TypeFacts.{TypeFacts}
use Rattle.descriptions.specs.Descriptions.{all_signatures, outside_ty, outside_field, outside_parameters, outside_method, field_desc, method_desc, type_row}
use Rattle.descriptions.specs.Signatures.{place_or, place_in, signature_number}
use Rattle.descriptions.specs.TypeFacts.{type_by, GiveTypes}
use Rattle.type_facts.specs.declared.methods.MethodMarks.{MethodMarks}
use Rattle.type_facts.specs.Known.{AreMethodMarks, GiveMethodFacts, GiveTypeFacts, method_facts_by, type_facts_by}
use Rattle.program_build.specs.declared.facts.Known.{Known}
use Rattle.program_build.specs.declared.signatures.Signatures.{Signatures}
use Rattle.program_build.specs.Known.{IsKnown, AreNumbers}
use Rattle.program_build.specs.Orders.{field_at_row, method_at_row, signature_at}

pub same_answer : {V E : Type 0} (r : Result V E) (x y : V) → x ≡ y → IfOk r (λ v. v ≡ x) → IfOk r (λ v. v ≡ y)
same_answer (Ok v) x y e h = h ∙ e
same_answer (Err f) x y e h = h

pub owners_are : (x y : Assembly) (column table : ℕ) (l m : List ℕ) → y ≡ x → m ≡ l → AreOwners x column table l → AreOwners y column table m
owners_are x y column table l m e f h = subst (λ z. AreOwners z column table m) (sym e) (subst (AreOwners x column table) (sym f) h)

-- ---- rows

pub signature_is : (s : Assemblies) (a row : ℕ) (c : Coded) (x : Assembly) (bytes : List ℕ) → c ≡ coded_in s a → x ≡ assembly_at s a → bytes ≡ blob x METHOD_DEF row 4 → signature_numbers c [] bytes ≡ signature_at s a row
signature_is s a row c x bytes e f g = ap (λ (k : Coded). signature_numbers k [] bytes) e ∙ ap (signature_numbers (coded_in s a) []) (g ∙ ap (λ (y : Assembly). blob y METHOD_DEF row 4) f)

pub field_is : (s : Assemblies) (a row : ℕ) (c : Coded) (x : Assembly) → c ≡ coded_in s a → x ≡ assembly_at s a → field_row x c row ≡ field_at_row s a row
field_is s a row c x e f = ap (λ (k : Coded). field_row x k row) e ∙ ap (λ (y : Assembly). field_row y (coded_in s a) row) f

-- the number of a signature
numbered : (s : Assemblies) (n : Signatures) (signature other : Option (List ℕ)) → AreNumbers s n → signature ≡ other → place_in n.found n.count signature ≡ signature_number (all_signatures s) other
numbered s n signature other h e = h.each signature ∙ ap (signature_number (all_signatures s)) e

pub method_is : (s : Assemblies) (a row sig : ℕ) (m : MethodMarks) (n : Signatures) (signature : Option (List ℕ)) (facts : MethodFacts) (c : Coded) (x : Assembly)
    → c ≡ coded_in s a → x ≡ assembly_at s a → facts ≡ method_facts_by m a row sig → sig ≡ place_in n.found n.count signature → signature ≡ signature_at s a row
    → AreNumbers s n → AreMethodMarks s a m → GiveMethodFacts s a m → 1 ≤ row → row ≤ count_in (assembly_at s a) METHOD_DEF → method_row x c facts ≡ method_at_row s a row
method_is s a row sig m n signature facts c x e f g h k numbers marks give low high =
    ap (λ (d : Coded). method_row x d facts) e
    ∙ ap (λ (y : Assembly). method_row y (coded_in s a) facts) f
    ∙ ap (method_row (assembly_at s a) (coded_in s a)) (g ∙ give marks row sig low high (h ∙ numbered s n signature (signature_at s a row) numbers k))

pub type_is : (s : Assemblies) (a row : ℕ) (k : Known) (t : TypeFacts) (c : Coded) (x : Assembly) → c ≡ coded_in s a → x ≡ assembly_at s a → t ≡ type_facts_by s a k.types row
    → IsKnown s a k → GiveTypes s a k.members k.lists → GiveTypeFacts s a k.types → 1 ≤ row → row ≤ count_in (assembly_at s a) TYPE_DEF → type_by x c k.members k.lists t a row ≡ type_row s a row
type_is s a row k t c x e f g h types facts low high =
    ap (λ (d : Coded). type_by x d k.members k.lists t a row) e
    ∙ ap (λ (y : Assembly). type_by y (coded_in s a) k.members k.lists t a row) f
    ∙ ap (λ (u : TypeFacts). type_by (assembly_at s a) (coded_in s a) k.members k.lists u a row) g
    ∙ types h.members h.lists row (type_facts_by s a k.types row) low high (facts h.types row low high)

-- ---- outside

pub outside_field_is : (s : Assemblies) (m : OutsideMember) (at : Cell) (name : List ℕ) (owner : ℕ) (t : Ty) (c : Coded) (bytes : List ℕ)
    → Some at ≡ outside_row s m → name ≡ m.shape.name → owner ≡ number_or 0 (number_of s (type_id.Outside m.owner)) → t ≡ field_ty c bytes → c ≡ coded_in s at.0 → bytes ≡ blob (assembly_at s at.0) MEMBER_REF at.1 2
    → outside_field name owner t ≡ field_desc s (id.Outside m)
outside_field_is s m at name owner t c bytes e n o f k b =
    ap (λ (l : List ℕ). outside_field l owner t) n
    ∙ ap (λ (j : ℕ). outside_field m.shape.name j t) o
    ∙ ap (outside_field m.shape.name (number_or 0 (number_of s (type_id.Outside m.owner)))) (
    f ∙ ap (λ (d : Coded). field_ty d bytes) k ∙ ap (field_ty (coded_in s at.0)) b ∙ ap (outside_ty s) e)

pub outside_method_is : (s : Assemblies) (m : OutsideMember) (at : Cell) (name : List ℕ) (owner sig : ℕ) (p : Parameters) (c : Coded) (bytes : List ℕ) (n : Signatures) (signature : List ℕ)
    → Some at ≡ outside_row s m → name ≡ m.shape.name → owner ≡ number_or 0 (number_of s (type_id.Outside m.owner)) → p ≡ parameters_of c (method_sig bytes) → c ≡ coded_in s at.0 → bytes ≡ blob (assembly_at s at.0) MEMBER_REF at.1 2
    → AreNumbers s n → sig ≡ place_in n.found n.count (Some signature) → signature ≡ m.shape.signature → outside_method name owner sig p ≡ method_desc s (id.Outside m)
outside_method_is s m at name owner sig p c bytes n signature e same o f k b numbers g h =
    ap (λ (l : List ℕ). outside_method l owner sig p) same
    ∙ ap (λ (j : ℕ). outside_method m.shape.name j sig p) o
    ∙ ap (λ (j : ℕ). outside_method m.shape.name (number_or 0 (number_of s (type_id.Outside m.owner))) j p) (g ∙ numbered s n (Some signature) (Some m.shape.signature) numbers (ap (λ (l : List ℕ). Some l) h))
    ∙ ap (outside_method m.shape.name (number_or 0 (number_of s (type_id.Outside m.owner))) (signature_number (all_signatures s) (Some m.shape.signature))) (
    f ∙ ap (λ (d : Coded). parameters_of d (method_sig bytes)) k ∙ ap (λ (l : List ℕ). parameters_of (coded_in s at.0) (method_sig l)) b ∙ ap (outside_parameters s) e)

-- ---- numbers of signatures

placed : (all : List (Option (List ℕ))) (found : Noted) → ((key : List ℕ) → number_under found key ≡ first_under all key) → (o : Option (List ℕ)) → place_in found (length all) o ≡ signature_number all o
placed all found h None = refl
placed all found h (Some x) = ap (place_or (length all)) (h x)

pub numbers_are : (s : Assemblies) (found : Noted) (count : ℕ) (all : List (Option (List ℕ))) → all ≡ all_signatures s → count ≡ length all → ((key : List ℕ) → number_under found key ≡ first_under all key)
    → AreNumbers s (record { found = found; count = count })
numbers_are s found count all e f h = record {
  each = λ o.
      ap (λ (n : ℕ). place_in found n o) f
      ∙ placed all found h o
      ∙ ap (λ (l : List (Option (List ℕ))). signature_number l o) e;
}

-- ---- parameters

pub counts_are : {E : Type 0} (r : Result GenericCounts E) (x y : Assembly) → x ≡ y → IfOk r (AreCounts x) → IfOk r (AreCounts y)
counts_are r x y e h = subst (λ z. IfOk r (AreCounts z)) e h
