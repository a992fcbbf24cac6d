-- What MemberRef rows name, where rows are appended.
use Rattle.std.proofs.Common.{◌≡◌, ◌∙◌, ap, refl, subst, arith, rules, ℕ, zero, suc, ◌+◌, ◌<◌, ◌≤◌, List, [], ◌∷◌, ◌++◌, length, Bool, true, false}
use Rattle.std.specs.Prelude.{map, ◌==◌, ◌&&◌, ◌/◌, ◌*◌, ◌%◌, nat_lt, is_some, is_none, slice_get, Option, Some, None, option_map, option_and_then, option_to_list, if◌then◌else◌}
use Rattle.std.proofs.lemmas.List.{map-append, length-append}
use Rattle.cil_base.specs.declared.tables.TheConstants.{FIELD, MEMBER_REF, METHOD_DEF, TYPE_DEF}
use Rattle.cil_model.specs.declared.ty.Ty.{Ty, out-Ty}
use Rattle.cil_semantics.specs.Types.{under}
use Rattle.cil_semantics.specs.Lookups.{in_set}
use Rattle.cli_sigs.specs.declared.types.SigTy.{SigTy}
use Rattle.set_names.specs.Names.{Name}
use Rattle.set_rows.specs.Sets.{Assembly, Assemblies, assembly_at, count_in, cell, text, blob}
use Rattle.set_rows.specs.Owners.{owner}
use Rattle.set_types.specs.SignatureRules.{any}
use Rattle.set_signatures.specs.Blobs.{field_sig, method_sig}
use Rattle.set_signatures.specs.Spelling.{spelled}
use Rattle.set_signatures.specs.Shapes.{shape_of, is_same}
use Rattle.set_signatures.specs.declared.shape.Shape.{Shape}
use Rattle.set_program.specs.declared.identity.TypeId.{TypeId}
use Rattle.set_program.specs.declared.identity.TypeId.TheVariants as type_id
use Rattle.set_program.specs.Environment.{types_of, coded_in, ty_at, member_types, types_or_none}
use Rattle.members.specs.Bases.{in_front, arguments, with_arguments, onwards, here_or}
use Rattle.members.specs.MemberRows.{member_table, row_shape, row_owner, passes, is_owner, is_declared, declared}
use Rattle.members.specs.declared.set_type.SetType.{SetType}
use Rattle.member_table.specs.Environments.{environment, definition_of, row_type, set_type, set_types, base_ty, base_under, is_of, seen_within, arguments_at}
use Rattle.member_table.specs.MemberRules.{isnt_read, is_missing}
use Rattle.member_table.specs.Members.{declared_by, by_type, found_within, is_type, parent_index, parent_type, found_or_missing, found_in_type, found_at, found_from, of_type, of_parent, method_found, of_method, reference_shape, of_reference, member_in, member}
use Rattle.member_table.specs.declared.named.Found.{Found}
use Rattle.member_table.specs.declared.named.Named.{Named}
use Rattle.set_growth.specs.Grown.{is_text, is_blob, IsGrown, SaysAlike}
use Rattle.set_growth.specs.Orderly.{IsOrderly}
use Rattle.set_growth.specs.Kept.{Stays}
use Rattle.set_growth.proofs.FindLaws.{differs, find_grown}
use Rattle.set_growth.proofs.KeptNameLaws.{IsPast, owner_stays, owner_past}
use Rattle.program_growth.specs.Rules.{IsTypeIndex, IsNamed, IsRowOf, IsNumbered}
use Rattle.program_growth.specs.Kept.{ExtendsCoded}
use Rattle.program_growth.proofs.SignatureLaws.{keeps_signatures}
use Rattle.program_growth.proofs.KeptCodedLaws.{shape_same, old_text, old_blob, old_cell, more_rows, ids_grow, coded_stays, ty_stays, ty_same, arguments_same}

-- ---- lists and options

pub get_before : {A : Type 0} (xs more : List A) (k : ℕ) → Stays (slice_get xs k) (slice_get (xs ++ more) k)
get_before [] more k v e = absurd cc
get_before (x ∷ xs) more zero v e = e
get_before (x ∷ xs) more (suc k) v e = get_before xs more k v e

pub map_at : {A B : Type 0} (f g : A → B) (xs : List A) → ((k : ℕ) (v : A) → slice_get xs k ≡ Some v → f v ≡ g v) → map f xs ≡ map g xs
map_at f g [] h = refl
map_at {A} {B} f g (x ∷ xs) h = ap (λ (b : B). b ∷ map f xs) (h 0 x refl) ∙ ap (λ (l : List B). g x ∷ l) (map_at f g xs (λ k v e. h (suc k) v e))

pub record IsMapped {A B : Type 0} (f : A → B) (xs : List A) (k : ℕ) (w : B) : Type 0 where
  pub value : A
  pub there : slice_get xs k ≡ Some value
  pub is : f value ≡ w

pub mapped_at : {A B : Type 0} (f : A → B) (xs : List A) (k : ℕ) (w : B) → slice_get (map f xs) k ≡ Some w → IsMapped f xs k w
mapped_at f [] k w e = absurd cc
mapped_at {A} {B} f (x ∷ xs) zero w e = record { value = x; there = refl; is = some_is (f x) w e }
  where
    some_is : (u v : B) → Some u ≡ Some v → u ≡ v
    some_is u v g = search (rules, g)
mapped_at f (x ∷ xs) (suc k) w e = let m : IsMapped f xs k w = mapped_at f xs k w e in record { value = m.value; there = m.there; is = m.is }

pub then_stays : {A B : Type 0} (f f' : A → Option B) (o o' : Option A) → Stays o o' → ((v : A) → o ≡ Some v → Stays (f v) (f' v)) → Stays (option_and_then f o) (option_and_then f' o')
then_stays f f' None o' h k v e = absurd cc
then_stays f f' (Some u) o' h k v e = ap (option_and_then f') (h u refl) ∙ k u refl v e

pub map_stays : {A B : Type 0} (f : A → B) (o o' : Option A) → Stays o o' → Stays (option_map f o) (option_map f o')
map_stays f None o' h v e = absurd cc
map_stays f (Some u) o' h v e = ap (option_map f) (h u refl) ∙ e

pub stays_same : {A : Type 0} (o o' : Option A) → is_some o ≡ true → Stays o o' → o' ≡ o
stays_same None o' e h = absurd cc
stays_same (Some v) o' e h = h v refl

pub isnt_none : {A : Type 0} (o : Option A) → is_none o ≡ false → is_some o ≡ true
isnt_none None e = absurd cc
isnt_none (Some v) e = refl

past_row : {n : ℕ} (row : ℕ) → row ≤ n → (o : Option ℕ) → IsPast n o → is_owner row o ≡ false
past_row row h None p = refl
past_row {n} row h (Some r) p = let l : n < r = p r refl in differs row r (λ e. omega (arith, e, h, l))

module _ (x x' : Assembly) (xs : Assemblies) (grown : IsGrown x x') (orderly : IsOrderly x) (named : IsNamed (x ∷ xs)) (numbered : IsNumbered (x ∷ xs)) (alike : SaysAlike (x ∷ xs) (x' ∷ xs)) where
  abbrev s : Assemblies
  s = x ∷ xs

  abbrev s' : Assemblies
  s' = x' ∷ xs

  abbrev kept_coded : (a : ℕ) → ExtendsCoded (coded_in s a) (coded_in s' a)
  kept_coded = coded_stays x x' xs grown orderly named numbered alike

  -- ---- what rows are compared by

  shape_at : (a table row name sig : ℕ) → is_text table name ≡ true → is_blob table sig ≡ true → row ≤ count_in (assembly_at s a) table → isnt_read (coded_in s a) (member_types (blob (assembly_at s a) table row sig)) ≡ false
      → (args : List (List ℕ)) → shape_of (coded_in s' a) args (text (assembly_at s' a) table row name) (blob (assembly_at s' a) table row sig) ≡ shape_of (coded_in s a) args (text (assembly_at s a) table row name) (blob (assembly_at s a) table row sig)
  shape_at a table row name sig v w h r args =
      ap (λ (n : Name). shape_of (coded_in s' a) args n (blob (assembly_at s' a) table row sig)) (old_text x x' xs grown orderly named numbered alike a table row name v h)
      ∙ ap (shape_of (coded_in s' a) args (text (assembly_at s a) table row name)) (old_blob x x' xs grown orderly named numbered alike a table row sig w h)
      ∙ shape_same (coded_in s a) (coded_in s' a) (kept_coded a) args (text (assembly_at s a) table row name) (blob (assembly_at s a) table row sig) r

  pub field_read : (a row : ℕ) → 1 ≤ row → row ≤ count_in (assembly_at s a) FIELD → isnt_read (coded_in s a) (member_types (blob (assembly_at s a) FIELD row 2)) ≡ false
  field_read a row low high =
      ap (λ (b : Bool). isnt_read (coded_in s a) (if b then option_to_list (field_sig (blob (assembly_at s a) FIELD row 2)) else types_or_none Rattle.set_types.specs.SignatureRules.method_types (method_sig (blob (assembly_at s a) FIELD row 2)))) (named.field_blobs a row low high)
      ∙ named.read a FIELD row low high

  pub method_read : (a row : ℕ) → 1 ≤ row → row ≤ count_in (assembly_at s a) METHOD_DEF → isnt_read (coded_in s a) (member_types (blob (assembly_at s a) METHOD_DEF row 4)) ≡ false
  method_read a row low high =
      ap (λ (b : Bool). isnt_read (coded_in s a) (if b then option_to_list (field_sig (blob (assembly_at s a) METHOD_DEF row 4)) else types_or_none Rattle.set_types.specs.SignatureRules.method_types (method_sig (blob (assembly_at s a) METHOD_DEF row 4)))) (named.method_blobs a row low high)
      ∙ named.read a METHOD_DEF row low high

  pub row_shape_same : (is_field : Bool) (a row : ℕ) → 1 ≤ row → row ≤ count_in (assembly_at s a) (member_table is_field) → (args : List (List ℕ))
      → row_shape (assembly_at s' a) (coded_in s' a) args is_field row ≡ row_shape (assembly_at s a) (coded_in s a) args is_field row
  unfolding row_shape
  row_shape_same true a row low high args = shape_at a FIELD row 1 2 refl refl high (field_read a row low high) args
  row_shape_same false a row low high args = shape_at a METHOD_DEF row 3 4 refl refl high (method_read a row low high) args

  -- ---- owners of rows

  owner_there : (is_field : Bool) (a k : ℕ) → 1 ≤ k → k ≤ count_in (assembly_at s a) (member_table is_field) → is_some (row_owner (assembly_at s a) is_field k) ≡ true
  owner_there true a k low high = isnt_none (row_owner (assembly_at s a) true k) (named.there a FIELD k low high)
  owner_there false a k low high = isnt_none (row_owner (assembly_at s a) false k) (named.there a METHOD_DEF k low high)

  pub row_owner_stays : (is_field : Bool) (a k : ℕ) → Stays (row_owner (assembly_at s a) is_field k) (row_owner (assembly_at s' a) is_field k)
  row_owner_stays true zero k = owner_stays x x' grown orderly 4 FIELD refl grown.fields_end orderly.field_lists k
  row_owner_stays false zero k = owner_stays x x' grown orderly 5 METHOD_DEF refl grown.methods_end orderly.method_lists k
  row_owner_stays is_field (suc a) k = λ v e. e

  pub row_owner_same : (is_field : Bool) (a k : ℕ) → 1 ≤ k → k ≤ count_in (assembly_at s a) (member_table is_field) → row_owner (assembly_at s' a) is_field k ≡ row_owner (assembly_at s a) is_field k
  row_owner_same is_field a k low high = stays_same (row_owner (assembly_at s a) is_field k) (row_owner (assembly_at s' a) is_field k) (owner_there is_field a k low high) (row_owner_stays is_field a k)

  row_owner_past : (is_field : Bool) (k : ℕ) → count_in x (member_table is_field) < k → IsPast (count_in x TYPE_DEF) (row_owner x' is_field k)
  row_owner_past true k h = owner_past x x' grown orderly 4 FIELD refl grown.fields_end orderly.field_lists k h
  row_owner_past false k h = owner_past x x' grown orderly 5 METHOD_DEF refl grown.methods_end orderly.method_lists k h

  new_fails : (is_field : Bool) (a row k : ℕ) → row ≤ count_in (assembly_at s a) TYPE_DEF → count_in (assembly_at s a) (member_table is_field) < k → k ≤ count_in (assembly_at s' a) (member_table is_field) → is_owner row (row_owner (assembly_at s' a) is_field k) ≡ false
  new_fails is_field zero row k h low high = past_row row h (row_owner x' is_field k) (row_owner_past is_field k low)
  new_fails is_field (suc a) row k h low high = absurd (omega (arith, low, high))

  pub declared_same : (is_field : Bool) (a row : ℕ) (args : List (List ℕ)) (test : Shape → Bool) → row ≤ count_in (assembly_at s a) TYPE_DEF
      → declared (assembly_at s' a) (coded_in s' a) args test is_field row ≡ declared (assembly_at s a) (coded_in s a) args test is_field row
  unfolding declared
  declared_same is_field a row args test h =
      find_grown (is_declared (assembly_at s a) (coded_in s a) args test is_field row) (is_declared (assembly_at s' a) (coded_in s' a) args test is_field row)
      (count_in (assembly_at s a) (member_table is_field)) (count_in (assembly_at s' a) (member_table is_field)) (more_rows x x' xs grown orderly named numbered alike a (member_table is_field))
      (λ k low high.
      ap (λ (o : Option ℕ). is_owner row o && passes test (row_shape (assembly_at s' a) (coded_in s' a) args is_field k)) (row_owner_same is_field a k low high)
      ∙ ap (λ (o : Option Shape). is_owner row (row_owner (assembly_at s a) is_field k) && passes test o) (row_shape_same is_field a k low high args))
      (λ k low high. ap (λ (b : Bool). b && passes test (row_shape (assembly_at s' a) (coded_in s' a) args is_field k)) (new_fails is_field a row k h low high))

  -- ---- types with their bases

  set_type_same : (id : TypeId) → IsRowOf s id → set_type s' id ≡ set_type s id
  set_type_same (type_id.Outside name) old = refl
  set_type_same (type_id.Row a row) old =
      let extends : cell (assembly_at s' a) TYPE_DEF row 3 ≡ cell (assembly_at s a) TYPE_DEF row 3 = old_cell x x' xs grown orderly named numbered alike a TYPE_DEF row 3 refl old.1.1 in
      let index : IsTypeIndex s a (cell (assembly_at s a) TYPE_DEF row 3) = named.bases a row old.1.0 old.1.1 in
      let base : ty_at s' a (cell (assembly_at s a) TYPE_DEF row 3) ≡ ty_at s a (cell (assembly_at s a) TYPE_DEF row 3) = ty_same x x' xs grown orderly named numbered alike a (cell (assembly_at s a) TYPE_DEF row 3) index in
      let args : arguments_at (coded_in s' a) (cell (assembly_at s a) TYPE_DEF row 3) ≡ arguments_at (coded_in s a) (cell (assembly_at s a) TYPE_DEF row 3) = arguments_same x x' xs grown orderly named numbered alike a (cell (assembly_at s a) TYPE_DEF row 3) index in
      ap (row_type (coded_in s' a) a row) extends
      ∙ λ i. record { assembly = a; row = row; base = option_and_then definition_of (base i); args = args i }

  pub set_types_grow : (more : List SetType) × (set_types s' ≡ set_types s ++ more)
  unfolding set_types
  set_types_grow =
      let g : (more : List TypeId) × (types_of s' ≡ types_of s ++ more) = ids_grow x x' xs grown orderly named numbered alike in (
        map (set_type s') g.0,
        ap (map (set_type s')) g.1
            ∙ map-append (set_type s') (types_of s) g.0
            ∙ ap (λ (l : List SetType). l ++ map (set_type s') g.0) (map_at (set_type s') (set_type s) (types_of s) (λ k id e. set_type_same id (numbered.types k id e))),
      )

  set_type_stays : (k : ℕ) → Stays (slice_get (set_types s) k) (slice_get (set_types s') k)
  set_type_stays k t e = ap (λ (l : List SetType). slice_get l k) set_types_grow.1 ∙ get_before (set_types s) set_types_grow.0 k t e

  more_types : length (set_types s) ≤ length (set_types s')
  more_types =
      let e : length (set_types s') ≡ length (set_types s) + length set_types_grow.0 = ap length set_types_grow.1 ∙ length-append (set_types s) set_types_grow.0 in
      omega (arith, e)

  -- a type of the list that is of an assembly of the set
  set_row : (id : TypeId) → IsRowOf s id → nat_lt (set_type s id).assembly (length s) ≡ true → (set_type s id).row ≤ count_in (assembly_at s (set_type s id).assembly) TYPE_DEF
  set_row (type_id.Row a row) old h = old.1.1
  set_row (type_id.Outside name) old h = absurd (self (length s) h)
    where
      self : (n : ℕ) → nat_lt n n ≡ true → ⊥
      self n e = search (rules, e)

  old_row : (k : ℕ) (t : SetType) → slice_get (set_types s) k ≡ Some t → nat_lt t.assembly (length s) ≡ true → t.row ≤ count_in (assembly_at s t.assembly) TYPE_DEF
  unfolding set_types
  old_row k t e =
      let m : IsMapped (set_type s) (types_of s) k t = mapped_at (set_type s) (types_of s) k t e in
      subst (λ (u : SetType). nat_lt u.assembly (length s) ≡ true → u.row ≤ count_in (assembly_at s u.assembly) TYPE_DEF) m.is (set_row m.value (numbered.types k m.value m.there))

  extends_of : (id : TypeId) → IsRowOf s id → cell (assembly_at s' (set_type s id).assembly) TYPE_DEF (set_type s id).row 3 ≡ cell (assembly_at s (set_type s id).assembly) TYPE_DEF (set_type s id).row 3
  extends_of (type_id.Row a row) old = old_cell x x' xs grown orderly named numbered alike a TYPE_DEF row 3 refl old.1.1
  extends_of (type_id.Outside name) old = refl

  extends_same : (k : ℕ) (t : SetType) → slice_get (set_types s) k ≡ Some t → cell (assembly_at s' t.assembly) TYPE_DEF t.row 3 ≡ cell (assembly_at s t.assembly) TYPE_DEF t.row 3
  unfolding set_types
  extends_same k t e =
      let m : IsMapped (set_type s) (types_of s) k t = mapped_at (set_type s) (types_of s) k t e in
      subst (λ (u : SetType). cell (assembly_at s' u.assembly) TYPE_DEF u.row 3 ≡ cell (assembly_at s u.assembly) TYPE_DEF u.row 3) m.is (extends_of m.value (numbered.types k m.value m.there))

  -- ---- a member in the nearest of a type and its bases

  spelled_stays : (a : ℕ) (args : List (List ℕ)) (t : SigTy) → Stays (spelled (coded_in s a) args t) (spelled (coded_in s' a) args t)
  spelled_stays a args t = Rattle.program_growth.proofs.SignatureLaws.spelled_stays (coded_in s a) (coded_in s' a) (kept_coded a) args t

  front_stays : (o o' : Option (List ℕ)) (u u' : Option (List (List ℕ))) → Stays o o' → Stays u u' → Stays (in_front o u) (in_front o' u')
  front_stays None o' u u' h k v e = absurd cc
  front_stays (Some n) o' u u' h k v e = ap (λ (p : Option (List ℕ)). in_front p u') (h n refl) ∙ map_stays (λ (l : List (List ℕ)). n ∷ l) u u' k v e

  arguments_stay : (a : ℕ) (args : List (List ℕ)) (ts : List SigTy) → Stays (arguments (coded_in s a) args ts) (arguments (coded_in s' a) args ts)
  arguments_stay a args [] = λ v e. e
  arguments_stay a args (t ∷ ts) = front_stays (spelled (coded_in s a) args t) (spelled (coded_in s' a) args t) (arguments (coded_in s a) args ts) (arguments (coded_in s' a) args ts) (spelled_stays a args t) (arguments_stay a args ts)

  module _ (go go' : List (List ℕ) → ℕ → Option (ℕ × ℕ)) (on : (args : List (List ℕ)) (k : ℕ) → Stays (go args k) (go' args k)) where
    onwards_stay : (o o' : Option (List (List ℕ))) (base : Option ℕ) → Stays o o' → Stays (onwards go o base) (onwards go' o' base)
    onwards_stay o o' None h = λ v e. absurd cc
    onwards_stay o o' (Some k) h = with_stays o h
      where
        with_stays : (o : Option (List (List ℕ))) → Stays o o' → Stays (with_arguments go k o) (with_arguments go' k o')
        with_stays None h v e = absurd cc
        with_stays (Some args) h v e = ap (with_arguments go' k) (h args refl) ∙ on args k v e

    here_stays : (k : ℕ) (rest rest' : Option (ℕ × ℕ)) (o o' : Option ℕ) → o' ≡ o → Stays rest rest' → Stays (here_or k rest o) (here_or k rest' o')
    here_stays k rest rest' (Some row) o' e h v f = ap (here_or k rest') e ∙ f
    here_stays k rest rest' None o' e h v f = ap (here_or k rest') e ∙ h v f

    type_stays : (y : Shape) (args : List (List ℕ)) (k : ℕ) (o : Option SetType) → slice_get (set_types s) k ≡ o → Stays (by_type go (environment s) args y k o) (by_type go' (environment s') args y k (slice_get (set_types s') k))
    type_stays y args k None f v e = absurd cc
    type_stays y args k (Some t) f v e =
        ap (by_type go' (environment s') args y k) (set_type_stays k t f) ∙ inner (nat_lt t.assembly (length s)) (old_row k t f) v e
      where
        inner : (b : Bool) → (b ≡ true → t.row ≤ count_in (assembly_at s t.assembly) TYPE_DEF)
            → Stays (if b then here_or k (onwards go (arguments (coded_in s t.assembly) args t.args) t.base) (declared_by (environment s) args y t) else None)
            (if b then here_or k (onwards go' (arguments (coded_in s' t.assembly) args t.args) t.base) (declared_by (environment s') args y t) else None)
        inner false old = λ w g. absurd cc
        inner true old =
            here_stays k (onwards go (arguments (coded_in s t.assembly) args t.args) t.base) (onwards go' (arguments (coded_in s' t.assembly) args t.args) t.base) (declared_by (environment s) args y t) (declared_by (environment s') args y t)
            (declared_same y.is_field t.assembly t.row args (is_same y) (old refl))
            (onwards_stay (arguments (coded_in s t.assembly) args t.args) (arguments (coded_in s' t.assembly) args t.args) t.base (arguments_stay t.assembly args t.args))

  found_stays : (y : Shape) (n m : ℕ) → n ≤ m → (args : List (List ℕ)) (k : ℕ) → Stays (found_within (environment s) y n args k) (found_within (environment s') y m args k)
  unfolding found_within
  found_stays y zero m l args k = λ v e. absurd cc
  found_stays y (suc n) zero l args k = absurd (omega (arith, l))
  found_stays y (suc n) (suc m) l args k =
      type_stays (found_within (environment s) y n) (found_within (environment s') y m) (found_stays y n m (omega (arith, l))) y args k (slice_get (set_types s) k) refl

  -- ---- a type seen as one of its bases

  base_stays : (t : SetType) (k : ℕ) → slice_get (set_types s) k ≡ Some t → Stays (base_ty (environment s) t) (base_ty (environment s') t)
  base_stays t k e u f = ap (ty_at s' t.assembly) (extends_same k t e) ∙ ty_stays x x' xs grown orderly named numbered alike t.assembly (cell (assembly_at s t.assembly) TYPE_DEF t.row 3) u f

  under_stays : (d : ℕ × List Ty) → Stays (base_under (environment s) d) (base_under (environment s') d)
  under_stays d =
      map_stays (under d.1 []) (option_and_then (base_ty (environment s)) (slice_get (set_types s) d.0)) (option_and_then (base_ty (environment s')) (slice_get (set_types s') d.0))
      (then_stays (base_ty (environment s)) (base_ty (environment s')) (slice_get (set_types s) d.0) (slice_get (set_types s') d.0) (set_type_stays d.0) (λ t e. base_stays t d.0 e))

  seen_stays : (k n m : ℕ) → n ≤ m → (t : Ty) → Stays (seen_within (environment s) k n t) (seen_within (environment s') k m t)
  unfolding seen_within
  seen_stays k zero m l t = λ v e. absurd cc
  seen_stays k (suc n) zero l t = absurd (omega (arith, l))
  seen_stays k (suc n) (suc m) l t = go (is_of k (in_set (out-Ty t))) (λ u. seen_stays k n m (omega (arith, l)) u)
    where
      go : (b : Bool) → ((u : Ty) → Stays (seen_within (environment s) k n u) (seen_within (environment s') k m u))
          → Stays (if b then Some t else option_and_then (seen_within (environment s) k n) (option_and_then (base_under (environment s)) (in_set (out-Ty t))))
          (if b then Some t else option_and_then (seen_within (environment s') k m) (option_and_then (base_under (environment s')) (in_set (out-Ty t))))
      go true again = λ v e. e
      go false again =
          then_stays (seen_within (environment s) k n) (seen_within (environment s') k m) (option_and_then (base_under (environment s)) (in_set (out-Ty t))) (option_and_then (base_under (environment s')) (in_set (out-Ty t)))
          (then_stays (base_under (environment s)) (base_under (environment s')) (in_set (out-Ty t)) (in_set (out-Ty t)) (λ v e. e) (λ d e. under_stays d))
          (λ u e. again u)

  -- ---- what MemberRef rows name

  at_stays : (is_field : Bool) (t : Ty) (f : ℕ × ℕ) → Stays (found_at (environment s) is_field t f) (found_at (environment s') is_field t f)
  at_stays is_field t f =
      pair (seen_within (environment s) f.0 (length (set_types s)) t) (seen_within (environment s') f.0 (length (set_types s')) t) (slice_get (set_types s) f.0) (slice_get (set_types s') f.0)
      (seen_stays f.0 (length (set_types s)) (length (set_types s')) more_types t) (set_type_stays f.0)
    where
      pair : (o o' : Option Ty) (d d' : Option SetType) → Stays o o' → Stays d d' → Stays (found_in_type is_field f.1 o d) (found_in_type is_field f.1 o' d')
      pair None o' d d' h k v e = absurd cc
      pair (Some u) o' None d' h k v e = absurd cc
      pair (Some u) o' (Some w) d' h k v e = ap (λ (p : Option Ty). found_in_type is_field f.1 p d') (h u refl) ∙ ap (found_in_type is_field f.1 (Some u)) (k w refl) ∙ e

  from_stays : (t : Ty) (k : ℕ) (y : Shape) → Stays (found_from (environment s) t k y) (found_from (environment s') t k y)
  from_stays t k y =
      then_stays (found_at (environment s) y.is_field t) (found_at (environment s') y.is_field t) (found_within (environment s) y (length (set_types s)) [] k) (found_within (environment s') y (length (set_types s')) [] k)
      (found_stays y (length (set_types s)) (length (set_types s')) more_types [] k) (λ f e. at_stays y.is_field t f)

  found_named : (o o' : Option Found) → Stays o o' → is_missing (found_or_missing o) ≡ false → found_or_missing o' ≡ found_or_missing o
  found_named None o' h e = absurd cc
  found_named (Some f) o' h e = ap found_or_missing (h f refl)

  of_type_same : (y : Option Shape) (t : Ty) (d : Option (ℕ × List Ty)) → is_missing (of_type (environment s) y t d) ≡ false → of_type (environment s') y t d ≡ of_type (environment s) y t d
  of_type_same y t None e = refl
  of_type_same y t (Some d) e =
      found_named (option_and_then (found_from (environment s) t d.0) y) (option_and_then (found_from (environment s') t d.0) y)
      (then_stays (found_from (environment s) t d.0) (found_from (environment s') t d.0) y y (λ v f. f) (λ v f. from_stays t d.0 v)) e

  of_parent_same : (y : Option Shape) (t : Option Ty) → is_missing (of_parent (environment s) y t) ≡ false → of_parent (environment s') y t ≡ of_parent (environment s) y t
  of_parent_same y None e = refl
  of_parent_same y (Some t) e = of_type_same y t (in_set (out-Ty t)) e

  of_method_same : (a row : ℕ) → is_missing (of_method a (assembly_at s a) (coded_in s a) row) ≡ false → of_method a (assembly_at s' a) (coded_in s' a) row ≡ of_method a (assembly_at s a) (coded_in s a) row
  of_method_same a row =
      found_named (option_map (method_found a row) (option_and_then (λ k. (coded_in s a).named (k * 4)) (owner (assembly_at s a) 5 METHOD_DEF row)))
      (option_map (method_found a row) (option_and_then (λ k. (coded_in s' a).named (k * 4)) (owner (assembly_at s' a) 5 METHOD_DEF row)))
      (map_stays (method_found a row) (option_and_then (λ k. (coded_in s a).named (k * 4)) (owner (assembly_at s a) 5 METHOD_DEF row)) (option_and_then (λ k. (coded_in s' a).named (k * 4)) (owner (assembly_at s' a) 5 METHOD_DEF row))
      (then_stays (λ k. (coded_in s a).named (k * 4)) (λ k. (coded_in s' a).named (k * 4)) (owner (assembly_at s a) 5 METHOD_DEF row) (owner (assembly_at s' a) 5 METHOD_DEF row) (row_owner_stays false a row) (λ k e. (kept_coded a).named (k * 4))))

  pub parent_same : (a row : ℕ) → 1 ≤ row → row ≤ count_in (assembly_at s a) MEMBER_REF → parent_type (assembly_at s' a) (coded_in s' a) row ≡ parent_type (assembly_at s a) (coded_in s a) row
  parent_same a row low high =
      ap (λ (c : ℕ). if is_type c then ty_at s' a (parent_index c) else None) (old_cell x x' xs grown orderly named numbered alike a MEMBER_REF row 0 refl high)
      ∙ go (is_type (cell (assembly_at s a) MEMBER_REF row 0)) (named.parents a row low high)
    where
      go : (b : Bool) → (b ≡ true → IsTypeIndex s a (parent_index (cell (assembly_at s a) MEMBER_REF row 0)))
          → (if b then ty_at s' a (parent_index (cell (assembly_at s a) MEMBER_REF row 0)) else None) ≡ (if b then ty_at s a (parent_index (cell (assembly_at s a) MEMBER_REF row 0)) else None)
      go true h = ty_same x x' xs grown orderly named numbered alike a (parent_index (cell (assembly_at s a) MEMBER_REF row 0)) (h refl)
      go false h = refl

  abbrev named_by : Assemblies → ℕ → ℕ → Option Shape → Option Ty → Named
  named_by u a parent y t = if parent % 8 == 3 then of_method a (assembly_at u a) (coded_in u a) (parent / 8) else of_parent (environment u) y t

  reference_same : (a row : ℕ) → 1 ≤ row → row ≤ count_in (assembly_at s a) MEMBER_REF → is_missing (of_reference (environment s) a (assembly_at s a) (coded_in s a) row) ≡ false
      → of_reference (environment s') a (assembly_at s' a) (coded_in s' a) row ≡ of_reference (environment s) a (assembly_at s a) (coded_in s a) row
  reference_same a row low high there =
      ap (λ (c : ℕ). named_by s' a c (reference_shape (assembly_at s' a) (coded_in s' a) row) (parent_type (assembly_at s' a) (coded_in s' a) row)) (old_cell x x' xs grown orderly named numbered alike a MEMBER_REF row 0 refl high)
      ∙ ap (λ (y : Option Shape). named_by s' a parent y (parent_type (assembly_at s' a) (coded_in s' a) row)) (shape_at a MEMBER_REF row 1 2 refl refl high (named.read a MEMBER_REF row low high) [])
      ∙ ap (named_by s' a parent shape) (parent_same a row low high)
      ∙ go (parent % 8 == 3) there
    where
      parent : ℕ
      parent = cell (assembly_at s a) MEMBER_REF row 0

      shape : Option Shape
      shape = reference_shape (assembly_at s a) (coded_in s a) row

      type : Option Ty
      type = parent_type (assembly_at s a) (coded_in s a) row

      go : (b : Bool) → is_missing (if b then of_method a (assembly_at s a) (coded_in s a) (parent / 8) else of_parent (environment s) shape type) ≡ false
          → (if b then of_method a (assembly_at s' a) (coded_in s' a) (parent / 8) else of_parent (environment s') shape type) ≡ (if b then of_method a (assembly_at s a) (coded_in s a) (parent / 8) else of_parent (environment s) shape type)
      go true e = of_method_same a (parent / 8) e
      go false e = of_parent_same shape type e

  pub member_same : (a row : ℕ) → 1 ≤ row → row ≤ count_in (assembly_at s a) MEMBER_REF → member s' a row ≡ member s a row
  unfolding member_in
  member_same a row low high = go (nat_lt a (length s)) (named.there a MEMBER_REF row low high)
    where
      go : (b : Bool) → is_missing (if b then of_reference (environment s) a (assembly_at s a) (coded_in s a) row else Rattle.member_table.specs.declared.named.Named.TheVariants.Missing) ≡ false
          → (if b then of_reference (environment s') a (assembly_at s' a) (coded_in s' a) row else Rattle.member_table.specs.declared.named.Named.TheVariants.Missing)
          ≡ (if b then of_reference (environment s) a (assembly_at s a) (coded_in s a) row else Rattle.member_table.specs.declared.named.Named.TheVariants.Missing)
      go true e = reference_same a row low high e
      go false e = refl
