-- Old types, fields and methods as their rows say, where rows are appended.
use Rattle.std.proofs.Common.{◌≡◌, ◌∙◌, sym, ap, refl, subst, arith, rules, ℕ, zero, suc, ◌+◌, ◌*◌, ◌<◌, ◌≤◌, List, [], ◌∷◌, ◌++◌, length, Bool, true, false, ◌⊎◌, inl, inr}
use Rattle.std.specs.Prelude.{cond, find, map, ◌==◌, ◌/◌, ◌%◌, ◌||◌, ◌&&◌, not, is_some, is_none, Option, Some, None, option_map, option_and_then, option_to_list, filter, filter_map, if◌then◌else◌}
use Rattle.std.specs.List.{range_with_len, cons_option}
use Rattle.std.proofs.lemmas.Bool.{cases_lt, eqb-true}
use Rattle.cil_base.specs.declared.tables.TheConstants.{FIELD, GENERIC_PARAM, INTERFACE_IMPL, MEMBER_REF, METHOD_DEF, METHOD_IMPL, TYPE_DEF}
use Rattle.cil_model.specs.declared.ty.Ty.{Ty}
use Rattle.cil_model.specs.declared.ty.Ty.TheVariants as ty
use Rattle.cil_model.specs.declared.program.Kind.TheVariants.{Interface}
use Rattle.cil_semantics.specs.Contracted.{is_seen_type, is_seen_method}
use Rattle.cli_sigs.specs.declared.types.SigTy.{SigTy}
use Rattle.cli_sigs.specs.declared.types.MethodSig.{MethodSig, out-MethodSig}
use Rattle.machine_laws.specs.Growth.{KeptType, KeptField, KeptMethod}
use Rattle.set_rows.specs.Sets.{Assembly, Assemblies, assembly_at, count_in, rows_in, cell, blob, or_empty}
use Rattle.set_rows.specs.Owners.{owner}
use Rattle.set_types.specs.SignatureRules.{method_types}
use Rattle.set_types.specs.SignatureTypes.{Coded, ty_of, ty_or}
use Rattle.set_signatures.specs.Blobs.{field_sig, method_sig, is_field_blob}
use Rattle.set_signatures.specs.Spelling.{spelled}
use Rattle.set_program.specs.declared.identity.TypeId.{TypeId}
use Rattle.set_program.specs.declared.identity.TypeId.TheVariants as type_id
use Rattle.set_program.specs.TypeNames.{full_name, enclosing}
use Rattle.set_program.specs.Attributes.{reference_attribute, abbreviator_attribute, on_assembly, on_method}
use Rattle.set_program.specs.Environment.{number_of, number_or, coded_in, ty_at, types_or_none}
use Rattle.set_program.specs.Kinds.{is_interface, kind_by_base, generics}
use Rattle.set_program.specs.Numbering.{Cell}
use Rattle.members.specs.MemberRows.{member_table}
use Rattle.members.specs.declared.outside_member.OutsideMember.{OutsideMember}
use Rattle.member_table.specs.declared.named.MemberId.{MemberId}
use Rattle.member_table.specs.declared.named.MemberId.TheVariants as id
use Rattle.member_table.specs.MemberRules.{isnt_read}
use Rattle.member_table.specs.Environments.{environment}
use Rattle.member_table.specs.Numbers.{outside_in, names_member, outside_row, reference_rows}
use Rattle.row_descriptions.specs.declared.methods.Parameters.{Parameters}
use Rattle.row_descriptions.specs.RowLists.{is_owner, rows_with, owned}
use Rattle.row_descriptions.specs.RowDescriptions.{two_bytes, field_ty, field_row, gives_this, parameters_of, method_row}
use Rattle.descriptions.specs.declared.facts.NamedMember.{NamedMember}
use Rattle.descriptions.specs.Descriptions.{number_in, method_at, impl_of, names_field, impl_method, impl_at, type_row, outside_type, type_desc, outside_ty, field_desc, outside_parameters, method_desc}
use Rattle.set_growth.specs.Grown.{gains, KeepsRows, KeepsAccess, IsGrown, SaysAlike}
use Rattle.set_growth.specs.Orderly.{IsOrderly}
use Rattle.set_growth.proofs.FindLaws.{differs}
use Rattle.set_growth.proofs.GrowthLists.{Each}
use Rattle.set_growth.proofs.KeptTypeLaws.{fun_same}
use Rattle.set_growth.proofs.KeptNameLaws.{enclosing_same, full_name_same, owned_same}
use Rattle.program_growth.specs.Rules.{IsNamed, IsRowOf, IsNumbered, IsMethodIndex, IsDescribed, IsOutside, IsMember, HasPlaces}
use Rattle.program_growth.specs.Kept.{ExtendsCoded, KeepsDescriptions}
use Rattle.program_growth.proofs.KeptCodedLaws.{MethodKept, method_kept, or_first, coded_stays, ty_same, old_text, old_blob, old_cell}
use Rattle.program_growth.proofs.SignatureLaws.{keeps_signatures}
use Rattle.program_growth.proofs.KeptNumberLaws.{IsOldCell, rows_grow, cells_old, outside_same}
use Rattle.program_growth.proofs.KeptNamedLaws.{number_same, type_number_same, owner_same, method_index_same}

-- ---- lists

map_each : {A B : Type 0} (f g : A → B) (xs : List A) → Each (λ x. f x ≡ g x) xs → map f xs ≡ map g xs
map_each f g [] h = refl
map_each {A} {B} f g (x ∷ xs) h = ap (λ (b : B). b ∷ map f xs) h.0 ∙ ap (λ (l : List B). g x ∷ l) (map_each f g xs h.1)

filter_map_each : {A B : Type 0} (f g : A → Option B) (xs : List A) → Each (λ x. f x ≡ g x) xs → filter_map f xs ≡ filter_map g xs
filter_map_each f g [] h = refl
filter_map_each {A} {B} f g (x ∷ xs) h = ap (λ (o : Option B). cons_option o (filter_map f xs)) h.0 ∙ ap (cons_option (g x)) (filter_map_each f g xs h.1)

pub each_range : (P : ℕ → Type 0) (a n : ℕ) → ((k : ℕ) → a ≤ k → k < a + n → P k) → Each P (range_with_len a n)
each_range P a zero h = tt
each_range P a (suc n) h = (h a (omega arith) (omega arith), each_range P (a + 1) n (λ k low high. h k (omega (arith, low)) (omega (arith, high))))

each_filter : {A : Type 0} (P : A → Type 0) (test : A → Bool) (xs : List A) → Each P xs → Each P (filter test xs)
each_filter P test [] h = h
each_filter {A} P test (x ∷ xs) h = go (test x) (each_filter P test xs h.1)
  where
    go : (b : Bool) → Each P (filter test xs) → Each P (cond b (x ∷ filter test xs) (filter test xs))
    go true rest = (h.0, rest)
    go false rest = rest

found_each : {A : Type 0} (f g : A → Bool) (P : A → Type 0) (xs more : List A) → Each P xs → ((x : A) → P x → g x ≡ f x) → (c : A) → find f xs ≡ Some c → (find g (xs ++ more) ≡ Some c) × P c
found_each f g P [] more h same c e = absurd cc
found_each {A} f g P (x ∷ xs) more h same c e = go (f x) (same x h.0) (λ i. found_each f g P xs more h.1 same c i) e
  where
    is_it : Some x ≡ Some c → x ≡ c
    is_it k = search (rules, k)

    go : (b : Bool) → g x ≡ b → (find f xs ≡ Some c → (find g (xs ++ more) ≡ Some c) × P c) → cond b (Some x) (find f xs) ≡ Some c → (find g ((x ∷ xs) ++ more) ≡ Some c) × P c
    go true k again i = (ap (λ (b : Bool). cond b (Some x) (find g (xs ++ more))) k ∙ i, subst P (is_it i) h.0)
    go false k again i =
        let rest : (find g (xs ++ more) ≡ Some c) × P c = again i in
        (ap (λ (b : Bool). cond b (Some x) (find g (xs ++ more))) k ∙ rest.0, rest.1)

-- ---- flags

flag_fifth : (f : ℕ) → f / 0x20 ≡ (f / 8) / 4
flag_fifth f = omega arith

flag_fourth : (f : ℕ) → f / 0x10 ≡ (f / 8) / 2
flag_fourth f = omega arith

-- a bit past those of access, of flags that take two bytes
bit_same : (f g n : ℕ) → g / 8 ≡ f / 8 → ((m : ℕ) → two_bytes m / n % 2 ≡ (m / 8) / (n / 8) % 2) → (two_bytes g / n % 2 == 1) ≡ (two_bytes f / n % 2 == 1)
bit_same f g n e at = ap (λ (m : ℕ). m == 1) (at g ∙ ap (λ (m : ℕ). m / (n / 8) % 2) e ∙ sym (at f))

low_bits : (f : ℕ) → two_bytes f % 8 ≡ f % 8
low_bits f = omega arith

bit_six : (m : ℕ) → two_bytes m / 64 % 2 ≡ (m / 8) / 8 % 2
bit_six m = omega arith

bit_eight : (m : ℕ) → two_bytes m / 256 % 2 ≡ (m / 8) / 32 % 2
bit_eight m = omega arith

bit_ten : (m : ℕ) → two_bytes m / 1024 % 2 ≡ (m / 8) / 128 % 2
bit_ten m = omega arith

-- ---- what signatures say

module _ (c c' : Coded) (more : ExtendsCoded c c') where
  field_same : (o : Option SigTy) → isnt_read c (option_to_list o) ≡ false → ty_or ty.Opaque (option_map (ty_of c') o) ≡ ty_or ty.Opaque (option_map (ty_of c) o)
  field_same None h = refl
  field_same (Some t) h = (keeps_signatures c c' more t (or_first (is_none (spelled c [] t)) false h)).ty

  parameters_same : (o : Option MethodSig) → isnt_read c (types_or_none method_types o) ≡ false → parameters_of c' o ≡ parameters_of c o
  parameters_same None h = refl
  parameters_same (Some m) h =
      let k : MethodKept c c' more (out-MethodSig m) = method_kept c c' more m h in
      λ i. record { params = k.params i; result = k.result i; is_static = not (gives_this (out-MethodSig m).flags); generics = (out-MethodSig m).generics }

module _ (x x' : Assembly) (xs : Assemblies) (grown : IsGrown x x') (access : KeepsAccess x x') (orderly : IsOrderly x) (named : IsNamed (x ∷ xs)) (numbered : IsNumbered (x ∷ xs)) (alike : SaysAlike (x ∷ xs) (x' ∷ xs)) (described : IsDescribed (x ∷ xs)) (placed : HasPlaces (x ∷ xs)) where
  abbrev s : Assemblies
  s = x ∷ xs

  abbrev s' : Assemblies
  s' = x' ∷ xs

  rows : KeepsRows x x'
  rows = grown.rows

  abbrev coded : (a : ℕ) → ExtendsCoded (coded_in s a) (coded_in s' a)
  coded = coded_stays x x' xs grown orderly named numbered alike

  -- ---- flags of rows

  field_flags : (a row : ℕ) → row ≤ count_in (assembly_at s a) FIELD → cell (assembly_at s' a) FIELD row 0 / 8 ≡ cell (assembly_at s a) FIELD row 0 / 8
  field_flags zero row h = access.fields row h
  field_flags (suc a) row h = refl

  method_flags : (a row : ℕ) → row ≤ count_in (assembly_at s a) METHOD_DEF → cell (assembly_at s' a) METHOD_DEF row 2 / 8 ≡ cell (assembly_at s a) METHOD_DEF row 2 / 8
  method_flags zero row h = access.methods row h
  method_flags (suc a) row h = refl

  public_same : (a row : ℕ) → row ≤ count_in (assembly_at s a) METHOD_DEF → (cell (assembly_at s' a) METHOD_DEF row 2 % 8 == 6) ≡ (cell (assembly_at s a) METHOD_DEF row 2 % 8 == 6)
  public_same zero row h = access.public_methods row h
  public_same (suc a) row h = refl

  seen_method : (a row : ℕ) → row ≤ count_in (assembly_at s a) METHOD_DEF → is_seen_method (cell (assembly_at s' a) METHOD_DEF row 2) ≡ is_seen_method (cell (assembly_at s a) METHOD_DEF row 2)
  seen_method zero row h = access.seen_methods row h
  seen_method (suc a) row h = refl

  type_flags : (a row : ℕ) → row ≤ count_in (assembly_at s a) TYPE_DEF → cell (assembly_at s' a) TYPE_DEF row 0 / 8 ≡ cell (assembly_at s a) TYPE_DEF row 0 / 8
  type_flags zero row h = access.types row h
  type_flags (suc a) row h = refl

  seen_type : (a row : ℕ) → row ≤ count_in (assembly_at s a) TYPE_DEF → is_seen_type (cell (assembly_at s' a) TYPE_DEF row 0) ≡ is_seen_type (cell (assembly_at s a) TYPE_DEF row 0)
  seen_type zero row h = access.seen_types row h
  seen_type (suc a) row h = refl

  generics_same : (a n : ℕ) → generics (assembly_at s' a) n ≡ generics (assembly_at s a) n
  generics_same zero n =
      ap (λ (m : ℕ). length (filter (λ g. cell x' GENERIC_PARAM g 2 == n) (range_with_len 1 m))) (rows.same_count GENERIC_PARAM refl)
      ∙ ap (λ (f : ℕ → ℕ). length (filter (λ g. f g == n) (rows_in x GENERIC_PARAM))) (fun_same (λ g. cell x' GENERIC_PARAM g 2) (λ g. cell x GENERIC_PARAM g 2) (λ g. rows.same_cells GENERIC_PARAM g 2 refl))
  generics_same (suc a) n = refl

  -- ---- MemberRef rows of members outside

  record OutsideStays (is_field : Bool) (m : OutsideMember) (at : Cell) : Type 0 where
    pub row : outside_row s' m ≡ Some at
    pub old : IsOldCell x x' xs grown orderly named numbered alike at

  outside_stays : (is_field : Bool) (m : OutsideMember) (out : IsOutside s is_field m) → OutsideStays is_field m out.at
  unfolding outside_row
  outside_stays is_field m out =
      let f : Cell → Bool = λ c. names_member m (outside_in (environment s) m.shape.is_field c) in
      let g : Cell → Bool = λ c. names_member m (outside_in (environment s') m.shape.is_field c) in
      let k = found_each f g (IsOldCell x x' xs grown orderly named numbered alike) (reference_rows s) (rows_grow x x' xs grown orderly named numbered alike).0 (cells_old x x' xs grown orderly named numbered alike)
      (λ c old. ap (names_member m) (outside_same x x' xs grown orderly named numbered alike m.shape.is_field c old)) out.at out.found in
      record { row = ap (find g) (rows_grow x x' xs grown orderly named numbered alike).1 ∙ k.0; old = k.1 }

  reference_read : (c : Cell) (b : Bool) → IsOldCell x x' xs grown orderly named numbered alike c → is_field_blob (blob (assembly_at s c.0) MEMBER_REF c.1 2) ≡ b
      → isnt_read (coded_in s c.0) (if b then option_to_list (field_sig (blob (assembly_at s c.0) MEMBER_REF c.1 2)) else types_or_none method_types (method_sig (blob (assembly_at s c.0) MEMBER_REF c.1 2))) ≡ false
  reference_read c b old e =
      ap (λ (k : Bool). isnt_read (coded_in s c.0) (if k then option_to_list (field_sig (blob (assembly_at s c.0) MEMBER_REF c.1 2)) else types_or_none method_types (method_sig (blob (assembly_at s c.0) MEMBER_REF c.1 2)))) (sym e)
      ∙ named.read c.0 MEMBER_REF c.1 old.0 old.1

  -- ---- fields

  pub field_keeps : (m : MemberId) → IsMember s true m → KeptField (field_desc s m) (field_desc s' m)
  unfolding field_row
  field_keeps (id.Row a row) old = record {
    owner = owner_same x x' xs grown orderly named numbered alike placed true a row old.0 old.1;
    name = old_text x x' xs grown orderly named numbered alike a FIELD row 1 refl old.1;
    ty = ap (field_ty (coded_in s' a)) (old_blob x x' xs grown orderly named numbered alike a FIELD row 2 refl old.1) ∙ field_same (coded_in s a) (coded_in s' a) (coded a) (field_sig (blob (assembly_at s a) FIELD row 2)) (named.read a FIELD row old.0 old.1);
    is_static = ap (λ (n : ℕ). n % 2 == 1) (flag_fourth (cell (assembly_at s' a) FIELD row 0) ∙ ap (λ (n : ℕ). n / 2) (field_flags a row old.1) ∙ sym (flag_fourth (cell (assembly_at s a) FIELD row 0)));
  }
  field_keeps (id.Outside m) out =
      let k : OutsideStays true m out.at = outside_stays true m out in
      record {
        owner = ap (number_or 0) (type_number_same x x' xs grown orderly named numbered alike placed (type_id.Outside m.owner) out.owner);
        name = refl;
        ty =
            ap (outside_ty s') k.row
            ∙ ap (field_ty (coded_in s' out.at.0)) (old_blob x x' xs grown orderly named numbered alike out.at.0 MEMBER_REF out.at.1 2 refl k.old.1)
            ∙ field_same (coded_in s out.at.0) (coded_in s' out.at.0) (coded out.at.0) (field_sig (blob (assembly_at s out.at.0) MEMBER_REF out.at.1 2)) (reference_read out.at true k.old out.blob_kind)
            ∙ sym (ap (outside_ty s) out.found);
        is_static = refl;
      }

  -- ---- methods

  pub method_keeps : (m : MemberId) → IsMember s false m → KeptMethod (method_desc s m) (method_desc s' m)
  unfolding method_row
  method_keeps (id.Row a row) old =
      let p : parameters_of (coded_in s' a) (method_sig (blob (assembly_at s' a) METHOD_DEF row 4)) ≡ parameters_of (coded_in s a) (method_sig (blob (assembly_at s a) METHOD_DEF row 4)) =
      ap (λ (b : List ℕ). parameters_of (coded_in s' a) (method_sig b)) (old_blob x x' xs grown orderly named numbered alike a METHOD_DEF row 4 refl old.1)
      ∙ parameters_same (coded_in s a) (coded_in s' a) (coded a) (method_sig (blob (assembly_at s a) METHOD_DEF row 4)) (named.read a METHOD_DEF row old.0 old.1) in
      let f : ℕ = cell (assembly_at s a) METHOD_DEF row 2 in
      let g : ℕ = cell (assembly_at s' a) METHOD_DEF row 2 in
      let same : g / 8 ≡ f / 8 = method_flags a row old.1 in
      record {
        assembly = refl;
        row = refl;
        owner = owner_same x x' xs grown orderly named numbered alike placed false a row old.0 old.1;
        name = old_text x x' xs grown orderly named numbered alike a METHOD_DEF row 3 refl old.1;
        params = ap (λ (q : Parameters). q.params) p;
        result = ap (λ (q : Parameters). q.result) p;
        is_static = ap (λ (q : Parameters). q.is_static) p;
        outside = refl;
        abbreviator = alike.has a (on_method row) abbreviator_attribute;
        generics = generics_same a (row * 2 + 1);
        has_body = refl;
        overrides = bit_same f g 64 same bit_six;
        new_slot = bit_same f g 256 same bit_eight;
        abstract_too = bit_same f g 1024 same bit_ten;
        public_too = ap (λ (n : ℕ). n == 6) (low_bits g) ∙ public_same a row old.1 ∙ ap (λ (n : ℕ). n == 6) (sym (low_bits f));
        seen = seen_bits g ∙ seen_method a row old.1 ∙ sym (seen_bits f);
      }
    where
      seen_by : ℕ → Bool
      seen_by n = (n == 6) || ((n == 4) || (n == 5))

      seen_bits : (n : ℕ) → is_seen_method (two_bytes n) ≡ is_seen_method n
      seen_bits n = ap seen_by (low_bits n)
  method_keeps (id.Outside m) out =
      let k : OutsideStays false m out.at = outside_stays false m out in
      let p : outside_parameters s' (outside_row s' m) ≡ outside_parameters s (outside_row s m) =
      ap (outside_parameters s') k.row
      ∙ ap (λ (b : List ℕ). parameters_of (coded_in s' out.at.0) (method_sig b)) (old_blob x x' xs grown orderly named numbered alike out.at.0 MEMBER_REF out.at.1 2 refl k.old.1)
      ∙ parameters_same (coded_in s out.at.0) (coded_in s' out.at.0) (coded out.at.0) (method_sig (blob (assembly_at s out.at.0) MEMBER_REF out.at.1 2)) (reference_read out.at false k.old out.blob_kind)
      ∙ sym (ap (outside_parameters s) out.found) in
      record {
        assembly = refl;
        row = refl;
        owner = ap (number_or 0) (type_number_same x x' xs grown orderly named numbered alike placed (type_id.Outside m.owner) out.owner);
        name = refl;
        params = ap (λ (q : Parameters). q.params) p;
        result = ap (λ (q : Parameters). q.result) p;
        is_static = ap (λ (q : Parameters). q.is_static) p;
        outside = refl;
        abbreviator = refl;
        generics = ap (λ (q : Parameters). q.generics) p;
        has_body = refl;
        overrides = refl;
        new_slot = refl;
        abstract_too = refl;
        public_too = refl;
        seen = refl;
      }

  -- ---- types

  same_cell : (a table row column : ℕ) → gains table ≡ false → cell (assembly_at s' a) table row column ≡ cell (assembly_at s a) table row column
  same_cell zero table row column g = rows.same_cells table row column g
  same_cell (suc a) table row column g = refl

  same_count : (a table : ℕ) → gains table ≡ false → count_in (assembly_at s' a) table ≡ count_in (assembly_at s a) table
  same_count zero table g = rows.same_count table g
  same_count (suc a) table g = refl

  rows_with_same : (a table column n : ℕ) → gains table ≡ false → rows_with (assembly_at s' a) table column n ≡ rows_with (assembly_at s a) table column n
  rows_with_same a table column n g =
      ap (λ (m : ℕ). filter (λ k. cell (assembly_at s' a) table k column == n) (range_with_len 1 m)) (same_count a table g)
      ∙ ap (λ (f : ℕ → ℕ). filter (λ k. f k == n) (rows_in (assembly_at s a) table)) (fun_same (λ k. cell (assembly_at s' a) table k column) (λ k. cell (assembly_at s a) table k column) (λ k. same_cell a table k column g))

  each_with : (P : ℕ → Type 0) (a table column n : ℕ) → ((k : ℕ) → 1 ≤ k → k ≤ count_in (assembly_at s a) table → P k) → Each P (rows_with (assembly_at s a) table column n)
  each_with P a table column n h =
      each_filter P (λ k. cell (assembly_at s a) table k column == n) (rows_in (assembly_at s a) table) (each_range P 1 (count_in (assembly_at s a) table) (λ k low high. h k low (omega (arith, high))))

  interfaces_same : (a row : ℕ) → filter_map (λ k. ty_at s' a (cell (assembly_at s' a) INTERFACE_IMPL k 1)) (rows_with (assembly_at s' a) INTERFACE_IMPL 0 row) ≡ filter_map (λ k. ty_at s a (cell (assembly_at s a) INTERFACE_IMPL k 1)) (rows_with (assembly_at s a) INTERFACE_IMPL 0 row)
  interfaces_same a row =
      let f : ℕ → Option Ty = λ k. ty_at s a (cell (assembly_at s a) INTERFACE_IMPL k 1) in
      let g : ℕ → Option Ty = λ k. ty_at s' a (cell (assembly_at s' a) INTERFACE_IMPL k 1) in
      ap (filter_map g) (rows_with_same a INTERFACE_IMPL 0 row refl)
      ∙ filter_map_each g f (rows_with (assembly_at s a) INTERFACE_IMPL 0 row)
      (each_with (λ k. g k ≡ f k) a INTERFACE_IMPL 0 row
      (λ k low high. ap (ty_at s' a) (same_cell a INTERFACE_IMPL k 1 refl) ∙ ty_same x x' xs grown orderly named numbered alike a (cell (assembly_at s a) INTERFACE_IMPL k 1) (described.interfaces a k low high)))

  names_field_same : (a coded : ℕ) → (1 ≤ coded / 2 → IsMethodIndex s a coded) → names_field (assembly_at s' a) coded ≡ names_field (assembly_at s a) coded
  names_field_same a coded index = go (coded % 2 == 1) refl
    where
      old_row : (coded % 2 == 1) ≡ true → coded / 2 ≤ count_in (assembly_at s a) MEMBER_REF
      old_row e = by_row (cases_lt (coded / 2) 1)
        where
          odd : coded % 2 ≡ 1
          odd = eqb-true (coded % 2) 1 e

          by_row : (coded / 2 < 1) ⊎ (1 ≤ coded / 2) → coded / 2 ≤ count_in (assembly_at s a) MEMBER_REF
          by_row (inl l) = omega (arith, l)
          by_row (inr l) = let index : IsMethodIndex s a coded = index l in index.reference (differs (coded % 2) 0 (λ f. omega (arith, f, odd)))

      go : (b : Bool) → (coded % 2 == 1) ≡ b → (b && is_field_blob (blob (assembly_at s' a) MEMBER_REF (coded / 2) 2)) ≡ (b && is_field_blob (blob (assembly_at s a) MEMBER_REF (coded / 2) 2))
      go true e = ap is_field_blob (old_blob x x' xs grown orderly named numbered alike a MEMBER_REF (coded / 2) 2 refl (old_row e))
      go false e = refl

  impl_method_same : (a coded : ℕ) → (1 ≤ coded / 2 → IsMethodIndex s a coded) → impl_method s' a coded ≡ impl_method s a coded
  impl_method_same a coded index =
      ap (λ (b : Bool). if b then None else method_at s' a coded) (names_field_same a coded index)
      ∙ ap (λ (o : Option NamedMember). if names_field (assembly_at s a) coded then None else o) (method_index_same x x' xs grown orderly named numbered alike placed a coded index)

  impl_same : (a k : ℕ) → 1 ≤ k → k ≤ count_in (assembly_at s a) METHOD_IMPL → impl_at s' a k ≡ impl_at s a k
  impl_same a k low high =
      ap (λ (o : Option NamedMember). impl_of o (impl_method s' a (cell (assembly_at s' a) METHOD_IMPL k 2)))
      (ap (impl_method s' a) (same_cell a METHOD_IMPL k 1 refl) ∙ impl_method_same a (cell (assembly_at s a) METHOD_IMPL k 1) (described.bodies a k low high))
      ∙ ap (impl_of (impl_method s a (cell (assembly_at s a) METHOD_IMPL k 1)))
      (ap (impl_method s' a) (same_cell a METHOD_IMPL k 2 refl) ∙ impl_method_same a (cell (assembly_at s a) METHOD_IMPL k 2) (described.declarations a k low high))

  impls_same : (a row : ℕ) → filter_map (impl_at s' a) (rows_with (assembly_at s' a) METHOD_IMPL 0 row) ≡ filter_map (impl_at s a) (rows_with (assembly_at s a) METHOD_IMPL 0 row)
  impls_same a row =
      ap (filter_map (impl_at s' a)) (rows_with_same a METHOD_IMPL 0 row refl)
      ∙ filter_map_each (impl_at s' a) (impl_at s a) (rows_with (assembly_at s a) METHOD_IMPL 0 row) (each_with (λ k. impl_at s' a k ≡ impl_at s a k) a METHOD_IMPL 0 row (λ k low high. impl_same a k low high))

  abbrev list_of : Assemblies → ℕ → Bool → ℕ → List ℕ
  list_of u a true row = owned (assembly_at u a) 4 FIELD row
  list_of u a false row = owned (assembly_at u a) 5 METHOD_DEF row

  list_same : (a : ℕ) (is_field : Bool) (row : ℕ) → row ≤ count_in (assembly_at s a) TYPE_DEF → list_of s' a is_field row ≡ list_of s a is_field row
  list_same zero true row h = owned_same x x' grown orderly 4 FIELD refl grown.fields_end orderly.field_lists row h
  list_same zero false row h = owned_same x x' grown orderly 5 METHOD_DEF refl grown.methods_end orderly.method_lists row h
  list_same (suc a) true row h = refl
  list_same (suc a) false row h = refl

  list_rows : (P : ℕ → Type 0) (a : ℕ) (is_field : Bool) (row : ℕ) → ((k : ℕ) → 1 ≤ k → k ≤ count_in (assembly_at s a) (member_table is_field) → P k) → Each P (list_of s a is_field row)
  list_rows P a true row h =
      each_filter P (λ k. is_owner row (owner (assembly_at s a) 4 FIELD k)) (rows_in (assembly_at s a) FIELD) (each_range P 1 (count_in (assembly_at s a) FIELD) (λ k low high. h k low (omega (arith, high))))
  list_rows P a false row h =
      each_filter P (λ k. is_owner row (owner (assembly_at s a) 5 METHOD_DEF k)) (rows_in (assembly_at s a) METHOD_DEF) (each_range P 1 (count_in (assembly_at s a) METHOD_DEF) (λ k low high. h k low (omega (arith, high))))

  members_same : (a : ℕ) (is_field : Bool) (row : ℕ) → row ≤ count_in (assembly_at s a) TYPE_DEF
      → map (λ k. number_in s' is_field (id.Row a k)) (list_of s' a is_field row) ≡ map (λ k. number_in s is_field (id.Row a k)) (list_of s a is_field row)
  members_same a is_field row h =
      let f : ℕ → ℕ = λ k. number_in s is_field (id.Row a k) in
      let g : ℕ → ℕ = λ k. number_in s' is_field (id.Row a k) in
      ap (map g) (list_same a is_field row h)
      ∙ map_each g f (list_of s a is_field row) (list_rows (λ k. g k ≡ f k) a is_field row (λ k low high. number_same x x' xs grown orderly named numbered alike placed is_field (id.Row a k) (placed.members is_field a k low high)))

  name_same : (a row : ℕ) → 1 ≤ row → row ≤ count_in (assembly_at s a) TYPE_DEF → full_name (assembly_at s' a) row ≡ full_name (assembly_at s a) row
  name_same zero row low high = full_name_same x x' grown orderly row low high
  name_same (suc a) row low high = refl

  around_at : (a row : ℕ) → row ≤ count_in (assembly_at s a) TYPE_DEF → enclosing (assembly_at s' a) row ≡ enclosing (assembly_at s a) row
  around_at zero row h = enclosing_same x x' grown orderly row h
  around_at (suc a) row h = refl

  around_same : (a row : ℕ) → row ≤ count_in (assembly_at s a) TYPE_DEF → option_and_then (λ k. number_of s' (type_id.Row a k)) (enclosing (assembly_at s' a) row) ≡ option_and_then (λ k. number_of s (type_id.Row a k)) (enclosing (assembly_at s a) row)
  around_same a row h = ap (option_and_then (λ k. number_of s' (type_id.Row a k))) (around_at a row h) ∙ go (enclosing (assembly_at s a) row) (λ k e. placed.around a row k e)
    where
      go : (o : Option ℕ) → ((k : ℕ) → o ≡ Some k → is_some (number_of s (type_id.Row a k)) ≡ true) → option_and_then (λ k. number_of s' (type_id.Row a k)) o ≡ option_and_then (λ k. number_of s (type_id.Row a k)) o
      go None k = refl
      go (Some j) k = type_number_same x x' xs grown orderly named numbered alike placed (type_id.Row a j) (k j refl)

  interface_same : (f g : ℕ) → g / 8 ≡ f / 8 → is_interface g ≡ is_interface f
  interface_same f g e = ap (λ (n : ℕ). n % 2 == 1) (flag_fifth g ∙ ap (λ (n : ℕ). n / 4) e ∙ sym (flag_fifth f))

  pub type_keeps : (t : TypeId) → IsRowOf s t → KeptType (type_desc s t) (type_desc s' t)
  unfolding type_row outside_type
  type_keeps (type_id.Outside name) old = record {
    assembly = refl;
    row = refl;
    name = refl;
    base = refl;
    kind = refl;
    interfaces = refl;
    fields = refl;
    methods = refl;
    impls = refl;
    enclosing = refl;
    outside = refl;
    reference = refl;
    generics = refl;
    seen = refl;
  }
  type_keeps (type_id.Row a row) old =
      let high : row ≤ count_in (assembly_at s a) TYPE_DEF = old.1.1 in
      let base : ty_at s' a (cell (assembly_at s' a) TYPE_DEF row 3) ≡ ty_at s a (cell (assembly_at s a) TYPE_DEF row 3) =
      ap (ty_at s' a) (old_cell x x' xs grown orderly named numbered alike a TYPE_DEF row 3 refl high) ∙ ty_same x x' xs grown orderly named numbered alike a (cell (assembly_at s a) TYPE_DEF row 3) (named.bases a row old.1.0 high) in
      record {
        assembly = refl;
        row = refl;
        name = ap or_empty (name_same a row old.1.0 high);
        base = base;
        kind =
            ap (λ (b : Bool). if b then Interface else kind_by_base (ty_at s' a (cell (assembly_at s' a) TYPE_DEF row 3))) (interface_same (cell (assembly_at s a) TYPE_DEF row 0) (cell (assembly_at s' a) TYPE_DEF row 0) (type_flags a row high))
            ∙ ap (λ (o : Option Ty). if is_interface (cell (assembly_at s a) TYPE_DEF row 0) then Interface else kind_by_base o) base;
        interfaces = interfaces_same a row;
        fields = members_same a true row high;
        methods = members_same a false row high;
        impls = impls_same a row;
        enclosing = around_same a row high;
        outside = refl;
        reference = alike.has a on_assembly reference_attribute;
        generics = generics_same a (row * 2);
        seen = seen_type a row high;
      }

  pub keeps_descriptions : KeepsDescriptions s s'
  keeps_descriptions = record {
    types = λ k t e. type_keeps t (numbered.types k t e);
    fields = λ k m e. field_keeps m (placed.ids true k m e);
    methods = λ k m e. method_keeps m (placed.ids false k m e);
  }
