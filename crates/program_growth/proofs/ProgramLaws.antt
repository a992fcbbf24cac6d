-- The program of a set, where rows are appended: what tokens mean, and descriptions at numbers.
use Rattle.std.proofs.Common.{◌≡◌, ◌∙◌, sym, ap, refl, subst, arith, ℕ, zero, suc, ◌+◌, ◌*◌, ◌<◌, ◌≤◌, List, [], ◌∷◌, ◌++◌, length, Bool, true, false, ◌⊎◌, inl, inr}
use Rattle.std.specs.Prelude.{map, ◌==◌, is_some, slice_get, unwrap_or, Option, Some, None, option_map, if◌then◌else◌}
use Rattle.std.specs.List.{range_with_len}
use Rattle.std.specs.Option.{option_or}
use Rattle.std.proofs.lemmas.Bool.{cases_lt}
use Rattle.std.proofs.lemmas.List.{length-append, length-map}
use Rattle.cil_base.specs.declared.tables.TheConstants.{FIELD, MEMBER_REF, METHOD_DEF, METHOD_SPEC, STAND_ALONE_SIG, TYPE_DEF, TYPE_REF, TYPE_SPEC, USER_STRING}
use Rattle.cil_base.specs.declared.token.Token.{Token}
use Rattle.cil_model.specs.declared.ty.Ty.{Ty}
use Rattle.cil_model.specs.declared.program.TokenRow.{TokenRow}
use Rattle.cil_model.specs.declared.program.Meaning.TheVariants.{OfType, OfField, OfMethod, OfLocals}
use Rattle.cil_semantics.specs.Words.{any}
use Rattle.cil_semantics.specs.Lookups.{contract_exception, no_field, no_method}
use Rattle.cil_semantics.specs.Tokens.{meaning_of}
use Rattle.cli_sigs.specs.declared.types.SigTy.{SigTy}
use Rattle.cli_heaps.specs.Root.{user_strings}
use Rattle.machine_laws.specs.Growth.{KeptType, KeptField, KeptMethod}
use Rattle.set_rows.specs.Sets.{Assembly, Assemblies, assembly_at, count_in, cell, blob}
use Rattle.set_signatures.specs.Blobs.{local_sigs, instance_sigs, is_field_blob, first_byte}
use Rattle.set_program.specs.declared.identity.TypeId.{TypeId}
use Rattle.set_program.specs.Environment.{types_of, coded_in, ty_at, types_or_none}
use Rattle.member_table.specs.declared.named.MemberId.{MemberId}
use Rattle.member_table.specs.MemberRules.{isnt_read}
use Rattle.member_table.specs.Numbers.{member_ids}
use Rattle.row_descriptions.specs.UserTexts.{token_row}
use Rattle.descriptions.specs.declared.facts.NamedMember.{NamedMember}
use Rattle.descriptions.specs.Descriptions.{field_at, method_of_row, reference_at, method_at, type_desc, field_desc, method_desc}
use Rattle.descriptions.specs.Programs.{of_field, of_method, of_member, tys_in, of_locals, row_meaning, token_tables, program_of}
use Rattle.set_growth.specs.Grown.{IsGrown, KeepsAccess, SaysAlike, KeepsTexts}
use Rattle.set_growth.specs.Orderly.{IsOrderly}
use Rattle.set_growth.specs.Kept.{Stays}
use Rattle.set_growth.proofs.FindLaws.{differs}
use Rattle.program_growth.specs.Rules.{IsNamed, IsNumbered, IsDescribed, HasPlaces}
use Rattle.program_growth.specs.Kept.{KeepsDescriptions, KeepsProgram}
use Rattle.program_growth.proofs.KeptCodedLaws.{all_kept, more_rows, ids_grow, coded_stays, ty_stays, old_blob, old_cell}
use Rattle.program_growth.proofs.KeptMemberLaws.{get_before, map_stays}
use Rattle.program_growth.proofs.KeptNumberLaws.{member_ids_grow}
use Rattle.program_growth.proofs.KeptNamedLaws.{field_at_stays, method_of_row_stays, reference_at_same, method_at_same}
use Rattle.program_growth.proofs.DescriptionLaws.{keeps_descriptions}
use Rattle.program_growth.proofs.TokenLaws.{eq_from, none_row, row_found, no_text, other_table, in_table, in_texts, in_assembly, meaning_is}

-- ---- options and lists

if_stays : {A : Type 0} {o o' q q' : Option A} (b : Bool) → (b ≡ true → Stays o o') → Stays q q' → Stays (if b then o else q) (if b then o' else q')
if_stays true h k = h refl
if_stays false h k = k

or_stays : (c : Bool) (o o' q q' : Option TokenRow) → Stays o o' → Stays q q' → (c ≡ true → q ≡ None) → Stays (option_or (if c then o else None) q) (option_or (if c then o' else None) q')
or_stays true (Some v) o' q q' h k n = λ w e. ap (λ (z : Option TokenRow). option_or z q') (h v refl) ∙ e
or_stays true None o' q q' h k n = λ w e. absurd (let wrong : None ≡ Some w = sym (n refl) ∙ e in cc)
or_stays false o o' q q' h k n = k

stays_by : {A : Type 0} (o o' : Option A) → o' ≡ o → Stays o o'
stays_by o o' e v f = e ∙ f

has_some : {A B : Type 0} (f : A → B) (o : Option A) (v : B) → option_map f o ≡ Some v → is_some o ≡ true
has_some f None v e = absurd cc
has_some f (Some u) v e = refl

no_text_table : (n : ℕ) → any (λ b. b == n) token_tables ≡ true → (USER_STRING == n) ≡ false
no_text_table n h = go (USER_STRING == n) refl
  where
    go : (c : Bool) → (USER_STRING == n) ≡ c → c ≡ false
    go true e = absurd (let wrong : false ≡ true = ap (λ (k : ℕ). any (λ b. b == k) token_tables) (eq_from USER_STRING n e) ∙ h in cc)
    go false e = refl

pub record At {A : Type 0} (xs : List A) (k : ℕ) : Type 0 where
  pub value : A
  pub there : slice_get xs k ≡ Some value

pub at_place : {A : Type 0} (xs : List A) (k : ℕ) → k < length xs → At xs k
at_place [] k h = absurd (omega (arith, h))
at_place (x ∷ xs) zero h = record { value = x; there = refl }
at_place {A} (x ∷ xs) (suc k) h = let r : At xs k = at_place xs k (omega (arith, h)) in record { value = r.value; there = r.there }

pub map_got : {A B : Type 0} (f : A → B) (xs : List A) (k : ℕ) (v : A) → slice_get xs k ≡ Some v → slice_get (map f xs) k ≡ Some (f v)
map_got f [] k v e = absurd cc
map_got {A} f (x ∷ xs) zero v e = ap (option_map f) e
map_got f (x ∷ xs) (suc k) v e = map_got f xs k v e

module _ (x x' : Assembly) (xs : Assemblies) (grown : IsGrown x x') (access : KeepsAccess x x') (kept_texts : KeepsTexts x x') (orderly : IsOrderly x) (named : IsNamed (x ∷ xs)) (numbered : IsNumbered (x ∷ xs)) (alike : SaysAlike (x ∷ xs) (x' ∷ xs)) (described : IsDescribed (x ∷ xs)) (placed : HasPlaces (x ∷ xs)) where
  abbrev s : Assemblies
  s = x ∷ xs

  abbrev s' : Assemblies
  s' = x' ∷ xs

  -- ---- what rows mean

  types_meant : (a coded : ℕ) → Stays (option_map OfType (ty_at s a coded)) (option_map OfType (ty_at s' a coded))
  types_meant a coded = map_stays OfType (ty_at s a coded) (ty_at s' a coded) (ty_stays x x' xs grown orderly named numbered alike a coded)

  listed_same : (a : ℕ) (o : Option (List SigTy)) → isnt_read (coded_in s a) (types_or_none (λ ts. ts) o) ≡ false → tys_in (coded_in s' a) o ≡ tys_in (coded_in s a) o
  listed_same a None h = refl
  listed_same a (Some ts) h = (all_kept (coded_in s a) (coded_in s' a) (coded_stays x x' xs grown orderly named numbered alike a) ts h).tys

  locals_same : (a row : ℕ) → 1 ≤ row → row ≤ count_in (assembly_at s a) STAND_ALONE_SIG → of_locals (coded_in s' a) (blob (assembly_at s' a) STAND_ALONE_SIG row 0) ≡ of_locals (coded_in s a) (blob (assembly_at s a) STAND_ALONE_SIG row 0)
  locals_same a row low high =
      ap (of_locals (coded_in s' a)) (old_blob x x' xs grown orderly named numbered alike a STAND_ALONE_SIG row 0 refl high)
      ∙ go (first_byte (blob (assembly_at s a) STAND_ALONE_SIG row 0) == 0x07) (named.read a STAND_ALONE_SIG row low high)
    where
      sigs : Option (List SigTy)
      sigs = local_sigs (blob (assembly_at s a) STAND_ALONE_SIG row 0)

      go : (b : Bool) → isnt_read (coded_in s a) (if b then types_or_none (λ ts. ts) sigs else []) ≡ false
          → (if b then Some (OfLocals (tys_in (coded_in s' a) sigs)) else None) ≡ (if b then Some (OfLocals (tys_in (coded_in s a) sigs)) else None)
      go true h = ap (λ (ts : List Ty). Some (OfLocals ts)) (listed_same a sigs h)
      go false h = refl

  field_meant : (a row : ℕ) → 1 ≤ row → row ≤ count_in (assembly_at s a) FIELD → Stays (of_field (field_at s a row)) (of_field (field_at s' a row))
  field_meant a row low high = map_stays (λ (n : NamedMember). OfField n.owner n.number) (field_at s a row) (field_at s' a row) (field_at_stays x x' xs grown orderly named numbered alike placed a row low high)

  method_meant : (a row : ℕ) → 1 ≤ row → row ≤ count_in (assembly_at s a) METHOD_DEF → Stays (of_method [] (method_of_row s a row)) (of_method [] (method_of_row s' a row))
  method_meant a row low high = map_stays (λ (n : NamedMember). OfMethod n.owner n.number []) (method_of_row s a row) (method_of_row s' a row) (method_of_row_stays x x' xs grown orderly named numbered alike placed a row low high)

  member_same : (a row : ℕ) → 1 ≤ row → row ≤ count_in (assembly_at s a) MEMBER_REF
      → of_member (is_field_blob (blob (assembly_at s' a) MEMBER_REF row 2)) (reference_at s' a row) ≡ of_member (is_field_blob (blob (assembly_at s a) MEMBER_REF row 2)) (reference_at s a row)
  member_same a row low high =
      ap (λ (bytes : List ℕ). of_member (is_field_blob bytes) (reference_at s' a row)) (old_blob x x' xs grown orderly named numbered alike a MEMBER_REF row 2 refl high)
      ∙ ap (of_member (is_field_blob (blob (assembly_at s a) MEMBER_REF row 2))) (reference_at_same x x' xs grown orderly named numbered alike placed a row low high)

  instance_meant : (a row : ℕ) → 1 ≤ row → row ≤ count_in (assembly_at s a) METHOD_SPEC
      → Stays (of_method (tys_in (coded_in s a) (instance_sigs (blob (assembly_at s a) METHOD_SPEC row 1))) (method_at s a (cell (assembly_at s a) METHOD_SPEC row 0)))
      (of_method (tys_in (coded_in s' a) (instance_sigs (blob (assembly_at s' a) METHOD_SPEC row 1))) (method_at s' a (cell (assembly_at s' a) METHOD_SPEC row 0)))
  instance_meant a row low high m e =
      let coded : ℕ = cell (assembly_at s a) METHOD_SPEC row 0 in
      let sigs : Option (List SigTy) = instance_sigs (blob (assembly_at s a) METHOD_SPEC row 1) in
      ap (λ (bytes : List ℕ). of_method (tys_in (coded_in s' a) (instance_sigs bytes)) (method_at s' a (cell (assembly_at s' a) METHOD_SPEC row 0))) (old_blob x x' xs grown orderly named numbered alike a METHOD_SPEC row 1 refl high)
      ∙ ap (λ (ts : List Ty). of_method ts (method_at s' a (cell (assembly_at s' a) METHOD_SPEC row 0))) (listed_same a sigs (named.read a METHOD_SPEC row low high))
      ∙ ap (of_method (tys_in (coded_in s a) sigs))
      (ap (method_at s' a) (old_cell x x' xs grown orderly named numbered alike a METHOD_SPEC row 0 refl high)
      ∙ method_at_same x x' xs grown orderly named numbered alike placed a coded
      (described.instances a row low high (has_some (λ (n : NamedMember). OfMethod n.owner n.number (tys_in (coded_in s a) sigs)) (method_at s a coded) m e)))
      ∙ e

  within : (a table row n : ℕ) → (table == n) ≡ true → row ≤ count_in (assembly_at s a) table → row ≤ count_in (assembly_at s a) n
  within a table row n e h = subst (λ (k : ℕ). row ≤ count_in (assembly_at s a) k) (eq_from table n e) h

  pub row_meaning_stays : (a table row : ℕ) → 1 ≤ row → row ≤ count_in (assembly_at s a) table → Stays (row_meaning s a table row) (row_meaning s' a table row)
  unfolding row_meaning
  row_meaning_stays a table row low high =
      if_stays (table == TYPE_REF) (λ e. types_meant a (row * 4 + 1))
      (if_stays (table == TYPE_DEF) (λ e. types_meant a (row * 4))
      (if_stays (table == FIELD) (λ e. field_meant a row low (within a table row FIELD e high))
      (if_stays (table == METHOD_DEF) (λ e. method_meant a row low (within a table row METHOD_DEF e high))
      (if_stays (table == MEMBER_REF) (λ e. stays_by (of_member (is_field_blob (blob (assembly_at s a) MEMBER_REF row 2)) (reference_at s a row)) (of_member (is_field_blob (blob (assembly_at s' a) MEMBER_REF row 2)) (reference_at s' a row)) (member_same a row low (within a table row MEMBER_REF e high)))
      (if_stays (table == STAND_ALONE_SIG) (λ e. stays_by (of_locals (coded_in s a) (blob (assembly_at s a) STAND_ALONE_SIG row 0)) (of_locals (coded_in s' a) (blob (assembly_at s' a) STAND_ALONE_SIG row 0)) (locals_same a row low (within a table row STAND_ALONE_SIG e high)))
      (if_stays (table == TYPE_SPEC) (λ e. types_meant a (row * 4 + 2))
      (if_stays (table == METHOD_SPEC) (λ e. instance_meant a row low (within a table row METHOD_SPEC e high))
      (λ v e. e))))))))

  -- ---- tokens

  table_stays : (a : ℕ) (t : Token) → Stays (in_table s a t) (in_table s' a t)
  table_stays a t = go (cases_lt t.row 1) (cases_lt (count_in (assembly_at s a) t.table) t.row)
    where
      none : ((r : ℕ) → 1 ≤ r → r < 1 + count_in (assembly_at s a) t.table → (r == t.row) ≡ false) → Stays (in_table s a t) (in_table s' a t)
      none h = λ v e. absurd (let wrong : None ≡ Some v = sym (none_row a t (row_meaning s a t.table) 1 (count_in (assembly_at s a) t.table) h) ∙ e in cc)

      go : (t.row < 1) ⊎ (1 ≤ t.row) → (count_in (assembly_at s a) t.table < t.row) ⊎ (t.row ≤ count_in (assembly_at s a) t.table) → Stays (in_table s a t) (in_table s' a t)
      go (inl below) o = none (λ r low high. differs r t.row (λ e. omega (arith, e, low, below)))
      go (inr low) (inl past) = none (λ r l high. differs r t.row (λ e. omega (arith, e, high, past)))
      go (inr low) (inr high) = λ v e.
          row_found a t (row_meaning s' a t.table) 1 (count_in (assembly_at s' a) t.table) low (omega (arith, high, more_rows x x' xs grown orderly named numbered alike a t.table))
          ∙ map_stays (token_row a t.table t.row) (row_meaning s a t.table t.row) (row_meaning s' a t.table t.row) (row_meaning_stays a t.table t.row low high) v
          (sym (row_found a t (row_meaning s a t.table) 1 (count_in (assembly_at s a) t.table) low (omega (arith, high))) ∙ e)

  texts_stay : (a : ℕ) (t : Token) → Stays (in_texts s a t) (in_texts s' a t)
  texts_stay zero t = kept_texts t
  texts_stay (suc a) t = λ v e. e

  pub tokens_stay : (a : ℕ) (t : Token) → Stays (meaning_of (program_of s) a t) (meaning_of (program_of s') a t)
  tokens_stay a t m e =
      meaning_is s' a t
      ∙ map_stays (λ (row : TokenRow). row.meaning) (if any (λ b. b == a) (range_with_len 0 (length s)) then in_assembly s a t else None) (if any (λ b. b == a) (range_with_len 0 (length s')) then in_assembly s' a t else None)
      (if_stays (any (λ b. b == a) (range_with_len 0 (length s)))
      (λ there. or_stays (any (λ b. b == t.table) token_tables) (in_table s a t) (in_table s' a t) (in_texts s a t) (in_texts s' a t) (table_stays a t) (texts_stay a t)
      (λ h. no_text a t a (user_strings (assembly_at s a).meta) (other_table a t a USER_STRING (no_text_table t.table h)) (length (user_strings (assembly_at s a).meta)) 1))
      (λ v f. f))
      m (sym (meaning_is s a t) ∙ e)

  -- ---- descriptions at numbers

  keeps : KeepsDescriptions s s'
  keeps = keeps_descriptions x x' xs grown access orderly named numbered alike described placed

  module _ {A D : Type 0} (KeptAs : D → D → Type 0) (ids ids' more : List A) (is : ids' ≡ ids ++ more) (desc desc' : A → D) (other : D) where
    at_number : ((k : ℕ) (v : A) → slice_get ids k ≡ Some v → KeptAs (desc v) (desc' v)) → (k : ℕ) → k < length ids
        → KeptAs (unwrap_or (slice_get (map desc ids) k) other) (unwrap_or (slice_get (map desc' ids') k) other)
    at_number h k l =
        let at : At ids k = at_place ids k l in
        let old : slice_get (map desc ids) k ≡ Some (desc at.value) = map_got desc ids k at.value at.there in
        let new : slice_get (map desc' ids') k ≡ Some (desc' at.value) = map_got desc' ids' k at.value (ap (λ (l : List A). slice_get l k) is ∙ get_before ids more k at.value at.there) in
        subst (λ (d : D). KeptAs d (unwrap_or (slice_get (map desc' ids') k) other)) (sym (ap (λ (o : Option D). unwrap_or o other) old))
        (subst (KeptAs (desc at.value)) (sym (ap (λ (o : Option D). unwrap_or o other) new)) (h k at.value at.there))

  pub keeps_program : KeepsProgram (program_of s) (program_of s')
  unfolding program_of
  keeps_program =
      let t : (more : List TypeId) × (types_of s' ≡ types_of s ++ more) = ids_grow x x' xs grown orderly named numbered alike in
      let f : (more : List MemberId) × (member_ids s' true ≡ member_ids s true ++ more) = member_ids_grow x x' xs grown orderly named numbered alike true in
      let m : (more : List MemberId) × (member_ids s' false ≡ member_ids s false ++ more) = member_ids_grow x x' xs grown orderly named numbered alike false in
      let t0 : length (map (type_desc s) (types_of s)) ≡ length (types_of s) = length-map (types_of s) (type_desc s) in
      let t1 : length (map (type_desc s') (types_of s')) ≡ length (types_of s) + length t.0 = length-map (types_of s') (type_desc s') ∙ ap length t.1 ∙ length-append (types_of s) t.0 in
      let f0 : length (map (field_desc s) (member_ids s true)) ≡ length (member_ids s true) = length-map (member_ids s true) (field_desc s) in
      let f1 : length (map (field_desc s') (member_ids s' true)) ≡ length (member_ids s true) + length f.0 = length-map (member_ids s' true) (field_desc s') ∙ ap length f.1 ∙ length-append (member_ids s true) f.0 in
      let m0 : length (map (method_desc s) (member_ids s false)) ≡ length (member_ids s false) = length-map (member_ids s false) (method_desc s) in
      let m1 : length (map (method_desc s') (member_ids s' false)) ≡ length (member_ids s false) + length m.0 = length-map (member_ids s' false) (method_desc s') ∙ ap length m.1 ∙ length-append (member_ids s false) m.0 in
      record {
        more_types = omega (arith, t0, t1);
        more_fields = omega (arith, f0, f1);
        more_methods = omega (arith, m0, m1);
        types = λ k h. at_number KeptType (types_of s) (types_of s') t.0 t.1 (type_desc s) (type_desc s') contract_exception keeps.types k (omega (arith, t0, h));
        fields = λ k h. at_number KeptField (member_ids s true) (member_ids s' true) f.0 f.1 (field_desc s) (field_desc s') no_field keeps.fields k (omega (arith, f0, h));
        methods = λ k h. at_number KeptMethod (member_ids s false) (member_ids s' false) m.0 m.1 (method_desc s) (method_desc s') no_method keeps.methods k (omega (arith, m0, h));
        tokens = λ a tok mean e. tokens_stay a tok mean e;
      }
