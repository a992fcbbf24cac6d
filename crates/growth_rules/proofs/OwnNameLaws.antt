-- The types of the program of a set name bases, interfaces, fields and methods of the program.
use Rattle.std.proofs.Common.{◌≡◌, ◌∙◌, sym, ap, refl, subst, arith, ℕ, zero, suc, ◌+◌, ◌<◌, ◌≤◌, List, [], ◌∷◌, length, Bool, true, false, ◌⊎◌, inl, inr}
use Rattle.std.specs.Prelude.{Option, Some, None, cond, unwrap_or, is_some, slice_get, map, filter, filter_map, option_map, ◌==◌, ◌/◌, ◌%◌, ◌&&◌, ◌||◌, if◌then◌else◌}
use Rattle.std.specs.List.{range_with_len, cons_option}
use Rattle.std.proofs.lemmas.Bool.{cases_lt}
use Rattle.cil_base.specs.declared.tables.TheConstants.{FIELD, MEMBER_REF, METHOD_DEF, METHOD_IMPL}
use Rattle.cil_model.specs.declared.ty.Ty.{Ty, out-Ty}
use Rattle.cil_model.specs.declared.ty.Ty.TheOpen.{Ty-F}
use Rattle.cil_model.specs.declared.ty.Ty as types
use Rattle.cil_model.specs.declared.program.Program.{Program}
use Rattle.cil_model.specs.declared.program.TypeDesc.{TypeDesc}
use Rattle.cil_model.specs.declared.program.Impl.{Impl}
use Rattle.cil_semantics.specs.Types.{Layer}
use Rattle.cil_semantics.specs.Lookups.{type_of, contract_exception}
use Rattle.machine_laws.specs.Answers.{Each, IsAmong, NamesOwn}
use Rattle.set_rows.specs.Sets.{Assembly, Assemblies, assembly_at, cell, count_in, rows_in, blob, is_row}
use Rattle.set_rows.specs.Owners.{owner}
use Rattle.set_signatures.specs.Blobs.{is_field_blob}
use Rattle.set_program.specs.declared.identity.TypeId.{TypeId}
use Rattle.set_program.specs.declared.identity.TypeId.TheVariants as type_id
use Rattle.set_program.specs.Environment.{types_of, number_or, ty_at}
use Rattle.set_program.specs.TypeRules.{layer_leads_to, leads_to, own_number}
use Rattle.type_graphs.proofs.StepLaws.{is_among}
use Rattle.members.specs.MemberRows.{member_table}
use Rattle.members.specs.declared.outside_member.OutsideMember.{OutsideMember}
use Rattle.member_table.specs.declared.named.Found.{Found}
use Rattle.member_table.specs.declared.named.Named.{Named}
use Rattle.member_table.specs.declared.named.Named.TheVariants as named
use Rattle.member_table.specs.declared.named.MemberId.{MemberId}
use Rattle.member_table.specs.declared.named.MemberId.TheVariants as id
use Rattle.member_table.specs.Members.{member}
use Rattle.member_table.specs.Numbers.{same_id, member_ids, member_number}
use Rattle.row_descriptions.specs.RowLists.{rows_with, is_owner, owned}
use Rattle.descriptions.specs.declared.facts.NamedMember.{NamedMember}
use Rattle.descriptions.specs.Descriptions.{number_in, named_as, owner_ty, method_of_row, of_named, parent_ty, reference_at, method_at, names_field, impl_method, impl_of, impl_at, type_row, outside_type, type_desc, field_desc, method_desc}
use Rattle.descriptions.specs.Programs.{program_of}
use Rattle.program_growth.specs.Rules.{IsMethodIndex, IsDescribed, HasPlaces}
use Rattle.program_growth.proofs.KeptNamedLaws.{no_method}
use Rattle.growth_premises.specs.Rules.{KeepsRules}
use Rattle.growth_premises.proofs.ReferenceLaws.{IfMethod, names_method}
use Rattle.growth_rules.proofs.NestingLaws.{IsSlot, slot_of}
use Rattle.growth_rules.proofs.AboveLaws as rows
use Rattle.growth_rules.proofs.RankedLaws as ranks

-- ---- lists

each_range : (P : ℕ → Type 0) (a n : ℕ) → ((k : ℕ) → a ≤ k → k < a + n → P k) → Each P (range_with_len a n)
each_range P a zero h = tt
each_range P a (suc n) h = (h a (omega arith) (omega arith), each_range P (a + 1) n (λ k low high. h k (omega (arith, low)) (omega (arith, high))))

each_filtered : (P : ℕ → Type 0) (test : ℕ → Bool) (l : List ℕ) → Each P l → Each P (filter test l)
each_filtered P test [] h = tt
each_filtered P test (k ∷ l) h = go (test k) h.0 (each_filtered P test l h.1)
  where
    go : (b : Bool) → P k → Each P (filter test l) → Each P (cond b (k ∷ filter test l) (filter test l))
    go true first rest = (first, rest)
    go false first rest = rest

each_mapped : {A : Type 0} (P : A → Type 0) (f : ℕ → A) (l : List ℕ) → Each (λ k. P (f k)) l → Each P (map f l)
each_mapped P f [] h = tt
each_mapped P f (k ∷ l) h = (h.0, each_mapped P f l h.1)

abbrev IfSome : {A : Type 0} → (A → Type 0) → Option A → Type 0
IfSome P None = Unit {0}
IfSome P (Some v) = P v

each_kept : {A : Type 0} (P : A → Type 0) (f : ℕ → Option A) (l : List ℕ) → Each (λ k. IfSome P (f k)) l → Each P (filter_map f l)
each_kept P f [] h = tt
each_kept {A} P f (k ∷ l) h = go (f k) h.0 (each_kept P f l h.1)
  where
    go : (o : Option A) → IfSome P o → Each P (filter_map f l) → Each P (cons_option o (filter_map f l))
    go None first rest = rest
    go (Some v) first rest = (first, rest)

-- the rows of a table that pass a test
each_row : (P : ℕ → Type 0) (y : Assembly) (table : ℕ) (test : ℕ → Bool) → ((k : ℕ) → 1 ≤ k → k ≤ count_in y table → P k) → Each P (filter test (rows_in y table))
each_row P y table test h = each_filtered P test (rows_in y table) (each_range P 1 (count_in y table) (λ k low high. h k low (omega (arith, high))))

place_low : {A : Type 0} (xs : List A) (k : ℕ) (v : A) → slice_get xs k ≡ Some v → k < length xs
place_low [] k v e = absurd cc
place_low (x ∷ xs) zero v e = omega arith
place_low (x ∷ xs) (suc k) v e = let h : k < length xs = place_low xs k v e in omega (arith, h)

module _ (x : Assembly) (xs : Assemblies) (kept : KeepsRules (x ∷ xs)) where
  abbrev s : Assemblies
  s = x ∷ xs

  abbrev p : Program
  p = program_of s

  abbrev n : ℕ
  n = length (types_of s)

  -- ---- bases and interfaces

  module _ (k a r : ℕ) (row : ranks.HasRow x xs kept k a r) where
    abbrev own : List ℕ
    own = own_number s a r

    abbrev Above : List ℕ → Type 0
    Above l = (j : ℕ) → is_among l j ≡ true → is_among (rows.row_above x xs a r) j ≡ true

    -- a type isn't above itself
    not_itself : Above own → ⊥
    not_itself above =
        let mine : is_among own row.itself ≡ true = ap (λ (l : List ℕ). is_among l row.itself) (ranks.itself_is x xs kept a r row.itself row.number) ∙ ap (λ (b : Bool). b || false) (ranks.same_number row.itself) in
        let falls : ranks.height x xs kept row.itself < ranks.height x xs kept k = row.falls row.itself (above row.itself mine) in
        absurd (omega (arith, falls, row.same))

    layer_among : (l : Layer) → rows.LayerOwn x xs l → Above (layer_leads_to own l) → IsAmong n l
    layer_among (Ty-F.Known j) h above = rows.own_low x xs j h
    layer_among (Ty-F.Inst j args) h above = rows.own_low x xs j h
    layer_among (Ty-F.Var j) h above = absurd (not_itself above)
    layer_among (Ty-F.MVar j) h above = absurd (not_itself above)
    layer_among (Ty-F.Prim b) h above = tt
    layer_among (Ty-F.Outside name value) h above = tt
    layer_among (Ty-F.Array item) h above = tt
    layer_among (Ty-F.ByRef item) h above = tt
    layer_among Ty-F.Opaque h above = tt

    abbrev AreAmong : Option Ty → Type 0
    AreAmong o = IfSome (λ t. IsAmong n (out-Ty t)) o

    index_among : (o : Option Ty) → rows.AreOwn x xs o → Above (leads_to own o) → AreAmong o
    index_among None h above = tt
    index_among (Some t) h above = layer_among (out-Ty t) h above

    base_among : AreAmong (ty_at s a (rows.base_index x xs a r))
    base_among =
        index_among (ty_at s a (rows.base_index x xs a r)) (rows.at_own x xs a (rows.base_index x xs a r))
        (λ j m. ranks.left_among (leads_to own (ty_at s a (rows.base_index x xs a r))) (rows.interfaces_lead x xs a r (rows.interface_rows x xs a r)) j m)

    all_among : (is : List ℕ) → Above (rows.interfaces_lead x xs a r is) → Each (λ t. IsAmong n (out-Ty t)) (filter_map (λ i. ty_at s a (rows.interface_index x xs a i)) is)
    all_among [] above = tt
    all_among (i ∷ is) above =
        go (ty_at s a (rows.interface_index x xs a i))
        (index_among (ty_at s a (rows.interface_index x xs a i)) (rows.at_own x xs a (rows.interface_index x xs a i)) (λ j m. above j (ranks.left_among (leads_to own (ty_at s a (rows.interface_index x xs a i))) (rows.interfaces_lead x xs a r is) j m)))
        (all_among is (λ j m. above j (ranks.right_among (leads_to own (ty_at s a (rows.interface_index x xs a i))) (rows.interfaces_lead x xs a r is) j m)))
      where
        go : (o : Option Ty) → AreAmong o → Each (λ t. IsAmong n (out-Ty t)) (filter_map (λ i. ty_at s a (rows.interface_index x xs a i)) is)
            → Each (λ t. IsAmong n (out-Ty t)) (cons_option o (filter_map (λ i. ty_at s a (rows.interface_index x xs a i)) is))
        go None first rest = rest
        go (Some t) first rest = (first, rest)

    interfaces_among : Each (λ t. IsAmong n (out-Ty t)) (filter_map (λ i. ty_at s a (rows.interface_index x xs a i)) (rows.interface_rows x xs a r))
    interfaces_among =
        all_among (rows.interface_rows x xs a r)
        (λ j m. ranks.right_among (leads_to own (ty_at s a (rows.base_index x xs a r))) (rows.interfaces_lead x xs a r (rows.interface_rows x xs a r)) j m)

  -- ---- fields and methods

  abbrev ids : Bool → ℕ
  ids is_field = length (member_ids s is_field)

  module _ (placed : HasPlaces s) (described : IsDescribed s) where
    number_low : (is_field : Bool) (m : MemberId) → is_some (member_number s is_field m) ≡ true → number_in s is_field m < ids is_field
    number_low is_field m h = go (member_number s is_field m) refl h
      where
        go : (o : Option ℕ) → member_number s is_field m ≡ o → is_some o ≡ true → number_or 0 o < ids is_field
        go None e g = absurd cc
        go (Some k) e g =
            let slot : IsSlot (same_id m) (member_ids s is_field) 0 k = slot_of (same_id m) (member_ids s is_field) 0 k e in
            let low : slot.at < ids is_field = place_low (member_ids s is_field) slot.at slot.value slot.there in
            omega (arith, low, slot.place)

    row_low : (is_field : Bool) (a r : ℕ) → 1 ≤ r → r ≤ count_in (assembly_at s a) (member_table is_field) → number_in s is_field (id.Row a r) < ids is_field
    row_low is_field a r low high = number_low is_field (id.Row a r) (placed.members is_field a r low high)

    fields_low : (a r : ℕ) → Each (λ f. f < ids true) (map (λ k. number_in s true (id.Row a k)) (owned (assembly_at s a) 4 FIELD r))
    fields_low a r =
        each_mapped (λ f. f < ids true) (λ k. number_in s true (id.Row a k)) (owned (assembly_at s a) 4 FIELD r)
        (each_row (λ k. number_in s true (id.Row a k) < ids true) (assembly_at s a) FIELD (λ k. is_owner r (owner (assembly_at s a) 4 FIELD k)) (λ k low high. row_low true a k low high))

    methods_low : (a r : ℕ) → Each (λ m. m < ids false) (map (λ k. number_in s false (id.Row a k)) (owned (assembly_at s a) 5 METHOD_DEF r))
    methods_low a r =
        each_mapped (λ m. m < ids false) (λ k. number_in s false (id.Row a k)) (owned (assembly_at s a) 5 METHOD_DEF r)
        (each_row (λ k. number_in s false (id.Row a k) < ids false) (assembly_at s a) METHOD_DEF (λ k. is_owner r (owner (assembly_at s a) 5 METHOD_DEF k)) (λ k low high. row_low false a k low high))

    -- ---- what MethodImpl rows name

    abbrev IsLow : Option NamedMember → Type 0
    IsLow o = IfSome (λ (m : NamedMember). m.number < ids false) o

    definition_low : (a r : ℕ) → 1 ≤ r → r ≤ count_in (assembly_at s a) METHOD_DEF → IsLow (method_of_row s a r)
    definition_low a r low high = go (owner_ty s a 5 METHOD_DEF r)
      where
        go : (o : Option Ty) → IsLow (option_map (λ t. named_as t (number_in s false (id.Row a r))) o)
        go None = tt
        go (Some t) = row_low false a r low high

    named_low : (t : Option Ty) (m : Named) → IfMethod s m
        → ((f : Found) → m ≡ named.InSet f → is_some (member_number s f.is_field (id.Row f.assembly f.row)) ≡ true)
        → ((o : OutsideMember) → m ≡ named.Outside o → is_some (member_number s o.shape.is_field (id.Outside o)) ≡ true)
        → IsLow (of_named s t m)
    named_low t (named.InSet f) is found outside = subst (λ (b : Bool). number_in s f.is_field (id.Row f.assembly f.row) < ids b) is (number_low f.is_field (id.Row f.assembly f.row) (found f refl))
    named_low t (named.Outside o) is found outside = subst (λ (b : Bool). number_in s o.shape.is_field (id.Outside o) < ids b) is (number_low o.shape.is_field (id.Outside o) (outside o refl))
    named_low t named.Missing is found outside = tt

    reference_low : (a r : ℕ) → 1 ≤ r → r ≤ count_in (assembly_at s a) MEMBER_REF → is_field_blob (blob (assembly_at s a) MEMBER_REF r 2) ≡ false → IsLow (reference_at s a r)
    unfolding reference_at
    reference_low a r low high is = go (is_row (assembly_at s a) MEMBER_REF r)
      where
        go : (b : Bool) → IsLow (if b then of_named s (parent_ty s a (cell (assembly_at s a) MEMBER_REF r 0)) (member s a r) else None)
        go true = named_low (parent_ty s a (cell (assembly_at s a) MEMBER_REF r 0)) (member s a r) (names_method s a r is) (λ f e. placed.found a r f low high e) (λ o e. placed.outside a r o low high e)
        go false = tt

    -- an index that is even isn't odd
    parity : (coded : ℕ) → ((coded % 2 ≡ 0) × ((coded % 2 == 0) ≡ true)) ⊎ (((coded % 2 == 0) ≡ false) × ((coded % 2 == 1) ≡ true))
    parity coded = go (coded % 2) (omega arith)
      where
        go : (m : ℕ) → m < 2 → ((m ≡ 0) × ((m == 0) ≡ true)) ⊎ (((m == 0) ≡ false) × ((m == 1) ≡ true))
        go zero h = inl (refl, refl)
        go (suc zero) h = inr (refl, refl)
        go (suc (suc m)) h = absurd (omega (arith, h))

    method_low : (a coded : ℕ) → IsMethodIndex s a coded → IsLow (impl_method s a coded)
    method_low a coded index = by_kind (parity coded)
      where
        by_field : (b : Bool) → is_field_blob (blob (assembly_at s a) MEMBER_REF (coded / 2) 2) ≡ b → (coded % 2 == 0) ≡ false → IsLow (if b then None else reference_at s a (coded / 2))
        by_field true f e = tt
        by_field false f e = reference_low a (coded / 2) index.low (index.reference e) f

        by_kind : ((coded % 2 ≡ 0) × ((coded % 2 == 0) ≡ true)) ⊎ (((coded % 2 == 0) ≡ false) × ((coded % 2 == 1) ≡ true)) → IsLow (impl_method s a coded)
        by_kind (inl e) =
            subst IsLow
            (sym (ap (λ (m : ℕ). if (m == 1) && is_field_blob (blob (assembly_at s a) MEMBER_REF (coded / 2) 2) then None else method_at s a coded) e.0
            ∙ ap (λ (b : Bool). if b then method_of_row s a (coded / 2) else reference_at s a (coded / 2)) e.1))
            (definition_low a (coded / 2) index.low (index.row e.1))
        by_kind (inr e) =
            subst IsLow
            (sym (ap (λ (b : Bool). if b && is_field_blob (blob (assembly_at s a) MEMBER_REF (coded / 2) 2) then None else method_at s a coded) e.1
            ∙ ap (λ (b : Bool). if is_field_blob (blob (assembly_at s a) MEMBER_REF (coded / 2) 2) then None else (if b then method_of_row s a (coded / 2) else reference_at s a (coded / 2))) e.0))
            (by_field (is_field_blob (blob (assembly_at s a) MEMBER_REF (coded / 2) 2)) refl e.0)

    -- an index of row 0 names nothing
    index_low : (a coded : ℕ) → (1 ≤ coded / 2 → IsMethodIndex s a coded) → IsLow (impl_method s a coded)
    index_low a coded index = go (cases_lt (coded / 2) 1)
      where
        none : (b : Bool) → IsLow (if b then None else None)
        none true = tt
        none false = tt

        go : (coded / 2 < 1) ⊎ (1 ≤ coded / 2) → IsLow (impl_method s a coded)
        go (inl l) =
            let zero_row : coded / 2 ≡ 0 = omega (arith, l) in
            subst IsLow (sym (ap (λ (o : Option NamedMember). if names_field (assembly_at s a) coded then None else o) (no_method s a coded zero_row))) (none (names_field (assembly_at s a) coded))
        go (inr l) = method_low a coded (index l)

    abbrev IsOwnImpl : Impl → Type 0
    IsOwnImpl i = (i.body < ids false) × (i.declaration < ids false)

    impl_low : (b d : Option NamedMember) → IsLow b → IsLow d → IfSome IsOwnImpl (impl_of b d)
    impl_low None d h g = tt
    impl_low (Some b) None h g = tt
    impl_low (Some b) (Some d) h g = (h, g)

    impls_low : (a r : ℕ) → Each IsOwnImpl (filter_map (impl_at s a) (rows_with (assembly_at s a) METHOD_IMPL 0 r))
    impls_low a r =
        each_kept IsOwnImpl (impl_at s a) (rows_with (assembly_at s a) METHOD_IMPL 0 r)
        (each_row (λ k. IfSome IsOwnImpl (impl_at s a k)) (assembly_at s a) METHOD_IMPL (λ k. cell (assembly_at s a) METHOD_IMPL k 0 == r)
        (λ k low high.
        impl_low (impl_method s a (cell (assembly_at s a) METHOD_IMPL k 1)) (impl_method s a (cell (assembly_at s a) METHOD_IMPL k 2))
        (index_low a (cell (assembly_at s a) METHOD_IMPL k 1) (described.bodies a k low high)) (index_low a (cell (assembly_at s a) METHOD_IMPL k 2) (described.declarations a k low high))))

    -- ---- whole types

    record AreOwnNames (d : TypeDesc) : Type 0 where
      base : IfSome (λ t. IsAmong n (out-Ty t)) d.base
      interfaces : Each (λ t. IsAmong n (out-Ty t)) d.interfaces
      fields : Each (λ f. f < ids true) d.fields
      methods : Each (λ m. m < ids false) d.methods
      impls : Each IsOwnImpl d.impls

    row_names : (k a r : ℕ) → slice_get (types_of s) k ≡ Some (type_id.Row a r) → AreOwnNames (type_row s a r)
    unfolding type_row
    row_names k a r e =
        let row : ranks.HasRow x xs kept k a r = ranks.has_row x xs kept k a r e in
        record {
          base = base_among k a r row;
          interfaces = interfaces_among k a r row;
          fields = fields_low a r;
          methods = methods_low a r;
          impls = impls_low a r;
        }

    id_names : (k : ℕ) (o : Option TypeId) → slice_get (types_of s) k ≡ o → AreOwnNames (unwrap_or (option_map (type_desc s) o) contract_exception)
    unfolding outside_type contract_exception types.out-Ty denote.Hole.Carrier.out denote.Hole.Carrier.hidden denote.Hole.Carrier.shown
    id_names k None e = record { base = tt; interfaces = tt; fields = tt; methods = tt; impls = tt }
    id_names k (Some (type_id.Outside name)) e = record { base = tt; interfaces = tt; fields = tt; methods = tt; impls = tt }
    id_names k (Some (type_id.Row a r)) e = row_names k a r e

    all_names : (k : ℕ) → AreOwnNames (type_of p k)
    all_names k = subst AreOwnNames (sym (ranks.desc_at x xs kept k (slice_get (types_of s) k) refl)) (id_names k (slice_get (types_of s) k) refl)

    fields_count : length p.fields ≡ ids true
    unfolding program_of
    fields_count = ranks.mapped_length (field_desc s) (member_ids s true)

    methods_count : length p.methods ≡ ids false
    unfolding program_of
    methods_count = ranks.mapped_length (method_desc s) (member_ids s false)

    if_some : (o : Option Ty) (t : Ty) → IfSome (λ u. IsAmong n (out-Ty u)) o → o ≡ Some t → IsAmong n (out-Ty t)
    if_some o t h e = subst (λ (o : Option Ty). IfSome (λ u. IsAmong n (out-Ty u)) o) e h

    pub names_own : NamesOwn p
    names_own = record {
      bases = λ k t low e. subst (λ (m : ℕ). IsAmong m (out-Ty t)) (sym (ranks.types_count x xs kept)) (let d : AreOwnNames (type_of p k) = all_names k in if_some (type_of p k).base t d.base e);
      interfaces = λ k low. subst (λ (m : ℕ). Each (λ t. IsAmong m (out-Ty t)) (type_of p k).interfaces) (sym (ranks.types_count x xs kept)) (let d : AreOwnNames (type_of p k) = all_names k in d.interfaces);
      fields = λ k low. subst (λ (m : ℕ). Each (λ f. f < m) (type_of p k).fields) (sym fields_count) (let d : AreOwnNames (type_of p k) = all_names k in d.fields);
      methods = λ k low. subst (λ (m : ℕ). Each (λ f. f < m) (type_of p k).methods) (sym methods_count) (let d : AreOwnNames (type_of p k) = all_names k in d.methods);
      impls = λ k low. subst (λ (m : ℕ). Each (λ (i : Impl). (i.body < m) × (i.declaration < m)) (type_of p k).impls) (sym methods_count) (let d : AreOwnNames (type_of p k) = all_names k in d.impls);
    }
