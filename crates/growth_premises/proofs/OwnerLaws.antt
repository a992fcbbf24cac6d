-- The type of a member outside has a number: a TypeRef row names it, or it is one of the fixed types.
use Rattle.std.proofs.Common.{◌≡◌, ◌∙◌, sym, ap, refl, subst, inl, inr, arith, rules, ℕ, zero, suc, ◌+◌, ◌<◌, ◌≤◌, Bool, true, false, List, [], ◌∷◌, ◌⊎◌, ◌||◌}
use Rattle.std.specs.Prelude.{Option, Some, None, Ok, Err, cond, find, map, codes, bytes_eq, is_some, unwrap_or, option_map, ◌==◌, ◌&&◌, not, if◌then◌else◌}
use Rattle.std.proofs.lemmas.Bool.{cases_lt}
use Rattle.cil_base.specs.declared.tables.TheConstants.{MEMBER_REF, TYPE_SPEC}
use Rattle.cil_model.specs.declared.ty.Ty.{Ty, out-Ty, out-roll-Ty}
use Rattle.cil_model.specs.declared.ty.Ty.TheOpen.{Ty-F}
use Rattle.cil_model.specs.declared.ty.Ty.TheVariants as ty
use Rattle.cil_semantics.specs.Core.{prim_name, prim_names}
use Rattle.cli_sigs.specs.declared.elements.Slot.{Slot}
use Rattle.cli_sigs.specs.declared.elements.Slot.TheVariants.{Plain}
use Rattle.cli_sigs.specs.declared.types.SigTy.{SigTy, out-SigTy}
use Rattle.cli_sigs.specs.declared.types.SigTy.TheOpen.{SigTy-F}
use Rattle.cli_sigs.specs.declared.types.MethodSig.{MethodSig}
use Rattle.cli_sigs.specs.Elements.{is_prim}
use Rattle.cli_sigs.specs.Grammar.{IsTypeSpec}
use Rattle.cli_sigs.specs.Read.{Reader, Outcome}
use Rattle.cli_sigs.specs.Reading.{type_at, ended}
use Rattle.cli_sigs.proofs.Readers.{IsReader}
use Rattle.cli_sigs.proofs.Longest.{found_all}
use Rattle.cli_sigs.specs.Valid.{IsValidForm, IsValidType}
use Rattle.cli_sigs.proofs.KindLaws.{reads-spec}
use Rattle.cli_sigs.proofs.ValidLaws.{type_valid}
use Rattle.set_names.specs.Names.{Name}
use Rattle.set_names.specs.Distinct.{among}
use Rattle.set_rows.specs.Sets.{Assembly, Assemblies, assembly_at, cell, blob, is_row}
use Rattle.set_signatures.specs.Blobs.{spec_sig}
use Rattle.set_types.specs.CodedIndexes.{tag, row_of}
use Rattle.set_types.specs.SignatureTypes.{ty_or, instance_of, spec_ty, coded_ty, layer_ty, ty_within, ty_of}
use Rattle.set_program.specs.declared.identity.TypeId.{TypeId}
use Rattle.set_program.specs.declared.identity.TypeId.TheVariants as type_id
use Rattle.set_program.specs.Numbering.{fixed_names}
use Rattle.set_program.specs.Attributes.{named_id}
use Rattle.set_program.specs.Environment.{number_of, is_value, prim_byte, outside_ty, ty_by_id, coded_in}
use Rattle.member_table.specs.declared.named.Named.{Named}
use Rattle.member_table.specs.declared.named.Named.TheVariants as named
use Rattle.member_table.specs.Environments.{coded_ty_at}
use Rattle.member_table.specs.Members.{is_type, parent_index, parent_type, layer_name, owner_name}
use Rattle.set_growth.specs.Orderly.{IsOrderly}
use Rattle.growth_premises.specs.Places.{HasReferences}
use Rattle.growth_premises.proofs.NumberedLaws.{fixed_numbered, named_numbered}
use Rattle.growth_premises.proofs.ReferenceLaws.{NumbersOwners, named_as, has_references}

-- ---- the fixed types

-- each type of one byte is fixed
abbrev is_fixed : ℕ → Bool
is_fixed b = not (is_prim b) || among (prim_name b) fixed_names

abbrev all_fixed : ℕ → ℕ → Bool
all_fixed zero from = true
all_fixed (suc n) from = is_fixed from && all_fixed n (from + 1)

first_holds : (a b : Bool) → (a && b) ≡ true → a ≡ true
first_holds true b h = refl
first_holds false b h = absurd cc

second_holds : (a b : Bool) → (a && b) ≡ true → b ≡ true
second_holds true b h = h
second_holds false b h = absurd cc

fixed_in : (n from b : ℕ) → all_fixed n from ≡ true → from ≤ b → b < from + n → is_fixed b ≡ true
fixed_in zero from b h low high = absurd (omega (arith, low, high))
fixed_in (suc n) from b h low high = go (cases_lt from b) (λ l. fixed_in n (from + 1) b (second_holds (is_fixed from) (all_fixed n (from + 1)) h) (omega (arith, l)) (omega (arith, high)))
  where
    go : (from < b) ⊎ (b ≤ from) → (from < b → is_fixed b ≡ true) → is_fixed b ≡ true
    go (inl l) later = later l
    go (inr l) later = let same : from ≡ b = omega (arith, l, low) in subst (λ (k : ℕ). is_fixed k ≡ true) same (first_holds (is_fixed from) (all_fixed n (from + 1)) h)

table_fixed : all_fixed 29 0 ≡ true
unfolding fixed_names prim_name prim_names
table_fixed = refl

prim_low : (b : ℕ) → is_prim b ≡ true → b < 29
prim_low b h = search (rules, h)

prim_fixed : (b : ℕ) → is_prim b ≡ true → among (prim_name b) fixed_names ≡ true
prim_fixed b h = go (is_prim b) h (fixed_in 29 0 b table_fixed (omega arith) (omega (arith, prim_low b h)))
  where
    go : (t : Bool) → t ≡ true → (not t || among (prim_name b) fixed_names) ≡ true → among (prim_name b) fixed_names ≡ true
    go true e f = f
    go false e f = absurd cc

abbrev all_prims : List (ℕ × Name) → Bool
all_prims [] = true
all_prims (row ∷ rows) = is_prim row.0 && all_prims rows

rows_prim : all_prims prim_names ≡ true
unfolding prim_names
rows_prim = refl

found_prim : (test : ℕ × Name → Bool) (rows : List (ℕ × Name)) (b : ℕ) → all_prims rows ≡ true → option_map (λ (row : ℕ × Name). row.0) (find test rows) ≡ Some b → is_prim b ≡ true
found_prim test [] b h e = absurd cc
found_prim test (row ∷ rows) b h e = go (test row) (found_prim test rows b (second_holds (is_prim row.0) (all_prims rows) h)) e
  where
    go : (t : Bool) → (option_map (λ (row : ℕ × Name). row.0) (find test rows) ≡ Some b → is_prim b ≡ true) → option_map (λ (row : ℕ × Name). row.0) (cond t (Some row) (find test rows)) ≡ Some b → is_prim b ≡ true
    go true later f = let same : row.0 ≡ b = ap (λ (o : Option ℕ). unwrap_or o b) f in subst (λ (k : ℕ). is_prim k ≡ true) same (first_holds (is_prim row.0) (all_prims rows) h)
    go false later f = later f

-- what is read is in the grammar
read_is : {A : Type 0} (G : List ℕ → A → Type 0) (r : Reader A) → IsReader G r → (bytes : List ℕ) (v : A) → ended (r bytes) ≡ Some v → G bytes v
read_is {A} G r reader bytes v e = go (r bytes) refl e
  where
    go : (o : Outcome A) → r bytes ≡ o → ended o ≡ Some v → G bytes v
    go (Err n) f g = absurd cc
    go (Ok (u, [])) f g = subst (G bytes) (ap (λ (o : Option A). unwrap_or o u) g) (found_all G r reader bytes [] u f (omega arith))
    go (Ok (u, b ∷ rest)) f g = absurd cc

-- ---- types of a set

spec_valid : (bytes : List ℕ) (t : SigTy) → spec_sig bytes ≡ Some t → IsValidType 1000 Plain t
unfolding spec_sig
spec_valid bytes t e = type_valid 1000 Plain bytes t (read_is IsTypeSpec (type_at 999 Plain) (reads-spec Plain) bytes t e)

module _ (x : Assembly) (xs : Assemblies) where
  abbrev s : Assemblies
  s = x ∷ xs

  abbrev Numbered : Name → Type 0
  Numbered name = is_some (number_of s (type_id.Outside name)) ≡ true

  abbrev Good : Ty → Type 0
  Good t = Numbered (layer_name (out-Ty t))

  no_type : Numbered (codes "<Module>")
  unfolding fixed_names
  no_type = fixed_numbered x xs (codes "<Module>") refl

  array_type : Numbered (codes "System.Array")
  unfolding fixed_names
  array_type = fixed_numbered x xs (codes "System.Array") refl

  good : (t : Ty) (l : Ty-F Ty) → out-Ty t ≡ l → Numbered (layer_name l) → Good t
  good t l e h = ap (λ (k : Ty-F Ty). is_some (number_of s (type_id.Outside (layer_name k)))) e ∙ h

  good_prim : (b : ℕ) → is_prim b ≡ true → Good (ty.Prim b)
  good_prim b h = good (ty.Prim b) (Ty-F.Prim b) (sym (sym (out-roll-Ty (Ty-F.Prim b)) ∙ ap out-Ty (ty.rolls-Prim b))) (fixed_numbered x xs (prim_name b) (prim_fixed b h))

  good_outside : (name : Name) (value : Bool) → Numbered name → Good (ty.Outside name value)
  good_outside name value h = good (ty.Outside name value) (Ty-F.Outside name value) (sym (sym (out-roll-Ty (Ty-F.Outside name value)) ∙ ap out-Ty (ty.rolls-Outside name value))) h

  good_array : (t : Ty) → Good (ty.Array t)
  good_array t = good (ty.Array t) (Ty-F.Array t) (sym (sym (out-roll-Ty (Ty-F.Array t)) ∙ ap out-Ty (ty.rolls-Array t))) array_type

  good_by_ref : (t : Ty) → Good (ty.ByRef t)
  good_by_ref t = good (ty.ByRef t) (Ty-F.ByRef t) (sym (sym (out-roll-Ty (Ty-F.ByRef t)) ∙ ap out-Ty (ty.rolls-ByRef t))) no_type

  good_known : (k : ℕ) → Good (ty.Known k)
  good_known k = good (ty.Known k) (Ty-F.Known k) (sym (sym (out-roll-Ty (Ty-F.Known k)) ∙ ap out-Ty (ty.rolls-Known k))) no_type

  good_var : (k : ℕ) → Good (ty.Var k)
  good_var k = good (ty.Var k) (Ty-F.Var k) (sym (sym (out-roll-Ty (Ty-F.Var k)) ∙ ap out-Ty (ty.rolls-Var k))) no_type

  good_mvar : (k : ℕ) → Good (ty.MVar k)
  good_mvar k = good (ty.MVar k) (Ty-F.MVar k) (sym (sym (out-roll-Ty (Ty-F.MVar k)) ∙ ap out-Ty (ty.rolls-MVar k))) no_type

  good_opaque : Good ty.Opaque
  good_opaque = good ty.Opaque Ty-F.Opaque (sym (sym (out-roll-Ty Ty-F.Opaque) ∙ ap out-Ty ty.rolls-Opaque)) no_type

  good_inst : (k : ℕ) (ts : List Ty) → Good (ty.Inst k ts)
  good_inst k ts = good (ty.Inst k ts) (Ty-F.Inst k ts) (sym (sym (out-roll-Ty (Ty-F.Inst k ts)) ∙ ap out-Ty (ty.rolls-Inst k ts))) no_type

  good_instance : (ts : List Ty) (t : Ty) (l : Ty-F Ty) → Good t → Good (instance_of ts t l)
  good_instance [] t l h = h
  good_instance (u ∷ ts) t (Ty-F.Known k) h = good_inst k (u ∷ ts)
  good_instance (u ∷ ts) t (Ty-F.Prim b) h = h
  good_instance (u ∷ ts) t (Ty-F.Outside name value) h = h
  good_instance (u ∷ ts) t (Ty-F.Array v) h = h
  good_instance (u ∷ ts) t (Ty-F.ByRef v) h = h
  good_instance (u ∷ ts) t (Ty-F.Var k) h = h
  good_instance (u ∷ ts) t (Ty-F.MVar k) h = h
  good_instance (u ∷ ts) t Ty-F.Opaque h = h
  good_instance (u ∷ ts) t (Ty-F.Inst k vs) h = h

  -- a type that a TypeDef or TypeRef row names
  good_id : (a coded : ℕ) (o : Option TypeId) → named_id s a coded ≡ o → Good (ty_or ty.Opaque (option_map (ty_by_id s) o))
  good_id a coded None e = good_opaque
  good_id a coded (Some (type_id.Row b row)) e = good_known _
  good_id a coded (Some (type_id.Outside name)) e = go (prim_byte name) refl
    where
      go : (o : Option ℕ) → prim_byte name ≡ o → Good (outside_ty s name o)
      go None f = good_outside name (is_value s name) (named_numbered x xs a coded (type_id.Outside name) e)
      go (Some b) f = good_prim b (found_prim (λ (row : ℕ × Name). bytes_eq name row.1) prim_names b rows_prim f)

  module _ (a : ℕ) where
    good_spec : (read : SigTy → Ty) → ((t : SigTy) → IsValidType 1000 Plain t → Good (read t)) → (row : ℕ) → Good (spec_ty read ((coded_in s a).spec row))
    good_spec read inner row = go (is_row (assembly_at s a) TYPE_SPEC row)
      where
        by_blob : (o : Option SigTy) → spec_sig (blob (assembly_at s a) TYPE_SPEC row 0) ≡ o → Good (spec_ty read o)
        by_blob None e = good_opaque
        by_blob (Some t) e = inner t (spec_valid (blob (assembly_at s a) TYPE_SPEC row 0) t e)

        go : (b : Bool) → Good (spec_ty read (if b then spec_sig (blob (assembly_at s a) TYPE_SPEC row 0) else None))
        go true = by_blob (spec_sig (blob (assembly_at s a) TYPE_SPEC row 0)) refl
        go false = good_opaque

    good_coded : (read : SigTy → Ty) → ((t : SigTy) → IsValidType 1000 Plain t → Good (read t)) → (coded : ℕ) → Good (coded_ty (coded_in s a) read coded)
    good_coded read inner coded = go (tag coded == 2)
      where
        go : (b : Bool) → Good (if b then spec_ty read ((coded_in s a).spec (row_of coded)) else ty_or ty.Opaque ((coded_in s a).named coded))
        go true = good_spec read inner (row_of coded)
        go false = good_id a coded (named_id s a coded) refl

    good_layer : (read : SigTy → Ty) (Inner : Slot → SigTy → Type 0) → ((slot : Slot) (t : SigTy) → Inner slot t → Good (read t)) → ((coded : ℕ) → Good (coded_ty (coded_in s a) read coded))
        → (slot : Slot) (l : SigTy-F SigTy MethodSig) → IsValidForm Inner slot l → Good (layer_ty (coded_in s a) read l)
    good_layer read Inner inner coded slot (SigTy-F.Prim b) h = good_prim b h.0
    good_layer read Inner inner coded slot (SigTy-F.Ptr t) h = good_opaque
    good_layer read Inner inner coded slot (SigTy-F.ByRef t) h = good_by_ref (read t)
    good_layer read Inner inner coded slot (SigTy-F.Named value c) h = coded c
    good_layer read Inner inner coded slot (SigTy-F.Var n) h = good_var n
    good_layer read Inner inner coded slot (SigTy-F.MVar n) h = good_mvar n
    good_layer read Inner inner coded slot (SigTy-F.Array t rank sizes lows) h = good_outside (codes "System.Array") false array_type
    good_layer read Inner inner coded slot (SigTy-F.Inst value c args) h = good_instance (map read args) (coded_ty (coded_in s a) read c) (out-Ty (coded_ty (coded_in s a) read c)) (coded c)
    good_layer read Inner inner coded slot (SigTy-F.Func m) h = good_opaque
    good_layer read Inner inner coded slot (SigTy-F.SzArray t) h = good_array (read t)
    good_layer read Inner inner coded slot (SigTy-F.Modified required c t) h = inner _ t h.1
    good_layer read Inner inner coded slot (SigTy-F.Pinned t) h = inner _ t h.1

    good_within : (d n : ℕ) (slot : Slot) (t : SigTy) → IsValidType n slot t → Good (ty_within (coded_in s a) d t)
    unfolding ty_within IsValidType
    good_within zero n slot t h = good_opaque
    good_within (suc d) zero slot t h = absurd h
    good_within (suc d) (suc n) slot t h =
        good_layer (ty_within (coded_in s a) d) (IsValidType n) (λ inner u g. good_within d n inner u g) (good_coded (ty_within (coded_in s a) d) (λ u g. good_within d 1000 Plain u g)) slot (out-SigTy t) h

    -- ---- the parent of a MemberRef row

    abbrev GoodIf : Option Ty → Type 0
    GoodIf None = Unit {0}
    GoodIf (Some t) = Good t

    some_id : (coded : ℕ) (o : Option TypeId) → named_id s a coded ≡ o → GoodIf (option_map (ty_by_id s) o)
    some_id coded None e = tt
    some_id coded (Some id) e = good_id a coded (Some id) e

    some_spec : (row : ℕ) → GoodIf (option_map (ty_of (coded_in s a)) ((coded_in s a).spec row))
    some_spec row = go (is_row (assembly_at s a) TYPE_SPEC row)
      where
        by_blob : (o : Option SigTy) → spec_sig (blob (assembly_at s a) TYPE_SPEC row 0) ≡ o → GoodIf (option_map (ty_of (coded_in s a)) o)
        by_blob None e = tt
        by_blob (Some t) e = good_within 1000 1000 Plain t (spec_valid (blob (assembly_at s a) TYPE_SPEC row 0) t e)

        go : (b : Bool) → GoodIf (option_map (ty_of (coded_in s a)) (if b then spec_sig (blob (assembly_at s a) TYPE_SPEC row 0) else None))
        go true = by_blob (spec_sig (blob (assembly_at s a) TYPE_SPEC row 0)) refl
        go false = tt

    some_coded : (coded : ℕ) → GoodIf (coded_ty_at (coded_in s a) coded)
    some_coded coded = go (row_of coded == 0) (tag coded == 2)
      where
        go : (b c : Bool) → GoodIf (if b then None else if c then option_map (ty_of (coded_in s a)) ((coded_in s a).spec (row_of coded)) else (coded_in s a).named coded)
        go true c = tt
        go false true = some_spec (row_of coded)
        go false false = some_id coded (named_id s a coded) refl

    parent_good : (row : ℕ) → GoodIf (parent_type (assembly_at s a) (coded_in s a) row)
    parent_good row = go (is_type (cell (assembly_at s a) MEMBER_REF row 0))
      where
        go : (b : Bool) → GoodIf (if b then coded_ty_at (coded_in s a) (parent_index (cell (assembly_at s a) MEMBER_REF row 0)) else None)
        go true = some_coded (parent_index (cell (assembly_at s a) MEMBER_REF row 0))
        go false = tt

    owner_good : (o : Option Ty) → GoodIf o → Numbered (owner_name o)
    owner_good None h = no_type
    owner_good (Some t) h = h

  abbrev IfOutside : Named → Type 0
  IfOutside (named.Outside m) = Numbered m.owner
  IfOutside _ = Unit {0}

  pub numbers_owners : NumbersOwners s
  numbers_owners a row m low high e =
      subst IfOutside e (named_as s IfOutside a row tt (λ f r k. tt) (λ t y is g. by_parent t is))
    where
      by_parent : (t : Option Ty) → (t ≡ None) ⊎ (t ≡ parent_type (assembly_at s a) (coded_in s a) row) → Numbered (owner_name t)
      by_parent t (inl f) = subst (λ (o : Option Ty). Numbered (owner_name o)) (sym f) no_type
      by_parent t (inr f) = subst (λ (o : Option Ty). Numbered (owner_name o)) (sym f) (owner_good a (parent_type (assembly_at s a) (coded_in s a) row) (parent_good a row))

  pub all_references : IsOrderly x → HasReferences s
  all_references orderly = has_references x xs orderly numbers_owners
