-- The coded types behind VALUETYPE by table, and what they name.
use Rattle.std.proofs.Common.{◌≡◌, ◌∙◌, sym, ap, refl, arith, rules, append_assoc, ℕ, zero, suc, ◌-◌, ◌≤◌, List, [], ◌++◌, get_or, Bool, true, false}
use Rattle.std.specs.Prelude.{◌==◌, ◌&&◌, nat_lt, nat_le, Option, Some, None, map, filter_map, flat_map, option_to_list, if◌then◌else◌, Result, Ok, Err, OnOk}
use Rattle.std.specs.List.{range_with_len}
use Rattle.std.proofs.Math.ListN.{get_or-eq_default}
use Rattle.std.proofs.lemmas.Bool.{eqb-true}
use Rattle.std.proofs.lemmas.List.{append-nil}
use Rattle.std.proofs.lemmas.List.FromFn.{get_or-map-range_with_len, length-map-range_with_len}
use Rattle.cil_base.specs.declared.tables.TheConstants.{FIELD, MEMBER_REF, METHOD_DEF, METHOD_SPEC, PROPERTY, STAND_ALONE_SIG, TYPE_DEF, TYPE_REF, TYPE_SPEC}
use Rattle.cli_sigs.specs.declared.types.SigTy.{SigTy}
use Rattle.set_rows.specs.Sets.{Assembly, Assemblies, assembly_at, is_row, rows_in, count_in, blob}
use Rattle.set_types.specs.CodedIndexes.{tag, row_of}
use Rattle.set_types.specs.SignatureRules.{method_types, values_within}
use Rattle.set_signatures.specs.Blobs.{field_sig, method_sig, property_sig, local_sigs, instance_sigs, is_field_blob, first_byte}
use Rattle.signature_rules.specs.BlobKinds.{blob_kind}
use Rattle.signature_rules.specs.BlobKinds as kinds
use Rattle.set_program.specs.declared.identity.TypeId.{TypeId}
use Rattle.set_program.specs.declared.identity.TypeId.TheVariants.{Row}
use Rattle.set_program.specs.References.{reference}
use Rattle.set_program.specs.Attributes.{named_id}
use Rattle.set_program.specs.Numbering.{outside_name}
use Rattle.set_program.specs.Environment.{types_or_none, member_types, local_types, row_types, signature_tables, values_in}
use Rattle.type_table.specs.Names.{AreReferences, reference_in}
use Rattle.value_types.specs.CodedValues.{types_by, table_values, coded_values, coded_outside}

-- ---- table by table

some_or_none : {A : Type 0} (f : A → List SigTy) (o : Option A) → types_or_none f o ≡ kinds.types_or_none f o
some_or_none f None = refl
some_or_none f (Some v) = refl

member_same : (bytes : List ℕ) → member_types bytes ≡ types_by (blob_kind MEMBER_REF bytes) bytes
member_same bytes = go (is_field_blob bytes)
  where
    go : (b : Bool) → (if b then option_to_list (field_sig bytes) else types_or_none method_types (method_sig bytes)) ≡ kinds.kind_types (if b then Rattle.signature_rules.specs.declared.blobs.BlobKind.TheVariants.Field else Rattle.signature_rules.specs.declared.blobs.BlobKind.TheVariants.Method) bytes
    go true = refl
    go false = some_or_none method_types (method_sig bytes)

local_same : (bytes : List ℕ) → local_types bytes ≡ types_by (blob_kind STAND_ALONE_SIG bytes) bytes
local_same bytes = go (first_byte bytes == 0x07)
  where
    go : (b : Bool) → (if b then types_or_none (λ ts. ts) (local_sigs bytes) else []) ≡ types_by (if b then Some Rattle.signature_rules.specs.declared.blobs.BlobKind.TheVariants.Locals else None) bytes
    go true = some_or_none (λ ts. ts) (local_sigs bytes)
    go false = refl

-- the types of a row, by its blob
abbrev Same : Assembly → ℕ → ℕ → Type 0
Same x table column = (row : ℕ) → row_types x table row ≡ types_by (blob_kind table (blob x table row column)) (blob x table row column)

table_same : (x : Assembly) (table column : ℕ) → Same x table column
    → flat_map (λ row. flat_map (values_within 1000) (row_types x table row)) (rows_in x table) ≡ table_values x table column
table_same x table column same = λ i. flat_map (λ row. flat_map (values_within 1000) (same row i)) (rows_in x table)

seven : (a b c d e f g : List ℕ) → a ++ (b ++ (c ++ (d ++ (e ++ (f ++ (g ++ [])))))) ≡ a ++ b ++ c ++ d ++ e ++ f ++ g
seven a b c d e f g =
    sym (append_assoc a b (c ++ (d ++ (e ++ (f ++ (g ++ []))))))
    ∙ sym (append_assoc (a ++ b) c (d ++ (e ++ (f ++ (g ++ [])))))
    ∙ sym (append_assoc (a ++ b ++ c) d (e ++ (f ++ (g ++ []))))
    ∙ sym (append_assoc (a ++ b ++ c ++ d) e (f ++ (g ++ [])))
    ∙ sym (append_assoc (a ++ b ++ c ++ d ++ e) f (g ++ []))
    ∙ ap (λ (l : List ℕ). a ++ b ++ c ++ d ++ e ++ f ++ l) (append-nil g)

tables_same : (x : Assembly) → flat_map (λ table. flat_map (λ row. flat_map (values_within 1000) (row_types x table row)) (rows_in x table)) signature_tables ≡ coded_values x
unfolding coded_values
tables_same x =
    (λ i.
    table_same x FIELD 2 (λ row. refl) i
    ++ (table_same x METHOD_DEF 4 (λ row. some_or_none method_types (method_sig (blob x METHOD_DEF row 4))) i
    ++ (table_same x MEMBER_REF 2 (λ row. member_same (blob x MEMBER_REF row 2)) i
    ++ (table_same x STAND_ALONE_SIG 0 (λ row. local_same (blob x STAND_ALONE_SIG row 0)) i
    ++ (table_same x PROPERTY 2 (λ row. some_or_none method_types (property_sig (blob x PROPERTY row 2))) i
    ++ (table_same x TYPE_SPEC 0 (λ row. refl) i
    ++ (table_same x METHOD_SPEC 1 (λ row. some_or_none (λ ts. ts) (instance_sigs (blob x METHOD_SPEC row 1))) i
    ++ [])))))))
    ∙ seven (table_values x FIELD 2) (table_values x METHOD_DEF 4) (table_values x MEMBER_REF 2) (table_values x STAND_ALONE_SIG 0) (table_values x PROPERTY 2) (table_values x TYPE_SPEC 0) (table_values x METHOD_SPEC 1)

-- those of a row before those of the rows that are left
pub row_added : (out out' front more whole : List ℕ) → out' ≡ out ++ front → out ++ (front ++ more) ≡ whole → out' ++ more ≡ whole
row_added out out' front more whole e h = ap (λ (l : List ℕ). l ++ more) e ∙ append_assoc out front more ∙ h

pushed : (o p q a b : List ℕ) → p ≡ o ++ a → q ≡ p ++ b → q ≡ o ++ (a ++ b)
pushed o p q a b e f = f ∙ ap (λ (l : List ℕ). l ++ b) e ∙ append_assoc o a b

-- seven lists that are appended in turn
pub all_pushed : {X E : Type 0} (r : Result X E) (o p q u v w z now a b c d e f g : List ℕ) → p ≡ o ++ a → q ≡ p ++ b → u ≡ q ++ c → v ≡ u ++ d → w ≡ v ++ e → z ≡ w ++ f
    → OnOk r (now ≡ z ++ g) → OnOk r (now ≡ o ++ (a ++ b ++ c ++ d ++ e ++ f ++ g))
all_pushed (Err x) o p q u v w z now a b c d e f g h1 h2 h3 h4 h5 h6 h = tt
all_pushed (Ok x) o p q u v w z now a b c d e f g h1 h2 h3 h4 h5 h6 h =
    pushed o z now (a ++ b ++ c ++ d ++ e ++ f) g
    (pushed o w z (a ++ b ++ c ++ d ++ e) f (pushed o v w (a ++ b ++ c ++ d) e (pushed o u v (a ++ b ++ c) d (pushed o q u (a ++ b) c (pushed o p q a b h1 h2) h3) h4) h5) h6)
    h

-- ---- what they name

module _ (s : Assemblies) (a : ℕ) (refs : List (Option TypeId)) (h : AreReferences s a refs) where
  refs_are : (row : ℕ) → reference_in refs row ≡ (if is_row (assembly_at s a) TYPE_REF row then reference s a row else None)
  refs_are zero = refl
  refs_are (suc row) =
      let isnt : (suc row == 0) ≡ false = search rules in
      let place : suc row - 1 ≡ row = omega arith in
      ap (λ (b : Bool). if b then None else get_or refs (suc row - 1) None) isnt ∙ ap (λ (m : ℕ). get_or refs m None) place
      ∙ ap (λ (l : List (Option TypeId)). get_or l row None) h ∙ go (is_row (assembly_at s a) TYPE_REF (suc row)) refl
    where
      second : (p q : Bool) → (p && q) ≡ true → q ≡ true
      second true q e = e
      second false q e = absurd cc

      other_false : (p q : Bool) → p ≡ true → (p && q) ≡ false → q ≡ false
      other_false true q f e = e
      other_false false q f e = absurd cc

      go : (b : Bool) → is_row (assembly_at s a) TYPE_REF (suc row) ≡ b → get_or (map (reference s a) (range_with_len 1 (count_in (assembly_at s a) TYPE_REF))) row None ≡ (if b then reference s a (suc row) else None)
      go true e =
          let test : nat_le (suc row) (count_in (assembly_at s a) TYPE_REF) ≡ true = second (nat_lt 0 (suc row)) (nat_le (suc row) (count_in (assembly_at s a) TYPE_REF)) e in
          let in_range : suc row ≤ count_in (assembly_at s a) TYPE_REF = search (rules, test) in
          get_or-map-range_with_len (reference s a) 1 (count_in (assembly_at s a) TYPE_REF) row (suc row) None (omega (arith, in_range)) (omega arith)
      go false e =
          let some : nat_lt 0 (suc row) ≡ true = search rules in
          let test : nat_le (suc row) (count_in (assembly_at s a) TYPE_REF) ≡ false = other_false (nat_lt 0 (suc row)) (nat_le (suc row) (count_in (assembly_at s a) TYPE_REF)) some e in
          let past : suc row ≤ count_in (assembly_at s a) TYPE_REF → ⊥ = λ l. search (rules, test, l) in
          get_or-eq_default (map (reference s a) (range_with_len 1 (count_in (assembly_at s a) TYPE_REF))) None (omega (arith, past, length-map-range_with_len (reference s a) 1 (count_in (assembly_at s a) TYPE_REF)))

  by_tag : (p q : Bool) (own other o : Option TypeId) → outside_name own ≡ None → (p ≡ true → q ≡ false) → o ≡ other → (if q then outside_name o else None) ≡ outside_name (if p then own else if q then other else None)
  by_tag true true own other o none apart e = let wrong : true ≡ false = apart refl in absurd cc
  by_tag true false own other o none apart e = sym none
  by_tag false true own other o none apart e = ap outside_name e
  by_tag false false own other o none apart e = refl

  no_outside : (b : Bool) (row : ℕ) → outside_name (if b then Some (Row a row) else None) ≡ None
  no_outside true row = refl
  no_outside false row = refl

  coded_same : (coded : ℕ) → coded_outside refs coded ≡ outside_name (named_id s a coded)
  coded_same coded =
      by_tag (tag coded == 0) (tag coded == 1) (if is_row (assembly_at s a) TYPE_DEF (row_of coded) then Some (Row a (row_of coded)) else None)
      (if is_row (assembly_at s a) TYPE_REF (row_of coded) then reference s a (row_of coded) else None) (reference_in refs (row_of coded))
      (no_outside (is_row (assembly_at s a) TYPE_DEF (row_of coded)) (row_of coded)) (λ e. ap (λ (n : ℕ). n == 1) (eqb-true (tag coded) 0 e)) (refs_are (row_of coded))

  pub values_are : (x : Assembly) → x ≡ assembly_at s a → filter_map (coded_outside refs) (coded_values x) ≡ values_in s a
  unfolding values_in
  values_are x there =
      ap (λ (y : Assembly). filter_map (coded_outside refs) (coded_values y)) there
      ∙ (λ i. filter_map (λ coded. coded_same coded i) (sym (tables_same (assembly_at s a)) i))
