-- What coded types lead to, and signatures of old rows, where rows are appended.
use Rattle.std.proofs.Common.{◌≡◌, ◌∙◌, sym, ap, refl, arith, ℕ, zero, suc, ◌≤◌, List, [], ◌∷◌, ◌++◌, Bool, true, false}
use Rattle.std.specs.Prelude.{map, ◌==◌, ◌&&◌, ◌||◌, nat_le, is_some, is_none, Option, Some, None, option_map, option_and_then, option_to_list, if◌then◌else◌}
use Rattle.cil_base.specs.declared.tables.TheConstants.{TYPE_DEF, TYPE_REF, TYPE_SPEC}
use Rattle.cil_model.specs.declared.ty.Ty.{Ty}
use Rattle.cil_model.specs.declared.ty.Ty.TheVariants as ty
use Rattle.cli_sigs.specs.declared.types.SigTy.{SigTy}
use Rattle.cli_sigs.specs.declared.types.MethodSig.{MethodSig, MethodSig-F, out-MethodSig}
use Rattle.set_names.specs.Names.{Name}
use Rattle.set_rows.specs.Sets.{Assembly, Assemblies, assembly_at, count_in, cell, text, blob, is_row}
use Rattle.set_types.specs.CodedIndexes.{tag, row_of}
use Rattle.set_types.specs.SignatureRules.{any, method_types}
use Rattle.set_types.specs.SignatureTypes.{Coded, ty_of}
use Rattle.set_signatures.specs.Blobs.{field_sig, method_sig, spec_sig, is_field_blob}
use Rattle.set_signatures.specs.Spelling.{Spelled, behind, followed, mark, spelled, spelled_all, spelled_method}
use Rattle.set_signatures.specs.Shapes.{signature_numbers, shape_of}
use Rattle.set_program.specs.declared.identity.TypeId.{TypeId}
use Rattle.set_program.specs.declared.identity.TypeId.TheVariants.{Row, Outside}
use Rattle.set_program.specs.References.{reference}
use Rattle.set_program.specs.Numbering.{type_ids, number_in}
use Rattle.set_program.specs.Attributes.{named_id, attribute_outside}
use Rattle.set_program.specs.Environment.{types_of, number_of, number_or, prim_byte, outside_ty, ty_by_id, coded_in, ty_at, types_or_none, member_types}
use Rattle.member_table.specs.Environments.{in_spec, arguments_within, arguments_at}
use Rattle.member_table.specs.MemberRules.{isnt_read}
use Rattle.set_growth.specs.Grown.{varies, is_text, is_blob, KeepsRows, IsGrown, SaysAlike}
use Rattle.set_growth.specs.Orderly.{IsOrderly}
use Rattle.set_growth.specs.Kept.{Stays}
use Rattle.set_growth.proofs.FindLaws.{lt_true, le_true, le_from}
use Rattle.set_growth.proofs.KeptTypeLaws.{references_stay, types_grow, numbers_stay}
use Rattle.program_growth.specs.Rules.{IsTypeIndex, IsNamed, IsNumbered}
use Rattle.program_growth.specs.Kept.{ExtendsCoded, KeepsSignature}
use Rattle.program_growth.proofs.SignatureLaws.{keeps_signatures}

pub or_first : (a b : Bool) → (a || b) ≡ false → a ≡ false
or_first true b e = e
or_first false b e = refl

pub or_second : (a b : Bool) → (a || b) ≡ false → b ≡ false
or_second true b e = absurd cc
or_second false b e = e

-- ---- signatures that are read

module _ (c c' : Coded) (more : ExtendsCoded c c') where
  pub record AllKept (ts : List SigTy) : Type 0 where
    pub numbers : (args : List (List ℕ)) → spelled_all (spelled c' args) ts ≡ spelled_all (spelled c args) ts
    pub tys : map (ty_of c') ts ≡ map (ty_of c) ts

  pub all_kept : (ts : List SigTy) → isnt_read c ts ≡ false → AllKept ts
  all_kept [] h = record { numbers = λ args. refl; tys = refl }
  all_kept (t ∷ ts) h =
      let first : KeepsSignature c c' t = keeps_signatures c c' more t (or_first (is_none (spelled c [] t)) (any (λ u. is_none (spelled c [] u)) ts) h) in
      let rest : AllKept ts = all_kept ts (or_second (is_none (spelled c [] t)) (any (λ u. is_none (spelled c [] u)) ts) h) in
      record {
        numbers = λ args. ap (λ (o : Spelled). followed o (spelled_all (spelled c' args) ts)) (first.numbers args) ∙ ap (followed (spelled c args t)) (rest.numbers args);
        tys = ap (λ (u : Ty). u ∷ map (ty_of c') ts) first.ty ∙ ap (λ (us : List Ty). ty_of c t ∷ us) rest.tys;
      }

  pub record MethodKept (m : MethodSig-F SigTy MethodSig) : Type 0 where
    pub result : ty_of c' m.result ≡ ty_of c m.result
    pub params : map (ty_of c') m.params ≡ map (ty_of c) m.params

  field_numbers : (o : Option SigTy) → isnt_read c (option_to_list o) ≡ false → (args : List (List ℕ)) → option_and_then (spelled c' args) o ≡ option_and_then (spelled c args) o
  field_numbers None h args = refl
  field_numbers (Some t) h args = (keeps_signatures c c' more t (or_first (is_none (spelled c [] t)) false h)).numbers args

  method_numbers : (o : Option MethodSig) → isnt_read c (types_or_none method_types o) ≡ false → (args : List (List ℕ)) → option_and_then (spelled_method c' args) o ≡ option_and_then (spelled_method c args) o
  method_numbers None h args = refl
  method_numbers (Some m) h args =
      let sig : MethodSig-F SigTy MethodSig = out-MethodSig m in
      let front : List ℕ = sig.flags ∷ sig.generics ∷ mark sig.sentinel in
      let first : KeepsSignature c c' sig.result = keeps_signatures c c' more sig.result (or_first (is_none (spelled c [] sig.result)) (any (λ u. is_none (spelled c [] u)) sig.params) h) in
      let rest : AllKept sig.params = all_kept sig.params (or_second (is_none (spelled c [] sig.result)) (any (λ u. is_none (spelled c [] u)) sig.params) h) in
      ap (λ (o : Spelled). behind front (followed o (spelled_all (spelled c' args) sig.params))) (first.numbers args)
      ∙ ap (λ (o : Spelled). behind front (followed (spelled c args sig.result) o)) (rest.numbers args)

  pub method_kept : (m : MethodSig) → isnt_read c (method_types m) ≡ false → MethodKept (out-MethodSig m)
  method_kept m h =
      let sig : MethodSig-F SigTy MethodSig = out-MethodSig m in
      record {
        result = (keeps_signatures c c' more sig.result (or_first (is_none (spelled c [] sig.result)) (any (λ u. is_none (spelled c [] u)) sig.params) h)).ty;
        params = (all_kept sig.params (or_second (is_none (spelled c [] sig.result)) (any (λ u. is_none (spelled c [] u)) sig.params) h)).tys;
      }

  pub numbers_same : (bytes : List ℕ) → isnt_read c (member_types bytes) ≡ false → (args : List (List ℕ)) → signature_numbers c' args bytes ≡ signature_numbers c args bytes
  numbers_same bytes h args = go (is_field_blob bytes) h
    where
      go : (b : Bool) → isnt_read c (if b then option_to_list (field_sig bytes) else types_or_none method_types (method_sig bytes)) ≡ false
          → (if b then option_and_then (spelled c' args) (field_sig bytes) else option_and_then (spelled_method c' args) (method_sig bytes))
          ≡ (if b then option_and_then (spelled c args) (field_sig bytes) else option_and_then (spelled_method c args) (method_sig bytes))
      go true k = field_numbers (field_sig bytes) k args
      go false k = method_numbers (method_sig bytes) k args

  pub shape_same : (args : List (List ℕ)) (name : Name) (bytes : List ℕ) → isnt_read c (member_types bytes) ≡ false → shape_of c' args name bytes ≡ shape_of c args name bytes
  shape_same args name bytes h = ap (λ (o : Spelled). option_map (λ numbers. record { name = name; is_field = is_field_blob bytes; signature = numbers }) o) (numbers_same bytes h args)

-- ---- a set, to whose TARGET rows are appended

module _ (x x' : Assembly) (xs : Assemblies) (grown : IsGrown x x') (orderly : IsOrderly x) (named : IsNamed (x ∷ xs)) (numbered : IsNumbered (x ∷ xs)) (alike : SaysAlike (x ∷ xs) (x' ∷ xs)) where
  abbrev s : Assemblies
  s = x ∷ xs

  abbrev s' : Assemblies
  s' = x' ∷ xs

  rows : KeepsRows x x'
  rows = grown.rows

  pub old_text : (a table row column : ℕ) → is_text table column ≡ true → row ≤ count_in (assembly_at s a) table → text (assembly_at s' a) table row column ≡ text (assembly_at s a) table row column
  old_text zero table row column v h = rows.old_texts table row column v h
  old_text (suc a) table row column v h = refl

  pub old_blob : (a table row column : ℕ) → is_blob table column ≡ true → row ≤ count_in (assembly_at s a) table → blob (assembly_at s' a) table row column ≡ blob (assembly_at s a) table row column
  old_blob zero table row column v h = rows.old_blobs table row column v h
  old_blob (suc a) table row column v h = refl

  pub old_cell : (a table row column : ℕ) → varies table column ≡ false → row ≤ count_in (assembly_at s a) table → cell (assembly_at s' a) table row column ≡ cell (assembly_at s a) table row column
  old_cell zero table row column v h = rows.old_cells table row column v h
  old_cell (suc a) table row column v h = refl

  pub more_rows : (a table : ℕ) → count_in (assembly_at s a) table ≤ count_in (assembly_at s' a) table
  more_rows zero table = rows.more table
  more_rows (suc a) table = omega arith

  -- ---- types

  pub ids_grow : (more : List TypeId) × (types_of s' ≡ types_of s ++ more)
  unfolding types_of
  ids_grow =
      let g : (more : List TypeId) × (type_ids s' (attribute_outside s) ≡ type_ids s (attribute_outside s) ++ more) = types_grow x x' xs grown orderly named.references (attribute_outside s) in
      (g.0, ap (type_ids s') alike.attributes ∙ g.1)

  pub number_stays : (id : TypeId) → Stays (number_of s id) (number_of s' id)
  unfolding types_of
  number_stays id k e = ap (λ (l : List Name). number_in (type_ids s' l) id) alike.attributes ∙ numbers_stay x x' xs grown orderly named.references (attribute_outside s) id k e

  id_same : (id : TypeId) → is_some (number_of s id) ≡ true → ty_by_id s' id ≡ ty_by_id s id
  id_same (Row a row) h = go (number_of s (Row a row)) refl h
    where
      go : (o : Option ℕ) → number_of s (Row a row) ≡ o → is_some o ≡ true → ty_by_id s' (Row a row) ≡ ty_by_id s (Row a row)
      go None e k = absurd cc
      go (Some n) e k = ap (λ (m : Option ℕ). ty.Known (number_or 0 m)) (number_stays (Row a row) n e) ∙ ap (λ (m : Option ℕ). ty.Known (number_or 0 m)) (sym e)
  id_same (Outside name) h = go (prim_byte name)
    where
      go : (o : Option ℕ) → outside_ty s' name o ≡ outside_ty s name o
      go None = ap (λ (b : Bool). ty.Outside name b) (alike.values name)
      go (Some b) = refl

  -- ---- rows

  pub row_high : (y : Assembly) (table row : ℕ) → is_row y table row ≡ true → row ≤ count_in y table
  row_high y table zero e = absurd cc
  row_high y table (suc r) e = le_from (suc r) (count_in y table) (sym (ap (λ (b : Bool). b && nat_le (suc r) (count_in y table)) (lt_true 0 (suc r) (omega arith))) ∙ e)

  pub row_low : (y : Assembly) (table row : ℕ) → is_row y table row ≡ true → 1 ≤ row
  row_low y table zero e = absurd cc
  row_low y table (suc r) e = omega arith

  pub row_is : (y : Assembly) (table row : ℕ) → 1 ≤ row → row ≤ count_in y table → is_row y table row ≡ true
  row_is y table row low high = ap (λ (b : Bool). b && nat_le row (count_in y table)) (lt_true 0 row low) ∙ le_true row (count_in y table) high

  pub row_stays : (a table row : ℕ) → is_row (assembly_at s a) table row ≡ true → is_row (assembly_at s' a) table row ≡ true
  row_stays a table row e =
      let h : row ≤ count_in (assembly_at s a) table = row_high (assembly_at s a) table row e in
      let m : count_in (assembly_at s a) table ≤ count_in (assembly_at s' a) table = more_rows a table in
      row_is (assembly_at s' a) table row (row_low (assembly_at s a) table row e) (omega (arith, h, m))

  -- ---- coded types

  abbrev named_by : Assemblies → ℕ → ℕ → Bool → Bool → Bool → Bool → Option TypeId
  named_by u a row def def_there ref ref_there = if def then (if def_there then Some (Row a row) else None) else if ref then (if ref_there then reference u a row else None) else None

  pub named_stays : (a coded : ℕ) → Stays (named_id s a coded) (named_id s' a coded)
  named_stays a coded =
      go (tag coded == 0) (is_row (assembly_at s a) TYPE_DEF (row_of coded)) (is_row (assembly_at s' a) TYPE_DEF (row_of coded)) (tag coded == 1)
      (is_row (assembly_at s a) TYPE_REF (row_of coded)) (is_row (assembly_at s' a) TYPE_REF (row_of coded))
      (row_stays a TYPE_DEF (row_of coded)) (row_stays a TYPE_REF (row_of coded))
      (λ e. references_stay x x' xs grown orderly a (row_of coded) (row_high (assembly_at s a) TYPE_REF (row_of coded) e))
    where
      go : (def there there' ref known known' : Bool) → (there ≡ true → there' ≡ true) → (known ≡ true → known' ≡ true) → (known ≡ true → Stays (reference s a (row_of coded)) (reference s' a (row_of coded)))
          → Stays (named_by s a (row_of coded) def there ref known) (named_by s' a (row_of coded) def there' ref known')
      go true true there' ref known known' h k l = λ id e. ap (λ (b : Bool). if b then Some (Row a (row_of coded)) else None) (h refl) ∙ e
      go true false there' ref known known' h k l = λ id e. absurd cc
      go false there there' true true known' h k l = λ id e. ap (λ (b : Bool). if b then reference s' a (row_of coded) else None) (k refl) ∙ l refl id e
      go false there there' true false known' h k l = λ id e. absurd cc
      go false there there' false known known' h k l = λ id e. absurd cc

  type_stays : (a coded : ℕ) → Stays ((coded_in s a).named coded) ((coded_in s' a).named coded)
  type_stays a coded = go (named_id s a coded) refl
    where
      go : (o : Option TypeId) → named_id s a coded ≡ o → Stays (option_map (ty_by_id s) o) ((coded_in s' a).named coded)
      go None e = λ t f. absurd cc
      go (Some id) e = λ t f. ap (option_map (ty_by_id s')) (named_stays a coded id e) ∙ ap (λ (u : Ty). Some u) (id_same id (numbered.named a coded id e)) ∙ f

  count_stays : (a coded : ℕ) → Stays ((coded_in s a).number coded) ((coded_in s' a).number coded)
  count_stays a coded = go (named_id s a coded) refl
    where
      go : (o : Option TypeId) → named_id s a coded ≡ o → Stays (option_and_then (number_of s) o) ((coded_in s' a).number coded)
      go None e = λ t f. absurd cc
      go (Some id) e = λ k f. ap (option_and_then (number_of s')) (named_stays a coded id e) ∙ number_stays id k f

  spec_stays : (a row : ℕ) → Stays ((coded_in s a).spec row) ((coded_in s' a).spec row)
  spec_stays a row = go (is_row (assembly_at s a) TYPE_SPEC row) refl
    where
      go : (b : Bool) → is_row (assembly_at s a) TYPE_SPEC row ≡ b → Stays (if b then spec_sig (blob (assembly_at s a) TYPE_SPEC row 0) else None) ((coded_in s' a).spec row)
      go false e = λ t f. absurd cc
      go true e = λ t f.
          ap (λ (b : Bool). if b then spec_sig (blob (assembly_at s' a) TYPE_SPEC row 0) else None) (row_stays a TYPE_SPEC row e)
          ∙ ap spec_sig (old_blob a TYPE_SPEC row 0 refl (row_high (assembly_at s a) TYPE_SPEC row e)) ∙ f

  pub coded_stays : (a : ℕ) → ExtendsCoded (coded_in s a) (coded_in s' a)
  coded_stays a = record { named = type_stays a; number = count_stays a; spec = spec_stays a }

  -- the types of TypeSpec rows are read
  pub spec_read : (a row : ℕ) (t : SigTy) → (coded_in s a).spec row ≡ Some t → is_none (spelled (coded_in s a) [] t) ≡ false
  spec_read a row t f = go (is_row (assembly_at s a) TYPE_SPEC row) refl f
    where
      go : (b : Bool) → is_row (assembly_at s a) TYPE_SPEC row ≡ b → (if b then spec_sig (blob (assembly_at s a) TYPE_SPEC row 0) else None) ≡ Some t → is_none (spelled (coded_in s a) [] t) ≡ false
      go false e g = absurd cc
      go true e g =
          or_first (is_none (spelled (coded_in s a) [] t)) false
          (sym (ap (λ (o : Option SigTy). isnt_read (coded_in s a) (option_to_list o)) g)
          ∙ named.read a TYPE_SPEC row (row_low (assembly_at s a) TYPE_SPEC row e) (row_high (assembly_at s a) TYPE_SPEC row e))

  pub ty_stays : (a coded : ℕ) → Stays (ty_at s a coded) (ty_at s' a coded)
  ty_stays a coded = go (row_of coded == 0) (tag coded == 2)
    where
      by_spec : (o : Option SigTy) → (coded_in s a).spec (row_of coded) ≡ o → Stays (option_map (ty_of (coded_in s a)) o) (option_map (ty_of (coded_in s' a)) ((coded_in s' a).spec (row_of coded)))
      by_spec None e = λ t f. absurd cc
      by_spec (Some u) e = λ t f.
          ap (option_map (ty_of (coded_in s' a))) (spec_stays a (row_of coded) u e)
          ∙ ap (λ (v : Ty). Some v) (keeps_signatures (coded_in s a) (coded_in s' a) (coded_stays a) u (spec_read a (row_of coded) u e)).ty ∙ f

      go : (none spec : Bool)
          → Stays (if none then None else if spec then option_map (ty_of (coded_in s a)) ((coded_in s a).spec (row_of coded)) else (coded_in s a).named coded)
          (if none then None else if spec then option_map (ty_of (coded_in s' a)) ((coded_in s' a).spec (row_of coded)) else (coded_in s' a).named coded)
      go true spec = λ t f. absurd cc
      go false true = by_spec ((coded_in s a).spec (row_of coded)) refl
      go false false = type_stays a coded

  pub ty_same : (a coded : ℕ) → IsTypeIndex s a coded → ty_at s' a coded ≡ ty_at s a coded
  ty_same a coded h = go (ty_at s a coded) refl
    where
      go : (o : Option Ty) → ty_at s a coded ≡ o → ty_at s' a coded ≡ ty_at s a coded
      go None e =
          ap (λ (n : ℕ). if n == 0 then None else if tag coded == 2 then option_map (ty_of (coded_in s' a)) ((coded_in s' a).spec (row_of coded)) else (coded_in s' a).named coded) (h (ap is_none e)) ∙ sym e
      go (Some t) e = ty_stays a coded t e ∙ sym e

  -- the arguments of the type that an index names
  pub arguments_same : (a coded : ℕ) → IsTypeIndex s a coded → arguments_at (coded_in s' a) coded ≡ arguments_at (coded_in s a) coded
  arguments_same a coded h = go (tag coded == 2) h
    where
      ty_by : Bool → Option SigTy → Option Ty
      ty_by b o = if row_of coded == 0 then None else if b then option_map (ty_of (coded_in s a)) o else (coded_in s a).named coded

      nothing : (b : Bool) (o : Option Ty) → o ≡ None → (if b then None else o) ≡ None
      nothing true o e = refl
      nothing false o e = e

      by_spec : (o : Option SigTy) → (coded_in s a).spec (row_of coded) ≡ o → (is_none (ty_by true o) ≡ true → row_of coded ≡ 0)
          → in_spec (arguments_within (coded_in s' a) 1000) ((coded_in s' a).spec (row_of coded)) ≡ in_spec (arguments_within (coded_in s a) 1000) o
      by_spec None e k = ap (λ (n : ℕ). in_spec (arguments_within (coded_in s' a) 1000) ((coded_in s' a).spec n)) (k (ap is_none (nothing (row_of coded == 0) None refl)))
      by_spec (Some t) e k = ap (in_spec (arguments_within (coded_in s' a) 1000)) (spec_stays a (row_of coded) t e) ∙ (keeps_signatures (coded_in s a) (coded_in s' a) (coded_stays a) t (spec_read a (row_of coded) t e)).arguments

      go : (b : Bool) → (is_none (ty_by b ((coded_in s a).spec (row_of coded))) ≡ true → row_of coded ≡ 0)
          → (if b then in_spec (arguments_within (coded_in s' a) 1000) ((coded_in s' a).spec (row_of coded)) else []) ≡ (if b then in_spec (arguments_within (coded_in s a) 1000) ((coded_in s a).spec (row_of coded)) else [])
      go true k = by_spec ((coded_in s a).spec (row_of coded)) refl k
      go false k = refl
