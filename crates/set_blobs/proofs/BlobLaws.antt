-- What a reader's answer says of the blob of a row.
use Rattle.std.proofs.Common.{◌≡◌, ◌∙◌, ℕ, zero, suc, ◌-◌, ◌<◌, ◌≤◌, Bool, true, false, ltb, ◌&&◌, List, length, get_or, refl, sym, ap, subst, arith, rules}
use Rattle.std.specs.Prelude.{◌==◌, if◌then◌else◌, nat_lt, nat_le, MatchOption, Option, Some, None, option_map, Result, Ok, Err, IfOk}
use Rattle.std.proofs.lemmas.Bool.{eqb-true}
use Rattle.std.proofs.lemmas.List.FromFn.{get_or-map-range_with_len}
use Rattle.cil_base.specs.declared.tables.TheConstants.{CUSTOM_ATTRIBUTE}
use Rattle.cil_base.specs.declared.refusal.Place.{Place}
use Rattle.cil_base.specs.declared.refusal.Refusal.{Refusal}
use Rattle.cil_base.specs.declared.refusal.Fault.{Fault}
use Rattle.cil_base.specs.declared.refusal.Fault.TheVariants.{Refused, Memory}
use Rattle.cil_base.specs.declared.rule.Rule.{Rule}
use Rattle.cil_base.specs.Refusals.{refusal, key, is_less, NoneBroken, OnRefused}
use Rattle.cil_base.proofs.RefusalLaws.{less_refl}
use Rattle.cli_sigs.specs.Grammar.{IsLongest}
use Rattle.cli_sigs.specs.Answers.{AtLongest, GivesOnly}
use Rattle.set_names.specs.Names.{Name}
use Rattle.set_rows.specs.Sets.{Assembly, Assemblies, assembly_at, count_in, is_row, blob}
use Rattle.set_program.specs.Attributes.{attribute_name}
use Rattle.signature_rules.specs.BlobKinds.{blob_kind, IsBad}
use Rattle.signature_rules.specs.declared.blobs.BlobKind.TheVariants as kind
use Rattle.signature_rules.proofs.SignatureLaws.{is_bad}
use Rattle.set_blobs.specs.declared.forms.BlobForm.{BlobForm}
use Rattle.set_blobs.specs.declared.forms.BlobForm.TheVariants as form
use Rattle.set_blobs.specs.BadBlobs.{blob_column, attribute_form, row_form, IsBadForm, IsBadIn, IsBadAt, place_of, BreaksBlobs, TellsFirst, InRow}
use Rattle.set_blobs.specs.Readings.{IsRefusalOf, TellsBad, AreNames, name_in, form_by}

-- ---- a bad blob has one refusal, at its row

longest_only : {A : Type 0} (G : List ℕ → A → Type 0) (bytes : List ℕ) (m n : ℕ) → IsLongest G bytes m → IsLongest G bytes n → m ≡ n
longest_only G bytes m n h k = go (ltb m n) refl (ltb n m) refl
  where
    go : (b : Bool) → ltb m n ≡ b → (c : Bool) → ltb n m ≡ c → m ≡ n
    go true e c f = absurd (h.no_longer n (search (rules, e)) k.within k.begins)
    go false e true f = absurd (k.no_longer m (search (rules, f)) h.within h.begins)
    go false e false f = let p : n ≤ m = search (rules, e) in let q : m ≤ n = search (rules, f) in omega arith

bad_only : {A : Type 0} (G : List ℕ → A → Type 0) (rule : Rule) (p : Place) (bytes : List ℕ) (q r : Refusal) → IsBad G rule p bytes q → IsBad G rule p bytes r → q ≡ r
bad_only G rule p bytes q r (g, (m, e, h)) (g', (n, f, k)) = e ∙ ap (refusal rule p) (longest_only G bytes m n h k) ∙ sym f

bad_placed : {A : Type 0} (G : List ℕ → A → Type 0) (rule : Rule) (p : Place) (bytes : List ℕ) (r : Refusal) → IsBad G rule p bytes r → place_of r ≡ p
bad_placed G rule p bytes r (g, (n, e, k)) = ap place_of e

pub form_only : (f : Option BlobForm) (p : Place) (bytes : List ℕ) (q r : Refusal) → IsBadForm f p bytes q → IsBadForm f p bytes r → q ≡ r
form_only None p bytes q r h k = absurd h
form_only (Some (form.Signature kind.Field)) p bytes q r h k = bad_only _ _ p bytes q r h k
form_only (Some (form.Signature kind.Method)) p bytes q r h k = bad_only _ _ p bytes q r h k
form_only (Some (form.Signature kind.Property)) p bytes q r h k = bad_only _ _ p bytes q r h k
form_only (Some (form.Signature kind.Locals)) p bytes q r h k = bad_only _ _ p bytes q r h k
form_only (Some (form.Signature kind.TypeSpec)) p bytes q r h k = bad_only _ _ p bytes q r h k
form_only (Some (form.Signature kind.MethodSpec)) p bytes q r h k = bad_only _ _ p bytes q r h k
form_only (Some form.Text) p bytes q r h k = bad_only _ _ p bytes q r h k
form_only (Some form.Bare) p bytes q r h k = bad_only _ _ p bytes q r h k

pub form_placed : (f : Option BlobForm) (p : Place) (bytes : List ℕ) (r : Refusal) → IsBadForm f p bytes r → place_of r ≡ p
form_placed None p bytes r h = absurd h
form_placed (Some (form.Signature kind.Field)) p bytes r h = bad_placed _ _ p bytes r h
form_placed (Some (form.Signature kind.Method)) p bytes r h = bad_placed _ _ p bytes r h
form_placed (Some (form.Signature kind.Property)) p bytes r h = bad_placed _ _ p bytes r h
form_placed (Some (form.Signature kind.Locals)) p bytes r h = bad_placed _ _ p bytes r h
form_placed (Some (form.Signature kind.TypeSpec)) p bytes r h = bad_placed _ _ p bytes r h
form_placed (Some (form.Signature kind.MethodSpec)) p bytes r h = bad_placed _ _ p bytes r h
form_placed (Some form.Text) p bytes r h = bad_placed _ _ p bytes r h
form_placed (Some form.Bare) p bytes r h = bad_placed _ _ p bytes r h

-- ---- from a reader to its refusal

pub reader_tells : {A : Type 0} (G : List ℕ → A → Type 0) (rule : Rule) (p : Place) (bytes : List ℕ) (read : Result A Fault) (o : Option Refusal)
    → IfOk read (λ v. G bytes v) → ((v : A) → G bytes v → GivesOnly read v) → OnRefused read (AtLongest rule p G bytes) → IsRefusalOf read o
    → MatchOption o (NoneBroken (IsBad G rule p bytes)) (IsBad G rule p bytes)
reader_tells G rule p bytes (Ok v) None found only refused e = λ r bad. bad.0 v found
reader_tells G rule p bytes (Ok v) (Some r) found only refused e = absurd cc
reader_tells G rule p bytes (Err (Refused q)) None found only refused e = absurd cc
reader_tells G rule p bytes (Err (Refused q)) (Some r) found only refused e =
    let same : q ≡ r = cc in subst (λ x. IsBad G rule p bytes x) same (is_bad G rule p bytes (Err (Refused q)) only refused)
reader_tells G rule p bytes (Err (Memory m)) o found only refused e = absurd e

pub answer_tells : {A E : Type 0} (G : List ℕ → A → Type 0) (rule : Rule) (p : Place) (bytes : List ℕ) (read : Result A Fault) (answer : Result (Option Refusal) E)
    → IfOk read (λ v. G bytes v) → ((v : A) → G bytes v → GivesOnly read v) → OnRefused read (AtLongest rule p G bytes) → IfOk answer (λ o. IsRefusalOf read o)
    → IfOk answer (λ o. MatchOption o (NoneBroken (IsBad G rule p bytes)) (IsBad G rule p bytes))
answer_tells G rule p bytes read (Ok o) found only refused e = reader_tells G rule p bytes read o found only refused e
answer_tells G rule p bytes read (Err x) found only refused e = e

-- ---- the names of attributes

name_is : (s : Assemblies) (a row : ℕ) (names : List (Option Name)) → AreNames s a names → 0 < row → row ≤ count_in (assembly_at s a) CUSTOM_ATTRIBUTE → name_in names row ≡ attribute_name s a row
name_is s a zero names h some most = absurd (omega arith)
name_is s a (suc k) names h some most =
    let isnt : (suc k == 0) ≡ false = search rules in
    let place : suc k - 1 ≡ k = omega arith in
    ap (λ (b : Bool). if b then None else get_or names (suc k - 1) None) isnt
    ∙ ap (λ (m : ℕ). get_or names m None) place
    ∙ ap (λ (l : List (Option Name)). get_or l k None) h
    ∙ get_or-map-range_with_len (attribute_name s a) 1 (count_in (assembly_at s a) CUSTOM_ATTRIBUTE) k (suc k) None (omega (arith, most)) (omega arith)

pub form_is : (s : Assemblies) (p : Place) (names : List (Option Name)) (bytes : List ℕ) → AreNames s p.assembly names → 0 < p.row → p.row ≤ count_in (assembly_at s p.assembly) p.table → form_by names p bytes ≡ row_form s p bytes
form_is s p names bytes h some most = go (p.table == CUSTOM_ATTRIBUTE) refl
  where
    go : (b : Bool) → (p.table == CUSTOM_ATTRIBUTE) ≡ b → (if b then attribute_form (name_in names p.row) else option_map form.Signature (blob_kind p.table bytes)) ≡ (if b then attribute_form (attribute_name s p.assembly p.row) else option_map form.Signature (blob_kind p.table bytes))
    go true e = ap attribute_form (name_is s p.assembly p.row names h some (subst (λ (t : ℕ). p.row ≤ count_in (assembly_at s p.assembly) t) (eqb-true p.table CUSTOM_ATTRIBUTE e) most))
    go false e = refl

-- ---- one row

placed : (q : Refusal) (p : Place) → q.assembly ≡ p.assembly → q.table ≡ p.table → q.row ≡ p.row → place_of q ≡ p
placed q p e f g =
    ap (λ (x : ℕ). record { assembly = x; table = q.table; row = q.row }) e
    ∙ ap (λ (x : ℕ). record { assembly = p.assembly; table = x; row = q.row }) f
    ∙ ap (λ (x : ℕ). record { assembly = p.assembly; table = p.table; row = x }) g

row_test : (x : Assembly) (table row : ℕ) → 0 < row → row ≤ count_in x table → is_row x table row ≡ true
row_test x table row some most =
    let first : nat_lt 0 row ≡ true = search (rules, some) in
    let second : nat_le row (count_in x table) ≡ true = search (rules, most) in
    ap (λ (b : Bool). b && nat_le row (count_in x table)) first ∙ second

module _ (s : Assemblies) (p : Place) (there : p.assembly < length s) (some : 0 < p.row) (most : p.row ≤ count_in (assembly_at s p.assembly) p.table) (column : ℕ) (is_column : blob_column p.table ≡ Some column) where
  abbrev pub bytes_of : List ℕ
  bytes_of = blob (assembly_at s p.assembly) p.table p.row column

  to_form : (r : Refusal) → IsBadAt s p r → IsBadForm (row_form s p bytes_of) p bytes_of r
  to_form r h = subst (λ c. IsBadIn c s p r) is_column h

  of_form : (r : Refusal) → IsBadForm (row_form s p bytes_of) p bytes_of r → IsBadAt s p r
  of_form r h = subst (λ c. IsBadIn c s p r) (sym is_column) h

  tells : (o : Option Refusal) → TellsBad (row_form s p bytes_of) p bytes_of o → TellsFirst (InRow s p) o
  tells None h = λ q k. h q (to_form q (subst (λ x. IsBadAt s x q) (placed q p k.0.0.1 k.0.1 k.1) k.0.0.0.bad))
  tells (Some r) h =
      let e : place_of r ≡ p = form_placed (row_form s p bytes_of) p bytes_of r h in
      let breaks : BreaksBlobs s r = record {
        assembly_there = subst (λ x. x.assembly < length s) (sym e) there;
        row_there = subst (λ x. is_row (assembly_at s x.assembly) x.table x.row ≡ true) (sym e) (row_test (assembly_at s p.assembly) p.table p.row some most);
        bad = subst (λ x. IsBadAt s x r) (sym e) (of_form r h);
      } in
      record {
        broken = (((breaks, ap (λ x. x.assembly) e), ap (λ x. x.table) e), ap (λ x. x.row) e);
        none_before = λ q k.
            let bad = to_form q (subst (λ x. IsBadAt s x q) (placed q p k.0.0.1 k.0.1 k.1) k.0.0.0.bad) in
            subst (λ x. is_less (key x) (key r) ≡ false) (form_only (row_form s p bytes_of) p bytes_of r q h bad) (less_refl (key r));
      }

  pub row_tells : (bytes : List ℕ) (f : Option BlobForm) (o : Option Refusal) → bytes ≡ bytes_of → f ≡ row_form s p bytes → TellsBad f p bytes o → TellsFirst (InRow s p) o
  row_tells bytes f o e g h = tells o (subst (λ b. TellsBad (row_form s p b) p b o) e (subst (λ x. TellsBad x p bytes o) g h))

  pub row_answers : {E : Type 0} (bytes : List ℕ) (f : Option BlobForm) (answer : Result (Option Refusal) E) → bytes ≡ bytes_of → f ≡ row_form s p bytes → IfOk answer (λ o. TellsBad f p bytes o) → IfOk answer (λ o. TellsFirst (InRow s p) o)
  row_answers bytes f (Ok o) e g h = row_tells bytes f o e g h
  row_answers bytes f (Err x) e g h = h
