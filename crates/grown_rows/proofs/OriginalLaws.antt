-- What a writer gives of the program and of the program with the runtime class.
use Rattle.std.proofs.Common.{◌≡◌, ◌∙◌, sym, ap, refl, subst, arith, ℕ, zero, suc, ◌<◌, ◌≤◌, List, [], ◌∷◌, length, Bool, true, false}
use Rattle.std.specs.Prelude.{Option, Some, None, find, option_map, cond, ◌==◌, ◌&&◌, ◌%◌, nat_eq, slice_get, codes, if◌then◌else◌}
use Rattle.cil_base.specs.declared.token.Token.{Token}
use Rattle.cil_model.specs.declared.ty.Ty.{Ty, out-Ty}
use Rattle.cil_model.specs.declared.contract.Clause.{Clause}
use Rattle.cil_model.specs.declared.contract.Effective.{Effective}
use Rattle.cil_model.specs.declared.body.Instr.{Instr}
use Rattle.cil_model.specs.declared.program.Kind.TheVariants.{Class}
use Rattle.cil_model.specs.declared.program.Meaning.{Meaning}
use Rattle.cil_model.specs.declared.program.Meaning.TheVariants.{OfMethod}
use Rattle.cil_model.specs.declared.program.MethodDesc.{MethodDesc}
use Rattle.cil_model.specs.declared.program.Program.{Program}
use Rattle.cil_model.specs.declared.program.TokenRow.{TokenRow}
use Rattle.cil_model.specs.declared.program.TypeDesc.{TypeDesc}
use Rattle.cil_model.specs.TokenLists.{is_row_of, meaning_among}
use Rattle.cil_semantics.specs.Words.{maybe}
use Rattle.cil_semantics.specs.Types.{under}
use Rattle.cil_semantics.specs.Core.{class_named, object_ty, contract_name}
use Rattle.cil_semantics.specs.Lookups.{contract_exception, no_method, type_of, field_of, method_of}
use Rattle.cil_semantics.specs.Contracted.{effective_of}
use Rattle.cil_semantics.specs.Tokens.{meaning_of}
use Rattle.cil_semantics.specs.Unwind.{body_of}
use Rattle.machine_laws.specs.Answers.{Each, IsAmong, NamesOwn, NamesNone}
use Rattle.machine_laws.specs.Growth.{Extends, KeptType, KeptMethod, Ranked}
use Rattle.machine_rows.specs.Everything.{everything}
use Rattle.growth_rules.proofs.OutsideRankLaws.{IsLow, object_low, contract_low}
use Rattle.grown_runs.specs.Grown.{IsGrownInput, IsFailureRow, NamesInner, KeepsInstr, KeepsBody, KeepsClause, KeepsCode, GrowsAround}
use Rattle.splice_rows.specs.OneRequires.{token, a_row, the_clause, effective, contracts, input, numbers}
use Rattle.splice_rows.proofs.FoundLaws.{each_at}
use Rattle.grown_rows.specs.Original.{original}
use Rattle.grown_rows.proofs.FlatLaws.{IsFlat, flat_ranked}

-- ---- tables

on_object : (args : List Ty) → IsLow (maybe object_ty (under args []) (Some object_ty)) 7
on_object args = object_low 7 (omega arith)

on_none : (args : List Ty) → IsLow (maybe object_ty (under args []) None) 7
on_none args = object_low 7 (omega arith)

abbrev IsLowBase : TypeDesc → Type 0
IsLowBase d = (args : List Ty) → IsLow (maybe object_ty (under args []) d.base) 7

failure_low : IsLowBase contract_exception
unfolding contract_exception
failure_low args = contract_low

abbrev NamesNothing : TypeDesc → Type 0
NamesNothing d = d.interfaces ≡ []

abbrev IsClass : TypeDesc → Type 0
IsClass d = d.kind ≡ Class

nothing_named : (k : ℕ) → (type_of input k).interfaces ≡ []
unfolding everything
nothing_named = each_at NamesNothing input.types contract_exception (refl, (refl, (refl, (refl, (refl, (refl, tt)))))) refl

classes : (k : ℕ) → (type_of input k).kind ≡ Class
unfolding everything
classes = each_at IsClass input.types contract_exception (refl, (refl, (refl, (refl, (refl, (refl, tt)))))) refl

flat_input : IsFlat input
unfolding everything
flat_input = record { bases = each_at IsLowBase input.types contract_exception (on_object, (on_none, (on_object, ((λ args. contract_low), (on_none, (on_none, tt)))))) failure_low; interfaces = nothing_named }

flat_original : IsFlat original
unfolding everything
flat_original = record { bases = each_at IsLowBase original.types contract_exception (on_object, (on_none, tt)) failure_low; interfaces = each_at NamesNothing original.types contract_exception (refl, (refl, tt)) refl }

-- the one token of the program is that of Requires
abbrev requires : Meaning
requires = OfMethod (class_named contract_name) 1 []

abbrev is_requires : (a table row : ℕ) → Bool
is_requires a table row = (0 == a) && ((10 == table) && (1 == row))

abbrev meant_by : List TokenRow → (a table row : ℕ) → Option Meaning
meant_by rows a table row = option_map (λ (x : TokenRow). x.meaning) (find (λ (x : TokenRow). (x.assembly == a) && ((x.token.table == table) && (x.token.row == row))) rows)

meant : (p : Program) (a : ℕ) (t : Token) → meaning_of p a t ≡ meant_by p.tokens a t.table t.row
unfolding meaning_of
meant p a t = refl

one_meaning : (a table row : ℕ) (m : Meaning) → meant_by original.tokens a table row ≡ Some m → (is_requires a table row ≡ true) × (requires ≡ m)
one_meaning a table row m e = go (is_requires a table row) e
  where
    go : (b : Bool) → option_map (λ (x : TokenRow). x.meaning) (cond b (Some (a_row (token 10 1) requires)) None) ≡ Some m → (b ≡ true) × (requires ≡ m)
    go true f = (refl, cc f)
    go false f = absurd (cc f)

pub record IsToken (a table row : ℕ) : Type 0 where
  pub assembly : 0 ≡ a
  pub of : 10 ≡ table
  pub at : 1 ≡ row

its_numbers : (a table row : ℕ) → is_requires a table row ≡ true → IsToken a table row
its_numbers a table row e = record { assembly = grind (arith, e); of = grind (arith, e); at = grind (arith, e) }

kept_token : (a : ℕ) (t : Token) (m : Meaning) → meaning_of original a t ≡ Some m → meaning_of input a t ≡ Some m
unfolding everything
kept_token a t m e =
    let found = one_meaning a t.table t.row m (sym (meant original a t) ∙ e) in
    let is = its_numbers a t.table t.row found.0 in
    meant input a t
    ∙ sym (ap (λ (n : ℕ). meant_by input.tokens n t.table t.row) is.assembly)
    ∙ sym (ap (λ (n : ℕ). meant_by input.tokens 0 n t.row) is.of)
    ∙ sym (ap (λ (n : ℕ). meant_by input.tokens 0 10 n) is.at)
    ∙ ap (λ (x : Meaning). Some x) found.1

kept_type : (j : ℕ) → j < 2 → KeptType (type_of original j) (type_of input j)
unfolding everything
kept_type zero l = record { assembly = refl; row = refl; name = refl; base = refl; kind = refl; interfaces = refl; fields = refl; methods = refl; impls = refl; enclosing = refl; outside = refl; reference = refl; generics = refl; seen = refl }
kept_type (suc zero) l = record { assembly = refl; row = refl; name = refl; base = refl; kind = refl; interfaces = refl; fields = refl; methods = refl; impls = refl; enclosing = refl; outside = refl; reference = refl; generics = refl; seen = refl }
kept_type (suc (suc j)) l = absurd (omega (arith, l))

kept_method : (j : ℕ) → j < 2 → KeptMethod (method_of original j) (method_of input j)
unfolding everything
kept_method zero l = record { assembly = refl; row = refl; owner = refl; name = refl; params = refl; result = refl; is_static = refl; outside = refl; abbreviator = refl; generics = refl; has_body = refl; overrides = refl; new_slot = refl; abstract_too = refl; public_too = refl; seen = refl }
kept_method (suc zero) l = record { assembly = refl; row = refl; owner = refl; name = refl; params = refl; result = refl; is_static = refl; outside = refl; abbreviator = refl; generics = refl; has_body = refl; overrides = refl; new_slot = refl; abstract_too = refl; public_too = refl; seen = refl }
kept_method (suc (suc j)) l = absurd (omega (arith, l))

signatures : (i j : ℕ) → i < 2 → j < 2 → ((method_of input i).sig == (method_of input j).sig) ≡ ((method_of original i).sig == (method_of original j).sig)
unfolding everything
signatures zero zero l k = refl
signatures zero (suc zero) l k = refl
signatures (suc zero) zero l k = refl
signatures (suc zero) (suc zero) l k = refl
signatures zero (suc (suc j)) l k = absurd (omega (arith, k))
signatures (suc zero) (suc (suc j)) l k = absurd (omega (arith, k))
signatures (suc (suc i)) j l k = absurd (omega (arith, l))

extends : Extends original input
extends =
    record {
      ranked = flat_ranked original flat_original;
      ranked_too = flat_ranked input flat_input;
      more_types = let l : 2 ≤ 6 = omega arith in l;
      more_fields = let l : 0 ≤ 4 = omega arith in l;
      more_methods = let l : 2 ≤ 9 = omega arith in l;
      types = kept_type;
      fields = λ j l. absurd (omega (arith, l));
      methods = kept_method;
      signatures = signatures;
      tokens = kept_token;
    }

its_base : (k : ℕ) (t : Ty) → k < 2 → (type_of original k).base ≡ Some t → IsAmong 2 (out-Ty t)
unfolding everything
its_base zero t l e = let is : object_ty ≡ t = cc e in subst (λ u. IsAmong 2 (out-Ty u)) is tt
its_base (suc zero) t l e = absurd (cc e)
its_base (suc (suc k)) t l e = absurd (omega (arith, l))

its_methods : (k : ℕ) → k < 2 → Each (λ m. m < 2) (type_of original k).methods
unfolding everything
its_methods zero l = (let s : 0 < 2 = omega arith in s, tt)
its_methods (suc zero) l = (let s : 1 < 2 = omega arith in s, tt)
its_methods (suc (suc k)) l = absurd (omega (arith, l))

names_own : NamesOwn original
unfolding everything
names_own =
    record {
      bases = its_base;
      interfaces = by_type (λ (d : TypeDesc). Each (λ t. IsAmong 2 (out-Ty t)) d.interfaces) tt tt;
      fields = by_type (λ (d : TypeDesc). Each (λ f. f < 0) d.fields) tt tt;
      methods = its_methods;
      impls = by_type (λ (d : TypeDesc). Each (λ i. (i.body < 2) × (i.declaration < 2)) d.impls) tt tt;
    }
  where
    by_type : (P : TypeDesc → Type 0) → P (type_of original 0) → P (type_of original 1) → (k : ℕ) → k < 2 → P (type_of original k)
    by_type P a b zero l = a
    by_type P a b (suc zero) l = b
    by_type P a b (suc (suc k)) l = absurd (omega (arith, l))

tables : IsGrownInput original input
tables = record { extends = extends; names_own = names_own; names_none = λ k l. nothing_named k; classes = λ k l. classes k }

-- ---- names, members and the class of failures

names : (a : ℕ) (t : Token) (m : Meaning) → meaning_of original a t ≡ Some m → NamesInner original m
unfolding everything
names a t m e = subst (NamesInner original) (one_meaning a t.table t.row m (sym (meant original a t) ∙ e)).1 (refl, let l : 1 < 2 = omega arith in l)

members : (m : ℕ) → m < 2 → (method_of original m).owner < 2
unfolding everything
members zero l = let s : 0 < 2 = omega arith in s
members (suc zero) l = let s : 1 < 2 = omega arith in s
members (suc (suc m)) l = absurd (omega (arith, l))

encloses : (j e : ℕ) → j < 2 → (type_of original j).enclosing ≡ Some e → e < 2
unfolding everything
encloses zero e l f = absurd (cc f)
encloses (suc zero) e l f = absurd (cc f)
encloses (suc (suc j)) e l f = absurd (omega (arith, l))

failure : IsFailureRow original input 3
unfolding everything
failure =
    record {
      beyond = let l : 2 ≤ 3 = omega arith in l;
      name = refl;
      base = refl;
      fields = (let l : 0 ≤ 1 = omega arith in l, (let l : 0 ≤ 2 = omega arith in l, (let l : 0 ≤ 3 = omega arith in l, tt)));
      methods = (refl, tt);
      impls = refl;
    }

-- ---- code

there : (a : ℕ) (t : Token) → meaning_of original a t ≡ Some requires → meaning_of original a t ≡ None → meaning_of input a t ≡ None
there a t s n = let z : Some requires ≡ None = sym s ∙ n in absurd (cc z)

keeps_condition : Each (KeepsInstr original input) the_clause.instrs
unfolding everything
keeps_condition = ((tt, λ e m f. absurd (cc e)), ((tt, λ e m f. absurd (cc e)), ((tt, λ e m f. absurd (cc e)), (((there 0 (token 10 1) refl, tt), λ e m f. absurd (cc e)), tt))))

keeps_body : (m : ℕ) → m < 2 → KeepsBody original input (method_of original m).assembly (body_of original m)
unfolding everything
keeps_body zero l =
    record {
      instrs = ((tt, λ e m f. absurd (cc e)), ((tt, λ e m f. absurd (cc e)), ((tt, λ e m f. absurd (cc e)), (((there 0 (token 10 1) refl, tt), λ e m f. absurd (cc e)), ((tt, λ e m f. absurd (cc e)), ((tt, λ e m f. absurd (cc e)), ((tt, λ e m f. absurd (cc e)), ((tt, λ e m f. absurd (cc e)), tt))))))));
      regions = tt;
      locals = tt;
    }
keeps_body (suc zero) l = record { instrs = tt; regions = tt; locals = tt }
keeps_body (suc (suc m)) l = absurd (omega (arith, l))

same_body : (m : ℕ) → m < 2 → (method_of input m).body ≡ (method_of original m).body
unfolding everything
same_body zero l = refl
same_body (suc zero) l = refl
same_body (suc (suc m)) l = absurd (omega (arith, l))

keeps_clause : KeepsClause original input the_clause
keeps_clause = record { home = let l : 0 < 2 = omega arith in l; instrs = keeps_condition; locals = tt; olds = tt; exception = tt }

one_effective : (m : ℕ) (e : Effective) → effective_of contracts original m ≡ Some e → effective ≡ e
unfolding everything
one_effective zero e f = cc f
one_effective (suc zero) e f = absurd (cc f)
one_effective (suc (suc m)) e f = absurd (cc f)

same_access : (m : ℕ) → m < 2 → (method_of input m).flags % 8 ≡ (method_of original m).flags % 8
unfolding everything
same_access zero l = refl
same_access (suc zero) l = refl
same_access (suc (suc m)) l = absurd (omega (arith, l))

code : KeepsCode original input contracts
code =
    record {
      same = same_body;
      bodies = keeps_body;
      clauses = λ m e f. subst (λ (x : Effective). Each (KeepsClause original input) x.clauses) (one_effective m e f) (keeps_clause, tt);
      invariants = λ m e f. subst (λ (x : Effective). Each (KeepsClause original input) x.invariants) (one_effective m e f) tt;
      constructors = λ m l e. same_access m l;
    }

pub grows : GrowsAround original input contracts numbers.exception
grows = record { tables = tables; names = names; members = members; encloses = encloses; failure = failure; code = code }
