-- Bytes stand for one body, or break one rule first.
use Rattle.std.proofs.Common.{◌≡◌, ℕ, List, Option, Some, None, Result, Ok, Err, refl, sym, ◌∙◌, subst, get_or, inl, inr}
use Rattle.std.specs.Prelude.{is_none, position, MatchOption, IfOk, OnOk}
use Rattle.cil_base.specs.declared.rule.Rule.TheVariants.{I3, I5}
use Rattle.cil_base.specs.declared.refusal.Place.{Place}
use Rattle.cil_base.specs.declared.refusal.Refusal.{Refusal}
use Rattle.cil_base.specs.declared.refusal.Fault.{Fault}
use Rattle.cil_base.specs.declared.refusal.Fault.TheVariants.{Refused, Memory}
use Rattle.cil_base.specs.Refusals.{refusal, OnRefused}
use Rattle.cil_model.specs.declared.body.Instr.{Instr}
use Rattle.cil_model.specs.declared.body.Region.{Region}
use Rattle.cil_model.specs.declared.body.Body.{Body}
use Rattle.cil_model.specs.declared.layout.Layout.{Layout}
use Rattle.cil_model.specs.declared.layout.RawClause.{RawClause}
use Rattle.cil_model.specs.BodyCode.{instr_at}
use Rattle.cil_model.specs.BodyLayout.{layout_of, code_of}
use Rattle.cil_model.specs.BodyOf.{BodyFault, IsBody, IsFault, IsSame, StandsFor, map_all, with_indexes, region_of, target_fault}
use Rattle.il_code.proofs.MappedLaws.{none_missing}
use Rattle.il_code.proofs.InstrLaws.{none_read}
use Rattle.il_code.proofs.ReadLaws.{never_broken, read_once, fault_once}

pub branch_fault : (place : Place) (offsets : List ℕ) (size : ℕ) (clauses : List RawClause) (raw : List Instr) (regions : List Region) (k : ℕ) → map_all (region_of offsets size) clauses ≡ Some regions → position (λ (i : Instr). is_none (with_indexes offsets i)) raw ≡ Some k → target_fault place offsets size clauses raw ≡ Some (refusal I3 place (get_or offsets k 0))
branch_fault place offsets size clauses raw regions k h p = rw (h, p) refl

no_fault : (place : Place) (offsets : List ℕ) (size : ℕ) (clauses : List RawClause) (raw is : List Instr) (regions : List Region) → map_all (region_of offsets size) clauses ≡ Some regions → map_all (with_indexes offsets) raw ≡ Some is → target_fault place offsets size clauses raw ≡ None
no_fault place offsets size clauses raw is regions h p = rw (h, none_missing (with_indexes offsets) raw is p) refl

some_is : {X : Type 0} (x y : X) (o : Option X) → o ≡ Some x → o ≡ Some y → x ≡ y
some_is x y o h k = let e : let q : Option _ = Some x in q ≡ Some y = sym h ∙ k in cc

some_is_not : {X : Type 0} (x : X) (o : Option X) → o ≡ Some x → o ≡ None → ⊥
some_is_not x o h k = let e : let q : Option _ = Some x in q ≡ None = sym h ∙ k in cc

-- Code that stands for a body breaks no rule.
code_sound : (place : Place) (layout : Layout) (code : List ℕ) (body : Body) (r : Refusal) → IsBody place.assembly layout code body → IsFault place layout code r → ⊥
code_sound place layout code body r b (inl f) =
    never_broken (instr_at place.assembly) (none_read place.assembly) 0 code b.raw f.before body.offsets f.offsets layout.header.code_size f.at f.rest f.rule b.reads f.reads f.more f.broken
code_sound place layout code body r b (inr f) =
    let e = read_once (instr_at place.assembly) (none_read place.assembly) 0 code b.raw f.raw body.offsets f.offsets layout.header.code_size layout.header.code_size b.reads f.reads in
    let none = no_fault place body.offsets layout.header.code_size layout.clauses b.raw body.instrs body.regions b.regions b.instrs in
    some_is_not r (target_fault place f.offsets layout.header.code_size layout.clauses f.raw) f.first (rw (e.0, e.1) none)

pub sound : (place : Place) (bytes : List ℕ) (body : Body) (len : ℕ) (r : Refusal) → StandsFor place.assembly bytes body len → BodyFault place bytes r → ⊥
sound place bytes body len r s f =
    let g = subst (λ (o : Option Layout). MatchOption o (r ≡ refusal I5 place 0) (λ layout. IsFault place layout (code_of bytes layout.header) r)) s.is_laid f in
    code_sound place s.layout (code_of bytes s.layout.header) body r s.stands g

-- The code stands for no other body.
code_once : (a : ℕ) (layout : Layout) (code : List ℕ) (x y : Body) → IsBody a layout code x → IsBody a layout code y → IsSame y x
code_once a layout code x y b c =
    let e = read_once (instr_at a) (none_read a) 0 code b.raw c.raw x.offsets y.offsets layout.header.code_size layout.header.code_size b.reads c.reads in
    let is : map_all (with_indexes x.offsets) b.raw ≡ Some y.instrs = rw (← e.0, ← e.1) c.instrs in
    let rs : map_all (region_of x.offsets layout.header.code_size) layout.clauses ≡ Some y.regions = rw (← e.1) c.regions in
    record {
      offsets = e.1;
      instrs = some_is y.instrs x.instrs (map_all (with_indexes x.offsets) b.raw) is b.instrs;
      regions = some_is y.regions x.regions (map_all (region_of x.offsets layout.header.code_size) layout.clauses) rs b.regions;
      locals = c.locals ∙ sym b.locals;
      max_stack = c.max_stack ∙ sym b.max_stack;
      init = c.init ∙ sym b.init;
    }

pub once : (a : ℕ) (bytes : List ℕ) (x y : Body) (len other : ℕ) → StandsFor a bytes x len → StandsFor a bytes y other → IsSame y x
once a bytes x y len other s t =
    let e = some_is t.layout s.layout (layout_of bytes) t.is_laid s.is_laid in
    code_once a s.layout (code_of bytes s.layout.header) x y s.stands (subst (λ (l : Layout). IsBody a l (code_of bytes l.header) y) e t.stands)

-- The code has one first fault.
code_fault_once : (place : Place) (layout : Layout) (code : List ℕ) (r s : Refusal) → IsFault place layout code r → IsFault place layout code s → s ≡ r
code_fault_once place layout code r s (inl f) (inl g) =
    let e = fault_once (instr_at place.assembly) (none_read place.assembly) 0 code f.before g.before f.offsets g.offsets f.at g.at f.rest g.rest f.rule g.rule f.reads f.broken g.reads g.broken in
    g.is ∙ rw (e.0, e.1) (sym f.is)
code_fault_once place layout code r s (inl f) (inr g) =
    absurd (never_broken (instr_at place.assembly) (none_read place.assembly) 0 code g.raw f.before g.offsets f.offsets layout.header.code_size f.at f.rest f.rule g.reads f.reads f.more f.broken)
code_fault_once place layout code r s (inr f) (inl g) =
    absurd (never_broken (instr_at place.assembly) (none_read place.assembly) 0 code f.raw g.before f.offsets g.offsets layout.header.code_size g.at g.rest g.rule f.reads g.reads g.more g.broken)
code_fault_once place layout code r s (inr f) (inr g) =
    let e = read_once (instr_at place.assembly) (none_read place.assembly) 0 code f.raw g.raw f.offsets g.offsets layout.header.code_size layout.header.code_size f.reads g.reads in
    let first : target_fault place f.offsets layout.header.code_size layout.clauses f.raw ≡ Some s = rw (← e.0, ← e.1) g.first in
    some_is s r (target_fault place f.offsets layout.header.code_size layout.clauses f.raw) first f.first

fault_once_at : (place : Place) (bytes : List ℕ) (r s : Refusal) (o : Option Layout) → MatchOption o (r ≡ refusal I5 place 0) (λ layout. IsFault place layout (code_of bytes layout.header) r) → MatchOption o (s ≡ refusal I5 place 0) (λ layout. IsFault place layout (code_of bytes layout.header) s) → s ≡ r
fault_once_at place bytes r s None f g = g ∙ sym f
fault_once_at place bytes r s (Some layout) f g = code_fault_once place layout (code_of bytes layout.header) r s f g

pub one_fault : (place : Place) (bytes : List ℕ) (r s : Refusal) → BodyFault place bytes r → BodyFault place bytes s → s ≡ r
one_fault place bytes r s f g = fault_once_at place bytes r s (layout_of bytes) f g

-- ---- the same of what a call answers

pub body_of : (a : ℕ) (bytes code : List ℕ) (layout : Layout) → layout_of bytes ≡ Some layout → code ≡ code_of bytes layout.header → (r : Result Body Fault) → IfOk r (IsBody a layout code) → IfOk r (λ body. (len : ℕ) × StandsFor a bytes body len)
body_of a bytes code layout laid e (Ok body) h =
    (layout.len, record { layout = layout; is_laid = laid; stands = subst (λ (l : List ℕ). IsBody a layout l body) e h; size = refl })
body_of a bytes code layout laid e (Err f) h = tt

pub fault_of : (place : Place) (bytes code : List ℕ) (layout : Layout) → layout_of bytes ≡ Some layout → code ≡ code_of bytes layout.header → (r : Result Body Fault) → OnRefused r (IsFault place layout code) → OnRefused r (BodyFault place bytes)
fault_of place bytes code layout laid e (Ok body) h = tt
fault_of place bytes code layout laid e (Err (Refused r)) h = rw laid (subst (λ (l : List ℕ). IsFault place layout l r) e h)
fault_of place bytes code layout laid e (Err (Memory m)) h = tt

pub once_of : (a : ℕ) (bytes : List ℕ) (r : Result Body Fault) → IfOk r (λ body. (len : ℕ) × StandsFor a bytes body len) → IfOk r (λ body. (other : Body) (len : ℕ) → StandsFor a bytes other len → IsSame other body)
once_of a bytes (Ok body) h = λ other len s. once a bytes body other h.0 len h.1 s
once_of a bytes (Err f) h = tt

pub accepted_of : (place : Place) (bytes : List ℕ) (r : Result Body Fault) → IfOk r (λ body. (len : ℕ) × StandsFor place.assembly bytes body len) → OnOk r ((s : Refusal) → BodyFault place bytes s → ⊥)
accepted_of place bytes (Ok body) h = λ s f. sound place bytes body h.0 s h.1 f
accepted_of place bytes (Err f) h = tt

pub first_of : (place : Place) (bytes : List ℕ) (r : Result Body Fault) → OnRefused r (BodyFault place bytes) → OnRefused r (λ x. (s : Refusal) → BodyFault place bytes s → s ≡ x)
first_of place bytes (Ok body) h = tt
first_of place bytes (Err (Refused r)) h = λ s f. one_fault place bytes r s h f
first_of place bytes (Err (Memory m)) h = tt

pub refused_of : (place : Place) (bytes : List ℕ) (r : Result Body Fault) → OnRefused r (BodyFault place bytes) → OnRefused r (λ x. (body : Body) (len : ℕ) → StandsFor place.assembly bytes body len → ⊥)
refused_of place bytes (Ok body) h = tt
refused_of place bytes (Err (Refused r)) h = λ body len s. sound place bytes body len r s h
refused_of place bytes (Err (Memory m)) h = tt
