-- What is read as a small body.
use Rattle.std.proofs.Common.{◌≡◌, ℕ, ◌+◌, ◌/◌, ◌%◌, ◌<◌, ◌≤◌, Bool, true, false, not, ◌&&◌, List, [], ◌∷◌, length, drop, Option, Some, None, Ok, Err, refl, sym, ap, ◌∙◌, subst, inr, arith}
use Rattle.std.specs.Prelude.{◌==◌, is_none, nat_le, slice_get}
use Rattle.std.specs.Option.{option_map}
use Rattle.std.specs.Int.{w8, w32, cast_signed}
use Rattle.std.specs.List.{list_all, list_any}
use Rattle.std.proofs.lemmas.Bool.{le-leb}
use Rattle.std.proofs.lemmas.List.{take_all}
use Rattle.cil_base.proofs.Small.{decide, and_both, equal, not_true}
use Rattle.cil_base.proofs.RefusalLaws.{less_refl}
use Rattle.cil_base.specs.declared.refusal.Place.{Place}
use Rattle.cil_base.specs.declared.refusal.Refusal.{Refusal}
use Rattle.cil_base.specs.declared.rule.Rule.{Rule}
use Rattle.cil_base.specs.declared.rule.Rule.TheVariants.{I1}
use Rattle.cil_base.specs.Numbers.{num_at}
use Rattle.cil_base.specs.Tokens.{token_of}
use Rattle.cil_base.specs.Refusals.{First, InTurn, NoneBroken, is_less, key, refusal}
use Rattle.il_opcodes.specs.declared.opcode.Opcode.{Opcode}
use Rattle.il_opcodes.specs.declared.opcode.OperandKind.{OperandKind}
use Rattle.il_opcodes.specs.declared.opcode.OperandKind.TheVariants as op
use Rattle.il_opcodes.specs.Opcodes.{the_opcodes, opcode_of}
use Rattle.cil_model.specs.declared.body.Operand.{Operand}
use Rattle.cil_model.specs.declared.body.Operand.TheVariants.{Nothing, Int, Index, Target, Targets, Tok}
use Rattle.cil_model.specs.declared.body.Instr.{Instr}
use Rattle.cil_model.specs.declared.body.Body.{Body}
use Rattle.cil_model.specs.declared.layout.Layout.{Layout}
use Rattle.cil_model.specs.BodyCode.{Reading, Reads, code_at, if_defined, instr_at, opcode_at, opcode_for, operand_at, second_of, with_number, with_operand}
use Rattle.cil_model.specs.BodyLayout.{code_of, layout_of, tiny_header}
use Rattle.cil_model.specs.BodyOf.{FaultIn, IsBody, StandsFor, map_all, operand_with_indexes, with_indexes}
use Rattle.cil_model.specs.SmallMeaning.{is_branch, is_requires}
use Rattle.cil_model.specs.SmallBody.{AllPlain, CodeBreaks, HeaderBreaks, IsSmallBody, has_target, if_no_other_call, is_plain, is_small_code, small_at, small_codes, small_with, tiny_code}
use Rattle.il_code.proofs.InstrLaws.{other}
use Rattle.il_code.proofs.ReadLaws.{fault_once, never_broken, read_once}

-- ---- the instructions of the command in the table

is_small_kind : OperandKind → Bool
is_small_kind op.Nothing = true
is_small_kind (op.ThatIndex k) = true
is_small_kind (op.ThatInt z) = true
is_small_kind op.Int8 = true
is_small_kind op.Int32 = true
is_small_kind op.MethodToken = true
is_small_kind kind = false

is_small_row : Option Opcode → Bool
is_small_row None = false
is_small_row (Some o) = is_small_kind o.operand && not (o.long == 0x3A)

all_small : list_all (λ code. is_small_row (opcode_of code)) small_codes ≡ true
unfolding is_small_row is_small_kind opcode_of the_opcodes
all_small = refl

-- what holds of all codes holds of one of them
holds_of : (P : ℕ → Bool) (code : ℕ) (codes : List ℕ) → list_any (λ c. c == code) codes ≡ true → list_all P codes ≡ true → P code ≡ true
holds_of P code [] h all = absurd cc
holds_of P code (c ∷ codes) h all =
    let x = and_both (P c) (list_all P codes) all in
    decide (c == code) (λ t. ap P (sym (equal c code t)) ∙ x.0) (λ f. holds_of P code codes (rw f at h) x.1)

small_row : (code : ℕ) → is_small_code code ≡ true → is_small_row (opcode_of code) ≡ true
unfolding is_small_code
small_row code h = holds_of (λ code. is_small_row (opcode_of code)) code small_codes h all_small

-- ---- one instruction

-- what is known of an instruction that is read
pub record IsSmallRead (a at : ℕ) (bytes : List ℕ) (i : Instr) (n : ℕ) : Type 0 where
  pub read : instr_at a at bytes ≡ Ok (i, n)
  pub some : 0 < n
  pub plain : is_plain i ≡ true

operand_is : (x y : Operand) (m n : ℕ) → let o : Option (Operand × ℕ) = Some (x, m) in o ≡ Some (y, n) → x ≡ y
operand_is x y m n h = let e : (x, m) ≡ (y, n) = cc in ap (λ (p : Operand × ℕ). p.0) e

no_target_in : (f : ℕ → Operand) (m : ℕ) (r : Option ℕ) (x : Operand) (n : ℕ) → ((v : ℕ) → has_target (f v) ≡ false) → with_number f m r ≡ Some (x, n) → has_target x ≡ false
no_target_in f m None x n none h = absurd cc
no_target_in f m (Some v) x n none h = ap has_target (sym (operand_is (f v) x m n h)) ∙ none v

no_target : (a at : ℕ) (kind : OperandKind) (bytes : List ℕ) (x : Operand) (n : ℕ) → is_small_kind kind ≡ true → operand_at a at kind bytes ≡ Some (x, n) → has_target x ≡ false
unfolding is_small_kind
no_target a at op.Nothing bytes x n s h = ap has_target (sym (operand_is Nothing x 0 n h))
no_target a at (op.ThatIndex k) bytes x n s h = ap has_target (sym (operand_is (Index k) x 0 n h))
no_target a at (op.ThatInt z) bytes x n s h = ap has_target (sym (operand_is (Int z) x 0 n h))
no_target a at op.Int8 bytes x n s h = no_target_in (λ v. Int (cast_signed w8 v)) 1 (slice_get bytes 0) x n (λ v. refl) h
no_target a at op.Int32 bytes x n s h = no_target_in (λ v. Int (cast_signed w32 v)) 4 (num_at bytes 0 4) x n (λ v. refl) h
no_target a at op.MethodToken bytes x n s h = no_target_in (λ v. Tok a (token_of v)) 4 (num_at bytes 0 4) x n (λ v. refl) h
no_target a at kind bytes x n s h = absurd cc

second_some : (o : Option ℕ) (code n : ℕ) → second_of o ≡ Some (code, n) → 0 < n
second_some None code n h = absurd cc
second_some (Some b) code n h =
    let p : ℕ × ℕ = (0xFE00 + b, 2) in
    let q : ℕ × ℕ = (code, n) in
    let e : p ≡ q = cc in
    let two : 2 ≡ n = ap (λ (x : ℕ × ℕ). x.1) e in omega arith

code_some : (bytes : List ℕ) (code n : ℕ) → code_at bytes ≡ Some (code, n) → 0 < n
code_some [] code n h = absurd cc
code_some (b ∷ rest) code n h =
    decide (b == 0xFE) (λ t. second_some (slice_get rest 0) code n (rw t at h))
    (λ f.
    let p : ℕ × ℕ = (b, 1) in
    let q : ℕ × ℕ = (code, n) in
    let g : let o : Option (ℕ × ℕ) = Some p in o ≡ Some q = rw f at h in
    let e : p ≡ q = cc in
    let one : 1 ≡ n = ap (λ (x : ℕ × ℕ). x.1) e in omega arith)

if_allowed : (r : Reading) (i : Instr) (n : ℕ) → if_no_other_call r ≡ Ok (i, n) → r ≡ Ok (i, n)
if_allowed (Err rule) i n h = absurd cc
if_allowed (Ok (j, m)) i n h =
    decide ((j.op == 0x28) && not (is_requires j)) (λ t. let e : let r : Reading = Err I1 in r ≡ Ok (i, n) = rw t at h in absurd cc) (λ f. rw f at h)

plain_parts : (i : Instr) → has_target i.operand ≡ false → not (is_branch i) ≡ true → is_none i.under ≡ true → is_plain i ≡ true
plain_parts i h k m = rw (h, k, m) refl

plain_it : (a at : ℕ) (o : Opcode) (rest : List ℕ) (taken : ℕ) (r : Option (Operand × ℕ)) (i : Instr) (n : ℕ) → is_small_row (Some o) ≡ true → 0 < taken → operand_at a at o.operand rest ≡ r → with_operand None 0 taken o.long r ≡ Ok (i, n) → (0 < n) × (is_plain i ≡ true)
unfolding is_small_row
plain_it a at o rest taken None i n row some e h = absurd cc
plain_it a at o rest taken (Some (x, k)) i n row some e h =
    let p = and_both (is_small_kind o.operand) (not (o.long == 0x3A)) row in
    let j : Instr = record { op = o.long; operand = x; constrained = None; prefixes = 0; under = None } in
    let first : Instr × ℕ = (j, taken + k) in
    let second : Instr × ℕ = (i, n) in
    let same : first ≡ second = cc in
    subst (λ (p : Instr × ℕ). (0 < p.1) × (is_plain p.0 ≡ true)) same (omega arith, plain_parts j (no_target a at o.operand rest x k p.0 e) p.1 refl)

none_row : is_small_row None ≡ true → ⊥
unfolding is_small_row
none_row h = absurd cc

small_kind : (o : Opcode) → is_small_row (Some o) ≡ true → is_small_kind o.operand ≡ true
unfolding is_small_row
small_kind o h = (and_both (is_small_kind o.operand) (not (o.long == 0x3A)) h).0

no_flag : (bit : ℕ) → is_small_kind (op.Flag bit) ≡ true → ⊥
unfolding is_small_kind
no_flag bit h = absurd cc

no_type : is_small_kind op.Constrained ≡ true → ⊥
unfolding is_small_kind
no_type h = absurd cc

row_it : (a at : ℕ) (bytes : List ℕ) (code m : ℕ) (r : Option Opcode) (i : Instr) (n : ℕ) → code_at bytes ≡ Some (code, m) → opcode_of code ≡ r → is_small_row r ≡ true → instr_at a at bytes ≡ Ok (i, n) → (0 < n) × (is_plain i ≡ true)
row_it a at bytes code m None i n c e row h = absurd (none_row row)
row_it a at bytes code m (Some o) i n c e row h =
    let small = small_kind o row in
    let found : opcode_at bytes ≡ Ok (o, m) = ap opcode_for c ∙ ap (λ (r : Option Opcode). if_defined r m) e in
    let all = other a at bytes (length bytes) None 0 0 o m (omega arith) refl found
    (λ bit k. no_flag bit (subst (λ (q : OperandKind). is_small_kind q ≡ true) k small))
    (λ k. no_type (subst (λ (q : OperandKind). is_small_kind q ≡ true) k small)) in
    plain_it a (at + (0 + m)) o (drop (0 + m) bytes) (0 + m) (operand_at a (at + (0 + m)) o.operand (drop (0 + m) bytes)) i n row (let s = code_some bytes code m c in omega arith) refl (sym all ∙ h)

read_it : (a at : ℕ) (bytes : List ℕ) (i : Instr) (n : ℕ) (o : Option (ℕ × ℕ)) → code_at bytes ≡ o → small_with a at bytes o ≡ Ok (i, n) → IsSmallRead a at bytes i n
read_it a at bytes i n None c h = absurd cc
read_it a at bytes i n (Some (code, m)) c h =
    decide (is_small_code code)
    (λ t.
    let read = if_allowed (instr_at a at bytes) i n (rw t at h) in
    let row = row_it a at bytes code m (opcode_of code) i n c refl (small_row code t) read in
    record { read = read; some = row.0; plain = row.1 })
    (λ f. let e : let r : Reading = Err I1 in r ≡ Ok (i, n) = rw f at h in absurd cc)

-- An instruction of the command is one, has no target, and takes some bytes.
pub small_read : (a at : ℕ) (bytes : List ℕ) (i : Instr) (n : ℕ) → small_at a at bytes ≡ Ok (i, n) → IsSmallRead a at bytes i n
small_read a at bytes i n h = read_it a at bytes i n (code_at bytes) refl h

none_small : (a at : ℕ) (i : Instr) (n : ℕ) → small_at a at [] ≡ Ok (i, n) → ⊥
none_small a at i n h = absurd cc

-- ---- the code

record IsSmallCode (a at : ℕ) (bytes : List ℕ) (is : List Instr) (os : List ℕ) (end : ℕ) (rest : List ℕ) : Type 0 where
  pub reads : Reads (instr_at a) at bytes is os end rest
  pub plain : AllPlain is
  pub few : at + length is ≤ end

small_code : (a at : ℕ) (bytes : List ℕ) (is : List Instr) (os : List ℕ) (end : ℕ) (rest : List ℕ) → Reads (small_at a) at bytes is os end rest → IsSmallCode a at bytes is os end rest
small_code a at bytes [] [] end rest h = let e = h.0 in record { reads = h; plain = tt; few = omega arith }
small_code a at bytes [] (o ∷ os) end rest h = absurd h
small_code a at bytes (i ∷ is) [] end rest h = absurd h
small_code a at bytes (i ∷ is) (o ∷ os) end rest h =
    let n = h.1.0 in
    let one = small_read a at bytes i n h.1.1 in
    let more = small_code a (at + n) (drop n bytes) is os end rest h.1.2 in
    let some = one.some in
    let few = more.few in
    record { reads = (h.0, (n, one.read, more.reads)); plain = (one.plain, more.plain); few = omega arith }

same_operand : (offsets : List ℕ) (o : Operand) → has_target o ≡ false → operand_with_indexes offsets o ≡ Some o
same_operand offsets Nothing h = refl
same_operand offsets (Int z) h = refl
same_operand offsets (Index k) h = refl
same_operand offsets (Target k) h = absurd cc
same_operand offsets (Targets ks) h = absurd cc
same_operand offsets (Tok a token) h = refl

same_instr : (offsets : List ℕ) (i : Instr) → is_plain i ≡ true → with_indexes offsets i ≡ Some i
same_instr offsets i h =
    let p = and_both (not (has_target i.operand)) _ h in
    ap (option_map (λ (o : Operand). record i { operand = o })) (same_operand offsets i.operand (not_true (has_target i.operand) p.0))

same_instrs : (offsets : List ℕ) (is : List Instr) → AllPlain is → map_all (with_indexes offsets) is ≡ Some is
same_instrs offsets [] h = refl
same_instrs offsets (i ∷ is) h = rw (same_instr offsets i h.0, same_instrs offsets is h.1) refl

-- ---- the body

record IsTiny (bytes code : List ℕ) : Type 0 where
  pub header : ℕ
  pub is : bytes ≡ header ∷ code
  pub kind : (header % 4 == 2) ≡ true
  pub size : header / 4 ≡ length code

pub same_code : (x y : List ℕ) → let o : Option (List ℕ) = Some x in o ≡ Some y → x ≡ y
same_code x y h = cc

tiny_is : (bytes code : List ℕ) → tiny_code bytes ≡ Some code → IsTiny bytes code
tiny_is [] code e = absurd cc
tiny_is (h ∷ rest) code e =
    decide ((h % 4 == 2) && (h / 4 == length rest))
    (λ t.
    let p = and_both (h % 4 == 2) (h / 4 == length rest) t in
    subst (IsTiny (h ∷ rest)) (same_code rest code (rw t at e)) (record { header = h; is = refl; kind = p.0; size = equal (h / 4) (length rest) p.1 }))
    (λ f. let g : let o : Option (List ℕ) = None in o ≡ Some code = rw f at e in absurd cc)

tiny_layout : ℕ → Layout
tiny_layout h = record { header = tiny_header h; clauses = []; len = 1 + h / 4 }

laid : (h : ℕ) (code : List ℕ) → (h % 4 == 2) ≡ true → h / 4 ≡ length code → layout_of (h ∷ code) ≡ Some (tiny_layout h)
unfolding layout_of tiny_layout
laid h code kind size =
    let fits : nat_le (1 + h / 4) (length (h ∷ code)) ≡ true = le-leb (1 + h / 4) (length (h ∷ code)) (omega arith) in
    rw (kind, fits) refl

abbrev tiny_body : List Instr → List ℕ → Body
tiny_body is os = record { instrs = is; offsets = os; regions = []; locals = None; max_stack = 8; init = false }

stands : (a h : ℕ) (code : List ℕ) (is : List Instr) (os : List ℕ) → (h % 4 == 2) ≡ true → h / 4 ≡ length code → Reads (small_at a) 0 code is os (length code) [] → StandsFor a (h ∷ code) (tiny_body is os) (length (h ∷ code))
unfolding tiny_layout
stands a h code is os kind size reads =
    let all = small_code a 0 code is os (length code) [] reads in
    let whole : code_of (h ∷ code) (tiny_header h) ≡ code = take_all (h / 4) code (omega arith) in
    let body : IsBody a (tiny_layout h) code (tiny_body is os) = record {
      raw = is;
      reads = subst (λ (n : ℕ). Reads (instr_at a) 0 code is os n []) (sym size) all.reads;
      instrs = same_instrs os is all.plain;
      regions = refl;
      locals = refl;
      max_stack = refl;
      init = refl;
    } in
    record {
      layout = tiny_layout h;
      is_laid = laid h code kind size;
      stands = subst (λ (l : List ℕ). IsBody a (tiny_layout h) l (tiny_body is os)) (sym whole) body;
      size = omega arith;
    }

pub small_body : (a : ℕ) (bytes code : List ℕ) (is : List Instr) (os : List ℕ) → tiny_code bytes ≡ Some code → length code < 64 → Reads (small_at a) 0 code is os (length code) [] → IsSmallBody a bytes (tiny_body is os)
small_body a bytes code is os e small reads =
    let t = tiny_is bytes code e in
    record {
      code = code;
      header = e;
      small = small;
      instrs = reads;
      stands = subst (λ (l : List ℕ). StandsFor a l (tiny_body is os) (length l)) (sym t.is) (stands a t.header code is os t.kind t.size reads);
      locals = refl;
    }

pub code_few : (a : ℕ) (code : List ℕ) (is : List Instr) (os : List ℕ) → length code < 64 → Reads (small_at a) 0 code is os (length code) [] → length is < 64
code_few a code is os small reads = let f = (small_code a 0 code is os (length code) [] reads).few in omega arith

-- It has few instructions, and each of them is plain.
pub small_few : (a : ℕ) (bytes : List ℕ) (body : Body) → IsSmallBody a bytes body → length body.instrs < 64
small_few a bytes body s = code_few a s.code body.instrs body.offsets s.small s.instrs

pub small_plain : (a : ℕ) (bytes : List ℕ) (body : Body) → IsSmallBody a bytes body → AllPlain body.instrs
small_plain a bytes body s = (small_code a 0 s.code body.instrs body.offsets (length s.code) [] s.instrs).plain

-- ---- what breaks a rule

pub read_again : (a : ℕ) (bytes code : List ℕ) (is : List Instr) (os : List ℕ) (other : Body) → tiny_code bytes ≡ Some code → Reads (small_at a) 0 code is os (length code) [] → IsSmallBody a bytes other → (other.instrs ≡ is) × (other.offsets ≡ os)
read_again a bytes code is os other e reads s =
    let same = same_code s.code code (sym s.header ∙ e) in
    let again = subst (λ (l : List ℕ). Reads (small_at a) 0 l other.instrs other.offsets (length l) []) same s.instrs in
    read_once (small_at a) (none_small a) 0 code is other.instrs os other.offsets (length code) (length code) reads again

pub no_fault : (place : Place) (bytes code : List ℕ) (is : List Instr) (os : List ℕ) → tiny_code bytes ≡ Some code → Reads (small_at place.assembly) 0 code is os (length code) [] → NoneBroken (CodeBreaks place bytes)
no_fault place bytes code is os e reads r b =
    let same = same_code b.0 code (sym b.1 ∙ e) in
    let f : FaultIn (small_at place.assembly) place code r = subst (λ (l : List ℕ). FaultIn (small_at place.assembly) place l r) same b.2 in
    never_broken (small_at place.assembly) (none_small place.assembly) 0 code is f.before os f.offsets (length code) f.at f.rest f.rule reads f.reads f.more f.broken

one_fault : (place : Place) (code : List ℕ) (r s : Refusal) → FaultIn (small_at place.assembly) place code r → FaultIn (small_at place.assembly) place code s → s ≡ r
one_fault place code r s f g =
    let e = fault_once (small_at place.assembly) (none_small place.assembly) 0 code f.before g.before f.offsets g.offsets f.at g.at f.rest g.rest f.rule g.rule f.reads f.broken g.reads g.broken in
    g.is ∙ ap (λ (n : ℕ). refusal g.rule place n) e.0 ∙ ap (λ (q : Rule). refusal q place f.at) e.1 ∙ sym f.is

pub no_header : (bytes code : List ℕ) → tiny_code bytes ≡ Some code → tiny_code bytes ≡ None → ⊥
no_header bytes code h n = let o : Option (List ℕ) = Some code in let e : o ≡ None = sym h ∙ n in cc

pub first_fault : (place : Place) (bytes code : List ℕ) (r : Refusal) → tiny_code bytes ≡ Some code → FaultIn (small_at place.assembly) place code r → InTurn (HeaderBreaks place bytes) (First (CodeBreaks place bytes)) r
first_fault place bytes code r h f =
    inr (
      λ s x. no_header bytes code h x.0,
      record {
        broken = (code, h, f);
        none_before = λ s c.
            let e : c.0 ≡ code = same_code c.0 code (sym c.1 ∙ h) in
            let g : FaultIn (small_at place.assembly) place code s = subst (λ (l : List ℕ). FaultIn (small_at place.assembly) place l s) e c.2 in
            subst (λ (t : Refusal). is_less (key t) (key r) ≡ false) (sym (one_fault place code r s f g)) (less_refl (key r));
      },
    )
