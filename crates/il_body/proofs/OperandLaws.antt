-- An operand that is written reads back, with offsets for all_offsets.
use Rattle.std.proofs.Common.{◌≡◌, ℕ, suc, ◌+◌, ◌*◌, ◌^◌, ◌<◌, ◌≤◌, true, ℤ, List, [], ◌∷◌, ◌++◌, map, length, drop, get_or, Some, refl, sym, ap, ◌∙◌, subst, arith, append_assoc, append-nil, length-append}
use Rattle.std.specs.Prelude.{nat_le}
use Rattle.std.specs.Int.{w32, w64, cast_signed, cast_unsigned, to_le_bytes}
use Rattle.std.specs.Ordering.{int_eq}
use Rattle.std.specs.Cmp.{signed_Decides}
use Rattle.std.proofs.lemmas.Grind.{common_steps}
use Rattle.cil_base.proofs.Small.{equal, less}
use Rattle.cil_base.proofs.PieceLaws.{left_behind}
use Rattle.cil_base.specs.declared.token.Token.{Token}
use Rattle.cil_base.specs.Numbers.{num, num_at}
use Rattle.cil_base.specs.Tokens.{token_of, token_number}
use Rattle.cil_model.specs.declared.body.Operand.{Operand}
use Rattle.cil_model.specs.declared.body.Operand.TheVariants.{Nothing, Int, Index, Target, Targets, Tok}
use Rattle.il_opcodes.specs.declared.opcode.OperandKind.{OperandKind}
use Rattle.il_opcodes.specs.declared.opcode.OperandKind.TheVariants as op
use Rattle.cil_model.specs.BodyCode.{cases, landing, operand_at, switch_of, token_at, with_number}
use Rattle.il_body.specs.BodyEncoding.{displacement}
use Rattle.cil_model.specs.ValidBody.{IsSmallToken, IsValidOperand, takes, takes_index, takes_int, takes_nothing, takes_target, takes_targets, takes_token}
use Rattle.il_body.specs.BodyEncoding.{case_bytes, cases_in, index_bytes, int_bytes, operand_bytes}
use Rattle.il_body.proofs.NumberLaws.{back_8, back_32, back_64, eight_at_front, lands, num_at_back, num_back, small_32, small_64, small_displacement, token_back, two_at_front}

-- the operand as it is read: a target is an offset
abbrev pub read_operand : List ℕ → Operand → Operand
read_operand all_offsets (Target k) = Target (get_or all_offsets k 0)
read_operand all_offsets (Targets ks) = Targets (map (λ k. get_or all_offsets k 0) ks)
read_operand all_offsets operand = operand

abbrev pub AreSmall : List ℕ → Type 0
AreSmall all_offsets = (k : ℕ) → get_or all_offsets k 0 < 2 ^ 32

nothing_back : (a at : ℕ) (kind : OperandKind) (rest : List ℕ) → takes_nothing kind ≡ true → operand_at a at kind rest ≡ Some (Nothing, 0)
nothing_back a at op.Nothing rest h = refl
nothing_back a at kind rest h = cc

int_same : (y z : ℤ) → int_eq y z ≡ true → y ≡ z
int_same y z h = (signed_Decides y z).0 h

int_back : (a at : ℕ) (kind : OperandKind) (z : ℤ) (rest : List ℕ) → takes_int kind z ≡ true → operand_at a at kind (int_bytes kind z ++ rest) ≡ Some (Int z, length (int_bytes kind z))
int_back a at op.Int8 z rest h = ap (λ (y : ℤ). Some (Int y, 1)) (back_8 z h)
int_back a at op.Int32 z rest h =
    ap (with_number (λ v. Int (cast_signed w32 v)) 4) (num_at_back (to_le_bytes w32 (cast_unsigned w32 z) ++ rest) 0 (cast_unsigned w32 z) rest refl (small_32 z h)) ∙ ap (λ (y : ℤ). Some (Int y, 4)) (back_32 z h)
int_back a at op.Int64 z rest h =
    ap (with_number (λ v. Int (cast_signed w64 v)) 8) (eight_at_front (cast_unsigned w64 z) rest (small_64 z h)) ∙ ap (λ (y : ℤ). Some (Int y, 8)) (back_64 z h)
int_back a at (op.ThatInt y) z rest h = ap (λ (x : ℤ). Some (Int x, 0)) (int_same y z h)
int_back a at kind z rest h = cc

index_back : (a at : ℕ) (kind : OperandKind) (k : ℕ) (rest : List ℕ) → takes_index kind k ≡ true → operand_at a at kind (index_bytes kind k ++ rest) ≡ Some (Index k, length (index_bytes kind k))
index_back a at op.Index8 k rest h = refl
index_back a at op.Index16 k rest h = ap (with_number Index 2) (two_at_front k rest (less k 0x10000 h))
index_back a at (op.ThatIndex j) k rest h = ap (λ (x : ℕ). Some (Index x, 0)) (equal j k h)
index_back a at kind k rest h = cc

target_back : (a at : ℕ) (all_offsets : List ℕ) (kind : OperandKind) (k : ℕ) (rest : List ℕ) → takes_target kind ≡ true → AreSmall all_offsets → at + 4 ≤ 2 ^ 32 → operand_at a at kind (to_le_bytes w32 (displacement (get_or all_offsets k 0) (at + 4)) ++ rest) ≡ Some (Target (get_or all_offsets k 0), 4)
target_back a at all_offsets op.Target32 k rest h small inside =
    let d = displacement (get_or all_offsets k 0) (at + 4) in
    ap (with_number (λ v. Target (landing (at + 4) v)) 4) (num_at_back (to_le_bytes w32 d ++ rest) 0 d rest refl (small_displacement (get_or all_offsets k 0) (at + 4))) ∙ ap (λ (x : ℕ). Some (Target x, 4)) (lands (get_or all_offsets k 0) (at + 4) (small k) inside)
target_back a at all_offsets kind k rest h small inside = cc

token_at_back : (a assembly : ℕ) (token : Token) (rest : List ℕ) → assembly ≡ a → IsSmallToken token → token_at a (to_le_bytes w32 (token_number token) ++ rest) ≡ Some (Tok assembly token, 4)
token_at_back a assembly token rest e s =
    let below = s.0 in
    let within = s.1 in
    ap (with_number (λ v. Tok a (token_of v)) 4) (num_at_back (to_le_bytes w32 (token_number token) ++ rest) 0 (token_number token) rest refl (omega arith)) ∙ rw (token_back token within, e) refl

tok_back : (a at assembly : ℕ) (kind : OperandKind) (token : Token) (rest : List ℕ) → takes_token kind ≡ true → assembly ≡ a → IsSmallToken token → operand_at a at kind (to_le_bytes w32 (token_number token) ++ rest) ≡ Some (Tok assembly token, 4)
tok_back a at assembly op.TypeToken token rest h e s = token_at_back a assembly token rest e s
tok_back a at assembly op.FieldToken token rest h e s = token_at_back a assembly token rest e s
tok_back a at assembly op.MethodToken token rest h e s = token_at_back a assembly token rest e s
tok_back a at assembly op.StringToken token rest h e s = token_at_back a assembly token rest e s
tok_back a at assembly op.AnyToken token rest h e s = token_at_back a assembly token rest e s
tok_back a at assembly kind token rest h e s = cc

-- ---- switches

pub length_cases : (all_offsets : List ℕ) (end : ℕ) (ks : List ℕ) → length (case_bytes all_offsets end ks) ≡ 4 * length ks
length_cases all_offsets end [] = refl
length_cases all_offsets end (k ∷ ks) =
    omega (arith, length-append (to_le_bytes w32 (displacement (get_or all_offsets k 0) end)) (case_bytes all_offsets end ks), length_cases all_offsets end ks)

cases_back : (all_offsets : List ℕ) (end : ℕ) (bytes : List ℕ) (n : ℕ) (ks rest : List ℕ) → AreSmall all_offsets → end ≤ 2 ^ 32 → drop (4 * n) bytes ≡ case_bytes all_offsets end ks ++ rest → cases end bytes (n + length ks) ≡ cases end bytes n ++ map (λ k. get_or all_offsets k 0) ks
cases_back all_offsets end bytes n [] rest small inside e =
    let z : n + 0 ≡ n = omega arith in ap (cases end bytes) z ∙ sym (append-nil (cases end bytes n))
cases_back all_offsets end bytes n (k ∷ ks) rest small inside e =
    let d = displacement (get_or all_offsets k 0) end in
    let tail = case_bytes all_offsets end ks ++ rest in
    let h : drop (4 * n) bytes ≡ to_le_bytes w32 d ++ tail = e in
    let v : num bytes (4 * n) 4 ≡ d = num_back 4 bytes (4 * n) d tail h (small_displacement (get_or all_offsets k 0) end) in
    let next : 4 * n + 4 ≡ 4 * suc n = omega arith in
    let more = cases_back all_offsets end bytes (suc n) ks rest small inside (subst (λ (m : ℕ). drop m bytes ≡ tail) next (left_behind bytes (4 * n) (to_le_bytes w32 d) tail h)) in
    let count : n + length (k ∷ ks) ≡ suc n + length ks = omega arith in
    ap (cases end bytes) count ∙ more ∙ rw v (rw (lands (get_or all_offsets k 0) end (small k) inside) (append_assoc (cases end bytes n) (get_or all_offsets k 0 ∷ []) (map (λ k. get_or all_offsets k 0) ks)))

switch_back : (at : ℕ) (all_offsets : List ℕ) (ks rest : List ℕ) → AreSmall all_offsets → at + 4 + 4 * length ks ≤ 2 ^ 32 → switch_of at (to_le_bytes w32 (length ks) ++ (case_bytes all_offsets (at + 4 + 4 * length ks) ks ++ rest)) (Some (length ks)) ≡ Some (Targets (map (λ k. get_or all_offsets k 0) ks), 4 + 4 * length ks)
switch_back at all_offsets ks rest small inside =
    let end = at + 4 + 4 * length ks in
    let tail = case_bytes all_offsets end ks ++ rest in
    let whole : nat_le (4 + 4 * length ks) (length (to_le_bytes w32 (length ks) ++ tail)) ≡ true = grind (arith, common_steps, length_cases all_offsets end ks, length-append (case_bytes all_offsets end ks) rest) in
    let all : cases end tail (0 + length ks) ≡ map (λ k. get_or all_offsets k 0) ks = cases_back all_offsets end tail 0 ks rest small inside refl in
    let z : 0 + length ks ≡ length ks = omega arith in
    rw whole (ap (λ (l : List ℕ). Some (Targets l, 4 + 4 * length ks)) (ap (cases end tail) (sym z) ∙ all))

targets_back : (a at : ℕ) (all_offsets : List ℕ) (kind : OperandKind) (ks rest : List ℕ) → takes_targets kind ≡ true → AreSmall all_offsets → at + 4 + 4 * length ks ≤ 2 ^ 32 → operand_at a at kind (operand_bytes all_offsets at kind (Targets ks) ++ rest) ≡ Some (Targets (map (λ k. get_or all_offsets k 0) ks), length (operand_bytes all_offsets at kind (Targets ks)))
targets_back a at all_offsets op.Targets ks rest h small inside =
    let end = at + 4 + 4 * length ks in
    let count = to_le_bytes w32 (length ks) in
    let tail = case_bytes all_offsets end ks ++ rest in
    let all : (count ++ case_bytes all_offsets end ks) ++ rest ≡ count ++ tail = append_assoc count (case_bytes all_offsets end ks) rest in
    let n : num_at (count ++ tail) 0 4 ≡ Some (length ks) = num_at_back (count ++ tail) 0 (length ks) tail refl (omega arith) in
    let size : length (count ++ case_bytes all_offsets end ks) ≡ 4 + 4 * length ks = omega (arith, length-append count (case_bytes all_offsets end ks), length_cases all_offsets end ks) in
    ap (λ (l : List ℕ). switch_of at l (num_at l 0 4)) all ∙ ap (switch_of at (count ++ tail)) n ∙ switch_back at all_offsets ks rest small inside ∙ ap (λ (m : ℕ). Some (Targets (map (λ k. get_or all_offsets k 0) ks), m)) (sym size)
targets_back a at all_offsets kind ks rest h small inside = cc

-- ---- all operands

pub operand_back : (a at count : ℕ) (all_offsets : List ℕ) (kind : OperandKind) (operand : Operand) (rest : List ℕ) → takes kind operand ≡ true → IsValidOperand a count operand → AreSmall all_offsets → at + 4 + 4 * cases_in operand ≤ 2 ^ 32 → operand_at a at kind (operand_bytes all_offsets at kind operand ++ rest) ≡ Some (read_operand all_offsets operand, length (operand_bytes all_offsets at kind operand))
operand_back a at count all_offsets kind Nothing rest h valid small inside = nothing_back a at kind rest h
operand_back a at count all_offsets kind (Int z) rest h valid small inside = int_back a at kind z rest h
operand_back a at count all_offsets kind (Index k) rest h valid small inside = index_back a at kind k rest h
operand_back a at count all_offsets kind (Target k) rest h valid small inside = target_back a at all_offsets kind k rest h small (omega arith)
operand_back a at count all_offsets kind (Targets ks) rest h valid small inside = targets_back a at all_offsets kind ks rest h small inside
operand_back a at count all_offsets kind (Tok assembly token) rest h valid small inside = tok_back a at assembly kind token rest h valid.0 valid.1

pub switch_size : (at n : ℕ) (kind : OperandKind) (ks : List ℕ) (operand : Operand) → operand ≡ Targets ks → n ≡ length ks → 4 + 4 * n ≡ length (operand_bytes [] at kind operand)
switch_size at n kind ks operand e h =
    rw e (omega (arith, h, length-append (to_le_bytes w32 (length ks)) (case_bytes [] (at + 4 + 4 * length ks) ks), length_cases [] (at + 4 + 4 * length ks) ks))
