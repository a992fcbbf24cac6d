-- The code that is written reads back, and its all_offsets are those of its offsets.
use Rattle.std.proofs.Common.{◌≡◌, ℕ, zero, suc, ◌+◌, ◌*◌, ◌^◌, ◌<◌, ◌≤◌, true, List, [], ◌∷◌, ◌++◌, map, length, get_or, Option, Some, None, refl, sym, ap, ◌∙◌, subst, arith, length-append}
use Rattle.std.specs.Prelude.{is_some, nat_lt}
use Rattle.std.specs.Int.{w32, to_le_bytes}
use Rattle.std.specs.Option.{option_map}
use Rattle.std.proofs.Math.ListN.{get_or-append}
use Rattle.std.proofs.Math.Seq.{drop-append_seam}
use Rattle.cil_base.proofs.Small.{decide}
use Rattle.cil_model.specs.declared.body.Operand.{Operand}
use Rattle.cil_model.specs.declared.body.Operand.TheVariants.{Nothing, Int, Index, Target, Targets, Tok}
use Rattle.cil_model.specs.declared.body.Instr.{Instr}
use Rattle.il_opcodes.specs.declared.opcode.Opcode.{Opcode}
use Rattle.il_opcodes.specs.declared.opcode.OperandKind.{OperandKind}
use Rattle.il_opcodes.specs.declared.opcode.OperandKind.TheVariants as op
use Rattle.cil_model.specs.BodyOf.{map_all, index_of, with_indexes, operand_with_indexes}
use Rattle.cil_model.specs.BodyCode.{Reads, instr_at}
use Rattle.il_code.specs.Answers.{Rise}
use Rattle.il_code.proofs.PlaceLaws.{found}
use Rattle.cil_model.specs.ValidBody.{AllBelow, AllValid, IsValidInstr, IsValidOperand, spelling_of}
use Rattle.il_body.specs.BodyEncoding.{begins, case_bytes, cases_in, code_bytes, code_from, weight, front_bytes, index_bytes, instr_bytes, instr_size, int_bytes, operand_bytes, prefix_bytes, spelled, starts, without_arguments}
use Rattle.il_body.proofs.OperandLaws.{AreSmall, length_cases, read_operand}
use Rattle.il_body.proofs.PrefixLaws.{instr_back, read_instr, small_front}

-- ---- sizes

size_operand : (all_offsets others : List ℕ) (at to : ℕ) (kind : OperandKind) (operand : Operand) → length (operand_bytes all_offsets at kind operand) ≡ length (operand_bytes others to kind operand)
size_operand all_offsets others at to kind Nothing = refl
size_operand all_offsets others at to kind (Int z) = refl
size_operand all_offsets others at to kind (Index k) = refl
size_operand all_offsets others at to kind (Target k) = refl
size_operand all_offsets others at to kind (Targets ks) =
    let n = to_le_bytes w32 (length ks) in
    omega (arith, length-append n (case_bytes all_offsets (at + 4 + 4 * length ks) ks), length-append n (case_bytes others (to + 4 + 4 * length ks) ks), length_cases all_offsets (at + 4 + 4 * length ks) ks, length_cases others (to + 4 + 4 * length ks) ks)
size_operand all_offsets others at to kind (Tok a token) = refl

small_operand : (all_offsets : List ℕ) (at : ℕ) (kind : OperandKind) (operand : Operand) → length (operand_bytes all_offsets at kind operand) ≤ 8 + 4 * cases_in operand
small_operand all_offsets at kind Nothing = omega arith
small_operand all_offsets at kind (Int z) = go kind
  where
    go : (kind : OperandKind) → length (int_bytes kind z) ≤ 8 + 4 * 0
    go op.Int8 = omega arith
    go op.Int32 = omega arith
    go op.Int64 = omega arith
    go kind = omega arith
small_operand all_offsets at kind (Index k) = go kind
  where
    go : (kind : OperandKind) → length (index_bytes kind k) ≤ 8 + 4 * 0
    go op.Index8 = omega arith
    go op.Index16 = omega arith
    go kind = omega arith
small_operand all_offsets at kind (Target k) = omega arith
small_operand all_offsets at kind (Targets ks) =
    omega (arith, length-append (to_le_bytes w32 (length ks)) (case_bytes all_offsets (at + 4 + 4 * length ks) ks), length_cases all_offsets (at + 4 + 4 * length ks) ks)
small_operand all_offsets at kind (Tok a token) = omega arith

size_spelled : (all_offsets : List ℕ) (at : ℕ) (i : Instr) (o : Option Opcode) → length (spelled all_offsets at i o) ≡ length (spelled [] 0 i o)
size_spelled all_offsets at i None = refl
size_spelled all_offsets at i (Some o) =
    let f = front_bytes i o in
    let b = operand_bytes all_offsets (at + length f) o.operand i.operand in
    let c = operand_bytes [] (0 + length f) o.operand i.operand in
    omega (arith, length-append f b, length-append f c, size_operand all_offsets [] (at + length f) (0 + length f) o.operand i.operand)

pub same_size : (all_offsets : List ℕ) (at : ℕ) (i : Instr) → length (instr_bytes all_offsets at i) ≡ instr_size i
unfolding instr_bytes
same_size all_offsets at i = size_spelled all_offsets at i (spelling_of i.op i.operand)

small_spelled : (all_offsets : List ℕ) (at : ℕ) (i : Instr) (o : Option Opcode) → length (spelled all_offsets at i o) ≤ 24 * (1 + cases_in i.operand)
small_spelled all_offsets at i None = omega arith
small_spelled all_offsets at i (Some o) =
    let f = front_bytes i o in
    let b = operand_bytes all_offsets (at + length f) o.operand i.operand in
    omega (arith, length-append f b, small_front i o, small_operand all_offsets (at + length f) o.operand i.operand)

pub small_size : (all_offsets : List ℕ) (at : ℕ) (i : Instr) → length (instr_bytes all_offsets at i) ≤ 24 * (1 + cases_in i.operand)
unfolding instr_bytes
small_size all_offsets at i = small_spelled all_offsets at i (spelling_of i.op i.operand)

some_code : (code : ℕ) → 0 < length (code_bytes code)
some_code code = decide (nat_lt code 0x100) (λ t. rw t (omega arith)) (λ f. rw f (omega arith))

some_spelled : (all_offsets : List ℕ) (at : ℕ) (i : Instr) (o : Option Opcode) → is_some o ≡ true → 0 < length (spelled all_offsets at i o)
some_spelled all_offsets at i None h = cc
some_spelled all_offsets at i (Some o) h =
    let f = front_bytes i o in
    let b = operand_bytes all_offsets (at + length f) o.operand i.operand in
    omega (arith, length-append f b, length-append (prefix_bytes i.constrained i.prefixes) (code_bytes o.code), some_code o.code)

some_size : (a count : ℕ) (i : Instr) → IsValidInstr a count i → 0 < instr_size i
unfolding instr_bytes
some_size a count i valid = some_spelled [] 0 i (spelling_of i.op i.operand) valid.spelled

pub small_code : (all_offsets : List ℕ) (at : ℕ) (is : List Instr) → length (code_from all_offsets at is) ≤ 24 * weight is
small_code all_offsets at [] = omega arith
small_code all_offsets at (i ∷ is) =
    let s = instr_bytes all_offsets at i in
    omega (arith, length-append s (code_from all_offsets (at + length s) is), small_size all_offsets at i, small_code all_offsets (at + length s) is)

-- ---- starts

pub length_starts : (at : ℕ) (is : List Instr) → length (starts at is) ≡ length is + 1
length_starts at [] = refl
length_starts at (i ∷ is) = omega (arith, length_starts (at + instr_size i) is)

pub length_begins : (at : ℕ) (is : List Instr) → length (begins at is) ≡ length is
length_begins at [] = refl
length_begins at (i ∷ is) = omega (arith, length_begins (at + instr_size i) is)

pub small_starts : (at : ℕ) (is : List Instr) (k : ℕ) → get_or (starts at is) k 0 ≤ at + 24 * weight is
small_starts at [] zero = omega arith
small_starts at [] (suc k) = omega arith
small_starts at (i ∷ is) zero = omega arith
small_starts at (i ∷ is) (suc k) = omega (arith, small_size [] 0 i, small_starts (at + instr_size i) is k)

low_starts : (at : ℕ) (is : List Instr) (k : ℕ) → k < length (starts at is) → at ≤ get_or (starts at is) k 0
low_starts at [] zero h = omega arith
low_starts at [] (suc k) h = absurd (omega arith)
low_starts at (i ∷ is) zero h = omega arith
low_starts at (i ∷ is) (suc k) h = let l = low_starts (at + instr_size i) is k (omega arith) in omega arith

rise_from : (a count at : ℕ) (is : List Instr) → AllValid a count is → (i j : ℕ) → i < j → j < length (starts at is) → get_or (starts at is) i 0 < get_or (starts at is) j 0
rise_from a count at [] valid i j lt inside = absurd (omega arith)
rise_from a count at (x ∷ is) valid i zero lt inside = absurd (omega arith)
rise_from a count at (x ∷ is) valid zero (suc j) lt inside =
    let l = low_starts (at + instr_size x) is j (omega arith) in let s = some_size a count x valid.0 in omega arith
rise_from a count at (x ∷ is) valid (suc i) (suc j) lt inside = rise_from a count (at + instr_size x) is valid.1 i j (omega arith) (omega arith)

pub rise_starts : (a count at : ℕ) (is : List Instr) → AllValid a count is → Rise (starts at is)
rise_starts a count at is valid = rise_from a count at is valid

pub starts-begins : (all_offsets : List ℕ) (at : ℕ) (is : List Instr) → starts at is ≡ begins at is ++ (at + length (code_from all_offsets at is)) ∷ []
starts-begins all_offsets at [] = let e : at ≡ at + 0 = omega arith in ap (λ n. n ∷ []) e
starts-begins all_offsets at (i ∷ is) =
    let s = instr_bytes all_offsets at i in
    let same : length s ≡ instr_size i = same_size all_offsets at i in
    let tail = code_from all_offsets (at + length s) is in
    let end : at + length s + length tail ≡ at + length (s ++ tail) = omega (arith, length-append s tail) in
    ap (λ l. at ∷ l) (ap (λ k. starts (at + k) is) (sym same) ∙ starts-begins all_offsets (at + length s) is ∙ ap (λ k. begins (at + k) is ++ (at + length s + length tail) ∷ []) same ∙ ap (λ k. begins (at + instr_size i) is ++ k ∷ []) end)

-- ---- the instructions read back

pub all_back : (a count : ℕ) (all_offsets : List ℕ) (at : ℕ) (is : List Instr) → AllValid a count is → AreSmall all_offsets → at + 24 * weight is ≤ 2 ^ 32 → Reads (instr_at a) at (code_from all_offsets at is) (map (read_instr all_offsets) is) (begins at is) (at + length (code_from all_offsets at is)) []
all_back a count all_offsets at [] valid small inside = (omega arith, refl)
all_back a count all_offsets at (i ∷ is) valid small inside =
    let s = instr_bytes all_offsets at i in
    let n = length s in
    let tail = code_from all_offsets (at + n) is in
    let size = small_size all_offsets at i in
    let all = all_back a count all_offsets (at + n) is valid.1 small (omega arith) in
    let end : at + n + length tail ≡ at + length (s ++ tail) = omega (arith, length-append s tail) in
    let all_1 = subst (λ e. Reads (instr_at a) (at + n) tail (map (read_instr all_offsets) is) (begins (at + n) is) e []) end all in
    let all_2 = subst (λ m. Reads (instr_at a) (at + n) tail (map (read_instr all_offsets) is) (begins (at + m) is) (at + length (s ++ tail)) []) (same_size all_offsets at i) all_1 in
    (refl, (n, instr_back a at count all_offsets i tail valid.0 small (omega arith), subst (λ b. Reads (instr_at a) (at + n) b (map (read_instr all_offsets) is) (begins (at + instr_size i) is) (at + length (s ++ tail)) []) (sym (drop-append_seam s tail)) all_2))

-- ---- and their targets are the all_offsets

-- each of the first all_offsets is found among the offsets
abbrev pub AreFound : List ℕ → List ℕ → ℕ → Type 0
AreFound offsets all_offsets count = (k : ℕ) → k < count → index_of offsets (get_or all_offsets k 0) ≡ Some k

pub found_in : (all_offsets : List ℕ) (k : ℕ) → Rise all_offsets → k < length all_offsets → index_of all_offsets (get_or all_offsets k 0) ≡ Some k
found_in all_offsets k rise inside = found all_offsets (get_or all_offsets k 0) k inside refl (λ j below e. let lt = rise j k below inside in omega arith)

pub found_before : (offsets : List ℕ) (end k : ℕ) → Rise (offsets ++ end ∷ []) → k < length offsets → index_of offsets (get_or (offsets ++ end ∷ []) k 0) ≡ Some k
found_before offsets end k rise inside =
    let here = get_or-append offsets (end ∷ []) 0 k inside in
    found offsets (get_or (offsets ++ end ∷ []) k 0) k inside (sym here)
    (λ j below e. let lt = rise j k below (omega (arith, length-append offsets (end ∷ []))) in let there = get_or-append offsets (end ∷ []) 0 j (omega arith) in omega arith)

cases_placed : (offsets all_offsets : List ℕ) (count : ℕ) (ks : List ℕ) → AreFound offsets all_offsets count → AllBelow count ks → map_all (index_of offsets) (map (λ k. get_or all_offsets k 0) ks) ≡ Some ks
cases_placed offsets all_offsets count [] all below = refl
cases_placed offsets all_offsets count (k ∷ ks) all below = rw (all k below.0, cases_placed offsets all_offsets count ks all below.1) refl

operand_placed : (a : ℕ) (offsets all_offsets : List ℕ) (count : ℕ) (operand : Operand) → AreFound offsets all_offsets count → IsValidOperand a count operand → operand_with_indexes offsets (read_operand all_offsets operand) ≡ Some operand
operand_placed a offsets all_offsets count Nothing all valid = refl
operand_placed a offsets all_offsets count (Int z) all valid = refl
operand_placed a offsets all_offsets count (Index k) all valid = refl
operand_placed a offsets all_offsets count (Target k) all valid = ap (option_map Target) (all k valid)
operand_placed a offsets all_offsets count (Targets ks) all valid = ap (option_map Targets) (cases_placed offsets all_offsets count ks all valid)
operand_placed a offsets all_offsets count (Tok assembly token) all valid = refl

pub instrs_placed : (a : ℕ) (offsets all_offsets : List ℕ) (count : ℕ) (is : List Instr) → AreFound offsets all_offsets count → AllValid a count is → map_all (with_indexes offsets) (map (read_instr all_offsets) is) ≡ Some (map without_arguments is)
instrs_placed a offsets all_offsets count [] all valid = refl
instrs_placed a offsets all_offsets count (i ∷ is) all valid =
    rw (operand_placed a offsets all_offsets count i.operand all valid.0.operand, instrs_placed a offsets all_offsets count is all valid.1) refl
