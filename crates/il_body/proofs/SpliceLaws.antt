-- A valid body stays valid where instructions take the place of one.
use Rattle.std.proofs.Common.{◌≡◌, ℕ, zero, suc, ◌+◌, ◌<◌, ◌≤◌, true, false, not, List, [], ◌∷◌, ◌++◌, length, take, drop, map, Option, None, Some, refl, sym, arith, length-append, length-drop}
use Rattle.std.specs.Prelude.{is_none, pos}
use Rattle.std.proofs.lemmas.List.{length-take}
use Rattle.cil_base.proofs.Small.{and_both, not_true}
use Rattle.cil_base.specs.declared.token.Token.{Token}
use Rattle.il_opcodes.specs.Opcodes.{the_opcodes}
use Rattle.cil_model.specs.declared.body.Operand.{Operand}
use Rattle.cil_model.specs.declared.body.Operand.TheVariants.{Nothing, Int, Index, Target, Targets, Tok}
use Rattle.cil_model.specs.declared.body.Instr.{Instr}
use Rattle.cil_model.specs.BodyCode.{instr}
use Rattle.cil_model.specs.SmallBody.{AllPlain, has_target, is_plain}
use Rattle.cil_model.specs.SmallMeaning.{is_branch}
use Rattle.cil_model.specs.ValidBody.{AllBelow, AllValid, IsSmallToken, IsValidInstr, IsValidOperand}
use Rattle.il_body.specs.BodyEncoding.{cases_in, weight, without_arguments}

-- ---- more instructions

below_grown : (m n : ℕ) (ks : List ℕ) → m ≤ n → AllBelow m ks → AllBelow n ks
below_grown m n [] le h = tt
below_grown m n (k ∷ ks) le h = let lt = h.0 in (omega arith, below_grown m n ks le h.1)

operand_grown : (a m n : ℕ) (o : Operand) → m ≤ n → IsValidOperand a m o → IsValidOperand a n o
operand_grown a m n Nothing le h = tt
operand_grown a m n (Int z) le h = tt
operand_grown a m n (Index k) le h = tt
operand_grown a m n (Target k) le h = omega arith
operand_grown a m n (Targets ks) le h = below_grown m n ks le h
operand_grown a m n (Tok assembly token) le h = h

pub valid_grown : (a m n : ℕ) (is : List Instr) → m ≤ n → AllValid a m is → AllValid a n is
valid_grown a m n [] le h = tt
valid_grown a m n (i ∷ is) le h = (record { spelled = h.0.spelled; operand = operand_grown a m n i.operand le h.0.operand; constrained = h.0.constrained; prefixes = h.0.prefixes }, valid_grown a m n is le h.1)

pub valid_append : (a n : ℕ) (xs ys : List Instr) → AllValid a n xs → AllValid a n ys → AllValid a n (xs ++ ys)
valid_append a n [] ys h k = k
valid_append a n (x ∷ xs) ys h k = (h.0, valid_append a n xs ys h.1 k)

valid_take : (a n k : ℕ) (is : List Instr) → AllValid a n is → AllValid a n (take k is)
valid_take a n zero is h = tt
valid_take a n (suc k) [] h = tt
valid_take a n (suc k) (i ∷ is) h = (h.0, valid_take a n k is h.1)

valid_drop : (a n k : ℕ) (is : List Instr) → AllValid a n is → AllValid a n (drop k is)
valid_drop a n zero is h = h
valid_drop a n (suc k) [] h = tt
valid_drop a n (suc k) (i ∷ is) h = valid_drop a n k is h.1

-- What takes the place of the instruction at k is valid among all, and so is the whole.
pub spliced_valid : (a k : ℕ) (is new : List Instr) → AllValid a (length is) is → 1 ≤ length new → AllValid a (length ((take k is ++ new) ++ drop (k + 1) is)) new → AllValid a (length ((take k is ++ new) ++ drop (k + 1) is)) ((take k is ++ new) ++ drop (k + 1) is)
spliced_valid a k is new valid some h =
    let n = length ((take k is ++ new) ++ drop (k + 1) is) in
    let more : length is ≤ n = omega (arith, length-append (take k is ++ new) (drop (k + 1) is), length-append (take k is) new, length-take k is, length-drop (k + 1) is) in
    let all = valid_grown a (length is) n is more valid in
    valid_append a n (take k is ++ new) (drop (k + 1) is) (valid_append a n (take k is) new (valid_take a n k is all) h) (valid_drop a n (k + 1) is all)

-- ---- the instructions of a check

pub valid_nop : (a n : ℕ) → IsValidInstr a n (instr 0x00 Nothing)
unfolding the_opcodes
valid_nop a n = record { spelled = refl; operand = tt; constrained = tt; prefixes = omega arith }

pub valid_zero : (a n : ℕ) → IsValidInstr a n (instr 0x20 (Int (pos 0)))
unfolding the_opcodes
valid_zero a n = record { spelled = refl; operand = tt; constrained = tt; prefixes = omega arith }

pub valid_call : (a n : ℕ) (token : Token) → IsSmallToken token → IsValidInstr a n (instr 0x28 (Tok a token))
unfolding the_opcodes
valid_call a n token small = record { spelled = refl; operand = (refl, small); constrained = tt; prefixes = omega arith }

pub valid_brtrue : (a n k : ℕ) → k < n → IsValidInstr a n (instr 0x3A (Target k))
unfolding the_opcodes
valid_brtrue a n k lt = record { spelled = refl; operand = lt; constrained = tt; prefixes = omega arith }

-- ---- plain instructions

pub weight_append : (xs ys : List Instr) → weight (xs ++ ys) ≡ weight xs + weight ys
weight_append [] ys = omega arith
weight_append (x ∷ xs) ys = omega (arith, weight_append xs ys)

no_cases : (o : Operand) → has_target o ≡ false → cases_in o ≡ 0
no_cases Nothing h = refl
no_cases (Int z) h = refl
no_cases (Index k) h = refl
no_cases (Target k) h = refl
no_cases (Targets ks) h = absurd cc
no_cases (Tok a token) h = refl

pub plain_weight : (is : List Instr) → AllPlain is → weight is ≡ length is
plain_weight [] h = refl
plain_weight (i ∷ is) h =
    let p = and_both (not (has_target i.operand)) _ h.0 in
    omega (arith, no_cases i.operand (not_true (has_target i.operand) p.0), plain_weight is h.1)

none_under : {T : Type 0} (o : Option T) → is_none o ≡ true → o ≡ None
none_under None h = refl
none_under (Some x) h = absurd cc

kept_one : (i : Instr) → is_plain i ≡ true → without_arguments i ≡ i
kept_one i h =
    let p = and_both (not (has_target i.operand)) _ h in
    let q = and_both (not (is_branch i)) (is_none i.under) p.1 in
    λ j. record i { under = sym (none_under i.under q.1) j }

pub plain_kept : (is : List Instr) → AllPlain is → map without_arguments is ≡ is
plain_kept [] h = refl
plain_kept (i ∷ is) h = λ j. kept_one i h.0 j ∷ plain_kept is h.1 j
