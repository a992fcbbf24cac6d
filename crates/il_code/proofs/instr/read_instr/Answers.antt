use Rattle.std.proofs.Common.{◌≡◌, ℕ, ◌+◌, ◌-◌, ◌<◌, ◌≤◌, arith, refl, sym, ap, ◌∙◌, subst, length, drop, Ok, Err, Some, None, List}
use Rattle.std.proofs.lemmas.List.{length-drop}
use Rattle.cil_base.specs.Numbers.{num_at}
use Rattle.cil_model.specs.declared.body.Instr.{Instr}
use Rattle.cil_model.specs.BodyCode.{opcode_at, operand_at, instr_at, with_operand}
use Rattle.cil_base.proofs.Small.{if_ok}
use Rattle.il_code.specs.Answers.{Gives}
use Rattle.il_code.proofs.InstrLaws.{broken, flagged, cut, typed, other, some_left, number_room}
use Rattle.il_code.proofs.instr.read_instr.Goals as goal

pub codes-init : goal.codes-init
codes-init c = (omega arith, (length c.args.bytes.now, omega arith, refl))

pub returns-in-Err-clause-value : goal.returns-in-Err-clause-value
returns-in-Err-clause-value c =
    let bytes = c.args.bytes.now in
    let inv = c.codes.invariant.1 in
    let h : opcode_at (drop c.codes.taken bytes) ≡ Err c.in-Err.rule = ap opcode_at (sym c.bytes_from.ensures) ∙ sym c.in-Err.ensures.value in
    broken c.args.assembly c.args.at bytes inv.0 c.codes.constrained c.codes.flags c.codes.taken c.in-Err.rule inv.1 inv.2 h

pub codes-preserved-in-Flag : goal.codes-preserved-in-Flag
codes-preserved-in-Flag c =
    let bytes = c.args.bytes.now in
    let inv = c.codes.invariant.1 in
    let read = c.in-Ok.read in
    let h : opcode_at (drop c.codes.taken bytes) ≡ Ok (read.0, read.1) = ap opcode_at (sym c.bytes_from.ensures) ∙ sym c.in-Ok.ensures.value in
    let left = some_left bytes c.codes.taken read.1 read.0 h in
    let within : (0 < read.1) × (read.1 ≤ length c.bytes_from.result.now) = c.in-Ok.ensures.within in
    let room : read.1 ≤ length (drop c.codes.taken bytes) = rw (← c.bytes_from.ensures) within.1 in
    (omega (arith, length-drop c.codes.taken bytes), (inv.0 - 1, omega arith, flagged c.args.assembly c.args.at bytes inv.0 c.codes.constrained c.codes.flags c.codes.taken read.0 read.1 c.in-Flag.bit inv.1 inv.2 h c.in-Flag.is))

pub returns-in_default-read_u32_at-clause-value : goal.returns-in_default-read_u32_at-clause-value
returns-in_default-read_u32_at-clause-value c =
    let bytes = c.args.bytes.now in
    let inv = c.codes.invariant.1 in
    let read = c.in-Ok.read in
    let h : opcode_at (drop c.codes.taken bytes) ≡ Ok (read.0, read.1) = ap opcode_at (sym c.bytes_from.ensures) ∙ sym c.in-Ok.ensures.value in
    let none : num_at (drop (c.codes.taken + read.1) bytes) 0 4 ≡ None = ap (λ (l : List ℕ). num_at l 0 4) (sym c.bytes_from-rest.ensures) ∙ sym c.in_default-read_u32_at.ensures in
    cut c.args.assembly c.args.at bytes inv.0 c.codes.constrained c.codes.flags c.codes.taken read.0 read.1 inv.1 inv.2 h c.in-Constrained.is none

pub codes-preserved : goal.codes-preserved
codes-preserved c =
    let bytes = c.args.bytes.now in
    let inv = c.codes.invariant.1 in
    let read = c.in-Ok.read in
    let v = c.in-Some.v in
    let h : opcode_at (drop c.codes.taken bytes) ≡ Ok (read.0, read.1) = ap opcode_at (sym c.bytes_from.ensures) ∙ sym c.in-Ok.ensures.value in
    let left = some_left bytes c.codes.taken read.1 read.0 h in
    let within : (0 < read.1) × (read.1 ≤ length c.bytes_from.result.now) = c.in-Ok.ensures.within in
    let room : read.1 ≤ length (drop c.codes.taken bytes) = rw (← c.bytes_from.ensures) within.1 in
    let some : num_at (drop (c.codes.taken + read.1) bytes) 0 4 ≡ Some v = ap (λ (l : List ℕ). num_at l 0 4) (sym c.bytes_from-rest.ensures) ∙ sym c.in-Some.ensures in
    let four = number_room (drop (c.codes.taken + read.1) bytes) v some in (
      omega (arith, length-drop c.codes.taken bytes, length-drop (c.codes.taken + read.1) bytes, four),
      (inv.0 - 1, omega arith, rw c.from_u32.ensures (typed c.args.assembly c.args.at bytes inv.0 c.codes.constrained c.codes.flags c.codes.taken read.0 read.1 v inv.1 inv.2 h c.in-Constrained.is some)),
    )

pub returns-in_default : goal.returns-in_default
returns-in_default c =
    let bytes = c.args.bytes.now in
    let inv = c.codes.invariant.1 in
    let read = c.in-Ok.read in
    let taken = c.codes.taken + read.1 in
    let h : opcode_at (drop c.codes.taken bytes) ≡ Ok (read.0, read.1) = ap opcode_at (sym c.bytes_from.ensures) ∙ sym c.in-Ok.ensures.value in
    let within : (0 < read.1) × (read.1 ≤ length c.bytes_from.result.now) = c.in-Ok.ensures.within in
    let room : read.1 ≤ length (drop c.codes.taken bytes) = rw (← c.bytes_from.ensures) within.1 in
    let size : length c.bytes_from-rest.result.now ≡ length (drop taken bytes) = ap (λ (l : List ℕ). length l) c.bytes_from-rest.ensures in
    let all = other c.args.assembly c.args.at bytes inv.0 c.codes.constrained c.codes.flags c.codes.taken read.0 read.1 inv.1 inv.2 h c.in_default.not-Flag c.in_default.not-Constrained in
    let e : with_operand c.codes.constrained c.codes.flags taken read.0.long (operand_at c.args.assembly (c.args.at + taken) read.0.operand c.bytes_from-rest.result.now) ≡ instr_at c.args.assembly c.args.at bytes = ap (λ (l : List ℕ). with_operand c.codes.constrained c.codes.flags taken read.0.long (operand_at c.args.assembly (c.args.at + taken) read.0.operand l)) c.bytes_from-rest.ensures ∙ sym all in
    record {
      value = subst (Gives c.finish.result) e c.finish.ensures.value;
      within = if_ok (λ (x : Instr × ℕ). (taken ≤ x.1) × (x.1 ≤ taken + length c.bytes_from-rest.result.now)) (λ (x : Instr × ℕ). (0 < x.1) × (x.1 ≤ length bytes)) c.finish.result (λ x w. (omega arith, omega (arith, w, size, room, length-drop c.codes.taken bytes, length-drop taken bytes))) c.finish.ensures.within;
    }
