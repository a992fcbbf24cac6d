use Rattle.std.proofs.Common.{◌≡◌, ℕ, ◌+◌, Bool, true, false, List, length, get_or, sym, ap, ◌∙◌, arith}
use Rattle.std.specs.Prelude.{is_some}
use Rattle.cil_base.specs.Refusals.{first_of}
use Rattle.cil_model.specs.declared.body.Instr.{Instr}
use Rattle.contract_extract.specs.Rules.{tests_at}
use Rattle.contract_extract.proofs.TestLaws.{first-drop, or_else-some, or_else-none}
use Rattle.contract_extract.proofs.block.Block.first_refusal.Goals as goal

pub returns-then-is_some : goal.returns-then-is_some
returns-then-is_some c =
    let first : c.first_at-refusal.result ≡ first_of (tests_at c.args.self.now (c.loop-instr.instr-index, c.instr-item.result)) =
    c.first_at-refusal.ensures ∙ ap (λ (k : ℕ). first_of (tests_at c.args.self.now (k, c.instr-item.result))) c.loop-instr.invariant.0 in
    let there : is_some c.first_at-refusal.result ≡ true = sym c.is_some.ensures ∙ c.if-is_some.true in
    let split = first-drop (tests_at c.args.self.now) c.instrs-instrs.result.now c.loop-instr.instr-index c.instr-item.result c.loop-instr-test.true c.instr-item.is in
    first ∙ sym (or_else-some (first_of (tests_at c.args.self.now (c.loop-instr.instr-index, c.instr-item.result))) _ (ap is_some (sym first) ∙ there)) ∙ sym split ∙ c.loop-instr.invariant.1

pub loop-instr-preserved : goal.loop-instr-preserved
loop-instr-preserved c =
    let first : c.first_at-refusal.result ≡ first_of (tests_at c.args.self.now (c.loop-instr.instr-index, c.instr-item.result)) =
    c.first_at-refusal.ensures ∙ ap (λ (k : ℕ). first_of (tests_at c.args.self.now (k, c.instr-item.result))) c.loop-instr.invariant.0 in
    let missing : is_some c.first_at-refusal.result ≡ false = sym c.is_some.ensures ∙ c.if-is_some.false in
    let split = first-drop (tests_at c.args.self.now) c.instrs-instrs.result.now c.loop-instr.instr-index c.instr-item.result c.loop-instr-test.true c.instr-item.is in (
      ap (λ (k : ℕ). k + 1) c.loop-instr.invariant.0,
      sym (or_else-none (first_of (tests_at c.args.self.now (c.loop-instr.instr-index, c.instr-item.result))) _ (ap is_some (sym first) ∙ missing)) ∙ sym split ∙ c.loop-instr.invariant.1,
    )
