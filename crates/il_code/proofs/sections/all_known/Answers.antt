use Rattle.std.proofs.Common.{◌≡◌, ◌+◌, ◌*◌, ℕ, false, suc, arith, sym, ap, ◌∙◌}
use Rattle.cil_model.specs.BodyLayout.{clause_at, is_kind, width}
use Rattle.il_code.proofs.SectionLaws.{one_more, stays_false}
use Rattle.il_code.proofs.sections.all_known.Goals as goal

pub returns-then-not-is_known : goal.returns-then-not-is_known
returns-then-not-is_known c =
    let s = c.args.section in
    let bytes = c.args.bytes.now in
    let at : s.from + c.width_of-size.result * c.loop-k.k ≡ s.from + width s.fat * c.loop-k.k = ap (λ (n : ℕ). s.from + n * c.loop-k.k) c.width_of-size.ensures.value in
    let clause = c.read_clause-clause.ensures ∙ ap (clause_at s.fat bytes) at in
    let bad : is_kind (clause_at s.fat bytes (s.from + width s.fat * c.loop-k.k)) ≡ false = ap is_kind (sym clause) ∙ sym c.if-not-is_known.ensures in
    sym (stays_false s.fat bytes s.from (suc c.loop-k.k) s.count (omega arith) (one_more s.fat bytes s.from c.loop-k.k false c.loop-k.invariant bad))
