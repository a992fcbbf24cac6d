use Rattle.member_numbers.proofs.kept.Kept.row_number.Goals.{then-a-set-via-then-a-set, then-a-set-via-else-a-set+then-row-eq0}
use Rattle.std.proofs.Common.{arith}
use Rattle.member_numbers.proofs.KeptLaws.{none_at}
use Rattle.member_numbers.proofs.kept.Kept.row_number.Goals as goal

pub returns-then-a-set : goal.returns-then-a-set
returns-then-a-set c =
    elim c.then-a-set.branch [
      | then-a-set-via-then-a-set w ↦ none_at c.args.set.now c.args.is_field c.args.self.now.starts.items c.args.self.now.old c.args.self.now.all c.args.self.now.outside c.args.self.now.rows.items c.requires c.args.a c.args.row (λ high low. absurd (omega (arith, w.if-a-set.true, high))) (λ e from. absurd (omega (arith, w.if-a-set.true, e, c.requires.some)))
      | then-a-set-via-else-a-set+then-row-eq0 w ↦ none_at c.args.set.now c.args.is_field c.args.self.now.starts.items c.args.self.now.old c.args.self.now.all c.args.self.now.outside c.args.self.now.rows.items c.requires c.args.a c.args.row (λ high low. absurd (omega (arith, w.if-row-eq0.true, low))) (λ e from. absurd (omega (arith, w.if-row-eq0.true, from)))
    ]
