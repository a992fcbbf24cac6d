use Rattle.std.proofs.Common.{ℕ}
use Rattle.type_table.proofs.RowLaws.{row_more}
use Rattle.member_table.specs.declared.named.MemberId.TheVariants as id
use Rattle.descriptions.specs.Descriptions.{number_in}
use Rattle.member_facts.proofs.facts.row_numbers.Goals as goal

pub loop-k-preserved : goal.loop-k-preserved
loop-k-preserved c =
    row_more (λ (row : ℕ). number_in c.args.numbers.now c.args.is_field (id.Row c.args.a row)) c.loop-k.k c.loop-k.found.items c.push.new.self.items c.number_of_row.result
    c.in_ok-push.ensures.items c.number_of_row.ensures c.loop-k.invariant
