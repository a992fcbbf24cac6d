use Rattle.std.proofs.Common.{ap, ◌*◌, ℕ}
use Rattle.std.specs.Prelude.{Some}
use Rattle.set_rows.specs.Sets.{assembly_at}
use Rattle.set_program.specs.Kinds.{generics}
use Rattle.type_table.proofs.RowLaws.{row_more}
use Rattle.member_rules.proofs.parameters.definition_counts.Goals as goal

pub loop-k-preserved : goal.loop-k-preserved
loop-k-preserved c =
    row_more (λ (row : ℕ). Some (generics (assembly_at c.args.set.now c.args.a) (row * 2))) c.loop-k.k c.loop-k.found.items c.push.new.self.items (Some c.generics.result)
    c.in_ok-push.ensures.items (ap (λ (n : ℕ). Some n) c.generics.ensures) c.loop-k.invariant
