use Rattle.std.proofs.Common.{◌≡◌, ◌∙◌, ◌&&◌, ℕ, eqb, length, sym, ap, arith, below_more, true}
use Rattle.cil_base.specs.Numbers.{num}
use Rattle.cli_tables.specs.Schema.{columns_of}
use Rattle.cli_tables.specs.Stream.{has_bit}
use Rattle.cli_tables.specs.TableRules.{is_unread, has_unread}
use Rattle.cli_tables.proofs.HeaderLaws.{any_range, none_range}
use Rattle.cli_tables.proofs.header.has_unread.Goals as goal

same : (valid number t : ℕ) → valid ≡ number → (has_bit valid t && eqb (length (columns_of t)) 0) ≡ (has_bit number t && eqb (length (columns_of t)) 0)
same valid number t e = ap (λ (v : ℕ). has_bit v t && eqb (length (columns_of t)) 0) e

pub returns-then-is_unread : goal.returns-then-is_unread
unfolding has_unread
returns-then-is_unread c =
    let t = c.loop-table.table in
    let here : is_unread c.args.stream.now t ≡ true = sym (same c.valid_of-valid.result (num c.args.stream.now 8 8) t c.valid_of-valid.ensures) ∙ sym c.is_unread.ensures ∙ c.if-is_unread.true in
    sym (any_range (is_unread c.args.stream.now) 0 64 t (omega arith) (omega arith) here)

pub loop-table-preserved : goal.loop-table-preserved
loop-table-preserved c =
    let t = c.loop-table.table in
    below_more _ _ c.loop-table.invariant
    (sym (same c.valid_of-valid.result (num c.args.stream.now 8 8) t c.valid_of-valid.ensures) ∙ sym c.is_unread.ensures ∙ c.if-is_unread.false)

pub returns : goal.returns
unfolding has_unread
returns c = sym (none_range (is_unread c.args.stream.now) 0 64 (λ k le lt. c.loop-table.invariant k (omega arith)))
