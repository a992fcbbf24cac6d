use Rattle.std.proofs.Common.{ℕ, Bool, [], cond, ◌∙◌, sym, ap, arith, Vec}
use Rattle.std.specs.declared.alloc.Global.{Global}
use Rattle.std.proofs.lemmas.Bool.{lt-ltb, le-ltb}
use Rattle.std.proofs.lemmas.List.{append-nil}
use Rattle.cli_tables.specs.Stream.{count_of}
use Rattle.cil_base.specs.Bytes.{number_bytes}
use Rattle.cli_tables.specs.Written.{count_bytes}
use Rattle.cli_tables.proofs.PieceLaws.{pieces_begun, pieces_pushed}
use Rattle.cli_tables.proofs.written.push_counts.Goals as goal
use Rattle.cli_tables.proofs.written.push_counts.Goals.{then-count-gt0+in_ok-push_number, else-count-gt0}

pub loop-table-init : goal.loop-table-init
loop-table-init c = pieces_begun c.args.out.now.items (count_bytes c.args.sizes.now)

pub loop-table-preserved : goal.loop-table-preserved
loop-table-preserved c =
    let t = c.loop-table.table in
    let s = c.args.sizes.now in
    elim c.if-count-gt0.branch [
      | then-count-gt0+in_ok-push_number w ↦
          pieces_pushed c.args.out.now.items c.loop-table.out.items c.if-count-gt0.out.items (number_bytes 4 c.count-count.result) (count_bytes s) t c.loop-table.invariant
          (ap (λ (v : Vec ℕ Global). v.items) w.out-is ∙ w.in_ok-push_number.ensures)
          (ap (λ (n : ℕ). number_bytes 4 n) c.count-count.ensures ∙ sym (ap (λ (b : Bool). cond b (number_bytes 4 (count_of s t)) []) (lt-ltb 0 (count_of s t) (omega (arith, w.if-count-gt0.true, c.count-count.ensures)))))
      | else-count-gt0 w ↦
          pieces_pushed c.args.out.now.items c.loop-table.out.items c.if-count-gt0.out.items [] (count_bytes s) t c.loop-table.invariant
          (ap (λ (v : Vec ℕ Global). v.items) w.out-is ∙ sym (append-nil c.loop-table.out.items))
          (sym (ap (λ (b : Bool). cond b (number_bytes 4 (count_of s t)) []) (le-ltb 0 (count_of s t) (omega (arith, w.if-count-gt0.false, c.count-count.ensures)))))
    ]
