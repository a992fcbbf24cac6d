use Rattle.std.proofs.Common.{◌++◌, ◌∙◌, ap, subst, List, ℕ}
use Rattle.std.proofs.Math.Facts.{to_z-of_z}
use Rattle.std.specs.Fmt.{signed_decimal}
use Rattle.run_texts.specs.Printed.{Begun}
use Rattle.run_texts.proofs.PrintLaws.{on_err, sooner, later}
use Rattle.run_texts.proofs.print.print_number.Goals as goal

pub returns-in_err-put-clause-err : goal.returns-in_err-put-clause-err
returns-in_err-put-clause-err c =
    let text = c.as_bytes.ensures.value ∙ (c.format.ensures.text ∙ ap signed_decimal (to_z-of_z c.ranges.n)) in
    let P : List ℕ → Type 0 = λ z. Begun c.args.out.now z c.put.new.out in
    on_err c.from_residual.result (sooner (signed_decimal c.args.n) c.args.mark.now (subst P text c.in_err-put.ensures.err))

pub returns-in_err-put-2-clause-err : goal.returns-in_err-put-2-clause-err
returns-in_err-put-2-clause-err c =
    let text = c.as_bytes.ensures.value ∙ (c.format.ensures.text ∙ ap signed_decimal (to_z-of_z c.ranges.n)) in
    on_err c.from_residual-in_err-put-2.result (later c.args.out.now (signed_decimal c.args.n) c.args.mark.now (c.in_ok-put.ensures.ok ∙ ap (λ z. c.args.out.now ++ z) text) c.in_err-put-2.ensures.err)
