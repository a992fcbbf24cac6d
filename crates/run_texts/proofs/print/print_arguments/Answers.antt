use Rattle.std.proofs.Common.{List, ℕ, codes, drop, subst, sym}
use Rattle.std.specs.List.{flat_map}
use Rattle.run_texts.specs.Printed.{Begun, more_text, value_text}
use Rattle.cil_model.specs.declared.value.Value.{Value}
use Rattle.run_texts.proofs.PrintLaws.{joined_at, later, on_err, sooner}
use Rattle.run_texts.proofs.TextLaws.{all_behind}
use Rattle.run_texts.proofs.print.print_arguments.Goals as goal

pub returns-in_err-print_value-in-len1-up-clause-err :
    goal.returns-in_err-print_value-in-len1-up-clause-err
returns-in_err-print_value-in-len1-up-clause-err c =
    let first = c.first-item.result in
    let others = drop 1 c.args.vs.now in
    let P : List ℕ → Type 0 = λ z. Begun c.args.out.now z c.print_value.new.out in
    on_err c.from_residual.result
    (subst P (sym (joined_at value_text (codes ", ") c.args.vs.now first c.first-item.is c.in-len1-up.len_at_least))
    (sooner (value_text first) (flat_map more_text others) c.in_err-print_value-in-len1-up.ensures.err))

pub returns-in_err-print_others-in-len1-up-clause-err :
    goal.returns-in_err-print_others-in-len1-up-clause-err
returns-in_err-print_others-in-len1-up-clause-err c =
    let first = c.first-item.result in
    let others = drop 1 c.args.vs.now in
    let behind = all_behind c.args.vs.now 1 c.in-len1-up.len_at_least in
    let Q : List Value → Type 0 = λ z. Begun c.print_value.new.out (flat_map more_text z) c.print_others.new.out in
    let P : List ℕ → Type 0 = λ z. Begun c.args.out.now z c.print_others.new.out in
    on_err c.from_residual-in_err-print_others-in-len1-up.result
    (subst P (sym (joined_at value_text (codes ", ") c.args.vs.now first c.first-item.is c.in-len1-up.len_at_least))
    (later c.args.out.now (value_text first) (flat_map more_text others) c.in_ok-print_value-in-len1-up.ensures.ok (subst Q behind c.in_err-print_others-in-len1-up.ensures.err)))
