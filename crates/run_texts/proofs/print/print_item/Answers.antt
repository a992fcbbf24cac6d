use Rattle.std.proofs.Common.{◌++◌, ◌∙◌, List, ℕ, ap, codes, subst}
use Rattle.run_texts.specs.Printed.{Begun, call_text, reply_text}
use Rattle.run_texts.proofs.PrintLaws.{later, on_err, sooner}
use Rattle.run_texts.proofs.print.print_item.Goals as goal

pub returns-in_err-print_call-clause-err : goal.returns-in_err-print_call-clause-err
returns-in_err-print_call-clause-err c =
    let t = c.args.t.now in
    let call = ap (λ z. call_text z c.as_slice-2.result.now) c.as_slice.ensures ∙ ap (λ z. call_text t.member z) c.as_slice-2.ensures in
    let P : List ℕ → Type 0 = λ z. Begun c.args.out.now z c.print_call.new.out in
    on_err c.from_residual.result
    (sooner (call_text t.member t.args) (reply_text t.reply.result ++ codes "\n") (subst P call c.in_err-print_call.ensures.err))

pub returns-in_err-print_reply-clause-err : goal.returns-in_err-print_reply-clause-err
returns-in_err-print_reply-clause-err c =
    let t = c.args.t.now in
    let call = ap (λ z. call_text z c.as_slice-2.result.now) c.as_slice.ensures ∙ ap (λ z. call_text t.member z) c.as_slice-2.ensures in
    let called = c.in_ok-print_call.ensures.ok ∙ ap (λ z. c.args.out.now ++ z) call in
    on_err c.from_residual-in_err-print_reply.result
    (later c.args.out.now (call_text t.member t.args) (reply_text t.reply.result ++ codes "\n") called
    (sooner (reply_text t.reply.result) (codes "\n") c.in_err-print_reply.ensures.err))

pub returns-in_err-put-clause-err : goal.returns-in_err-put-clause-err
returns-in_err-put-clause-err c =
    let t = c.args.t.now in
    let call = ap (λ z. call_text z c.as_slice-2.result.now) c.as_slice.ensures ∙ ap (λ z. call_text t.member z) c.as_slice-2.ensures in
    let called = c.in_ok-print_call.ensures.ok ∙ ap (λ z. c.args.out.now ++ z) call in
    on_err c.from_residual-in_err-put.result
    (later c.args.out.now (call_text t.member t.args) (reply_text t.reply.result ++ codes "\n") called
    (later c.print_call.new.out (reply_text t.reply.result) (codes "\n") c.in_ok-print_reply.ensures.ok c.in_err-put.ensures.err))
