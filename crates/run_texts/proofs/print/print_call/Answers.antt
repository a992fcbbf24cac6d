use Rattle.std.proofs.Common.{◌++◌, codes}
use Rattle.run_texts.specs.Printed.{arguments_text, name_text}
use Rattle.run_texts.proofs.PrintLaws.{later, on_err, sooner}
use Rattle.run_texts.proofs.print.print_call.Goals as goal

pub returns-in_err-put-clause-err : goal.returns-in_err-put-clause-err
returns-in_err-put-clause-err c =
    on_err c.from_residual.result
    (sooner (codes "call ") (name_text c.args.member.now ++ (codes "(" ++ (arguments_text c.args.args.now ++ codes ") -> "))) c.in_err-put.ensures.err)

pub returns-in_err-print_name-clause-err : goal.returns-in_err-print_name-clause-err
returns-in_err-print_name-clause-err c =
    on_err c.from_residual-in_err-print_name.result
    (later c.args.out.now (codes "call ") (name_text c.args.member.now ++ (codes "(" ++ (arguments_text c.args.args.now ++ codes ") -> "))) c.in_ok-put.ensures.ok (sooner (name_text c.args.member.now) (codes "(" ++ (arguments_text c.args.args.now ++ codes ") -> ")) c.in_err-print_name.ensures.err))

pub returns-in_err-put-2-clause-err : goal.returns-in_err-put-2-clause-err
returns-in_err-put-2-clause-err c =
    on_err c.from_residual-in_err-put-2.result
    (later c.args.out.now (codes "call ") (name_text c.args.member.now ++ (codes "(" ++ (arguments_text c.args.args.now ++ codes ") -> "))) c.in_ok-put.ensures.ok (later c.put.new.out (name_text c.args.member.now) (codes "(" ++ (arguments_text c.args.args.now ++ codes ") -> ")) c.in_ok-print_name.ensures.ok (sooner (codes "(") (arguments_text c.args.args.now ++ codes ") -> ") c.in_err-put-2.ensures.err)))

pub returns-in_err-print_arguments-clause-err : goal.returns-in_err-print_arguments-clause-err
returns-in_err-print_arguments-clause-err c =
    on_err c.from_residual-in_err-print_arguments.result
    (later c.args.out.now (codes "call ") (name_text c.args.member.now ++ (codes "(" ++ (arguments_text c.args.args.now ++ codes ") -> "))) c.in_ok-put.ensures.ok (later c.put.new.out (name_text c.args.member.now) (codes "(" ++ (arguments_text c.args.args.now ++ codes ") -> ")) c.in_ok-print_name.ensures.ok (later c.print_name.new.out (codes "(") (arguments_text c.args.args.now ++ codes ") -> ") c.in_ok-put-2.ensures.ok (sooner (arguments_text c.args.args.now) (codes ") -> ") c.in_err-print_arguments.ensures.err))))

pub returns-in_err-put-3-clause-err : goal.returns-in_err-put-3-clause-err
returns-in_err-put-3-clause-err c =
    on_err c.from_residual-in_err-put-3.result
    (later c.args.out.now (codes "call ") (name_text c.args.member.now ++ (codes "(" ++ (arguments_text c.args.args.now ++ codes ") -> "))) c.in_ok-put.ensures.ok (later c.put.new.out (name_text c.args.member.now) (codes "(" ++ (arguments_text c.args.args.now ++ codes ") -> ")) c.in_ok-print_name.ensures.ok (later c.print_name.new.out (codes "(") (arguments_text c.args.args.now ++ codes ") -> ") c.in_ok-put-2.ensures.ok (later c.put-2.new.out (arguments_text c.args.args.now) (codes ") -> ") c.in_ok-print_arguments.ensures.ok c.in_err-put-3.ensures.err))))
