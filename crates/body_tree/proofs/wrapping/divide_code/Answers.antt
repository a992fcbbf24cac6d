use Rattle.std.proofs.Common.{◌∙◌, ap, arith, take, drop, List, [], ◌∷◌, ◌++◌}
use Rattle.cil_model.specs.declared.body.Instr.{Instr}
use Rattle.cil_model.specs.declared.tree.Block.{Block}
use Rattle.cil_model.specs.declared.tree.Block.TheVariants.{Code}
use Rattle.body_tree.proofs.DivisionLaws.{in_code, rest_of}
use Rattle.body_tree.proofs.wrapping.divide_code.Goals as goal

pub returns-in_ok-push-in-Code-2 : goal.returns-in_ok-push-in-Code-2
returns-in_ok-push-in-Code-2 c =
    in_code c.args.exit c.args.within c.args.block.now c.in-Code.instrs _ _ c.in_ok-turned_code-in-Code.field-0 c.in_ok-turned_code-in-Code-2.field-0 c.push.new.self c.push-in-Code.new.self c.in-Code.is (omega (arith, c.if-len-within.false, c.len.ensures)) (ap (λ (l : List Instr). take c.args.within l) c.as_slice-all.ensures) (rest_of c.as_slice-all.result.now c.args.within ∙ ap (λ (l : List Instr). drop c.args.within l) c.as_slice-all.ensures) c.in_ok-turned_code-in-Code.ensures c.in_ok-turned_code-in-Code-2.ensures
    (c.in_ok-push-in-Code.ensures.ok ∙ ap (λ (l : List Block). l ++ Code c.in_ok-turned_code-in-Code.field-0 ∷ []) c.requires.front)
    (c.in_ok-push-in-Code-2.ensures.ok ∙ ap (λ (l : List Block). l ++ Code c.in_ok-turned_code-in-Code-2.field-0 ∷ []) c.requires.inner)
