use Rattle.std.proofs.Common.{◌∙◌, ◌++◌, [], ◌∷◌, ap, refl, subst, List}
use Rattle.cil_model.specs.declared.tree.Block.{Block}
use Rattle.cil_model.specs.declared.tree.Block.TheVariants.{Guarded}
use Rattle.cil_model.specs.declared.tree.Handler.{Handler}
use Rattle.region_tree.specs.Trees.{code}
use Rattle.body_tree.specs.Division.{IsDivided}
use Rattle.body_tree.proofs.DivisionLaws.{within_code, wraps}
use Rattle.body_tree.proofs.wrapping.wrapped.Goals as goal

pub returns : goal.returns
returns c =
    let divided : IsDivided c.args.from c.in_ok-exit.exit c.args.tree.now.blocks c.divide.new.front c.divide.new.inner = subst (λ (l : List Block). IsDivided c.args.from c.in_ok-exit.exit l c.divide.new.front c.divide.new.inner) c.as_slice.ensures c.in_ok-divide.ensures in (
      wraps c.args.tree.now _ c.args.from c.in_ok-exit.exit c.args.handler c.divide.new.front c.divide.new.inner divided c.in_ok-exit.ensures
          (c.in_ok-push-2.ensures.ok ∙ ap (λ (hs : List Handler). c.divide.new.front ++ Guarded c.divide.new.inner hs ∷ []) (c.in_ok-push.ensures.ok ∙ ap (λ (hs : List Handler). hs ++ c.args.handler ∷ []) c.new-handlers.ensures))
          refl refl refl,
      within_code c.args.from (code c.args.tree.now.blocks) (code c.divide.new.front) divided.size divided.before,
    )
