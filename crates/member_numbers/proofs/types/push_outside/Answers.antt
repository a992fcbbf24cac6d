use Rattle.std.proofs.Common.{◌≡◌, ◌∙◌, ap, refl, List, [], ◌∷◌, ◌++◌}
use Rattle.std.specs.Prelude.{None}
use Rattle.cli_sigs.specs.declared.types.SigTy.{SigTy}
use Rattle.members.specs.declared.set_type.SetType.{SetType}
use Rattle.member_numbers.specs.Types.{outside_type}
use Rattle.member_numbers.proofs.TypesLaws.{pushed_row}
use Rattle.member_numbers.proofs.types.push_outside.Goals as goal

pub loop-k-preserved : goal.loop-k-preserved
loop-k-preserved c =
    let with_args : List SigTy → SetType = λ a. record { assembly = c.args.assemblies; row = 0; base = None; args = a } in
    let pushed : c.push.new.self.items ≡ c.loop-k.types.items ++ outside_type c.args.assemblies ∷ [] = c.in_ok-push.ensures.items ∙ ap (λ (a : List SigTy). c.loop-k.types.items ++ with_args a ∷ []) c.new.ensures in
    pushed_row (λ k. outside_type c.args.assemblies) 0 c.loop-k._k c.args.types.now.items c.loop-k.types.items c.push.new.self.items (outside_type c.args.assemblies)
    pushed c.loop-k.invariant refl
