use Rattle.std.proofs.Common.{◌≡◌, ◌∙◌, ap, arith, ◌+◌, []}
use Rattle.member_table.specs.Environments.{environment_in}
use Rattle.member_numbers.specs.Types.{type_at}
use Rattle.member_numbers.proofs.TypesLaws.{pushed_row}
use Rattle.member_numbers.proofs.types.push_types.Goals as goal

pub loop-k-preserved : goal.loop-k-preserved
loop-k-preserved c =
    let row : c.args.before + c.loop-k.k + 1 ≡ c.args.before + 1 + c.loop-k.k = omega arith in
    pushed_row (type_at (environment_in c.args.assemblies.now []) c.args.a) (c.args.before + 1) c.loop-k.k c.args.types.now.items c.loop-k.types.items c.push.new.self.items c.in_ok-ty.ty
    c.in_ok-push.ensures.items c.loop-k.invariant (c.in_ok-ty.ensures ∙ ap (type_at (environment_in c.args.assemblies.now []) c.args.a) row)
