use Rattle.std.proofs.Common.{rules}
use Rattle.std.proofs.lemmas.Result.{on_ok_weaker}
use Rattle.body_tree.proofs.DivisionLaws.{rest_divided, rest_of}
use Rattle.body_tree.proofs.wrapping.divide_rest.Goals as goal

pub returns : goal.returns
returns c = on_ok_weaker c.put_copies-2.result (λ adds. rest_divided c.args.exit c.args.within c.args.blocks.now _ c.divide_code.new.front c.divide_code.new.inner c.put_copies-2.new.out c.index-blocks-0.result c.index-blocks-0.result (search rules) c.index-blocks-0.is (rest_of c.args.blocks.now 1) c.in_ok-divide_code.ensures adds) c.put_copies-2.ensures
