use Rattle.std.proofs.Common.{refl}
use Rattle.std.proofs.lemmas.Result.{on_ok_weaker}
use Rattle.body_tree.proofs.DivisionLaws.{all_divided, rest_of}
use Rattle.body_tree.proofs.wrapping.divide.Goals as goal

pub returns : goal.returns
returns c = on_ok_weaker c.append.result (λ e. all_divided c.args.exit c.args.from c.in_ok-at.at.within c.in_ok-at.at.block c.args.blocks.now c.args.front.now _ _ c.put_copies.new.out c.divide_rest.new.front c.divide_rest.new.inner c.append.new.self c.requires.front refl (rest_of c.args.blocks.now c.in_ok-at.at.block) c.in_ok-put_copies.ensures c.in_ok-divide_rest.ensures c.in_ok-at.ensures.1 e) c.append.ensures
