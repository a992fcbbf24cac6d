use Rattle.std.specs.Prelude.{length}
use Rattle.std.proofs.lemmas.Result.{IfOk-weaker}
use Rattle.cil_model.specs.ValidBody.{AllValidRegions}
use Rattle.tree_building.specs.Building.{AreBlocksOf, NestWell}
use Rattle.tree_building.specs.Spans.{blocks_of}
use Rattle.std.proofs.Common.{◌≡◌, reverse}
use Rattle.tree_building.proofs.RunLaws.{all_built}
use Rattle.tree_building.proofs.build.built_blocks.Goals as goal

pub returns : goal.returns
returns c =
    IfOk-weaker c.take_blocks.result (λ bs. bs ≡ blocks_of (reverse c.move_back.new.back)) (λ bs. NestWell c.args.body.now.regions → AllValidRegions (length c.args.body.now.instrs) c.args.body.now.regions → AreBlocksOf c.args.body.now bs)
    (λ bs e. all_built c.args.body.now c.as_slice.result.now c.as_slice-regions.result.now c.in_ok-front.front _ c.add_rows.new.front c.add_rows.new.back c.move_back.new.front c.move_back.new.back bs c.as_slice.ensures c.as_slice-regions.ensures c.in_ok-front.ensures c.new-back.ensures c.in_ok-add_rows.ensures c.in_ok-move_back.ensures.all c.in_ok-move_back.ensures.front e)
    c.take_blocks.ensures.blocks
