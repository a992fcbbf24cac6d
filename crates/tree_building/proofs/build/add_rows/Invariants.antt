use Rattle.std.proofs.Common.{◌≡◌, ◌++◌, List, [], length, reverse, take}
use Rattle.cil_model.specs.declared.body.Instr.{Instr}
use Rattle.cil_model.specs.ValidBody.{AllValidRegions}
use Rattle.tree_building.specs.Building.{IsBuilt, NestWell}
use Rattle.tree_building.proofs.RunLaws.{Rows}
use Rattle.tree_building.proofs.build.add_rows.Given as goal

abbrev pub invariant-loop-region : goal.invariant-loop-region
invariant-loop-region l = record {
  empty : l.own ≡ [];
  built : (instrs : List Instr) → NestWell l.regions → AllValidRegions (length instrs) l.regions → IsBuilt instrs l.regions [] (l.fn.front ++ reverse l.fn.back) → Rows instrs l.regions (take l.region-index l.regions) (l.front ++ reverse l.back);
}
