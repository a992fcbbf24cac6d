use Rattle.std.proofs.Common.{◌≡◌, drop}
use Rattle.std.specs.List.{list_all}
use Rattle.il_flow.specs.Meanings.{stands}
use Rattle.il_flow.proofs.meaning.+stands.Given as goal

abbrev pub invariant-each_stands-loop-ty : goal.invariant-each_stands-loop-ty
invariant-each_stands-loop-ty l = list_all (stands l.types l.methods) (drop l.ty-index l.tys) ≡ list_all (stands l.types l.methods) l.tys
