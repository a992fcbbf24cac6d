use Rattle.std.proofs.Common.{◌≡◌, ◌++◌, drop}
use Rattle.std.specs.List.{flat_map}
use Rattle.set_program.specs.TypeRules.{structs_in}
use Rattle.type_circles.proofs.structs.+named.Given as goal

abbrev pub invariant-push_each-loop-ty : goal.invariant-push_each-loop-ty
invariant-push_each-loop-ty l = l.out ++ flat_map (structs_in l.structs) (drop l.ty-index l.tys) ≡ l.initial.out ++ flat_map (structs_in l.structs) l.tys
