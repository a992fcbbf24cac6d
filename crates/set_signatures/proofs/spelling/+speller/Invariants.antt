use Rattle.std.proofs.Common.{◌≡◌, ◌+◌, ◌*◌, drop}
use Rattle.set_types.specs.CodedTypes.{coded_of}
use Rattle.set_signatures.specs.Spelling.{behind, spelled_all, spelled_within}
use Rattle.set_signatures.proofs.spelling.+speller.Given as goal

abbrev pub decreases-spell_type : goal.decreases-spell_type
decreases-spell_type l = 5 * l.depth

abbrev pub decreases-spell_coded : goal.decreases-spell_coded
decreases-spell_coded l = 5 * l.depth + 1

abbrev pub decreases-spell_all : goal.decreases-spell_all
decreases-spell_all l = 5 * l.depth + 1

abbrev pub decreases-spell_behind : goal.decreases-spell_behind
decreases-spell_behind l = 5 * l.depth + 1

abbrev pub decreases-spell_open : goal.decreases-spell_open
decreases-spell_open l = 5 * l.depth + 2

abbrev pub decreases-spell_layer : goal.decreases-spell_layer
decreases-spell_layer l = 5 * l.depth + 4

abbrev pub decreases-spell_instance : goal.decreases-spell_instance
decreases-spell_instance l = 5 * l.depth + 2

abbrev pub decreases-spell_modified : goal.decreases-spell_modified
decreases-spell_modified l = 5 * l.depth + 2

abbrev pub decreases-spell_function : goal.decreases-spell_function
decreases-spell_function l = 5 * l.depth + 3

-- what is left of the list
abbrev pub invariant-spell_all-loop-ty : goal.invariant-spell_all-loop-ty
invariant-spell_all-loop-ty l =
    behind l.initial.out (spelled_all (spelled_within (coded_of l.coded) l.args l.depth) l.tys) ≡ behind l.out (spelled_all (spelled_within (coded_of l.coded) l.args l.depth) (drop l.ty-index l.tys))
