use Rattle.std.proofs.Common.{◌≡◌, length}
use Rattle.std.specs.Prelude.{reverse}
use Rattle.set_program.specs.TypeNames.{own_name, path_name, nested_names}
use Rattle.cil_base.specs.declared.tables.TheConstants.{TYPE_DEF}
use Rattle.set_program.proofs.full_names.path_name.Given as goal

-- the name so far, and those of what is left of the path
abbrev pub invariant-loop-row : goal.invariant-loop-row
invariant-loop-row l = nested_names (own_name l.rows TYPE_DEF) l.name (reverse l.path.items) ≡ path_name (own_name l.rows TYPE_DEF) (reverse l.fn.path.items)

abbrev pub decreases-loop-row : goal.decreases-loop-row
decreases-loop-row l = length l.path.items
