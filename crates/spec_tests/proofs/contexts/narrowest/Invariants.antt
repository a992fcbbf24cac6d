use Rattle.std.proofs.Common.{◌≡◌, ◌||◌, List, drop}
use Rattle.std.specs.Prelude.{map}
use Rattle.cli_sigs.specs.declared.types.SigTy.{SigTy}
use Rattle.set_rows.specs.Sets.{assembly_at}
use Rattle.set_types.specs.SignatureTypes.{Coded}
use Rattle.set_types.specs.SignatureRules.{any, passes}
use Rattle.spec_tests.specs.SpecTests.{context_at, strays_in}
use Rattle.spec_tests.proofs.contexts.narrowest.Given as goal

-- what is left of the rows, behind what was found
abbrev pub invariant-loop-row : goal.invariant-loop-row
invariant-loop-row l =
    (c : Coded) (types : List SigTy) → (passes (strays_in c types) l.found || any (strays_in c types) (map (context_at (assembly_at l.tables l.a) l.table) (drop l.row-index l.rows)))
    ≡ any (strays_in c types) (map (context_at (assembly_at l.tables l.a) l.table) l.rows)
