use Rattle.std.proofs.Common.{◌≡◌, ◌++◌, ℕ, drop}
use Rattle.std.specs.Prelude.{option_to_list}
use Rattle.std.specs.List.{flat_map}
use Rattle.cil_base.specs.declared.tables.TheConstants.{INTERFACE_IMPL}
use Rattle.set_rows.specs.Sets.{cell}
use Rattle.set_types.specs.CodedTypes.{coded_of}
use Rattle.set_program.specs.TypeRules.{leads_to}
use Rattle.member_table.specs.Environments.{coded_ty_at}
use Rattle.type_circles.proofs.above.push_interfaces.Given as goal

abbrev pub invariant-loop-row : goal.invariant-loop-row
invariant-loop-row l =
    l.out ++ flat_map (λ (i : ℕ). leads_to (option_to_list l.own) (coded_ty_at (coded_of l.coded) (cell l.rows INTERFACE_IMPL i 1))) (drop l.row-index l.list)
    ≡ l.initial.out ++ flat_map (λ (i : ℕ). leads_to (option_to_list l.own) (coded_ty_at (coded_of l.coded) (cell l.rows INTERFACE_IMPL i 1))) l.list
