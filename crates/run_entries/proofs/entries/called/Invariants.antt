use Rattle.std.proofs.Common.{◌≡◌, ◌+◌, ◌≤◌, drop}
use Rattle.std.specs.Prelude.{option_map}
use Rattle.run_entries.specs.Entries.{first_where, is_called}
use Rattle.run_entries.proofs.entries.called.Given as goal

abbrev pub invariant-loop-desc : goal.invariant-loop-desc
invariant-loop-desc l =
    (l.count ≤ l.desc-index)
    × (option_map (λ i. l.count + i) (first_where (is_called l.program l.assembly l.type_name l.method_name) (drop l.desc-index l.program.methods))
    ≡ first_where (is_called l.program l.assembly l.type_name l.method_name) l.program.methods)
