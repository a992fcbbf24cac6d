use Rattle.std.proofs.Common.{[]}
use Rattle.cli_sigs.specs.declared.elements.Slot.TheVariants.{Local}
use Rattle.cli_sigs.specs.Numbers.{Shortest}
use Rattle.cli_sigs.specs.Grammar.{Counted, CountedBy, IsType, IsTypeBy, IsLocals, IsLocalsBy}
use Rattle.cli_sigs.specs.Reading.{list_at}
use Rattle.cli_sigs.proofs.KindLaws.{reads-list}
use Rattle.cli_sigs.proofs.Longest.{one_value}
use Rattle.cli_sigs.proofs.PrintLaws.{from_empty, behind_adds}
use Rattle.cli_sigs.proofs.SpellingLaws.{behind_any, counted, type_any}
use Rattle.cli_sigs.proofs.printing.print_locals.Goals as goal

pub returns-clause-shortest : goal.returns-clause-shortest
returns-clause-shortest c =
    let first = rw c.new-out.ensures.items at c.in_ok-push_byte.ensures in
    rw c.from_vec.ensures
    (from_empty (IsLocalsBy Shortest) c.push_types.new.out.items c.args.types.now
    (behind_adds (CountedBy Shortest (IsTypeBy Shortest 1000 Local)) 0x07 c.args.types.now [] c.push_byte.new.out.items c.push_types.new.out.items first (rw c.as_slice.ensures at c.in_ok-push_types.ensures)))

pub returns-clause-spelled : goal.returns-clause-spelled
returns-clause-spelled c =
    behind_any 0x07 (CountedBy Shortest (IsTypeBy Shortest 1000 Local)) (Counted (IsType 1000 Local)) (counted (IsTypeBy Shortest 1000 Local) (IsType 1000 Local) (type_any 1000 Local)) _ c.args.types.now (returns-clause-shortest c)

pub returns-clause-reads_back : goal.returns-clause-reads_back
returns-clause-reads_back c =
    λ read h. one_value IsLocals (list_at 0x07 999 Local) (reads-list 0x07 Local) _ read c.args.types.now h (returns-clause-spelled c)
