use Rattle.std.proofs.Common.{[]}
use Rattle.cli_sigs.specs.declared.elements.Slot.TheVariants.{Plain}
use Rattle.cli_sigs.specs.Numbers.{Shortest}
use Rattle.cli_sigs.specs.Grammar.{Counted, CountedBy, IsType, IsTypeBy, IsMethodSpec, IsMethodSpecBy}
use Rattle.cli_sigs.specs.Reading.{list_at}
use Rattle.cli_sigs.proofs.KindLaws.{reads-list}
use Rattle.cli_sigs.proofs.Longest.{one_value}
use Rattle.cli_sigs.proofs.PrintLaws.{from_empty, behind_adds}
use Rattle.cli_sigs.proofs.SpellingLaws.{behind_any, counted, type_any}
use Rattle.cli_sigs.proofs.printing.print_method_spec.Goals as goal

pub returns-clause-shortest : goal.returns-clause-shortest
returns-clause-shortest c =
    let first = rw c.new-out.ensures.items at c.in_ok-push_byte.ensures in
    rw c.from_vec.ensures
    (from_empty (IsMethodSpecBy Shortest) c.push_types.new.out.items c.args.args.now
    (behind_adds (CountedBy Shortest (IsTypeBy Shortest 1000 Plain)) 0x0A c.args.args.now [] c.push_byte.new.out.items c.push_types.new.out.items first (rw c.as_slice.ensures at c.in_ok-push_types.ensures)))

pub returns-clause-spelled : goal.returns-clause-spelled
returns-clause-spelled c =
    behind_any 0x0A (CountedBy Shortest (IsTypeBy Shortest 1000 Plain)) (Counted (IsType 1000 Plain)) (counted (IsTypeBy Shortest 1000 Plain) (IsType 1000 Plain) (type_any 1000 Plain)) _ c.args.args.now (returns-clause-shortest c)

pub returns-clause-reads_back : goal.returns-clause-reads_back
returns-clause-reads_back c =
    λ read h. one_value IsMethodSpec (list_at 0x0A 999 Plain) (reads-list 0x0A Plain) _ read c.args.args.now h (returns-clause-spelled c)
