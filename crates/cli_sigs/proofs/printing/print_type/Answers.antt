use Rattle.cli_sigs.specs.declared.elements.Slot.TheVariants.{Plain}
use Rattle.cli_sigs.specs.Numbers.{Shortest}
use Rattle.cli_sigs.specs.Grammar.{IsTypeSpec, IsTypeSpecBy}
use Rattle.cli_sigs.specs.Reading.{type_at}
use Rattle.cli_sigs.proofs.KindLaws.{reads-spec}
use Rattle.cli_sigs.proofs.Longest.{one_value}
use Rattle.cli_sigs.proofs.PrintLaws.{from_empty}
use Rattle.cli_sigs.proofs.SpellingLaws.{type_any}
use Rattle.cli_sigs.proofs.printing.print_type.Goals as goal

pub returns-clause-shortest : goal.returns-clause-shortest
returns-clause-shortest c = rw c.from_vec.ensures (from_empty (IsTypeSpecBy Shortest) c.push_type.new.out.items c.args.ty.now (rw c.new-out.ensures.items at c.in_ok-push_type.ensures))

pub returns-clause-spelled : goal.returns-clause-spelled
returns-clause-spelled c = type_any 1000 Plain _ c.args.ty.now (returns-clause-shortest c)

pub returns-clause-reads_back : goal.returns-clause-reads_back
returns-clause-reads_back c =
    λ read h. one_value IsTypeSpec (type_at 999 Plain) (reads-spec Plain) _ read c.args.ty.now h (returns-clause-spelled c)
