use Rattle.std.proofs.Common.{◌≡◌, List, [], subst, sym}
use Rattle.cli_sigs.specs.declared.elements.MethodKind.TheVariants.{Method}
use Rattle.cli_sigs.specs.Numbers.{Shortest}
use Rattle.cli_sigs.specs.Grammar.{IsMethodSig, IsMethodSigBy, IsType, IsTypeBy}
use Rattle.cli_sigs.specs.Reading.{type_at, method_at}
use Rattle.cli_sigs.proofs.KindLaws.{reads-methods}
use Rattle.cli_sigs.proofs.Longest.{one_value}
use Rattle.cli_sigs.proofs.PrintLaws.{from_empty}
use Rattle.cli_sigs.proofs.SpellingLaws.{method_any, type_any}
use Rattle.cli_sigs.proofs.printing.print_method_sig.Goals as goal

pub returns-clause-shortest : goal.returns-clause-shortest
returns-clause-shortest c = rw c.from_vec.ensures (from_empty (IsMethodSigBy Shortest) c.push_method.new.out.items c.args.sig.now (rw c.new-out.ensures.items at c.in_ok-push_method.ensures))

pub returns-clause-spelled : goal.returns-clause-spelled
returns-clause-spelled c = method_any (IsTypeBy Shortest 1000) (IsType 1000) (type_any 1000) Method _ c.args.sig.now (returns-clause-shortest c)

pub returns-clause-reads_back : goal.returns-clause-reads_back
returns-clause-reads_back c =
    λ read h. one_value IsMethodSig (method_at Method (type_at 999)) (reads-methods Method) _ read c.args.sig.now h (returns-clause-spelled c)
