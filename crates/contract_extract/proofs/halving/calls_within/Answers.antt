use Rattle.std.proofs.Common.{sym, subst, List}
use Rattle.std.specs.List.{prefix_len}
use Rattle.std.specs.List.Sorted.{IsNonDecreasingBy}
use Rattle.std.proofs.lemmas.List.Sorted.{IsNonDecreasingBy-drop}
use Rattle.contract_extract.specs.declared.numbers.Counted.{Counted}
use Rattle.contract_extract.specs.Halving.{stands_before}
use Rattle.contract_extract.proofs.CheckLaws.{place_of}
use Rattle.contract_extract.proofs.halving.calls_within.Goals as goal

pub calls_up_to-requires : goal.calls_up_to-requires
calls_up_to-requires c =
    subst (IsNonDecreasingBy place_of) (sym c.calls_from.ensures) (IsNonDecreasingBy-drop place_of (prefix_len (stands_before c.args.segment.now.from) c.args.calls.now) c.args.calls.now c.requires)
