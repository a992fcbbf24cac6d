-- The first of the rules on regions that is broken.
use Rattle.std.proofs.Common.{◌≡◌, ◌++◌, ◌∙◌, sym, List, Option, None, arith}
use Rattle.std.specs.Prelude.{MatchOption}
use Rattle.std.specs.List.{enumerate_from}
use Rattle.cil_base.specs.declared.rule.Rule.TheVariants.{X1, X2, X3, X4}
use Rattle.cil_base.specs.declared.refusal.Place.{Place}
use Rattle.cil_base.specs.declared.refusal.Refusal.{Refusal}
use Rattle.cil_base.specs.Rules.{rule_number}
use Rattle.cil_base.specs.Refusals.{First, NoneBroken, Test}
use Rattle.cil_model.specs.declared.body.Body.{Body}
use Rattle.il_flow.specs.Lowest.{lowest}
use Rattle.il_flow.proofs.LowestLaws.{InOrder, lowest_is_first, lowest_joined, mapped, mapped_last}
use Rattle.region_tree.specs.Rules.{BreaksControl, the_tests}

in_order : (place : Place) (b : Body) → InOrder place 0 (the_tests place b)
in_order place b =
    mapped place X1 _ _ 0 b.regions _ (omega arith) (mapped place X2 _ _ (rule_number X1) (enumerate_from 0 b.regions) _ (omega arith) (mapped place X3 _ _ (rule_number X2) (enumerate_from 0 b.instrs) _ (omega arith) (mapped_last place X4 _ _ (rule_number X3) (enumerate_from 0 b.instrs) (omega arith))))

pub first_broken : (place : Place) (b : Body) → MatchOption (lowest None (the_tests place b)) (NoneBroken (BreaksControl place b)) (First (BreaksControl place b))
first_broken place b = lowest_is_first place (the_tests place b) (in_order place b)

pub lowest_of_four : (best : Option Refusal) (ws xs ys zs : List Test) → lowest (lowest (lowest (lowest best ws) xs) ys) zs ≡ lowest best (ws ++ (xs ++ (ys ++ zs)))
lowest_of_four best ws xs ys zs =
    sym (lowest_joined best ws (xs ++ (ys ++ zs)) ∙ (lowest_joined (lowest best ws) xs (ys ++ zs) ∙ lowest_joined (lowest (lowest best ws) xs) ys zs))
