use Rattle.std.proofs.Common.{◌≡◌, ◌∙◌, ◌+◌, ◌/◌, ◌^◌, ℕ, not, ap, true}
use Rattle.std.proofs.lemmas.Bool.{ne_eqb}
use Rattle.cil_base.specs.declared.rule.Rule.TheVariants.{M3}
use Rattle.cil_base.specs.declared.refusal.Place.{Place}
use Rattle.cil_base.specs.Numbers.{num}
use Rattle.cil_base.specs.Refusals.{refusal}
use Rattle.cli_tables.specs.TableRules.{has_other_heaps}
use Rattle.cli_tables.proofs.HeaderLaws.{taken}
use Rattle.cli_tables.proofs.header.first_in_header.Goals as goal

pub returns-then-heap_sizes_of-ne0 : goal.returns-then-heap_sizes_of-ne0
returns-then-heap_sizes_of-ne0 c =
    let e : has_other_heaps c.args.stream.now ≡ true = ap not (ne_eqb (num c.args.stream.now 6 1 / 2 ^ 3) 0 (λ z. c.if-heap_sizes_of-ne0.true (ap (λ (n : ℕ). n / 2 ^ 3) c.heap_sizes_of.ensures ∙ z))) in
    taken (has_other_heaps c.args.stream.now) c.refusal.result _ _ e (c.refusal.ensures ∙ ap (λ (p : Place). refusal M3 p (c.args.offset + 6)) c.of_assembly-place.ensures)
