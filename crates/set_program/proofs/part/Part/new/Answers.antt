use Rattle.std.proofs.Common.{◌∙◌, ap, List}
use Rattle.std.specs.Prelude.{Option}
use Rattle.set_names.specs.Names.{Name, first_under}
use Rattle.set_program.proofs.IndexLaws.{indexed}
use Rattle.set_program.proofs.part.Part.new.Goals as goal

pub invariant_of-result : goal.invariant_of-result
invariant_of-result c =
    indexed c.args.rows c.in_ok-full.full.items c.in_ok-keys.keys.items c.in_ok-types.types c.in_ok-forwarders.forwarders c.in_ok-full.ensures.names c.in_ok-keys.ensures.names
    (λ name. c.in_ok-types.ensures name ∙ ap (λ (l : List (Option Name)). first_under l name) c.as_slice.ensures.value)
    (λ name. c.in_ok-forwarders.ensures name ∙ ap (λ (l : List (Option Name)). first_under l name) c.as_slice-2.ensures.value)
