use Rattle.std.proofs.Common.{◌≡◌, ◌∙◌, sym, ap, ℕ}
use Rattle.std.proofs.lemmas.List.{get_or_default}
use Rattle.cil_base.specs.declared.tables.TheConstants.{TYPE_DEF}
use Rattle.set_rows.specs.Sets.{Assembly, Assemblies, assembly_at, no_assembly, count_in}
use Rattle.member_rules.proofs.ParameterLaws.{are_parameters}
use Rattle.member_rules.proofs.parameters.parameter_counts.Goals as goal

pub returns : goal.returns
returns c =
    let s : Assemblies = c.args.set.now in
    let a : ℕ = c.args.a in
    let there : c.index-set-a.result ≡ assembly_at s a = c.index-set-a.is ∙ sym (get_or_default s a no_assembly c.index-set-a.result c.requires.there) in
    are_parameters s a (record { defs = c.in_ok-defs.defs; refs = c.in_ok-refs.refs }) c.count-count.result c.args.references.now
    (c.count-count.ensures ∙ ap (λ (x : Assembly). count_in x TYPE_DEF) there) c.requires.references c.in_ok-defs.ensures c.in_ok-refs.ensures
