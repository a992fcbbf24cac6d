use Rattle.std.proofs.Common.{◌≡◌, ◌∙◌, sym, ap, rules, arith, ◌<◌, ℕ, length, get_or}
use Rattle.std.proofs.lemmas.List.{length-map}
use Rattle.std.proofs.lemmas.Iterator.Consumers.{YieldsList-turn}
use Rattle.std.proofs.lemmas.Iterator.Adapters.{YieldsList-from_vec}
use Rattle.members.specs.declared.assembly_members.AssemblyMembers.{AssemblyMembers}
use Rattle.member_numbers.proofs.TypesLaws.{rows_more, coded_more}
use Rattle.member_numbers.proofs.table.assemblies.Goals as goal

pub loop-types-preserved : goal.loop-types-preserved
loop-types-preserved c =
    let turn = YieldsList-turn (YieldsList-from_vec {s = c.into_iter-types-iterator.result} c.args.coded.items (search rules) (search rules))
    c.loop-types.yielded c.loop-types.types-iterator c.loop-types.yielded_by c.next.result c.next.new.self c.in-Some.types c.in-Some.is c.next.ensures.steps in
    let below : length c.loop-types.yielded < length c.args.coded.items = turn.0 in
    let many : length c.loop-types.assemblies.items ≡ length c.loop-types.yielded = sym (length-map c.loop-types.assemblies.items (λ (m : AssemblyMembers). m.coded)) ∙ ap length c.loop-types.invariant.1 in
    let place : c.len.result ≡ length c.loop-types.assemblies.items = omega (arith, c.len.ensures, c.loop-types.assemblies.ok.0) in
    let within : length c.loop-types.assemblies.items < length c.args.set.now = omega (arith, below, many, c.requires) in (
      rows_more c.args.set.now c.loop-types.assemblies.items c.push.new.self.items c.in_ok-new.field-0 c.index-set-len.result c.in_ok-push.ensures.items within
          (c.in_ok-new.ensures.rows ∙ c.same-rows.ensures ∙ c.rows.ensures ∙ c.index-set-len.is ∙ ap (λ (n : ℕ). get_or c.args.set.now n c.index-set-len.result) place) c.loop-types.invariant.0,
      coded_more c.loop-types.assemblies.items c.push.new.self.items c.in_ok-new.field-0 c.in-Some.types c.loop-types.yielded c.in_ok-push.ensures.items c.in_ok-new.ensures.coded c.loop-types.invariant.1,
    )
