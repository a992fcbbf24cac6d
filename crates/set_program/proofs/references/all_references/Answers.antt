use Rattle.std.proofs.Common.{◌≡◌, ◌∙◌, sym, ap, refl, arith, ◌+◌, ◌-◌, ℕ, suc}
use Rattle.std.specs.Prelude.{Some, map}
use Rattle.std.proofs.lemmas.List.{append-nil}
use Rattle.cil_base.specs.Refusals.{first_of}
use Rattle.cil_base.specs.declared.refusal.Refusal.{Refusal}
use Rattle.set_rows.specs.Sets.{Assemblies, assembly_at, rows_in}
use Rattle.set_program.specs.References.{reference}
use Rattle.set_program.specs.ReferenceRules.{reference_tests}
use Rattle.set_program.proofs.ReferenceRowLaws.{some, named_on, passes_on, fails_at}
use Rattle.cil_base.specs.declared.tables.TheConstants.{TYPE_REF}
use Rattle.set_program.proofs.references.all_references.Goals as goal

pub returns-in-None-clause-refused : goal.returns-in-None-clause-refused
returns-in-None-clause-refused c =
    let s : Assemblies = c.args.set.now in
    let n : ℕ = c.count-count.result - suc c.loop-k.k in
    sym (ap (λ (r : Refusal). Some r) c.refusal.ensures
    ∙ fails_at s c.args.a (first_of (reference_tests s c.args.a)) (c.loop-k.k + 1) n (sym c.in_ok-id.ensures ∙ c.in-None.is) (c.loop-k.invariant (suc n) (omega (arith, c.loop-k-test.true))).1)

pub loop-k-preserved : goal.loop-k-preserved
loop-k-preserved c = λ n e.
    let s : Assemblies = c.args.set.now in
    let before : c.loop-k.k + suc n ≡ c.count-count.result = omega (arith, e) in
    let found : reference s c.args.a (c.loop-k.k + 1) ≡ Some c.in-Some.id = sym c.in_ok-id.ensures ∙ c.in-Some.is in (
      named_on s c.args.a (c.loop-k.k + 1) n c.loop-k.ids c.push.new.self c.in-Some.id (map (reference s c.args.a) (rows_in (assembly_at s c.args.a) TYPE_REF)) c.in_ok-push-in-Some.ensures.ok found (c.loop-k.invariant (suc n) before).0,
      passes_on s c.args.a (first_of (reference_tests s c.args.a)) (c.loop-k.k + 1) n (Some c.in-Some.id) found refl (c.loop-k.invariant (suc n) before).1,
    )

pub returns-clause-named : goal.returns-clause-named
returns-clause-named c =
    sym (append-nil (map some c.loop-k.ids)) ∙ (c.loop-k.invariant 0 (omega (arith, c.loop-k-test.false, c.loop-k.auto.k-end))).0

pub returns-clause-accepted : goal.returns-clause-accepted
returns-clause-accepted c =
    sym (c.loop-k.invariant 0 (omega (arith, c.loop-k-test.false, c.loop-k.auto.k-end))).1
