use Rattle.std.proofs.Common.{◌≡◌, ◌∙◌, sym, ap, ℕ, length, true, false}
use Rattle.std.specs.Prelude.{is_some}
use Rattle.cil_base.specs.declared.tables.TheConstants.{METHOD_SPEC}
use Rattle.set_rows.specs.Sets.{Assembly, Assemblies, assembly_at, blob, cell}
use Rattle.set_types.specs.SignatureRules.{isnt_count}
use Rattle.set_signatures.specs.Blobs.{instance_sigs}
use Rattle.member_table.specs.MemberRules.{indexed_parameters, is_unfit}
use Rattle.member_tests.proofs.RowLaws.{stops_early, ends_late}
use Rattle.spec_tests.proofs.InstanceLaws.{count_is}
use Rattle.spec_tests.proofs.rows.instance_types_fault.Goals as goal

pub returns-then-is_some : goal.returns-then-is_some
returns-then-is_some c =
    let some : is_some c.in_ok-early.early ≡ true = sym c.is_some.ensures ∙ c.if-is_some.true in
    stops_early c.args.tables.now c.args.a METHOD_SPEC c.args.row c.args.tys.now c.requires.types c.in_ok-early.early c.in_ok-early.ensures some

pub returns : goal.returns
returns c =
    let s : Assemblies = c.args.tables.now in
    let a : ℕ = c.args.a in
    let x : Assembly = assembly_at s a in
    let row : ℕ = c.args.row in
    let none : is_some c.in_ok-early.early ≡ false = sym c.is_some.ensures ∙ c.if-is_some.false in
    let unfit : c.in_ok-unfit.unfit ≡ is_unfit s a METHOD_SPEC row c.args.tys.now =
    c.in_ok-unfit.ensures
    ∙ ap (λ (n : ℕ). isnt_count n (indexed_parameters s a (cell x METHOD_SPEC row 0))) (ap length c.requires.types ∙ count_is (instance_sigs (blob x METHOD_SPEC row 1))) in
    ends_late s a METHOD_SPEC row c.args.tys.now c.requires.types c.in_ok-early.early c.unfit_fault.result c.in_ok-unfit.unfit c.in_ok-early.ensures none unfit c.unfit_fault.ensures
