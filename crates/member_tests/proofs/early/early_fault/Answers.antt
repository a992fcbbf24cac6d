use Rattle.std.proofs.Common.{◌≡◌, ◌∙◌, sym, ap, ℕ, true, false, List}
use Rattle.std.specs.Prelude.{Some}
use Rattle.cil_base.specs.declared.refusal.Place.{Place}
use Rattle.cil_base.specs.declared.refusal.Refusal.{Refusal}
use Rattle.cli_sigs.specs.declared.types.SigTy.{SigTy}
use Rattle.set_rows.specs.Sets.{Assemblies}
use Rattle.set_types.specs.SignatureTypes.{Coded}
use Rattle.member_table.specs.MemberRules.{isnt_read}
use Rattle.member_tests.proofs.RowLaws.{miscounts_are, told_early}
use Rattle.member_tests.proofs.early.early_fault.Goals as goal

pub returns-then-any_miscounts : goal.returns-then-any_miscounts
returns-then-any_miscounts c =
    let s : Assemblies = c.args.tables.now in
    let p : Place = c.args.place in
    let tys : List SigTy = c.args.tys.now in
    ap (λ (r : Refusal). Some r) c.refusal-then-any_miscounts.ensures
    ∙ told_early s p.assembly p.table p.row tys false false false true (sym c.if-branch.false ∙ c.in_ok-isnt_read.ensures ∙ ap (λ (d : Coded). isnt_read d tys) c.coded-coded.ensures) (sym c.if-branch-2.false ∙ c.in_ok-isnt_there.ensures) (sym c.if-branch-3.false ∙ c.in_ok-is_taken_at.ensures)
    (sym c.if-any_miscounts.true ∙ c.any_miscounts.ensures ∙ miscounts_are s p.assembly c.args.parameters.now tys c.requires.parameters)

pub returns : goal.returns
returns c =
    let s : Assemblies = c.args.tables.now in
    let p : Place = c.args.place in
    let tys : List SigTy = c.args.tys.now in
    told_early s p.assembly p.table p.row tys false false false false (sym c.if-branch.false ∙ c.in_ok-isnt_read.ensures ∙ ap (λ (d : Coded). isnt_read d tys) c.coded-coded.ensures) (sym c.if-branch-2.false ∙ c.in_ok-isnt_there.ensures) (sym c.if-branch-3.false ∙ c.in_ok-is_taken_at.ensures)
    (sym c.if-any_miscounts.false ∙ c.any_miscounts.ensures ∙ miscounts_are s p.assembly c.args.parameters.now tys c.requires.parameters)
