use Rattle.std.proofs.Common.{◌≡◌, ◌∙◌, sym, ap, ℕ, Bool, true, Result, Ok, Err}
use Rattle.std.specs.Prelude.{Option, None, IfOk, if◌then◌else◌}
use Rattle.cil_model.specs.declared.ty.Ty.{Ty}
use Rattle.set_rows.specs.Sets.{Assemblies}
use Rattle.set_types.specs.SignatureTypes.{Coded}
use Rattle.set_types.specs.CodedTypes.{coded_of}
use Rattle.set_program.specs.Environment.{coded_in, ty_at}
use Rattle.member_table.specs.Environments.{coded_ty_at}
use Rattle.member_table.specs.Members.{is_type, parent_index}
use Rattle.descriptions.specs.Descriptions.{parent_ty}
use Rattle.member_facts.proofs.references.parent_type.Goals as goal

on_ok : {E : Type 0} (result : Result (Option Ty) E) (t u : Option Ty) → t ≡ u → IfOk result (λ v. v ≡ t) → IfOk result (λ v. v ≡ u)
on_ok (Ok v) t u e h = h ∙ e
on_ok (Err f) t u e h = h

pub returns-then-is_type : goal.returns-then-is_type
returns-then-is_type c =
    let s : Assemblies = c.args.tables.now in
    let a : ℕ = c.args.a in
    let parent : ℕ = c.args.parent in
    let there : is_type parent ≡ true = sym c.is_type.ensures ∙ c.if-is_type.true in
    let same : coded_ty_at (coded_of c.coded.result.now) c.parent_index.result ≡ parent_ty s a parent =
    ap (λ (k : Coded). coded_ty_at k c.parent_index.result) c.coded.ensures
    ∙ ap (coded_ty_at (coded_in s a)) c.parent_index.ensures
    ∙ ap (λ (b : Bool). if b then ty_at s a (parent_index parent) else None) (sym there) in
    on_ok c.type_at_index.result (coded_ty_at (coded_of c.coded.result.now) c.parent_index.result) (parent_ty s a parent) same c.type_at_index.ensures
