use Rattle.std.proofs.Common.{◌≡◌, ◌∙◌, sym, ap, arith, rules, ℕ, ◌<◌, ◌≤◌, Bool, true, false, Result, Ok, Err, get_or}
use Rattle.std.specs.Prelude.{◌&&◌, nat_lt, nat_le, Option, None, IfOk, if◌then◌else◌}
use Rattle.std.proofs.lemmas.List.{get_or_default}
use Rattle.cil_base.specs.declared.tables.TheConstants.{MEMBER_REF}
use Rattle.cil_model.specs.declared.ty.Ty.{Ty}
use Rattle.set_rows.specs.Sets.{Assembly, Assemblies, no_assembly, assembly_at, count_in, is_row, cell}
use Rattle.member_table.specs.Members.{member}
use Rattle.descriptions.specs.declared.facts.NamedMember.{NamedMember}
use Rattle.descriptions.specs.Descriptions.{of_named, parent_ty, reference_at}
use Rattle.member_facts.proofs.references.reference_at.Goals as goal

on_ok : {E : Type 0} (result : Result (Option NamedMember) E) (m n : Option NamedMember) → m ≡ n → IfOk result (λ v. v ≡ m) → IfOk result (λ v. v ≡ n)
on_ok (Ok v) m n e h = h ∙ e
on_ok (Err f) m n e h = h

lt_true : (a b : ℕ) → a < b → nat_lt a b ≡ true
lt_true a b h = search (rules, h)

le_true : (a b : ℕ) → a ≤ b → nat_le a b ≡ true
le_true a b h = search (rules, h)

both_true : (a b : Bool) → a ≡ true → b ≡ true → (a && b) ≡ true
both_true true b e f = f
both_true false b e f = e

-- what a row names that is there
row_there : (s : Assemblies) (a row : ℕ) → is_row (assembly_at s a) MEMBER_REF row ≡ true
    → of_named s (parent_ty s a (cell (assembly_at s a) MEMBER_REF row 0)) (member s a row) ≡ reference_at s a row
unfolding reference_at
row_there s a row e = sym (ap (λ (b : Bool). if b then of_named s (parent_ty s a (cell (assembly_at s a) MEMBER_REF row 0)) (member s a row) else None) e)

pub returns : goal.returns
returns c =
    let s : Assemblies = c.args.tables.now in
    let a : ℕ = c.args.a in
    let row : ℕ = c.args.row in
    let here : c.index-set-a.result ≡ assembly_at s a =
    c.index-set-a.is ∙ ap (λ (l : Assemblies). get_or l a c.index-set-a.result) c.set.ensures ∙ sym (get_or_default s a no_assembly c.index-set-a.result c.requires) in
    let count : c.count.result ≡ count_in (assembly_at s a) MEMBER_REF = c.count.ensures ∙ ap (λ (x : Assembly). count_in x MEMBER_REF) here in
    let some : 0 < row = omega (arith, c.if-row-eq0.false) in
    let high : row ≤ count_in (assembly_at s a) MEMBER_REF = omega (arith, c.if-row-count.false, count) in
    let there : is_row (assembly_at s a) MEMBER_REF row ≡ true =
    both_true (nat_lt 0 row) (nat_le row (count_in (assembly_at s a) MEMBER_REF)) (lt_true 0 row some) (le_true row (count_in (assembly_at s a) MEMBER_REF) high) in
    let parent : c.cell.result ≡ cell (assembly_at s a) MEMBER_REF row 0 = c.cell.ensures ∙ ap (λ (x : Assembly). cell x MEMBER_REF row 0) here in
    let ty : c.in_ok-ty.ty ≡ parent_ty s a (cell (assembly_at s a) MEMBER_REF row 0) = c.in_ok-ty.ensures ∙ ap (parent_ty s a) parent in
    let same : of_named c.numbers.result.now c.in_ok-ty.ty c.in_ok-named.named ≡ reference_at s a row =
    ap (λ (n : Assemblies). of_named n c.in_ok-ty.ty c.in_ok-named.named) c.numbers.ensures
    ∙ ap (λ (t : Option Ty). of_named s t c.in_ok-named.named) ty
    ∙ ap (of_named s (parent_ty s a (cell (assembly_at s a) MEMBER_REF row 0))) c.in_ok-named.ensures
    ∙ row_there s a row there in
    on_ok c.of_named.result (of_named c.numbers.result.now c.in_ok-ty.ty c.in_ok-named.named) (reference_at s a row) same c.of_named.ensures
