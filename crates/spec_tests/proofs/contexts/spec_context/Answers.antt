use Rattle.std.proofs.Common.{◌≡◌, ◌∙◌, ◌+◌, ◌*◌, sym, ap, subst, ℕ, List, [], get_or}
use Rattle.std.specs.Prelude.{map, Option}
use Rattle.cil_base.specs.declared.tables.TheConstants.{GENERIC_PARAM_CONSTRAINT, INTERFACE_IMPL, METHOD_IMPL, TYPE_DEF}
use Rattle.set_rows.specs.Sets.{Assembly, assembly_at}
use Rattle.member_table.specs.MemberRules.{contexts}
use Rattle.spec_tests.specs.SpecTests.{IsNarrowest, context_at, shared}
use Rattle.spec_tests.proofs.UseLaws.{narrowest_all}
use Rattle.spec_tests.proofs.contexts.spec_context.Goals as goal

pub returns : goal.returns
returns c =
    let x : Assembly = assembly_at c.args.tables.now c.args.a in
    let row : ℕ = c.args.row in
    let a : IsNarrowest (map (context_at x TYPE_DEF) (get_or c.args.uses.now.types.items (row * 4 + 2) [])) c.narrowest-types.result =
    subst (λ (l : List ℕ). IsNarrowest (map (context_at x TYPE_DEF) l) c.narrowest-types.result) (c.list_at.ensures ∙ ap (λ (m : List (List ℕ)). get_or m (row * 4 + 2) []) c.as_slice.ensures.value) c.narrowest-types.ensures in
    let b : IsNarrowest (map (context_at x INTERFACE_IMPL) (get_or c.args.uses.now.interfaces.items (row * 4 + 2) [])) c.narrowest-interfaces.result =
    subst (λ (l : List ℕ). IsNarrowest (map (context_at x INTERFACE_IMPL) l) c.narrowest-interfaces.result) (c.list_at-interfaces.ensures ∙ ap (λ (m : List (List ℕ)). get_or m (row * 4 + 2) []) c.as_slice-2.ensures.value) c.narrowest-interfaces.ensures in
    let d : IsNarrowest (map (context_at x METHOD_IMPL) (get_or c.args.uses.now.firsts.items row [])) c.narrowest-firsts.result =
    subst (λ (l : List ℕ). IsNarrowest (map (context_at x METHOD_IMPL) l) c.narrowest-firsts.result) (c.list_at-2.ensures ∙ ap (λ (m : List (List ℕ)). get_or m row []) c.as_slice-3.ensures.value) c.narrowest-firsts.ensures in
    let e : IsNarrowest (map (context_at x METHOD_IMPL) (get_or c.args.uses.now.seconds.items row [])) c.narrowest-seconds.result =
    subst (λ (l : List ℕ). IsNarrowest (map (context_at x METHOD_IMPL) l) c.narrowest-seconds.result) (c.list_at-seconds.ensures ∙ ap (λ (m : List (List ℕ)). get_or m row []) c.as_slice-4.ensures.value) c.narrowest-seconds.ensures in
    let g : IsNarrowest (map (context_at x GENERIC_PARAM_CONSTRAINT) (get_or c.args.uses.now.constraints.items (row * 4 + 2) [])) c.narrowest-constraints.result =
    subst (λ (l : List ℕ). IsNarrowest (map (context_at x GENERIC_PARAM_CONSTRAINT) l) c.narrowest-constraints.result) (c.list_at-constraints.ensures ∙ ap (λ (m : List (List ℕ)). get_or m (row * 4 + 2) []) c.as_slice-5.ensures.value) c.narrowest-constraints.ensures in
    let o : shared c.narrowest-types.result (shared c.narrowest-interfaces.result (shared (shared c.narrowest-firsts.result c.narrowest-seconds.result) c.narrowest-constraints.result)) ≡ c.shared-4.result =
    sym
    (c.shared-4.ensures
    ∙ ap (shared c.narrowest-types.result)
    (c.shared-3.ensures ∙ ap (shared c.narrowest-interfaces.result) (c.shared-2.ensures ∙ ap (λ (p : Option (ℕ × ℕ)). shared p c.narrowest-constraints.result) c.shared.ensures))) in
    subst (IsNarrowest (contexts x row)) o
    (narrowest_all x c.args.uses.now.types.items c.args.uses.now.interfaces.items c.args.uses.now.constraints.items c.args.uses.now.firsts.items c.args.uses.now.seconds.items row c.narrowest-types.result
    c.narrowest-interfaces.result c.narrowest-firsts.result c.narrowest-seconds.result c.narrowest-constraints.result c.requires.uses c.requires.some c.requires.row a b d e g)
