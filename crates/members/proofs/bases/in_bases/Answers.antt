use Rattle.std.proofs.Common.{◌≡◌, ◌∙◌, sym, ap, arith, ◌-◌, ℕ, suc, List, [], length}
use Rattle.std.specs.Prelude.{Some, None, slice_get}
use Rattle.std.specs.Option.{option_copied}
use Rattle.members.specs.Bases.{base_arguments, declares, in_bases}
use Rattle.members.proofs.ListLaws.{none_else, none_mapped, some_mapped}
use Rattle.members.proofs.BaseLaws.{type_missing, type_hit, type_ends, type_stops, type_goes, types_over}
use Rattle.members.proofs.bases.in_bases.Goals as goal

pub returns-in_default : goal.returns-in_default
returns-in_default c =
    let n : ℕ = length c.args.types.now - suc c.loop-n._n in
    let e : slice_get c.args.types.now c.loop-n.number ≡ None = sym c.at.ensures ∙ ap option_copied (none_else c.at.result c.in_default.not-Some) in
    type_missing c.args.assemblies.now c.args.types.now c.args.x.now (in_bases c.args.assemblies.now c.args.types.now c.args.x.now (length c.args.types.now) [] c.args.k) n c.loop-n.args.items c.loop-n.number e
    (c.loop-n.invariant (suc n) (omega (arith, c.loop-n-test.true)))

pub returns-in-Some-2 : goal.returns-in-Some-2
returns-in-Some-2 c =
    let n : ℕ = length c.args.types.now - suc c.loop-n._n in
    let e : slice_get c.args.types.now c.loop-n.number ≡ Some c.in-Some.of.now = sym c.at.ensures ∙ ap option_copied c.in-Some.is in
    let d : Some c.in-Some-2.row ≡ declares c.args.assemblies.now c.loop-n.args.items c.args.x.now c.in-Some.of.now =
    sym c.in-Some-2.is ∙ c.in_ok-row.ensures ∙ ap (λ (l : List (List ℕ)). declares c.args.assemblies.now l c.args.x.now c.in-Some.of.now) c.as_slice.ensures.value in
    type_hit c.args.assemblies.now c.args.types.now c.args.x.now (in_bases c.args.assemblies.now c.args.types.now c.args.x.now (length c.args.types.now) [] c.args.k) n c.loop-n.args.items c.loop-n.number c.in-Some.of.now c.in-Some-2.row e d
    (c.loop-n.invariant (suc n) (omega (arith, c.loop-n-test.true)))

pub returns-in_default-base : goal.returns-in_default-base
returns-in_default-base c =
    let n : ℕ = length c.args.types.now - suc c.loop-n._n in
    let e : slice_get c.args.types.now c.loop-n.number ≡ Some c.in-Some.of.now = sym c.at.ensures ∙ ap option_copied c.in-Some.is in
    let d : None ≡ declares c.args.assemblies.now c.loop-n.args.items c.args.x.now c.in-Some.of.now =
    sym (none_else c.in_ok-row.field-0 c.in_default-2.not-Some) ∙ c.in_ok-row.ensures ∙ ap (λ (l : List (List ℕ)). declares c.args.assemblies.now l c.args.x.now c.in-Some.of.now) c.as_slice.ensures.value in
    type_ends c.args.assemblies.now c.args.types.now c.args.x.now (in_bases c.args.assemblies.now c.args.types.now c.args.x.now (length c.args.types.now) [] c.args.k) n c.loop-n.args.items c.loop-n.number c.in-Some.of.now e d (none_else c.in-Some.of.now.base c.in_default-base.not-Some)
    (c.loop-n.invariant (suc n) (omega (arith, c.loop-n-test.true)))

pub returns-in_default-3 : goal.returns-in_default-3
returns-in_default-3 c =
    let n : ℕ = length c.args.types.now - suc c.loop-n._n in
    let e : slice_get c.args.types.now c.loop-n.number ≡ Some c.in-Some.of.now = sym c.at.ensures ∙ ap option_copied c.in-Some.is in
    let d : None ≡ declares c.args.assemblies.now c.loop-n.args.items c.args.x.now c.in-Some.of.now =
    sym (none_else c.in_ok-row.field-0 c.in_default-2.not-Some) ∙ c.in_ok-row.ensures ∙ ap (λ (l : List (List ℕ)). declares c.args.assemblies.now l c.args.x.now c.in-Some.of.now) c.as_slice.ensures.value in
    let a : None ≡ base_arguments c.args.assemblies.now c.loop-n.args.items c.in-Some.of.now =
    none_mapped c.in_ok-next.field-0 (λ v. v.items) (base_arguments c.args.assemblies.now c.as_slice-in-loop-n.result.now c.in-Some.of.now) c.in_default-3.not-Some c.in_ok-next.ensures ∙ ap (λ (l : List (List ℕ)). base_arguments c.args.assemblies.now l c.in-Some.of.now) c.as_slice-in-loop-n.ensures.value in
    type_stops c.args.assemblies.now c.args.types.now c.args.x.now (in_bases c.args.assemblies.now c.args.types.now c.args.x.now (length c.args.types.now) [] c.args.k) n c.loop-n.args.items c.loop-n.number c.in-Some.of.now c.in-Some-base.base e d c.in-Some-base.is a
    (c.loop-n.invariant (suc n) (omega (arith, c.loop-n-test.true)))

pub loop-n-preserved : goal.loop-n-preserved
loop-n-preserved c = λ n f.
    let e : slice_get c.args.types.now c.loop-n.number ≡ Some c.in-Some.of.now = sym c.at.ensures ∙ ap option_copied c.in-Some.is in
    let d : None ≡ declares c.args.assemblies.now c.loop-n.args.items c.args.x.now c.in-Some.of.now =
    sym (none_else c.in_ok-row.field-0 c.in_default-2.not-Some) ∙ c.in_ok-row.ensures ∙ ap (λ (l : List (List ℕ)). declares c.args.assemblies.now l c.args.x.now c.in-Some.of.now) c.as_slice.ensures.value in
    let a : Some c.in-Some-3.next.items ≡ base_arguments c.args.assemblies.now c.loop-n.args.items c.in-Some.of.now =
    some_mapped c.in_ok-next.field-0 (λ v. v.items) (base_arguments c.args.assemblies.now c.as_slice-in-loop-n.result.now c.in-Some.of.now) c.in-Some-3.next c.in-Some-3.is c.in_ok-next.ensures ∙ ap (λ (l : List (List ℕ)). base_arguments c.args.assemblies.now l c.in-Some.of.now) c.as_slice-in-loop-n.ensures.value in
    type_goes c.args.assemblies.now c.args.types.now c.args.x.now (in_bases c.args.assemblies.now c.args.types.now c.args.x.now (length c.args.types.now) [] c.args.k) n c.loop-n.args.items c.loop-n.number c.in-Some.of.now c.in-Some-base.base c.in-Some-3.next.items e d c.in-Some-base.is a
    (c.loop-n.invariant (suc n) (omega (arith, f)))

pub returns : goal.returns
returns c =
    types_over c.args.assemblies.now c.args.types.now c.args.x.now (in_bases c.args.assemblies.now c.args.types.now c.args.x.now (length c.args.types.now) [] c.args.k) c.loop-n.args.items c.loop-n.number
    (c.loop-n.invariant 0 (omega (arith, c.loop-n-test.false, c.loop-n.auto._n-end)))
