use Rattle.std.proofs.Common.{◌-◌, ◌∙◌, ap, List}
use Rattle.std.specs.Prelude.{nat_le}
use Rattle.cil_model.specs.declared.ty.Ty.{Ty}
use Rattle.cil_semantics.specs.Types.{nesting}
use Rattle.cil_semantics.specs.Words.{all}
use Rattle.run_tokens.proofs.NestingLaws.{array_fits, instance_fits, reference_fits, too_deep}
use Rattle.run_tokens.proofs.nesting.+nesting.Goals as goal

pub nests_within-returns-then-depth-eq0 : goal.nests_within-returns-then-depth-eq0
nests_within-returns-then-depth-eq0 t c = too_deep c.args.ty.now c.args.depth c.if-depth-eq0.true

pub nests_within-returns-in-Array : goal.nests_within-returns-in-Array
nests_within-returns-in-Array t c =
    c.nests_within.ensures
    ∙ ap (λ (i : Ty). nat_le (nesting i) (c.args.depth - 1)) c.get.ensures
    ∙ array_fits c.args.ty.now c.in-Array.item c.args.depth c.if-depth-eq0.false c.in-Array.is

pub nests_within-returns-in-ByRef : goal.nests_within-returns-in-ByRef
nests_within-returns-in-ByRef t c =
    c.nests_within-in-ByRef.ensures
    ∙ ap (λ (i : Ty). nat_le (nesting i) (c.args.depth - 1)) c.get-in-ByRef.ensures
    ∙ reference_fits c.args.ty.now c.in-ByRef.item c.args.depth c.if-depth-eq0.false c.in-ByRef.is

pub nests_within-returns-in-Inst : goal.nests_within-returns-in-Inst
nests_within-returns-in-Inst t c =
    c.all_nest_within.ensures
    ∙ ap (λ (ts : List Ty). all (λ u. nat_le (nesting u) (c.args.depth - 1)) ts) c.as_slice.ensures
    ∙ instance_fits c.args.ty.now c.in-Inst.ty c.in-Inst.args c.args.depth c.if-depth-eq0.false c.in-Inst.is
