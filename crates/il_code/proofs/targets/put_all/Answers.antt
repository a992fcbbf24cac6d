use Rattle.std.proofs.Common.{◌≡◌, Some, None, arith, sym, ap, ◌∙◌, get_or}
use Rattle.std.specs.Prelude.{is_none, position}
use Rattle.cil_model.specs.declared.body.Instr.{Instr}
use Rattle.cil_model.specs.BodyOf.{with_indexes}
use Rattle.il_code.proofs.MappedLaws.{first_none, same_at, refused}
use Rattle.il_code.proofs.targets.put_all.Goals as goal

pub returns-then-not-put_indexes-clause-all : goal.returns-then-not-put_indexes-clause-all
returns-then-not-put_indexes-clause-all c =
    let inv = c.loop-k.invariant in
    let f = with_indexes c.args.offsets.now in
    let old = c.deref_mut-i-items.result.now in
    let d = c.i-item.result in
    let none = refused (f (get_or c.loop-k.i-items c.loop-k.k d)) c.put_indexes.new.i c.if-not-put_indexes.ensures in
    let there : f (get_or old c.loop-k.k d) ≡ None = ap f (sym (same_at c.loop-k.i-items old c.loop-k.k d inv.1)) ∙ none in
    let first : position (λ (i : Instr). is_none (f i)) old ≡ Some c.loop-k.k = first_none f old c.loop-k.k d (omega arith) there (λ j below. inv.3 j d below) in
    rw (← c.deref_mut-i-items.ensures.value) first
