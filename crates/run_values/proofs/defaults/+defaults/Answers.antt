use Rattle.std.proofs.Common.{◌-◌, ◌∙◌, ap, sym}
use Rattle.il_opcodes.specs.declared.class.Storage.{Storage}
use Rattle.cil_semantics.specs.Places.{default_by_storage, default_within, field_types, storage}
use Rattle.run_values.proofs.DefaultLaws.{default_step, if_ok_is, no_default}
use Rattle.cil_model.specs.declared.value.Value.{Opaque}
use Rattle.run_values.proofs.defaults.+defaults.Goals as goal

pub value_within-returns : goal.value_within-returns
value_within-returns t c =
    if_ok_is c.kind_within.result (default_by_storage (default_within (c.args.depth - 1) c.args.program.now) (field_types c.args.program.now c.args.ty.now) c.storage_of.result) (default_within c.args.depth c.args.program.now c.args.ty.now)
    (ap (λ (s : Storage). default_by_storage (default_within (c.args.depth - 1) c.args.program.now) (field_types c.args.program.now c.args.ty.now) s) c.storage_of.ensures ∙ default_step c.args.program.now c.args.depth c.args.ty.now c.if-depth-eq0.false)
    c.kind_within.ensures

pub value_within-returns-then-depth-eq0 : goal.value_within-returns-then-depth-eq0
value_within-returns-then-depth-eq0 t c = ap Opaque c.new.ensures ∙ no_default c.args.program.now c.args.depth c.args.ty.now c.if-depth-eq0.true
