use Rattle.std.proofs.Common.{◌∙◌, ap, arith}
use Rattle.il_opcodes.specs.declared.class.Storage.{Storage}
use Rattle.cil_semantics.specs.Places.{stored_by_storage, stored_within, field_types}
use Rattle.run_values.proofs.DefaultLaws.{if_ok_is}
use Rattle.run_values.proofs.StoreLaws.{store_step}
use Rattle.run_values.proofs.structs.stored_by_type.Goals as goal

pub returns : goal.returns
returns c =
    if_ok_is c.store_by_kind.result (stored_by_storage (stored_within 1000 c.args.program.now) (field_types c.args.program.now c.args.ty.now) c.args.v c.storage_of.result) (stored_within 1001 c.args.program.now c.args.ty.now c.args.v)
    (ap (λ (s : Storage). stored_by_storage (stored_within 1000 c.args.program.now) (field_types c.args.program.now c.args.ty.now) c.args.v s) c.storage_of.ensures ∙ store_step c.args.program.now 1001 c.args.ty.now c.args.v (λ e. omega (arith, e)))
    c.store_by_kind.ensures
