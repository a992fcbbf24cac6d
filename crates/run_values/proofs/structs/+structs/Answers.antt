use Rattle.std.proofs.Common.{◌-◌, ◌∙◌, ap, sym}
use Rattle.il_opcodes.specs.declared.class.Storage.{Storage}
use Rattle.cil_semantics.specs.Places.{stored_by_storage, stored_within, field_types, storage}
use Rattle.run_values.proofs.DefaultLaws.{if_ok_is}
use Rattle.run_values.proofs.StoreLaws.{no_store, other_lengths, store_step}
use Rattle.run_values.proofs.structs.+structs.Goals as goal

pub value_stored-returns : goal.value_stored-returns
value_stored-returns t c =
    if_ok_is c.kind_stored.result (stored_by_storage (stored_within (c.args.depth - 1) c.args.program.now) (field_types c.args.program.now c.args.ty.now) c.args.v.now c.storage_of.result) (stored_within c.args.depth c.args.program.now c.args.ty.now c.args.v.now)
    (ap (λ (s : Storage). stored_by_storage (stored_within (c.args.depth - 1) c.args.program.now) (field_types c.args.program.now c.args.ty.now) c.args.v.now s) c.storage_of.ensures ∙ store_step c.args.program.now c.args.depth c.args.ty.now c.args.v.now c.if-depth-eq0.false)
    c.kind_stored.ensures

pub value_stored-returns-then-depth-eq0 : goal.value_stored-returns-then-depth-eq0
value_stored-returns-then-depth-eq0 t c = no_store c.args.program.now c.args.depth c.args.ty.now c.args.v.now c.if-depth-eq0.true

pub parts_stored-returns-then-tys-parts : goal.parts_stored-returns-then-tys-parts
parts_stored-returns-then-tys-parts t c = other_lengths (stored_within c.args.depth c.args.program.now) c.args.tys.now c.args.parts.now c.if-tys-parts.true
