use Rattle.std.proofs.Common.{ℕ, List}
use Rattle.std.specs.Prelude.{IfOk, OnOk}
use Rattle.cil_base.specs.Refusals.{NoneBroken, OnRefused}
use Rattle.cil_model.specs.declared.program.Program.{Program}
use Rattle.cil_model.specs.declared.program.MethodDesc.{MethodDesc}
use Rattle.set_rows.specs.Sets.{Assembly}
use Rattle.method_bodies.specs.Rows.{method_place, rva_of}
use Rattle.body_rules.specs.Faults.{IsSound, MethodFault}
use Rattle.body_rules.proofs.RowLaws.{row_accepted, row_refused, moved}
use Rattle.body_rules.proofs.rows.row_body.Goals as goal

pub returns-clause-accepted : goal.returns-clause-accepted
returns-clause-accepted c =
    row_accepted c.args.tables.now c.args.a c.args.row c.requires.there c.requires.low c.requires.high c.checked_body.result
    (moved c.args.tables.now c.args.a c.args.row c.requires.there c.requires.low c.requires.high
    (λ (image : List ℕ) (x : Assembly) (p : Program) (own : MethodDesc). OnOk c.checked_body.result (NoneBroken (MethodFault image (method_place c.args.a c.args.row) (rva_of x c.args.row) p own)))
    c.args.image.now.bytes c.args.rows.now c.args.program.now c.own_method-own.result.now c.requires.image c.requires.rows c.requires.program c.own_method-own.ensures c.checked_body.ensures.accepted)

pub returns-clause-refused : goal.returns-clause-refused
returns-clause-refused c =
    row_refused c.args.tables.now c.args.a c.args.row c.requires.there c.requires.low c.requires.high c.checked_body.result
    (moved c.args.tables.now c.args.a c.args.row c.requires.there c.requires.low c.requires.high
    (λ (image : List ℕ) (x : Assembly) (p : Program) (own : MethodDesc). OnRefused c.checked_body.result (MethodFault image (method_place c.args.a c.args.row) (rva_of x c.args.row) p own))
    c.args.image.now.bytes c.args.rows.now c.args.program.now c.own_method-own.result.now c.requires.image c.requires.rows c.requires.program c.own_method-own.ensures c.checked_body.ensures.broken)

pub returns-clause-sound : goal.returns-clause-sound
returns-clause-sound c =
    moved c.args.tables.now c.args.a c.args.row c.requires.there c.requires.low c.requires.high
    (λ (image : List ℕ) (x : Assembly) (p : Program) (own : MethodDesc). IfOk c.checked_body.result (IsSound p own (method_place c.args.a c.args.row)))
    c.args.image.now.bytes c.args.rows.now c.args.program.now c.own_method-own.result.now c.requires.image c.requires.rows c.requires.program c.own_method-own.ensures c.checked_body.ensures.sound
