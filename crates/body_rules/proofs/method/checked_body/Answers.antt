use Rattle.method_bodies.specs.Rows.{method_place, rva_of}
use Rattle.body_rules.proofs.MethodLaws.{only_unread, none_told, broken_told, only_told, read_plain, sound_told}
use Rattle.body_rules.proofs.method.checked_body.Goals as goal

pub returns-in-Err-clause-only : goal.returns-in-Err-clause-only
returns-in-Err-clause-only c =
    only_unread c.args.image.now.bytes (method_place c.args.a c.args.row) (rva_of c.args.rows.now c.args.row) c.args.program.now c.args.own.now c.in-Err.fault c.in-Err.ensures.refused

pub returns-in-Ok-None-clause-accepted : goal.returns-in-Ok-None-clause-accepted
returns-in-Ok-None-clause-accepted c =
    none_told c.args.image.now.bytes (method_place c.args.a c.args.row) (rva_of c.args.rows.now c.args.row) c.args.program.now c.args.own.now
    c.in-Ok.body c.in-Ok.ensures.read c.in-Ok.ensures.accepted c.in-Ok-None.field-0 c.method_place.result c.method_place.ensures c.in-Ok-None.ensures c.in-Ok-None.field-0-is

pub returns-in-Ok-Some-clause-broken : goal.returns-in-Ok-Some-clause-broken
returns-in-Ok-Some-clause-broken c =
    broken_told c.args.image.now.bytes (method_place c.args.a c.args.row) (rva_of c.args.rows.now c.args.row) c.args.program.now c.args.own.now
    c.in-Ok.body c.in-Ok.ensures.read c.in-Ok.ensures.accepted c.in-Ok-Some.field-0 c.method_place.result c.method_place.ensures c.in-Ok-Some.ensures c.in-Ok-Some.refusal c.in-Ok-Some.field-0-is

pub returns-in-Ok-Some-clause-only : goal.returns-in-Ok-Some-clause-only
returns-in-Ok-Some-clause-only c =
    only_told c.args.image.now.bytes (method_place c.args.a c.args.row) (rva_of c.args.rows.now c.args.row) c.args.program.now c.args.own.now
    c.in-Ok.body c.in-Ok.ensures.read c.in-Ok.ensures.accepted c.in-Ok-Some.field-0 c.method_place.result c.method_place.ensures c.in-Ok-Some.ensures c.in-Ok-Some.refusal c.in-Ok-Some.field-0-is

pub returns-in-Ok-None-clause-plain : goal.returns-in-Ok-None-clause-plain
returns-in-Ok-None-clause-plain c = read_plain c.args.image.now.bytes c.args.a (rva_of c.args.rows.now c.args.row) c.in-Ok.body c.in-Ok.ensures.read

pub returns-in-Ok-None-clause-sound : goal.returns-in-Ok-None-clause-sound
returns-in-Ok-None-clause-sound c =
    sound_told c.args.program.now c.args.own.now (method_place c.args.a c.args.row) c.in-Ok.body c.in-Ok-None.field-0 c.method_place.result c.method_place.ensures c.in-Ok-None.ensures c.in-Ok-None.field-0-is
