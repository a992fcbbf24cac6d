use Rattle.std.proofs.Common.{◌≡◌, Some, sym, ◌∙◌}
use Rattle.cil_model.specs.BodyLayout.{layout_of}
use Rattle.il_code.proofs.BodyLaws.{body_of, fault_of, once_of, accepted_of, first_of, refused_of}
use Rattle.il_code.proofs.decode.decode_body.Goals as goal

pub returns-clause-body : goal.returns-clause-body
returns-clause-body c =
    let laid : layout_of c.args.bytes.now ≡ Some c.in-Some.layout = sym c.in_ok-layout.ensures.value ∙ c.in-Some.is in
    body_of c.args.place.assembly c.args.bytes.now c.code_in-code.result.now c.in-Some.layout laid c.code_in-code.ensures.value c.decode_code.result c.decode_code.ensures.body

pub returns-clause-once : goal.returns-clause-once
returns-clause-once c = once_of c.args.place.assembly c.args.bytes.now c.decode_code.result (returns-clause-body c)

pub returns-clause-accepted : goal.returns-clause-accepted
returns-clause-accepted c = accepted_of c.args.place c.args.bytes.now c.decode_code.result (returns-clause-body c)

pub returns-clause-broken : goal.returns-clause-broken
returns-clause-broken c =
    let laid : layout_of c.args.bytes.now ≡ Some c.in-Some.layout = sym c.in_ok-layout.ensures.value ∙ c.in-Some.is in
    fault_of c.args.place c.args.bytes.now c.code_in-code.result.now c.in-Some.layout laid c.code_in-code.ensures.value c.decode_code.result c.decode_code.ensures.broken

pub returns-clause-first : goal.returns-clause-first
returns-clause-first c = first_of c.args.place c.args.bytes.now c.decode_code.result (returns-clause-broken c)

pub returns-clause-refused : goal.returns-clause-refused
returns-clause-refused c = refused_of c.args.place c.args.bytes.now c.decode_code.result (returns-clause-broken c)
