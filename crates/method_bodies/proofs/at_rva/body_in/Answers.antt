use Rattle.std.proofs.Common.{◌∙◌, sym, arith, inl}
use Rattle.method_bodies.proofs.FaultLaws.{IsApart, apart_from, in_header_from, none_there, first_there, not_whole_from, valid_there}
use Rattle.method_bodies.proofs.at_rva.body_in.Goals as goal

pub returns-in-Err-clause-broken : goal.returns-in-Err-clause-broken
returns-in-Err-clause-broken c =
    (c.requires.some, inl (not_whole_from c.args.image.now.bytes c.args.place c.args.rva c.args.bytes.now c.in-Err.refusal c.body_len.result c.requires.there c.body_len.ensures c.in-Err.is))

pub returns-then-has_header_byte-clause-broken : goal.returns-then-has_header_byte-clause-broken
returns-then-has_header_byte-clause-broken c =
    (c.requires.some, inl (in_header_from c.args.image.now.bytes c.args.place c.args.rva c.args.bytes.now c.in-Ok.len c.body_len.result c.requires.there c.body_len.ensures c.in-Ok.is (sym c.has_header_byte.ensures ∙ c.if-has_header_byte.true), c.refusal.ensures))

pub returns-clause-valid : goal.returns-clause-valid
returns-clause-valid c =
    valid_there c.args.place.assembly c.args.bytes.now c.decode_body.result (λ k. omega (arith, c.type_inv.bytes k)) c.decode_body.ensures.body c.decode_body.ensures.row

pub returns-clause-accepted : goal.returns-clause-accepted
returns-clause-accepted c =
    let w : IsApart c.args.image.now.bytes c.args.rva c.args.bytes.now =
    apart_from c.args.image.now.bytes c.args.place c.args.rva c.args.bytes.now c.in-Ok.len c.body_len.result c.requires.there c.body_len.ensures c.in-Ok.is (sym c.has_header_byte.ensures ∙ c.if-has_header_byte.false) in
    none_there c.args.image.now.bytes c.args.place c.args.rva c.args.bytes.now w c.decode_body.result c.decode_body.ensures.accepted

pub returns-clause-first : goal.returns-clause-first
returns-clause-first c =
    let w : IsApart c.args.image.now.bytes c.args.rva c.args.bytes.now =
    apart_from c.args.image.now.bytes c.args.place c.args.rva c.args.bytes.now c.in-Ok.len c.body_len.result c.requires.there c.body_len.ensures c.in-Ok.is (sym c.has_header_byte.ensures ∙ c.if-has_header_byte.false) in
    first_there c.args.image.now.bytes c.args.place c.args.rva c.args.bytes.now w c.decode_body.result c.decode_body.ensures.first
