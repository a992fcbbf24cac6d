use Rattle.std.proofs.Common.{◌≡◌, ◌%◌, ◌==◌, get_or, ◌∙◌, ◌≤◌, ◌^◌, ℕ, List, arith, subst, ap, sym, map, length, ◌++◌}
use Rattle.std.proofs.lemmas.Bool.{leb-true}
use Rattle.cil_model.specs.declared.body.Instr.{Instr}
use Rattle.cil_model.specs.BodyOf.{StandsFor}
use Rattle.cil_model.specs.ValidBody.{AllValid, AllValidRegions}
use Rattle.il_body.specs.BodyEncoding.{as_encoded, behind_code, clause_of, code_bytes_of, code_from, weight, fits_tiny, header_bytes, starts}
use Rattle.il_body.proofs.WholeLaws.{body_back, more_places, put_together, small_whole, tiny_form}
use Rattle.il_body.proofs.encode.encode_body.Goals as goal

pub code_of-requires-clause-valid : goal.code_of-requires-clause-valid
code_of-requires-clause-valid c =
    let e = c.as_slice-instrs.ensures in
    let is = c.args.body.now.instrs in
    let offsets = c.as_slice-starts.ensures ∙ c.in_ok-offsets.ensures ∙ ap (starts 0) e in
    let more = more_places c.as_slice-starts.result.now is offsets in
    (c.requires.0, length is, omega arith, subst (AllValid c.requires.0 (length is)) (sym e) c.requires.1.instrs)

pub header_of-requires-clause-small : goal.header_of-requires-clause-small
header_of-requires-clause-small c =
    small_whole c.as_slice-starts.result.now c.as_slice-instrs.result.now c.len.result c.in_ok-code.code.items (leb-true (weight c.as_slice-instrs.result.now) (2 ^ 22) (sym c.if-not-is_within_limit.ensures)) c.in_ok-code.ensures (omega arith)

pub push_sections-requires : goal.push_sections-requires
push_sections-requires c =
    let is = c.args.body.now.instrs in
    let offsets = c.as_slice-starts.ensures ∙ c.in_ok-offsets.ensures ∙ ap (starts 0) c.as_slice-instrs.ensures in
    (length is, more_places c.as_slice-starts.result.now is offsets, subst (AllValidRegions (length is)) (sym c.as_slice-2.ensures) c.requires.1.regions)

pub returns-clause-bytes : goal.returns-clause-bytes
returns-clause-bytes c =
    let body = c.args.body.now in
    let e = c.as_slice-instrs.ensures in
    let all = c.extend_from_slice.new.self.items in
    let size : c.len.result ≡ length c.in_ok-code.code.items = omega arith in
    let p : c.in_ok-offsets.offsets ≡ starts 0 body.instrs = c.in_ok-offsets.ensures ∙ ap (starts 0) e in
    let code : c.in_ok-code.code.items ≡ code_from c.in_ok-offsets.offsets 0 body.instrs = c.in_ok-code.ensures ∙ (λ i. code_from (c.as_slice-starts.ensures i) 0 (e i)) in
    let out : c.push_sections.new.out.items ≡ all ++ behind_code (length all) (map (clause_of c.in_ok-offsets.offsets) body.regions) = c.in_ok-push_sections.ensures ∙ (λ i. all ++ behind_code (length all) (map (clause_of (c.as_slice-starts.ensures i)) (c.as_slice-2.ensures i))) in
    let head = c.in_ok-bytes.ensures.value ∙ ap (header_bytes body) size in
    let joined : all ≡ c.in_ok-bytes.bytes.items ++ c.in_ok-code.code.items = c.in_ok-extend_from_slice.ensures.items ∙ ap (λ (l : List ℕ). c.in_ok-bytes.bytes.items ++ l) c.as_slice.ensures.value in
    c.from_vec.ensures ∙ put_together body c.in_ok-offsets.offsets c.in_ok-code.code.items c.in_ok-bytes.bytes.items all c.push_sections.new.out.items p code head joined out

pub returns-clause-body : goal.returns-clause-body
returns-clause-body c a valid =
    let body = c.args.body.now in
    let few : weight body.instrs ≤ 2 ^ 22 = subst (λ (l : List Instr). weight l ≤ 2 ^ 22) c.as_slice-instrs.ensures (leb-true (weight c.as_slice-instrs.result.now) (2 ^ 22) (sym c.if-not-is_within_limit.ensures)) in
    subst (λ (b : List ℕ). StandsFor a b (as_encoded body) (length b)) (sym (returns-clause-bytes c)) (body_back a body valid few c.in_ok-bytes.ensures.stack)

pub returns-clause-tiny : goal.returns-clause-tiny
returns-clause-tiny c =
    let body = c.args.body.now in
    subst (λ (b : List ℕ). (get_or b 0 0 % 4 == 2) ≡ fits_tiny body (length (code_bytes_of body.instrs))) (sym (returns-clause-bytes c)) (tiny_form body)
