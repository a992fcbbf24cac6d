use Rattle.std.proofs.Common.{◌≡◌, ◌∙◌, ◌++◌, ℕ, ap, arith, length}
use Rattle.il_body.specs.BodyEncoding.{code_from, instr_bytes}
use Rattle.il_body.proofs.PushLaws.{code_more, code_room, rest_of, valid_more}
use Rattle.il_body.proofs.encode.code_of.Goals as goal

pub loop-i-preserved : goal.loop-i-preserved
loop-i-preserved c =
    let is = c.args.instrs.now in
    let offsets = c.args.offsets.now in
    let out = c.loop-i.code.items in
    let k = c.loop-i.i-index in
    let i = c.i-item.result in
    let inv = c.loop-i.invariant in
    let next = rest_of is k i c.loop-i-test.true c.i-item.is in
    let size : c.len-at.result ≡ length out = omega arith in
    let e : c.push_instr.new.out.items ≡ out ++ instr_bytes offsets (length out) i = c.in_ok-push_instr.ensures ∙ ap (λ (n : ℕ). out ++ instr_bytes offsets n i) size in (
      code_room offsets out c.push_instr.new.out.items is k i 100663296 next e inv.0,
      code_more offsets out c.push_instr.new.out.items is k i (code_from offsets 0 is) next e inv.1,
      (inv.2.0, inv.2.1, inv.2.2, valid_more inv.2.0 inv.2.1 is k i next inv.2.3),
    )
