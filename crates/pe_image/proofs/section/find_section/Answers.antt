use Rattle.std.proofs.Common.{◌+◌, ◌-◌, ◌*◌, ◌∙◌, arith}
use Rattle.pe_image.specs.Sections.{holds}
use Rattle.pe_image.proofs.SectionLaws.{left, find_on}
use Rattle.pe_image.proofs.section.find_section.Goals as goal

pub loop-i-preserved : goal.loop-i-preserved
loop-i-preserved c =
    let h = c.args.headers.now in
    c.loop-i.invariant
    ∙ find_on (holds c.args.rva c.args.len) c.args.bytes.now (h.sections + 40 * c.loop-i.i) (h.sections + 40 * (c.loop-i.i + 1)) (h.count - c.loop-i.i) (h.count - (c.loop-i.i + 1)) (left h.count c.loop-i.i c.loop-i-test.true) (omega arith) (cc)
