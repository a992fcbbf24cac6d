use Rattle.std.proofs.Common.{◌<◌, ◌^◌, arith}
use Rattle.pe_image.specs.Headers.{section_alignment}
use Rattle.pe_image.proofs.GrowthLaws.{image_end}
use Rattle.pe_image.proofs.growth.image_size.Goals as goal

pub overflow_cast-result : goal.overflow_cast-result
overflow_cast-result c =
    let b = c.args.bytes.now in
    let h = c.args.headers.now in
    let pos : 0 < section_alignment b h = omega (arith, c.requires.order.aligned.low, c.requires.order.aligned.order) in
    let end = image_end b c.args.assembly h c.args.address c.args.raw_size c.requires.room c.requires.size pos in
    let lt : c.next_multiple_of.result < 2 ^ 32 = rw (c.next_multiple_of.ensures.value, c.from-unit.ensures, c.from.ensures, c.section_alignment.ensures) end in
    omega arith
