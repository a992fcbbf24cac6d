use Rattle.std.proofs.Common.{◌≡◌, ◌+◌, ◌-◌, ◌*◌, ◌<◌, ◌^◌, max}
use Rattle.pe_image.specs.Sections.{sections_at}
use Rattle.pe_image.specs.SectionGrowth.{addresses_end}
use Rattle.pe_image.proofs.growth.addresses_end.Given as goal

abbrev pub invariant-loop-i : goal.invariant-loop-i
invariant-loop-i l =
    (addresses_end (sections_at l.bytes l.headers.sections l.headers.count)
    ≡ max l.end (addresses_end (sections_at l.bytes (l.headers.sections + 40 * l.i) (l.headers.count - l.i))))
    × (l.end < 2 ^ 33)
