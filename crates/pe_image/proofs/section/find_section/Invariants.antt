use Rattle.std.proofs.Common.{◌≡◌, ◌+◌, ◌-◌, ◌*◌}
use Rattle.std.specs.Prelude.{find}
use Rattle.pe_image.specs.Sections.{sections_at, holds}
use Rattle.pe_image.proofs.section.find_section.Given as goal

abbrev pub invariant-loop-i : goal.invariant-loop-i
invariant-loop-i l =
    find (holds l.rva l.len) (sections_at l.bytes l.headers.sections l.headers.count)
    ≡ find (holds l.rva l.len) (sections_at l.bytes (l.headers.sections + 40 * l.i) (l.headers.count - l.i))
