use Rattle.std.proofs.Common.{◌≡◌, ◌+◌, ◌-◌, ◌*◌}
use Rattle.cil_base.specs.Refusals.{first_of}
use Rattle.pe_image.specs.Rules.{section_tests}
use Rattle.pe_image.proofs.section.section_fault.Given as goal

abbrev pub invariant-loop-i : goal.invariant-loop-i
invariant-loop-i l =
    first_of (section_tests l.bytes l.assembly l.size l.size l.headers.sections l.headers.count)
    ≡ first_of
    (section_tests l.bytes l.assembly l.address_floor l.raw_floor (l.headers.sections + 40 * l.i) (l.headers.count - l.i))
