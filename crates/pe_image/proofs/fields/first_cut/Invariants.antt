use Rattle.std.proofs.Common.{◌≡◌, drop}
use Rattle.cil_base.specs.Refusals.{first_of}
use Rattle.pe_image.specs.Rules.{cuts}
use Rattle.pe_image.proofs.fields.first_cut.Given as goal

abbrev pub invariant-loop-field : goal.invariant-loop-field
invariant-loop-field l =
    first_of (cuts l.bytes l.assembly l.at l.fields) ≡ first_of (cuts l.bytes l.assembly l.at (drop l.field-index l.fields))
