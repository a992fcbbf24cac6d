use Rattle.std.proofs.Common.{sym}
use Rattle.pe_image.proofs.SectionLaws.{found_cli}
use Rattle.pe_image.proofs.headers.cli_section.Goals as goal

pub returns-in-None-clause-within : goal.returns-in-None-clause-within
returns-in-None-clause-within c =
    let h = c.args.headers.now in
    found_cli c.args.bytes.now c.args.assembly c.headers_size-size.result c.headers_size-size.result h.sections h.count c.cli_rva-rva.result c.in-Some-find_section.section (sym c.in-None.ensures.tests) (sym c.in-Some-find_section.ensures)
