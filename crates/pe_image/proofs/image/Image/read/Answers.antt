use Rattle.std.proofs.Common.{◌≡◌, ◌+◌, ◌≤◌, length, ◌∙◌, sym, ap}
use Rattle.std.proofs.lemmas.Result.{err_from_is_err_and}
use Rattle.cil_base.specs.Refusals.{first_of}
use Rattle.pe_image.specs.Headers.{headers_size, cli_rva}
use Rattle.pe_image.specs.Sections.{offset_in}
use Rattle.pe_image.specs.Cli.{cli_of, cli_header_offset}
use Rattle.pe_image.specs.Rules.{cli_tests}
use Rattle.pe_image.specs.declared.headers.Headers.{Headers}
use Rattle.pe_image.proofs.SectionLaws.{offset_within, cli_behind}
use Rattle.pe_image.proofs.RuleLaws.{refused_header, refused_cli, accepted}
use Rattle.pe_image.proofs.ImageLaws.{offset_is, cli_same, cli_is, metadata_is}
use Rattle.pe_image.proofs.image.Image.read.Goals as goal

pub returns-in_err-headers-clause-refused : goal.returns-in_err-headers-clause-refused
returns-in_err-headers-clause-refused c =
    let p = err_from_is_err_and c.from_residual.result c.from_residual.ensures.1 in
    rw (p.1, p.2) (refused_header c.args.bytes.now c.args.assembly c.in_err-headers.field-0.0 c.requires c.in_err-headers.ensures.tests)

pub read_cli-requires-clause-here : goal.read_cli-requires-clause-here
read_cli-requires-clause-here c =
    let b = c.args.bytes.now in
    let h = c.in_ok-headers.headers in
    let s = c.in_ok-headers.section in
    let le : offset_in s (cli_rva b h) + 72 ≤ length b = offset_within b h (cli_rva b h) 72 s c.in_ok-headers.ensures.section c.in_ok-headers.ensures.within in
    rw (c.offset-cli_offset.ensures, c.cli_rva-rva.ensures) le

pub returns-in_err-cli-clause-refused : goal.returns-in_err-cli-clause-refused
returns-in_err-cli-clause-refused c =
    let b = c.args.bytes.now in
    let a = c.args.assembly in
    let h = c.in_ok-headers.headers in
    let at : c.offset-cli_offset.result ≡ cli_header_offset b h = offset_is b h c.in_ok-headers.section c.cli_rva-rva.result c.offset-cli_offset.result c.cli_rva-rva.ensures c.in_ok-headers.ensures.section c.offset-cli_offset.ensures in
    let p = err_from_is_err_and c.from_residual-in_err-cli.result c.from_residual-in_err-cli.ensures.1 in
    rw (p.1, p.2)
    (refused_cli b a c.in_err-cli.field-0.0 c.requires c.in_ok-headers.ensures.tests
    (ap (λ (k : Headers). first_of (cli_tests b a k)) (sym c.in_ok-headers.ensures.headers.headers) ∙ cli_same b a h c.offset-cli_offset.result at ∙ c.in_err-cli.ensures.tests))

pub invariant_of-result : goal.invariant_of-result
invariant_of-result c =
    let b = c.args.bytes.now in
    let a = c.args.assembly in
    let h = c.in_ok-headers.headers in
    let at : c.offset-cli_offset.result ≡ cli_header_offset b h = offset_is b h c.in_ok-headers.section c.cli_rva-rva.result c.offset-cli_offset.result c.cli_rva-rva.ensures c.in_ok-headers.ensures.section c.offset-cli_offset.ensures in
    let s = c.in_ok-headers.section in
    let le : offset_in s (cli_rva b h) + 72 ≤ length b = offset_within b h (cli_rva b h) 72 s c.in_ok-headers.ensures.section c.in_ok-headers.ensures.within in
    let here : c.offset-cli_offset.result + 72 ≤ length b = rw (c.offset-cli_offset.ensures, c.cli_rva-rva.ensures) le in
    let size = headers_size b h in
    let after : size ≤ offset_in s (cli_rva b h) = cli_behind b a size size (cli_rva b h) h s c.in_ok-headers.ensures.headers.sections c.in_ok-headers.ensures.section in
    let behind : size ≤ c.offset-cli_offset.result = rw (c.offset-cli_offset.ensures, c.cli_rva-rva.ensures) after in
    let same : c.in_ok-cli.cli ≡ cli_of b = cli_is b h c.cli_rva-rva.result c.offset-cli_offset.result c.in_ok-cli.cli c.in_ok-headers.ensures.headers.headers c.cli_rva-rva.ensures at c.in_ok-cli.ensures.cli in (
      c.in_ok-headers.ensures.headers,
      cli_same b a h c.offset-cli_offset.result at ∙ c.in_ok-cli.ensures.tests,
      at,
      behind,
      here,
      same,
      metadata_is b h c.in_ok-cli.cli c.in_ok-cli.section c.offset.result c.part-metadata.result.now c.in_ok-headers.ensures.headers.headers same c.in_ok-cli.ensures.section c.offset.ensures c.part-metadata.ensures,
    )

pub returns-clause-accepted : goal.returns-clause-accepted
returns-clause-accepted c =
    let b = c.args.bytes.now in
    let a = c.args.assembly in
    let h = c.in_ok-headers.headers in
    let at : c.offset-cli_offset.result ≡ cli_header_offset b h = offset_is b h c.in_ok-headers.section c.cli_rva-rva.result c.offset-cli_offset.result c.cli_rva-rva.ensures c.in_ok-headers.ensures.section c.offset-cli_offset.ensures in
    accepted b a c.requires c.in_ok-headers.ensures.tests
    (ap (λ (k : Headers). first_of (cli_tests b a k)) (sym c.in_ok-headers.ensures.headers.headers) ∙ cli_same b a h c.offset-cli_offset.result at ∙ c.in_ok-cli.ensures.tests)
