-- What read finds is what the image layout says.
use Rattle.std.proofs.Common.{◌≡◌, ℕ, List, Some, sym, ap, ◌∙◌}
use Rattle.cil_base.specs.Refusals.{first_of}
use Rattle.pe_image.specs.declared.headers.Headers.{Headers}
use Rattle.pe_image.specs.declared.section.Section.{Section}
use Rattle.pe_image.specs.declared.cli.CliHeader.{CliHeader}
use Rattle.pe_image.specs.Headers.{headers_of, cli_rva}
use Rattle.cil_base.specs.Bytes.{part}
use Rattle.pe_image.specs.Sections.{section_of, offset_in}
use Rattle.pe_image.specs.Cli.{cli_header_offset, cli_at, cli_of, metadata_of}
use Rattle.pe_image.specs.Rules.{cli_tests, cli_tests_at}

pub offset_is : (bytes : List ℕ) (h : Headers) (s : Section) (rva at : ℕ) → rva ≡ cli_rva bytes h → section_of bytes h (cli_rva bytes h) 72 ≡ Some s → at ≡ offset_in s rva → at ≡ cli_header_offset bytes h
offset_is bytes h s rva at r e p = rw e (p ∙ ap (offset_in s) r)

pub cli_same : (bytes : List ℕ) (a : ℕ) (h : Headers) (at : ℕ) → at ≡ cli_header_offset bytes h → first_of (cli_tests bytes a h) ≡ first_of (cli_tests_at bytes a h at)
cli_same bytes a h at p = ap (λ (k : ℕ). first_of (cli_tests_at bytes a h k)) (sym p)

pub cli_is : (bytes : List ℕ) (h : Headers) (rva at : ℕ) (cli : CliHeader) → h ≡ headers_of bytes → rva ≡ cli_rva bytes h → at ≡ cli_header_offset bytes h → cli ≡ cli_at bytes rva at → cli ≡ cli_of bytes
unfolding cli_of
cli_is bytes h rva at cli e r p same =
    same
    ∙ ap (λ (k : ℕ). cli_at bytes k at) r
    ∙ ap (λ (k : ℕ). cli_at bytes (cli_rva bytes h) k) p
    ∙ ap (λ (k : Headers). cli_at bytes (cli_rva bytes k) (cli_header_offset bytes k)) e

pub metadata_is : (bytes : List ℕ) (h : Headers) (cli : CliHeader) (s : Section) (at : ℕ) (metadata : List ℕ) → h ≡ headers_of bytes → cli ≡ cli_of bytes → section_of bytes h cli.metadata_rva cli.metadata_len ≡ Some s → at ≡ offset_in s cli.metadata_rva → metadata ≡ part bytes at cli.metadata_len → metadata ≡ metadata_of bytes
unfolding metadata_of
metadata_is bytes h cli s at metadata e same found p m =
    let found_of : section_of bytes (headers_of bytes) (cli_of bytes).metadata_rva (cli_of bytes).metadata_len ≡ Some s =
    ap (λ (c : CliHeader). section_of bytes (headers_of bytes) c.metadata_rva c.metadata_len) (sym same)
    ∙ ap (λ (k : Headers). section_of bytes k cli.metadata_rva cli.metadata_len) (sym e)
    ∙ found in
    rw found_of
    (m
    ∙ ap (λ (k : ℕ). part bytes k cli.metadata_len) p
    ∙ ap (λ (c : CliHeader). part bytes (offset_in s c.metadata_rva) c.metadata_len) same)
