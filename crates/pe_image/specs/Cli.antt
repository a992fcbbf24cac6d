-- The CLI header and the metadata (ECMA-335, II.25.3.3).
use Rattle.std.specs.Prelude.{ℕ, ◌+◌, List, option_map, unwrap_or}
use Rattle.cil_base.specs.Numbers.{num}
use Rattle.pe_image.specs.declared.headers.Headers.{Headers}
use Rattle.pe_image.specs.declared.cli.CliHeader.{CliHeader}
use Rattle.pe_image.specs.Headers.{headers_of, cli_rva}
use Rattle.pe_image.specs.Sections.{section_of, offset_in, bytes_at}

-- the offset of the CLI header in the file
abbrev pub cli_header_offset : List ℕ → Headers → ℕ
cli_header_offset bytes h = unwrap_or (option_map (λ s. offset_in s (cli_rva bytes h)) (section_of bytes h (cli_rva bytes h) 72)) 0

abbrev pub cli_at : List ℕ → ℕ → ℕ → CliHeader
cli_at bytes rva at = record {
  header_rva = rva;
  metadata_rva = num bytes (at + 8) 4;
  metadata_len = num bytes (at + 12) 4;
  flags = num bytes (at + 16) 4;
  entry = num bytes (at + 20) 4;
}

unfoldable pub cli_of : List ℕ → CliHeader
cli_of bytes = cli_at bytes (cli_rva bytes (headers_of bytes)) (cli_header_offset bytes (headers_of bytes))

-- the metadata root and all behind it
unfoldable pub metadata_of : List ℕ → List ℕ
metadata_of bytes = bytes_at bytes (cli_of bytes).metadata_rva (cli_of bytes).metadata_len
