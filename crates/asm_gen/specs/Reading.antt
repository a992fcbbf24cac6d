-- What an image with code and metadata reads back as.
use Rattle.std.specs.Prelude.{◌≡◌, ℕ, ◌+◌, ◌≤◌, List, length, Some}
use Rattle.cil_base.specs.Refusals.{NoneBroken}
use Rattle.pe_image.specs.declared.cli.CliHeader.{CliHeader}
use Rattle.pe_image.specs.Rules.{Broken}
use Rattle.pe_image.specs.Cli.{cli_of, metadata_of}
use Rattle.cil_base.specs.Bytes.{part}
use Rattle.pe_image.specs.Sections.{at_rva}
use Rattle.asm_gen.specs.Layout.{code_address}

-- the CLI header over so much code and metadata: IL only, with a token of the entry point
abbrev pub sample_cli : ℕ → ℕ → ℕ → CliHeader
sample_cli code metadata entry =
    record { header_rva = 0x2000; metadata_rva = code_address + code; metadata_len = metadata; flags = 1; entry = entry }

-- The bytes are an image that breaks no rule, with this metadata and this code.
pub record IsImageOf (code metadata : List ℕ) (entry : ℕ) (bytes : List ℕ) : Type 0 where
  pub accepted : (assembly : ℕ) → NoneBroken (Broken bytes assembly)
  pub cli : cli_of bytes ≡ sample_cli (length code) (length metadata) entry
  pub metadata_is : metadata_of bytes ≡ metadata
  pub code_is : (at n : ℕ) → at + n ≤ length code → at_rva bytes (code_address + at) n ≡ Some (part code at n)
