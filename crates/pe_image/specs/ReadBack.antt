-- What an image reads back as that has grown by one section: the old RVAs have their bytes, and the new ones those of the section.
use Rattle.std.specs.Prelude.{◌≡◌, ◌⊎◌, ◌<◌, ◌≤◌, ℕ, ◌+◌, ◌-◌, List, ◌++◌, length, take, drop, Option, Some, None, Ok}
use Rattle.std.specs.Int.{next_multiple_of}
use Rattle.cil_base.specs.Refusals.{NoneBroken}
use Rattle.pe_image.specs.Headers.{headers_of, file_alignment}
use Rattle.cil_base.specs.Bytes.{part, zeros}
use Rattle.pe_image.specs.Sections.{at_rva, tail_at}
use Rattle.pe_image.specs.Cli.{cli_of, metadata_of}
use Rattle.pe_image.specs.Rules.{Broken}
use Rattle.pe_image.specs.SectionGrowth.{new_address, room_of}
use Rattle.pe_image.specs.Written.{grown_cli}

-- the RVA of the new section
unfoldable pub new_rva : List ℕ → ℕ
new_rva bytes = new_address bytes (headers_of bytes)

-- the length of its raw bytes, II.25.3
unfoldable pub new_raw_size : List ℕ → ℕ → ℕ
new_raw_size bytes len = next_multiple_of len (file_alignment bytes (headers_of bytes))

-- A range of RVAs doesn't meet the fields of the CLI header that change: the metadata's RVA and size, the flags, and those of the
-- strong name, II.25.3.3.
abbrev pub Misses : ℕ → ℕ → ℕ → Type 0
Misses header rva len =
    (rva + len ≤ header + 8) ⊎ (((header + 20 ≤ rva) × (rva + len ≤ header + 32)) ⊎ (header + 40 ≤ rva))

abbrev pub MissesCli : List ℕ → ℕ → ℕ → Type 0
MissesCli bytes rva len = Misses (cli_of bytes).header_rva rva len

-- as many bytes as before, and the same first n of them
abbrev pub SameFront : List ℕ → ℕ → Option (List ℕ) → Type 0
SameFront before n None = ⊥
SameFront before n (Some now) = (length now ≡ length before) × (take n now ≡ take n before)

pub record Grows (bytes : List ℕ) (a : ℕ) (section : List ℕ) (metadata_rva metadata_len : ℕ) (out : List ℕ) : Type 0 where
  pub room : room_of bytes a ≡ Ok (new_rva bytes)
  pub accepted : (assembly : ℕ) → NoneBroken (Broken out assembly)
  pub cli : cli_of out ≡ grown_cli (cli_of bytes) metadata_rva metadata_len
  pub metadata : metadata_of out ≡ part section (metadata_rva - new_rva bytes) metadata_len
  pub old_rvas : (rva len : ℕ) (there : List ℕ) → at_rva bytes rva len ≡ Some there → MissesCli bytes rva len → at_rva out rva len ≡ Some there
  pub old_tails : (rva n : ℕ) (there : List ℕ) → tail_at bytes rva ≡ Some there → n ≤ length there → MissesCli bytes rva n → SameFront there n (tail_at out rva)
  pub new_rvas : (k len : ℕ) → k + len ≤ length section → at_rva out (new_rva bytes + k) len ≡ Some (part section k len)
  pub new_tails : (k : ℕ) → k < length section → tail_at out (new_rva bytes + k) ≡ Some (drop k section ++ zeros (new_raw_size bytes (length section) - length section))
  pub no_others : (rva len : ℕ) → at_rva bytes rva len ≡ None → (rva < new_rva bytes) ⊎ (new_rva bytes + new_raw_size bytes (length section) < rva + len) → at_rva out rva len ≡ None
