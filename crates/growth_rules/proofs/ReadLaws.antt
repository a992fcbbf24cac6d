-- A set of files that were read.
use Rattle.std.proofs.Common.{◌≡◌, refl, subst, arith, ℕ, zero, suc, ◌<◌, List, [], ◌∷◌, length, get_or}
use Rattle.std.specs.Prelude.{map, true}
use Rattle.std.proofs.lemmas.List.{length-map}
use Rattle.cil_base.specs.Refusals.{NoneBroken}
use Rattle.pe_image.specs.Cli.{metadata_of}
use Rattle.cli_heaps.specs.Root as root
use Rattle.cli_tables.proofs.ShapeLaws.{read_cells}
use Rattle.assembly.specs.Assemblies.{IsReadable, tables_of}
use Rattle.set_rows.specs.Sets.{assembly_of, assembly_at}
use Rattle.set_blobs.specs.BadBlobs.{BreaksBlobs}
use Rattle.name_rules.specs.NameTests.{BreaksNames}
use Rattle.growth_rules.specs.Reading.{IsRead}
use Rattle.growth_rules.specs.Sound.{IsSound}

is_read : (bytes : List ℕ) (a : ℕ) → IsReadable bytes a → IsRead (assembly_of bytes)
unfolding assembly_of
is_read bytes a readable = record {
  number = a;
  cells = read_cells (metadata_of bytes) (root.tables (metadata_of bytes)) a (tables_of bytes) refl readable.1.1.0 refl;
  rows = readable.1.1.1.0;
}

file_at : (set : List (List ℕ)) (a : ℕ) → a < length set → assembly_of (get_or set a []) ≡ assembly_at (map assembly_of set) a
file_at [] a h = absurd (omega (arith, h))
file_at (bytes ∷ set) zero h = refl
file_at (bytes ∷ set) (suc a) h = file_at set a (omega (arith, h))

pub is_sound : (set : List (List ℕ)) → ((a : ℕ) → a < length set → IsReadable (get_or set a []) a) → NoneBroken (BreaksBlobs (map assembly_of set)) → NoneBroken (BreaksNames (map assembly_of set) true) → IsSound (map assembly_of set)
is_sound set readable blobs names = record {
  read = λ a h.
      let low : a < length set = omega (arith, h, length-map set assembly_of) in
      subst IsRead (file_at set a low) (is_read (get_or set a []) a (readable a low));
  blobs = blobs;
  names = names;
}
