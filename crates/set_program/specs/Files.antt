-- The files of a set, and the assemblies that they are (ECMA-335, II.6.1).
use Rattle.std.specs.Prelude.{◌≡◌, ℕ, List, map, slice_get, Some}
use Rattle.pe_image.specs.Images.{File}
use Rattle.set_rows.specs.Sets.{Assemblies, assembly_of}

-- the assemblies of these files
abbrev pub assemblies_of : List File → Assemblies
assemblies_of files = map (λ file. assembly_of file.bytes) files

-- The number of an assembly is its place.
abbrev pub AreNumbered : List File → Type 0
AreNumbered files = (k : ℕ) (file : File) → slice_get files k ≡ Some file → file.assembly ≡ k
