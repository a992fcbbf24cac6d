-- The rules that each command on a set of assemblies (ECMA-335, II.6.1) tries, TARGET first.
use Rattle.std.specs.Prelude.{◌≡◌, ℕ, ◌+◌, ◌<◌, ◌≤◌, Bool, false, List, [], ◌∷◌, ◌++◌, map, flat_map, length, get_or, slice_get, Option, Some, IfSome}
use Rattle.std.specs.List.{range_with_len}
use Rattle.cil_base.specs.declared.refusal.Refusal.{Refusal}
use Rattle.cil_base.specs.Refusals.{First, InLayers, NoneOf}
use Rattle.pe_image.specs.Images.{File}
use Rattle.pe_image.specs.Cli.{metadata_of}
use Rattle.assembly.specs.Assemblies as reading
use Rattle.set_rows.specs.Sets.{Assemblies, assembly_of}
use Rattle.set_blobs.specs.BadBlobs.{BreaksBlobs}
use Rattle.cil_model.specs.declared.body.Body.{Body}
use Rattle.cil_model.specs.declared.program.MethodDesc.{MethodDesc}
use Rattle.cil_model.specs.declared.program.Program.{Program}
use Rattle.member_table.specs.declared.named.MemberId.{MemberId}
use Rattle.member_table.specs.declared.named.MemberId.TheVariants as id
use Rattle.member_table.specs.Numbers.{member_ids}
use Rattle.descriptions.specs.WholePrograms.{IsProgramOf}
use Rattle.method_bodies.specs.Plain.{IsPlain}
use Rattle.method_bodies.specs.Rows.{code_in}
use Rattle.name_rules.specs.NameTests.{BreaksNames}
use Rattle.body_rules.specs.Sets.{BreaksBodies, IsSoundAt}
use Rattle.assembly_rewrite.specs.Rewrite.{IsContract}

-- the bytes of an assembly, by its number
abbrev pub bytes_at : List (List ℕ) → ℕ → List ℕ
bytes_at set a = get_or set a []

-- these files, with numbers from one on
abbrev pub files_from : ℕ → List (List ℕ) → List File
files_from a [] = []
files_from a (bytes ∷ more) = record { bytes = bytes; assembly = a } ∷ files_from (a + 1) more

abbrev pub bytes_of : List File → List (List ℕ)
bytes_of files = map (λ file. file.bytes) files

-- the assemblies as their tables and heaps
abbrev pub assemblies_of : List (List ℕ) → Assemblies
assemblies_of set = map assembly_of set

-- ---- the program

-- The body of a member as it is read; it breaks no rule.
abbrev pub IsReadBody : Assemblies → MemberId → Option Body → Type 0
IsReadBody s (id.Row a row) body = IfSome body IsPlain × IsSoundAt s a row body
IsReadBody s (id.Outside m) body = Unit {0}

-- The program of a set with the bodies of its rows as they are read, none of which breaks a rule.
pub record IsReadProgram (s : Assemblies) (p : Program) : Type 0 where
  pub whole : IsProgramOf (code_in s) s p
  pub bodies : (k : ℕ) (m : MemberId) (d : MethodDesc) → slice_get (member_ids s false) k ≡ Some m → slice_get p.methods k ≡ Some d → IsReadBody s m d.body

-- ---- the layers of rules

-- the rules on the bytes of one assembly; those on blobs, on names (with that on the names that a rewriting adds, or without), on bodies, and Z1, on all
pub data Layer : Type 0 where
  Reading : ℕ → reading.Layer → Layer
  Signatures : Layer
  NameRules : Bool → Layer
  Bodies : Layer
  Contracts : Layer

abbrev pub reading_layers : ℕ → List Layer
reading_layers a = map (Reading a) reading.layers

-- of so many assemblies from one on
abbrev pub all_reading_layers : ℕ → ℕ → List Layer
all_reading_layers a n = flat_map reading_layers (range_with_len a n)

-- what is tried where each signature is one
abbrev pub program_layers : Bool → List Layer
program_layers writes = NameRules writes ∷ Bodies ∷ []

abbrev pub row_layers : Bool → List Layer
row_layers writes = Signatures ∷ program_layers writes

-- what is tried where each assembly is read
abbrev pub later_layers : Bool → List Layer
later_layers writes = row_layers writes ++ Contracts ∷ []

-- of a set of so many, whose TARGET is to be rewritten or not, in the order in which they are tried
abbrev pub layers : Bool → ℕ → List Layer
layers writes n = all_reading_layers 0 n ++ later_layers writes

-- some assembly of the set has contracts, which no command reads yet
abbrev pub IsContractOf : List (List ℕ) → Refusal → Type 0
IsContractOf set r = (r.assembly < length set) × IsContract (metadata_of (bytes_at set r.assembly)) r.assembly r

-- the same of an assembly from one on
abbrev pub IsContractFrom : ℕ → List (List ℕ) → Refusal → Type 0
IsContractFrom from set r = (from ≤ r.assembly) × IsContractOf set r

-- a rule that the set breaks, and where
abbrev pub Breaks : List (List ℕ) → Layer → Refusal → Type 0
Breaks set (Reading a layer) = reading.Breaks (bytes_at set a) a layer
Breaks set Signatures = BreaksBlobs (assemblies_of set)
Breaks set (NameRules writes) = BreaksNames (assemblies_of set) writes
Breaks set Bodies = BreaksBodies (assemblies_of set)
Breaks set Contracts = IsContractOf set

-- the first of a layer
abbrev pub Names : List (List ℕ) → Layer → Refusal → Type 0
Names set layer = First (Breaks set layer)

-- the first broken rule of the set
abbrev pub IsUnsound : Bool → List (List ℕ) → Refusal → Type 0
IsUnsound writes set = InLayers (Breaks set) (Names set) (layers writes (length set))

-- no rule is broken
abbrev pub IsSound : Bool → List (List ℕ) → Type 0
IsSound writes set = NoneOf (Breaks set) (layers writes (length set))
