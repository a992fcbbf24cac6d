-- The files that a command reads, in the order of its words, and the limits of a set (own).
use Rattle.std.specs.Prelude.{◌≡◌, ◌⊎◌, ℕ, ◌+◌, ◌≤◌, nat_lt, Bool, List, [], ◌∷◌, length, slice_get, Option, Some, None, Result, Ok, Err, Vec, IsTrue, if◌then◌else◌}
use Rattle.std.specs.declared.alloc.Global.{Global}
use Rattle.cil_base.specs.Causes.{Rose}
use Rattle.cil_base.specs.declared.limits.TheConstants.{FILE_LIMIT, SET_LIMIT, ASSEMBLY_LIMIT}
use Rattle.cil_base.specs.declared.rule.Rule.TheVariants.{L1, L2}
use Rattle.cil_base.specs.declared.refusal.Refusal.{Refusal}
use Rattle.cil_base.specs.Refusals.{limit_refusal}
use Rattle.outside_core.specs.Store.{Files}
use Rattle.set_check.specs.Sets.{bytes_at}
use Rattle.program.specs.declared.reading.FilesFault.{FilesFault}
use Rattle.program.specs.declared.reading.FilesFault.TheVariants.{Failed, Limit, Memory}

-- what reading comes to: the bytes of all files; the name of one that is missing; a limit that is passed
pub data Reading : Type 0 where
  Whole : List (List ℕ) → Reading
  Missing : List ℕ → Reading
  Passes : Refusal → Reading

-- the refusal of a file that is too long, by its number
abbrev pub too_long : ℕ → Refusal
too_long number = record { rule = L1; assembly = number; table = 0; row = 0; at = FILE_LIMIT + 1 }

-- of files that are too many, or too long together
abbrev pub too_many : Refusal
too_many = limit_refusal L2 ASSEMBLY_LIMIT

abbrev pub too_much : Refusal
too_much = limit_refusal L2 SET_LIMIT

-- with the bytes of a file before
abbrev pub behind : List ℕ → Reading → Reading
behind bytes (Whole all) = Whole (bytes ∷ all)
behind bytes (Missing name) = Missing name
behind bytes (Passes r) = Passes r

-- one file, by its number, behind so many bytes; then the rest, behind so many more
abbrev pub of_file : ℕ → ℕ → List ℕ → Option (List ℕ) → (ℕ → Reading) → Reading
of_file number sum name None rest = Missing name
of_file number sum name (Some bytes) rest =
    if nat_lt FILE_LIMIT (length bytes) then Passes (too_long number)
    else if nat_lt SET_LIMIT (sum + length bytes) then Passes too_much
    else behind bytes (rest (sum + length bytes))

-- the files of these names
abbrev pub read_from : Files → ℕ → ℕ → List (List ℕ) → Reading
read_from files number sum [] = Whole []
read_from files number sum (name ∷ names) = of_file number sum name (files name) (λ n. read_from files (number + 1) n names)

-- The number of files is tested before any is read.
abbrev pub reading : Files → List (List ℕ) → Reading
reading files names = if nat_lt ASSEMBLY_LIMIT (length names) then Passes too_many else read_from files 0 0 names

-- ---- what was read

-- so many files, and none of them too long
pub record AreWithin (set : List (List ℕ)) : Type 0 where
  pub few : length set ≤ ASSEMBLY_LIMIT
  pub short : (a : ℕ) → length (bytes_at set a) ≤ FILE_LIMIT

-- What the read of one file answers, by its number and behind so many bytes.
abbrev pub FileRead : Bool → Option (List ℕ) → ℕ → ℕ → List ℕ → ℕ → ℕ → Result (List ℕ) FilesFault → Type 0
FileRead tells file number sum name before now (Ok bytes) =
    (now ≡ before) × (length bytes ≤ FILE_LIMIT) × (sum + length bytes ≤ SET_LIMIT)
    × (IsTrue tells → (rest : ℕ → Reading) → of_file number sum name file rest ≡ behind bytes (rest (sum + length bytes)))
FileRead tells file number sum name before now (Err (Failed named)) =
    (named.now ≡ name) × (Rose before now ⊎ (IsTrue tells × ((rest : ℕ → Reading) → of_file number sum name file rest ≡ Missing name)))
FileRead tells file number sum name before now (Err (Limit r)) =
    (now ≡ before) × (IsTrue tells → (rest : ℕ → Reading) → of_file number sum name file rest ≡ Passes r)
FileRead tells file number sum name before now (Err (Memory e)) = Unit {0}

-- it is one of the names
abbrev pub IsNamed : List (List ℕ) → List ℕ → Type 0
IsNamed names name = (k : ℕ) × (slice_get names k ≡ Some name)

-- What the read of all files answers.
abbrev pub FilesRead : Bool → Files → List (List ℕ) → ℕ → ℕ → Result (Vec (List ℕ) Global) FilesFault → Type 0
FilesRead tells files names before now (Ok all) =
    (now ≡ before) × (length all.items ≡ length names) × ((a : ℕ) → length (bytes_at all.items a) ≤ FILE_LIMIT) × (IsTrue tells → read_from files 0 0 names ≡ Whole all.items)
FilesRead tells files names before now (Err (Failed named)) = IsNamed names named.now × (Rose before now ⊎ (IsTrue tells × (read_from files 0 0 names ≡ Missing named.now)))
FilesRead tells files names before now (Err (Limit r)) = (now ≡ before) × (IsTrue tells → read_from files 0 0 names ≡ Passes r)
FilesRead tells files names before now (Err (Memory e)) = Unit {0}
