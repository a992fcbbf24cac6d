-- Numbers of signatures: two methods have one number just where their signatures are the same (own; the same signature, II.22.26).
use Rattle.std.specs.Prelude.{◌≡◌, ℕ, ◌-◌, List, Option, Some, None, length, slice_get}
use Rattle.set_names.specs.Names.{Noted, number_under, first_under}

abbrev pub place_or : ℕ → Option ℕ → ℕ
place_or other None = other
place_or other (Some row) = row - 1

-- the place, from 0, of the first method that has this signature; past the last where it is in no grammar
abbrev pub signature_number : List (Option (List ℕ)) → Option (List ℕ) → ℕ
signature_number all None = length all
signature_number all (Some numbers) = place_or (length all) (first_under all numbers)

-- the same by a map of first places
abbrev pub place_in : Noted → ℕ → Option (List ℕ) → ℕ
place_in found count None = count
place_in found count (Some numbers) = place_or count (number_under found numbers)

-- Signatures that stand in the list are the same where they have one number.
abbrev pub TellApart : List (Option (List ℕ)) → Type 0
TellApart all = (j k : ℕ) (x y : List ℕ) → slice_get all j ≡ Some (Some x) → slice_get all k ≡ Some (Some y)
    → signature_number all (Some x) ≡ signature_number all (Some y) → x ≡ y
