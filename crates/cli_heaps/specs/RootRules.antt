-- The rules on the metadata root and its streams, each with its offset in the metadata.
use Rattle.std.specs.Prelude.{ℕ, zero, suc, ◌+◌, ◌*◌, ◌%◌, ◌-◌, Bool, true, false, not, ◌||◌, ◌&&◌, ◌==◌, nat_lt, nat_le, List, [], ◌∷◌, ◌++◌, length, drop, Option, Some, None, is_some, codes, count_ones, if◌then◌else◌}
use Rattle.std.specs.List.{list_any}
use Rattle.cil_base.specs.declared.rule.Rule.{Rule}
use Rattle.cil_base.specs.declared.rule.Rule.TheVariants.{M1, M2, M3}
use Rattle.cil_base.specs.declared.refusal.Refusal.{Refusal}
use Rattle.cil_base.specs.Refusals.{Test, Fails, refusal, assembly_place}
use Rattle.cil_base.specs.Numbers.{num}
use Rattle.cil_base.specs.Packed.{packed_front}
use Rattle.cli_heaps.specs.Root.{Stream, version_length, stream_count, first_header, header_end, is_whole_header, name_at, name_width, stream_at, streams, stream_bytes, is_named, first_named}

abbrev pub test : Rule → ℕ → ℕ → Bool → Test
test rule assembly at fails = record { refusal = refusal rule (assembly_place assembly) at; fails = fails }

-- where the first field that isn't whole begins; the fields stand one behind the other
abbrev pub cut_field : ℕ → ℕ → List ℕ → Option ℕ
cut_field end at [] = None
cut_field end at (width ∷ widths) = if nat_le (at + width) end then cut_field end (at + width) widths else Some at

abbrev pub is_signed : List ℕ → Bool
is_signed meta = nat_le 4 (length meta) && (num meta 0 4 == 0x424A_5342)

-- signature, two versions, reserved, length of the version text, the text, flags, number of streams
abbrev pub root_cut : List ℕ → Option ℕ
root_cut meta = cut_field (length meta) 0 (4 ∷ 2 ∷ 2 ∷ 4 ∷ 4 ∷ version_length meta ∷ 2 ∷ 2 ∷ [])

-- offset, size, name
abbrev pub header_cut : List ℕ → ℕ → Option ℕ
header_cut meta at = cut_field (length meta) at (4 ∷ 4 ∷ name_width (length (name_at meta (at + 8))) ∷ [])

-- ---- the stream of user strings (II.24.2.4)

-- an entry is empty, or it is units of two bytes and one byte more
abbrev pub is_user_string_length : ℕ → Bool
is_user_string_length n = (n == 0) || (n % 2 == 1)

-- where an entry of this length begins, what is left behind it is so
abbrev pub is_entry : (ℕ → Bool) → Option (ℕ × ℕ) → Bool
is_entry is_left None = false
is_entry is_left (Some (n, width)) = is_user_string_length n && is_left (n + width - 1)

-- so many bytes, and then whole entries one after another
abbrev pub are_user_strings : ℕ → List ℕ → Bool
are_user_strings zero [] = true
are_user_strings (suc left) [] = false
are_user_strings zero (b ∷ rest) = is_entry (λ left. are_user_strings left rest) (packed_front (b ∷ rest))
are_user_strings (suc left) (b ∷ rest) = are_user_strings left rest

-- ---- the stream headers

-- the stream passes the metadata; or the tables' stream is too short for its header and counts; or the user strings aren't whole
abbrev pub is_cut_stream : List ℕ → Stream → Bool
is_cut_stream meta s =
    nat_lt (length meta) (s.offset + s.size)
    || (is_named (codes "#~") s && nat_lt (length (stream_bytes meta s)) (24 + 4 * count_ones (num (stream_bytes meta s) 8 8)))
    || (is_named (codes "#US") s && not (are_user_strings 0 (drop 1 (stream_bytes meta s))))

-- the streams that stand at most once
abbrev pub is_known : Stream → Bool
is_known s = list_any (λ name. is_named name s) (codes "#~" ∷ codes "#Strings" ∷ codes "#US" ∷ codes "#GUID" ∷ codes "#Blob" ∷ [])

abbrev pub is_header_of : Stream → Option Stream → Bool
is_header_of s None = false
is_header_of s (Some first) = first.header == s.header

-- another stream of this name stands before
abbrev pub is_repeated : List ℕ → Stream → Bool
is_repeated meta s = is_known s && not (is_header_of s (first_named meta s.name))

abbrev pub stream_tests : List ℕ → ℕ → Stream → List Test
stream_tests meta assembly s =
    test M1 assembly s.header (is_cut_stream meta s) ∷
    test M2 assembly s.header (is_repeated meta s) ∷
    test M3 assembly s.header (is_named (codes "#-") s) ∷ []

abbrev pub cut_tests : ℕ → Option ℕ → List Test
cut_tests assembly None = []
cut_tests assembly (Some at) = test M1 assembly at true ∷ []

-- so many headers, up to the first that isn't whole
abbrev pub header_tests : List ℕ → ℕ → ℕ → ℕ → List Test
header_tests meta assembly at zero = []
header_tests meta assembly at (suc n) =
    if is_whole_header meta at
    then stream_tests meta assembly (stream_at meta at) ++ header_tests meta assembly (header_end meta at) n
    else cut_tests assembly (header_cut meta at)

-- ---- the root

-- the headers are whole, and none is that of the tables
abbrev pub lacks_tables : List ℕ → Bool
lacks_tables meta = (length (streams meta) == stream_count meta) && not (is_some (first_named meta (codes "#~")))

abbrev pub root_tests : List ℕ → ℕ → Option ℕ → List Test
root_tests meta assembly (Some at) = cut_tests assembly (Some at)
root_tests meta assembly None = test M2 assembly 0 (lacks_tables meta) ∷ header_tests meta assembly (first_header meta) (stream_count meta)

abbrev pub tests : List ℕ → ℕ → List Test
tests meta assembly = test M1 assembly 0 (not (is_signed meta)) ∷ (if is_signed meta then root_tests meta assembly (root_cut meta) else [])

-- a rule that the root or a stream breaks, and where
unfoldable pub Broken : List ℕ → ℕ → Refusal → Type 0
Broken meta assembly r = Fails (tests meta assembly) r
