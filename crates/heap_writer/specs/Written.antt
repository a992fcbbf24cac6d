-- A metadata root that is written: the streams one behind the other, each at a multiple of 4 (ECMA-335, II.24.2.1 and II.24.2.2).
use Rattle.std.specs.Prelude.{◌≡◌, ℕ, ◌+◌, ◌-◌, ◌%◌, ◌<◌, ◌≤◌, ◌^◌, true, not, ◌||◌, ◌==◌, nat_lt, List, [], ◌∷◌, ◌++◌, length, take, map, filter, All, Option, is_some, IfSome, Some, codes, if◌then◌else◌}
use Rattle.std.specs.List.{flat_map}
use Rattle.cil_base.specs.declared.rule.Rule.TheVariants.{L5, L6}
use Rattle.cil_base.specs.declared.refusal.Refusal.{Refusal}
use Rattle.cil_base.specs.Bytes.{number_bytes, zeros, padding, padded}
use Rattle.cil_base.specs.Refusals.{NoneBroken, Test, Fails, limit_refusal}
use Rattle.cli_heaps.specs.Root as root
use Rattle.cli_heaps.specs.Root.{Stream, version_length, version_text, first_header, name_width, streams, stream_bytes, is_named, first_named, strings, blobs, user_strings, guids}
use Rattle.cli_heaps.specs.RootRules.{Broken, is_known}
use Rattle.cli_heaps.specs.Entries.{string_at, blob_at, guid_at}
use Rattle.heap_writer.specs.Growth.{HeapGrowth, HeapGrowths, grown_length, entry_offset, ReadsAt}

-- ---- the streams that are written

-- a stream by its name and its bytes
pub record Part : Type 0 where
  pub name : List ℕ
  pub bytes : List ℕ

-- the bytes of the five known streams
pub record Known : Type 0 where
  pub tables : List ℕ
  pub strings : List ℕ
  pub user_strings : List ℕ
  pub guids : List ℕ
  pub blobs : List ℕ

-- each heap with what is added to it
abbrev pub grown_known : List ℕ → HeapGrowths → List ℕ → Known
grown_known old g tables = record {
  tables = tables;
  strings = padded 4 (strings old ++ g.strings.added);
  user_strings = padded 4 (user_strings old ++ g.user_strings.added);
  guids = padded 4 (guids old);
  blobs = padded 4 (blobs old ++ g.blobs.added);
}

-- the new bytes of an old stream; an unknown one keeps its own
abbrev pub new_bytes : List ℕ → Known → Stream → List ℕ
new_bytes old k s =
    if is_named (codes "#~") s then k.tables
    else if is_named (codes "#Strings") s then k.strings
    else if is_named (codes "#US") s then k.user_strings
    else if is_named (codes "#GUID") s then k.guids
    else if is_named (codes "#Blob") s then k.blobs
    else stream_bytes old s

abbrev pub old_part : List ℕ → Known → Stream → Part
old_part old k s = record { name = s.name; bytes = new_bytes old k s }

-- a heap that was missing and gains an entry
abbrev pub missing_part : List ℕ → List ℕ → List ℕ → List ℕ → List Part
missing_part old name added bytes = if is_some (first_named old name) || (length added == 0) then [] else record { name = name; bytes = bytes } ∷ []

abbrev pub missing_parts : List ℕ → HeapGrowths → Known → List Part
missing_parts old g k =
    missing_part old (codes "#Strings") g.strings.added k.strings
    ++ missing_part old (codes "#US") g.user_strings.added k.user_strings
    ++ missing_part old (codes "#Blob") g.blobs.added k.blobs

-- the old streams in the order of their headers, and then the heaps that were missing
abbrev pub parts : List ℕ → HeapGrowths → List ℕ → List Part
parts old g tables = map (old_part old (grown_known old g tables)) (streams old) ++ missing_parts old g (grown_known old g tables)

-- ---- their bytes

-- a name with its zero bytes
abbrev pub name_field : List ℕ → List ℕ
name_field name = name ++ zeros (name_width (length name) - length name)

-- the stream headers, where the first stream begins at an offset
abbrev pub headers : ℕ → List Part → List ℕ
headers at [] = []
headers at (p ∷ ps) = number_bytes 4 at ++ (number_bytes 4 (length p.bytes) ++ (name_field p.name ++ headers (at + length (padded 4 p.bytes)) ps))

abbrev pub headers_size : List Part → ℕ
headers_size [] = 0
headers_size (p ∷ ps) = 8 + name_width (length p.name) + headers_size ps

abbrev pub bodies : List Part → List ℕ
bodies ps = flat_map (λ p. padded 4 p.bytes) ps

-- how many bytes the streams take, with their headers and the zeros that pad them
abbrev pub streams_size : List Part → ℕ
streams_size [] = 0
streams_size (p ∷ ps) = 8 + name_width (length p.name) + length (padded 4 p.bytes) + streams_size ps

-- where the headers end
abbrev pub headers_end : List ℕ → List Part → ℕ
headers_end old ps = first_header old + headers_size ps

abbrev pub first_body : List ℕ → List Part → ℕ
first_body old ps = headers_end old ps + padding 4 (headers_end old ps)

-- all but the streams is as it was
abbrev pub written_root : List ℕ → List Part → List ℕ
written_root old ps =
    take (18 + version_length old) old
    ++ (number_bytes 2 (length ps)
    ++ (headers (first_body old ps) ps
    ++ (zeros (padding 4 (headers_end old ps))
    ++ bodies ps)))

-- ---- limits

-- A limit, and whether so many pass it. The bytes that pad a heap aren't counted.
abbrev pub limit_test : ℕ → ℕ → Test
limit_test limit n = record { refusal = limit_refusal L5 limit; fails = nat_lt limit n }

-- of the heaps
abbrev pub heap_limits : List ℕ → HeapGrowths → List Test
heap_limits old g =
    limit_test (2 ^ 28) (grown_length g.strings) ∷
    limit_test (2 ^ 28) (grown_length g.blobs) ∷
    limit_test (2 ^ 28) (length (guids old)) ∷
    limit_test (2 ^ 24) (grown_length g.user_strings) ∷ []

-- of the heaps, and of the number of streams
abbrev pub limit_tests : List ℕ → HeapGrowths → List ℕ → List Test
limit_tests old g tables = heap_limits old g ++ limit_test 65535 (length (parts old g tables)) ∷ []

-- of the length: an image that holds the metadata has over 128 MiB
abbrev pub length_test : List ℕ → HeapGrowths → List ℕ → Test
length_test old g tables = record { refusal = limit_refusal L6 (2 ^ 27); fails = nat_lt (2 ^ 27) (length (written_root old (parts old g tables))) }

-- the length is tested last
abbrev pub all_limits : List ℕ → HeapGrowths → List ℕ → List Test
all_limits old g tables = limit_tests old g tables ++ length_test old g tables ∷ []

-- no limit of L5 is passed, but that of an image
pub record IsTooLong (old : List ℕ) (g : HeapGrowths) (tables : List ℕ) (r : Refusal) : Type 0 where
  pub within : NoneBroken (Fails (limit_tests old g tables))
  pub long : 2 ^ 27 < length (written_root old (parts old g tables))
  pub refusal_is : r ≡ limit_refusal L6 (2 ^ 27)

-- no limit is passed
pub record Within (old : List ℕ) (g : HeapGrowths) (tables : List ℕ) : Type 0 where
  pub limits : NoneBroken (Fails (limit_tests old g tables))
  pub short : length (written_root old (parts old g tables)) ≤ 2 ^ 27

-- no heap is over its limit
pub record FitHeaps (old : List ℕ) (g : HeapGrowths) : Type 0 where
  pub strings : grown_length g.strings ≤ 2 ^ 28
  pub blobs : grown_length g.blobs ≤ 2 ^ 28
  pub guids : length (root.guids old) ≤ 2 ^ 28
  pub user_strings : grown_length g.user_strings ≤ 2 ^ 24

-- ---- what is read in them

-- the heaps were made of this root, and grew since
pub record GrewFrom (old : List ℕ) (g : HeapGrowths) : Type 0 where
  pub strings : g.strings.base ≡ length (root.strings old)
  pub blobs : g.blobs.base ≡ length (root.blobs old)
  pub user_strings : g.user_strings.base ≡ length (root.user_strings old)

-- the streams by name and bytes, in the order of their headers
abbrev pub contents : List ℕ → List Part
contents meta = map (λ s. record { name = s.name; bytes = stream_bytes meta s }) (streams meta)

-- those of names that aren't known
abbrev pub unknown_streams : List ℕ → List Part
unknown_streams meta = map (λ s. record { name = s.name; bytes = stream_bytes meta s }) (filter (λ s. not (is_known s)) (streams meta))

-- the new root
pub record IsWritten (old : List ℕ) (g : HeapGrowths) (tables new : List ℕ) : Type 0 where
  pub accepted : (assembly : ℕ) → NoneBroken (Broken new assembly)
  pub short : length new < 2 ^ 32
  pub version_is : version_text new ≡ version_text old
  pub contents_are : contents new ≡ parts old g tables
  pub aligned : All (λ s. s.offset % 4 ≡ 0) (streams new)
  pub words : All (λ s. is_known s ≡ true → s.size % 4 ≡ 0) (streams new)
  pub tables_are : root.tables new ≡ tables
  pub strings_are : root.strings new ≡ padded 4 (root.strings old ++ g.strings.added)
  pub blobs_are : root.blobs new ≡ padded 4 (root.blobs old ++ g.blobs.added)
  pub user_strings_are : root.user_strings new ≡ padded 4 (root.user_strings old ++ g.user_strings.added)
  pub guids_are : root.guids new ≡ padded 4 (root.guids old)
  pub unknown_are : unknown_streams new ≡ unknown_streams old

-- what is read at an offset is read there still
abbrev pub Keeps : (List ℕ → ℕ → Option (List ℕ)) → List ℕ → List ℕ → Type 0
Keeps read old new = (at : ℕ) → IfSome (read old at) (λ content. read new at ≡ Some content)

-- each appended entry is read at its offset
abbrev pub IsRead : (List ℕ → ℕ → Option (List ℕ)) → HeapGrowth → List ℕ → Type 0
IsRead read g new = (content : List ℕ) (at : ℕ) → entry_offset g content ≡ Some at → read new at ≡ Some content

-- The entries of the new root: the old ones at their offsets, all that were appended, and so what is known of one of them.
pub record EntriesRead (old : List ℕ) (g : HeapGrowths) (new : List ℕ) : Type 0 where
  pub old_strings : Keeps string_at (strings old) (strings new)
  pub old_blobs : Keeps blob_at (blobs old) (blobs new)
  pub old_user_strings : Keeps blob_at (user_strings old) (user_strings new)
  pub old_guids : Keeps guid_at (guids old) (guids new)
  pub strings_read : IsRead string_at g.strings (strings new)
  pub blobs_read : IsRead blob_at g.blobs (blobs new)
  pub user_strings_read : IsRead blob_at g.user_strings (user_strings new)
  pub new_strings : (at : ℕ) (content : List ℕ) → ReadsAt string_at g.strings at content → string_at (strings new) at ≡ Some content
  pub new_blobs : (at : ℕ) (content : List ℕ) → ReadsAt blob_at g.blobs at content → blob_at (blobs new) at ≡ Some content
  pub new_user_strings : (at : ℕ) (content : List ℕ) → ReadsAt blob_at g.user_strings at content → blob_at (user_strings new) at ≡ Some content
