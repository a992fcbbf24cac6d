-- The metadata root (ECMA-335, II.24.2.1) and its stream headers (II.24.2.2).
use Rattle.std.specs.Prelude.{ℕ, zero, suc, ◌+◌, ◌*◌, ◌/◌, Bool, ◌==◌, nat_le, List, [], ◌∷◌, length, take, drop, Option, Some, None, find, codes, if◌then◌else◌}
use Rattle.std.specs.List.{before_first}
use Rattle.std.specs.Cmp.Lexicographic.{pointwise}
use Rattle.cil_base.specs.Numbers.{num}

-- the length of the version text, which begins at offset 16
abbrev pub version_length : List ℕ → ℕ
version_length meta = num meta 12 4

abbrev pub version_text : List ℕ → List ℕ
version_text meta = take (version_length meta) (drop 16 meta)

-- the number of streams, behind the text and two bytes of flags
abbrev pub stream_count : List ℕ → ℕ
stream_count meta = num meta (18 + version_length meta) 2

abbrev pub first_header : List ℕ → ℕ
first_header meta = 20 + version_length meta

-- ---- stream headers: an offset from the root, a size, a name

abbrev pub is_zero : ℕ → Bool
is_zero b = b == 0

-- a name ends at its zero byte
abbrev pub name_at : List ℕ → ℕ → List ℕ
name_at meta at = before_first is_zero (drop at meta)

-- the bytes that a name of this length takes: with its zero byte, filled to a multiple of 4
abbrev pub name_width : ℕ → ℕ
name_width n = 4 * (n / 4 + 1)

-- where the header at an offset ends
abbrev pub header_end : List ℕ → ℕ → ℕ
header_end meta at = at + 8 + name_width (length (name_at meta (at + 8)))

abbrev pub is_whole_header : List ℕ → ℕ → Bool
is_whole_header meta at = nat_le (header_end meta at) (length meta)

-- header: the offset of the header. offset and size: where the stream's bytes lie in the metadata
pub record Stream : Type 0 where
  pub header : ℕ
  pub offset : ℕ
  pub size : ℕ
  pub name : List ℕ

abbrev pub stream_at : List ℕ → ℕ → Stream
stream_at meta at = record { header = at; offset = num meta at 4; size = num meta (at + 4) 4; name = name_at meta (at + 8) }

abbrev pub header_at : List ℕ → ℕ → Option (Stream × ℕ)
header_at meta at = if is_whole_header meta at then Some (stream_at meta at, header_end meta at) else None

-- so many headers, one behind the other, up to the first that isn't whole
abbrev pub streams_from : List ℕ → ℕ → ℕ → List Stream
streams_from meta at zero = []
streams_from meta at (suc n) = if is_whole_header meta at then stream_at meta at ∷ streams_from meta (header_end meta at) n else []

-- the streams, in the order of their headers
abbrev pub streams : List ℕ → List Stream
streams meta = streams_from meta (first_header meta) (stream_count meta)

abbrev pub stream_bytes : List ℕ → Stream → List ℕ
stream_bytes meta s = take s.size (drop s.offset meta)

-- ---- streams by name

abbrev pub is_named : List ℕ → Stream → Bool
is_named name s = pointwise ◌==◌ s.name name

abbrev pub first_named : List ℕ → List ℕ → Option Stream
first_named meta name = find (is_named name) (streams meta)

abbrev pub bytes_of : List ℕ → Option Stream → List ℕ
bytes_of meta None = []
bytes_of meta (Some s) = stream_bytes meta s

-- the bytes of the stream of this name; none where there is no such stream
abbrev pub heap_named : List ℕ → List ℕ → List ℕ
heap_named meta name = bytes_of meta (first_named meta name)

abbrev pub strings : List ℕ → List ℕ
strings meta = heap_named meta (codes "#Strings")

abbrev pub blobs : List ℕ → List ℕ
blobs meta = heap_named meta (codes "#Blob")

abbrev pub user_strings : List ℕ → List ℕ
user_strings meta = heap_named meta (codes "#US")

abbrev pub guids : List ℕ → List ℕ
guids meta = heap_named meta (codes "#GUID")

-- the stream of the tables
abbrev pub tables : List ℕ → List ℕ
tables meta = heap_named meta (codes "#~")

abbrev pub offset_of : Option Stream → ℕ
offset_of None = 0
offset_of (Some s) = s.offset

-- where the stream of the tables begins in the metadata
abbrev pub tables_offset : List ℕ → ℕ
tables_offset meta = offset_of (first_named meta (codes "#~"))

-- ---- what a reader sees

-- the metadata of an assembly, whose number is its index among the files of the command
pub record Metadata : Type 0 where
  pub bytes : List ℕ
  pub assembly : ℕ
