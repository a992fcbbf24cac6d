-- Heaps that grow at their end (ECMA-335, II.24.2.3 and II.24.2.4).
use Rattle.std.specs.Prelude.{◌≡◌, ℕ, ◌+◌, ◌/◌, ◌%◌, ◌≤◌, ◌<◌, Bool, ◌||◌, ◌&&◌, ◌==◌, nat_le, List, [], ◌∷◌, ◌++◌, length, drop, true, Option, Some, None, MatchOption, IfSome, Vec, if◌then◌else◌}
use Rattle.std.specs.List.{flat_map, list_any}
use Rattle.std.specs.Cmp.Lexicographic.{pointwise}
use Rattle.std.specs.Map.{lookup}
use Rattle.std.specs.declared.alloc.Global.{Global}
use Rattle.cil_base.specs.Packed.{packed_spelling}
use Rattle.cli_heaps.specs.RootRules.{are_user_strings}

-- base: how many bytes the heap had; added: what stands behind them; entries: the contents of the appended entries, and their offsets
pub record HeapGrowth : Type 0 where
  pub base : ℕ
  pub added : List ℕ
  pub entries : List (List ℕ × ℕ)

abbrev pub no_growth : ℕ → HeapGrowth
no_growth base = record { base = base; added = []; entries = [] }

-- the offset of the first appended entry with these contents
abbrev pub entry_offset : HeapGrowth → List ℕ → Option ℕ
entry_offset g content = lookup (λ c. pointwise ◌==◌ content c) g.entries

abbrev pub grown_length : HeapGrowth → ℕ
grown_length g = g.base + length g.added

-- one zero byte stands in front of the first entry of an empty heap
abbrev pub front : HeapGrowth → List ℕ
front g = if grown_length g == 0 then 0 ∷ [] else []

-- where the next entry stands
abbrev pub next_offset : HeapGrowth → ℕ
next_offset g = grown_length g + length (front g)

-- with one entry more at its end
abbrev pub with_entry : HeapGrowth → List ℕ → List ℕ → HeapGrowth
with_entry g content entry = record { base = g.base; added = g.added ++ (front g ++ entry); entries = g.entries ++ (content, next_offset g) ∷ [] }

-- contents that were appended before keep their offset, and nothing is added; others are appended as this entry
abbrev pub Appends : HeapGrowth → List ℕ → List ℕ → ℕ → ℕ → HeapGrowth → Type 0
Appends g content entry limit at new =
    MatchOption (entry_offset g content) ((at ≡ next_offset g) × (new ≡ with_entry g content entry) × (next_offset g + length entry ≤ limit)) (λ n. (at ≡ n) × (new ≡ g))

-- the entry isn't there yet, and would pass the limit
abbrev pub IsFull : HeapGrowth → List ℕ → List ℕ → ℕ → Type 0
IsFull g content entry limit = (entry_offset g content ≡ None) × (limit < next_offset g + length entry)

-- ---- reading

-- in the grown heap these contents are read at the offset, whatever the bytes of the old heap are
abbrev pub ReadsAt : (List ℕ → ℕ → Option (List ℕ)) → HeapGrowth → ℕ → List ℕ → Type 0
ReadsAt read g at content = (heap : List ℕ) → length heap ≡ g.base → read (heap ++ g.added) at ≡ Some content

-- what is read at an offset of the heap, as it was, is read there still
abbrev pub KeepsEntries : (List ℕ → ℕ → Option (List ℕ)) → HeapGrowth → HeapGrowth → Type 0
KeepsEntries read g new = (heap : List ℕ) (at : ℕ) → IfSome (read (heap ++ g.added) at) (λ content. read (heap ++ new.added) at ≡ Some content)

-- each appended entry is read at its offset
abbrev pub AllRead : (List ℕ → ℕ → Option (List ℕ)) → HeapGrowth → Type 0
AllRead read g = (content : List ℕ) (at : ℕ) → entry_offset g content ≡ Some at → ReadsAt read g at content

-- the bytes of the grown heap from offset 1 on are whole user strings, where those of the old heap are
abbrev pub KeepsUserStrings : HeapGrowth → Type 0
KeepsUserStrings g = (heap : List ℕ) → length heap ≡ g.base → are_user_strings 0 (drop 1 heap) ≡ true → are_user_strings 0 (drop 1 (heap ++ g.added)) ≡ true

-- ---- entries

-- a string and its zero byte
abbrev pub string_entry : List ℕ → List ℕ
string_entry s = s ++ 0 ∷ []

-- the length and the bytes
abbrev pub blob_entry : List ℕ → List ℕ
blob_entry b = packed_spelling (length b) ++ b

-- a unit that needs more than plain comparison: beyond U+00FF, most controls, the apostrophe, the hyphen and U+007F
abbrev pub is_special : ℕ → Bool
is_special u = nat_le 0x100 u || (nat_le 1 u && nat_le u 8) || (nat_le 0xE u && nat_le u 0x1F) || (u == 0x27) || (u == 0x2D) || (u == 0x7F)

abbrev pub unit_bytes : ℕ → List ℕ
unit_bytes u = (u % 256) ∷ (u / 256) ∷ []

-- the units, the low byte first, and whether one is special
abbrev pub user_string_content : List ℕ → List ℕ
user_string_content units = flat_map unit_bytes units ++ (if list_any is_special units then 1 else 0) ∷ []

-- ---- the three heaps

pub record HeapGrowths : Type 0 where
  pub strings : HeapGrowth
  pub blobs : HeapGrowth
  pub user_strings : HeapGrowth

-- ---- as a map holds them

abbrev pub contents_of : List (Vec ℕ Global × ℕ) → List (List ℕ × ℕ)
contents_of [] = []
contents_of ((key, at) ∷ es) = (key.items, at) ∷ contents_of es
