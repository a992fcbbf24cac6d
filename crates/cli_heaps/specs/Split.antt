-- What a reader of the heaps keeps: slices of the metadata, found once.
use Rattle.std.specs.Prelude.{◌≡◌, ℕ, ◌<◌, ◌^◌, ◌||◌, ◌==◌, nat_lt, List, length, is_some}
use Rattle.cil_base.specs.Refusals.{NoneBroken}
use Rattle.cli_heaps.specs.Root as root
use Rattle.cli_heaps.specs.RootRules.{Broken}
use Rattle.cli_heaps.specs.Entries.{string_at}

-- strings_end: the offset behind the last zero byte of the strings
pub record IsSplit (meta : List ℕ) (assembly : ℕ) (strings blobs user_strings guids tables : List ℕ) (tables_offset strings_end : ℕ) : Type 0 where
  pub accepted : NoneBroken (Broken meta assembly)
  pub short : length meta < 2 ^ 32
  pub strings_are : strings ≡ root.strings meta
  pub blobs_are : blobs ≡ root.blobs meta
  pub user_strings_are : user_strings ≡ root.user_strings meta
  pub guids_are : guids ≡ root.guids meta
  pub tables_are : tables ≡ root.tables meta
  pub offset_is : tables_offset ≡ root.tables_offset meta
  pub end_is : (at : ℕ) → is_some (string_at strings at) ≡ ((at == 0) || nat_lt at strings_end)
