-- A store in memory, by what its calls show.
use Rattle.std.specs.Prelude.{◌≡◌, ℕ, List, Option, None}
use Rattle.outside_core.specs.declared.memory.MemStore.{MemStore}
use Rattle.outside_core.specs.Memory.{file_under}

-- what stands under a name
abbrev pub file_in : MemStore → List ℕ → Option (List ℕ)
file_in store name = file_under store.entries name

-- no files, nothing counted, and these calls fail
pub record IsNewStore (failing : List ℕ) (store : MemStore) : Type 0 where
  pub empty : (name : List ℕ) → file_in store name ≡ None
  pub calls : store.calls ≡ 0
  pub faults : store.faults ≡ 0
  pub failing_calls : store.failing ≡ failing

pub record SameCounts (old new : MemStore) : Type 0 where
  pub calls : new.calls ≡ old.calls
  pub faults : new.faults ≡ old.faults
  pub failing_calls : new.failing ≡ old.failing
