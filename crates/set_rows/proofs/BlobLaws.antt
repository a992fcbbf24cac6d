-- An entry is no longer than its heap.
use Rattle.std.proofs.Common.{◌≡◌, ℕ, ◌+◌, ◌≤◌, List, [], length, take, drop, arith, Bool, true, false, length-drop}
use Rattle.std.proofs.lemmas.List.{length-take}
use Rattle.std.specs.Prelude.{◌==◌, nat_le, Option, Some, None, if◌then◌else◌}
use Rattle.cil_base.specs.Packed.{packed_at}
use Rattle.cli_heaps.specs.Entries.{bytes_at, counted_at, blob_at}
use Rattle.set_rows.specs.Sets.{or_empty}

taken : (heap : List ℕ) (at n : ℕ) → length (take n (drop at heap)) ≤ length heap
taken heap at n = simp (length-take, length-drop) (omega arith)

if_taken : (heap : List ℕ) (at n : ℕ) (b : Bool) → length (or_empty (if b then Some (take n (drop at heap)) else None)) ≤ length heap
if_taken heap at n true = taken heap at n
if_taken heap at n false = omega arith

counted : (heap : List ℕ) (at : ℕ) (o : Option (ℕ × ℕ)) → length (or_empty (counted_at heap at o)) ≤ length heap
counted heap at None = omega arith
counted heap at (Some (n, width)) = if_taken heap (at + width) n (nat_le (at + width + n) (length heap))

if_first : (heap : List ℕ) (at : ℕ) (b : Bool) → length (or_empty (if b then Some [] else counted_at heap at (packed_at heap at))) ≤ length heap
if_first heap at true = omega arith
if_first heap at false = counted heap at (packed_at heap at)

pub blob_within : (heap : List ℕ) (at : ℕ) → length (or_empty (blob_at heap at)) ≤ length heap
blob_within heap at = if_first heap at (at == 0)
