-- A sink in memory, by what its calls show.
use Rattle.std.specs.Prelude.{◌≡◌, ℕ, List, []}
use Rattle.outside_core.specs.declared.memory.MemSink.{MemSink}

abbrev pub taken_by : MemSink → List ℕ
taken_by sink = sink.taken.items

-- nothing taken, nothing counted, this room, and these calls fail
pub record IsNewSink (room : ℕ) (failing : List ℕ) (sink : MemSink) : Type 0 where
  pub empty : taken_by sink ≡ []
  pub left : sink.room ≡ room
  pub calls : sink.calls ≡ 0
  pub faults : sink.faults ≡ 0
  pub failing_calls : sink.failing ≡ failing
