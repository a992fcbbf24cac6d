use Rattle.std.proofs.Common.{◌≡◌, take}
use Rattle.std.specs.List.{flat_map}
use Rattle.heap_writer.specs.Growth.{unit_bytes}
use Rattle.heap_writer.proofs.builder.user_string_content.Given as goal

abbrev pub invariant-loop-unit : goal.invariant-loop-unit
invariant-loop-unit l = l.bytes.items ≡ flat_map unit_bytes (take l.unit-index l.units)
