use Rattle.std.proofs.Common.{◌≡◌, ◌++◌, ◌+◌, ◌-◌, ◌*◌}
use Rattle.pe_image.specs.Written.{moved_headers}
use Rattle.pe_image.proofs.write.push_table.Given as goal

abbrev pub invariant-loop-i : goal.invariant-loop-i
invariant-loop-i l =
    l.out.items ++ moved_headers l.bytes l.by (l.headers.sections + 40 * l.i) (l.headers.count - l.i)
    ≡ l.initial.out.items ++ moved_headers l.bytes l.by l.headers.sections l.headers.count
