use Rattle.std.proofs.Common.{◌≡◌, ◌∙◌, sym, subst, ap, arith, length, List, ℕ, ◌<◌, ◌^◌}
use Rattle.set_check.specs.Sets.{bytes_at, bytes_of}
use Rattle.set_check.proofs.BodyLaws.{set_bodies_are, program_read}
use Rattle.set_check.proofs.SetLaws.{same_assemblies, bytes_of_there, count_parts}
use Rattle.set_check.proofs.check.fill.Goals as goal

pub set_bodies-requires-clause-short : goal.set_bodies-requires-clause-short
set_bodies-requires-clause-short c k file there =
    subst (λ (bytes : List ℕ). length bytes < 2 ^ 32) (sym (bytes_of_there c.args.set.now k file there)) (c.requires.short k)

pub set_bodies-requires-clause-tables : goal.set_bodies-requires-clause-tables
set_bodies-requires-clause-tables c = c.requires.same ∙ sym (same_assemblies c.args.set.now)

pub returns-in-Ok-clause-done : goal.returns-in-Ok-clause-done
returns-in-Ok-clause-done c =
    let s = c.args.tables.now in
    let all = c.in-Ok.bodies.items in
    let some : 0 < length s = omega (arith, c.requires.some, count_parts c.args.set.now s c.requires.same) in
    program_read s all c.in-Ok.ensures.bodies c.set_bodies-in-Ok.new.program
    (c.set_bodies-in-Ok.ensures.whole s some c.requires.program (set_bodies_are s all c.in-Ok.ensures.bodies))
    (c.set_bodies-in-Ok.ensures.held s some c.requires.program)
