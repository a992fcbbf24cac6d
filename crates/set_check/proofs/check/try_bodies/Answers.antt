use Rattle.std.proofs.Common.{◌≡◌, ◌∙◌, sym, subst, length, List, ℕ, ◌<◌, ◌^◌}
use Rattle.set_check.specs.Sets.{bytes_at, bytes_of}
use Rattle.set_check.proofs.SetLaws.{same_assemblies, bytes_of_there}
use Rattle.set_check.proofs.check.try_bodies.Goals as goal

pub check_set_bodies-requires-clause-short : goal.check_set_bodies-requires-clause-short
check_set_bodies-requires-clause-short c k file there =
    subst (λ (bytes : List ℕ). length bytes < 2 ^ 32) (sym (bytes_of_there c.args.set.now k file there)) (c.requires.short k)

pub check_set_bodies-requires-clause-tables : goal.check_set_bodies-requires-clause-tables
check_set_bodies-requires-clause-tables c = c.requires.same ∙ sym (same_assemblies c.args.set.now)
