-- A set of assemblies that was read, and in which no rule on blobs and names is broken (ECMA-335, II.22, II.23.2, II.23.3).
use Rattle.std.specs.Prelude.{ℕ, ◌<◌, length, true}
use Rattle.cil_base.specs.Refusals.{NoneBroken}
use Rattle.set_rows.specs.Sets.{Assemblies, assembly_at}
use Rattle.set_blobs.specs.BadBlobs.{BreaksBlobs}
use Rattle.name_rules.specs.NameTests.{BreaksNames}
use Rattle.growth_rules.specs.Reading.{IsRead}

-- its TARGET may be rewritten
pub record IsSound (s : Assemblies) : Type 0 where
  pub read : (a : ℕ) → a < length s → IsRead (assembly_at s a)
  pub blobs : NoneBroken (BreaksBlobs s)
  pub names : NoneBroken (BreaksNames s true)
