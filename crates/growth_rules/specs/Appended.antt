-- What is appended to TARGET of a set, and what it may say (ECMA-335, II.22; own).
use Rattle.std.specs.Prelude.{◌≡◌, ◌∷◌}
use Rattle.set_names.specs.Names.{Name}
use Rattle.set_rows.specs.Sets.{Assembly, Assemblies}
use Rattle.set_program.specs.Environment.{is_value}
use Rattle.descriptions.specs.Programs.{program_of}
use Rattle.set_growth.specs.Grown.{IsGrown, KeepsAccess, KeepsTexts}
use Rattle.growth_premises.specs.Bases.{BasesBelow}

-- Rows, which make no outside type a value type that was none. Types among them have bases outside or of lower numbers.
pub record IsAppended (x x' : Assembly) (xs : Assemblies) : Type 0 where
  pub rows : IsGrown x x'
  pub access : KeepsAccess x x'
  pub texts : KeepsTexts x x'
  pub values : (name : Name) → is_value (x' ∷ xs) name ≡ is_value (x ∷ xs) name
  pub bases : BasesBelow (program_of (x ∷ xs)) (program_of (x' ∷ xs))
