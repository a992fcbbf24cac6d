-- From the rules on a set to the premises of the law on appended rows, and the law.
use Rattle.std.proofs.Common.{◌≡◌, refl, arith, ℕ, ◌≤◌, ◌∷◌, Bool, true, false}
use Rattle.std.specs.Prelude.{find, nat_lt, nat_le, ◌==◌, Some, None, if◌then◌else◌}
use Rattle.cil_base.specs.declared.tables.TheConstants.{INTERFACE_IMPL, MEMBER_REF, METHOD_IMPL, METHOD_SPEC, NESTED_CLASS, TYPE_DEF}
use Rattle.set_rows.specs.Sets.{Assembly, Assemblies, assembly_at, count_in, cell, is_row, rows_in}
use Rattle.set_program.specs.TypeNames.{enclosing, enclosing_in}
use Rattle.descriptions.specs.Programs.{program_of}
use Rattle.machine_laws.specs.Answers.{NamesOwn, NamesNone}
use Rattle.machine_laws.specs.Growth.{Ranked, Extends}
use Rattle.set_growth.specs.Grown.{SaysAlike}
use Rattle.set_growth.specs.Orderly.{IsOrderly}
use Rattle.set_growth.proofs.FindLaws.{lt_from, le_from}
use Rattle.program_growth.specs.Kept.{KeepsProgram}
use Rattle.program_growth.specs.Rules.{HasPlaces, IsDescribed, IsNamed}
use Rattle.program_growth.proofs.ProgramLaws.{keeps_program}
use Rattle.program_growth.proofs.ExtendLaws.{extends}
use Rattle.growth_premises.specs.Attributes.{HasAttributes}
use Rattle.growth_premises.specs.Places.{NestsInTypes}
use Rattle.growth_premises.specs.Rules.{KeepsRules, HasIndexes, HasMethodIndexes}
use Rattle.growth_premises.proofs.AttributeLaws.{says_alike}
use Rattle.growth_premises.proofs.DescribedLaws.{is_described}
use Rattle.growth_premises.proofs.GrownRankLaws.{grown_ranked}
use Rattle.growth_premises.proofs.NumberedLaws.{is_there, is_numbered}
use Rattle.growth_premises.proofs.PlacedLaws.{has_places}
use Rattle.growth_premises.proofs.OwnerLaws.{all_references}
use Rattle.growth_premises.proofs.RuleLaws.{is_named, both_left, both_right}
use Rattle.growth_rules.specs.Reading.{IsRead}
use Rattle.growth_rules.specs.Sound.{IsSound}
use Rattle.growth_rules.specs.Appended.{IsAppended}
use Rattle.growth_rules.proofs.NestingLaws.{has_name}
use Rattle.growth_rules.proofs.NewTypeLaws.{names_none}
use Rattle.growth_rules.proofs.OwnNameLaws.{names_own}
use Rattle.growth_rules.proofs.RankedLaws.{ranked}
use Rattle.growth_rules.proofs.RowIndexLaws.{bases, interfaces, parents, bodies, declarations, instances, has_attributes}
use Rattle.growth_rules.proofs.SoundBlobLaws.{specs, field_blobs, method_blobs}
use Rattle.growth_rules.proofs.SoundRowLaws.{keeps_rules, no_runtime}
use Rattle.growth_rules.proofs.TargetIndexLaws.{exported, scopes, outer, around, interface_classes, field_lists, method_lists}

-- ---- of the whole set

module _ (s : Assemblies) (sound : IsSound s) where
  readable : (a table row : ℕ) → 1 ≤ row → row ≤ count_in (assembly_at s a) table → IsRead (assembly_at s a)
  readable a table row low high = sound.read a (is_there s a table row low high)

  pub has_indexes : HasIndexes s
  has_indexes = record {
    field_blobs = field_blobs s sound.blobs;
    method_blobs = method_blobs s sound.blobs;
    bases = λ a row low high. bases (assembly_at s a) (readable a TYPE_DEF row low high) (specs s sound.blobs a) row low high;
    parents = λ a row low high is. parents (assembly_at s a) (readable a MEMBER_REF row low high) (specs s sound.blobs a) row low high is;
  }

  pub has_method_indexes : HasMethodIndexes s
  has_method_indexes = record {
    interfaces = λ a k low high. interfaces (assembly_at s a) (readable a INTERFACE_IMPL k low high) (specs s sound.blobs a) k low high;
    bodies = λ a k low high. bodies (assembly_at s a) (readable a METHOD_IMPL k low high) k low high;
    declarations = λ a k low high. declarations (assembly_at s a) (readable a METHOD_IMPL k low high) k low high;
    instances = λ a row low high. instances (assembly_at s a) (readable a METHOD_SPEC row low high) row low high;
  }

  nested_row : (y : Assembly) (row k : ℕ) → enclosing y row ≡ Some k → is_row y TYPE_DEF row ≡ true
  unfolding enclosing
  nested_row y row k e = go (is_row y TYPE_DEF row) e
    where
      go : (b : Bool) → (if b then enclosing_in y (find (λ n. cell y NESTED_CLASS n 0 == row) (rows_in y NESTED_CLASS)) else None) ≡ Some k → b ≡ true
      go true f = refl
      go false f = absurd cc

  pub nests : NestsInTypes s
  nests a row k e =
      let there : is_row (assembly_at s a) TYPE_DEF row ≡ true = nested_row (assembly_at s a) row k e in
      let low : 1 ≤ row = lt_from 0 row (both_left (nat_lt 0 row) (nat_le row (count_in (assembly_at s a) TYPE_DEF)) there) in
      let high : row ≤ count_in (assembly_at s a) TYPE_DEF = le_from row (count_in (assembly_at s a) TYPE_DEF) (both_right (nat_lt 0 row) (nat_le row (count_in (assembly_at s a) TYPE_DEF)) there) in
      let at : (1 ≤ k) × (k ≤ count_in (assembly_at s a) TYPE_DEF) = around (assembly_at s a) (readable a TYPE_DEF row low high) row k e in
      at.1

-- ---- of its TARGET

module _ (x : Assembly) (xs : Assemblies) (sound : IsSound (x ∷ xs)) where
  abbrev s : Assemblies
  s = x ∷ xs

  read : IsRead x
  read = sound.read 0 (omega arith)

  kept : KeepsRules s
  kept = keeps_rules s sound

  pub is_orderly : IsOrderly x
  is_orderly = record {
    exported = exported x read;
    scopes = scopes x read;
    outer = outer x read;
    around = λ row next e. let at : (1 ≤ next) × (next ≤ count_in x TYPE_DEF) = around x read row next e in at.1;
    named = has_name x xs (around x read) kept;
    field_lists = λ row high. field_lists x read row;
    method_lists = λ row high. method_lists x read row;
    no_runtime = no_runtime s sound;
  }

  pub target_attributes : HasAttributes x
  target_attributes = has_attributes x read

  named : IsNamed s
  named = is_named s kept (has_indexes s sound)

  described : IsDescribed s
  described = is_described s kept (has_method_indexes s sound)

  placed : HasPlaces s
  placed = has_places x xs is_orderly (nests s sound) (all_references x xs is_orderly)

  pub sound_names_own : NamesOwn (program_of s)
  sound_names_own = names_own x xs kept placed described

  -- ---- where rows are appended

  module _ (x' : Assembly) (appended : IsAppended x x' xs) where
    alike : SaysAlike s (x' ∷ xs)
    alike = says_alike x x' xs appended.rows is_orderly kept target_attributes appended.values

    pub sound_keeps : KeepsProgram (program_of s) (program_of (x' ∷ xs))
    sound_keeps = keeps_program x x' xs appended.rows appended.access appended.texts is_orderly named (is_numbered x xs) alike described placed

    none_named : NamesNone (program_of s) (program_of (x' ∷ xs))
    none_named = names_none x x' xs appended.rows is_orderly named.references alike.attributes (interface_classes x read)

    pub sound_extends : Extends (program_of s) (program_of (x' ∷ xs))
    sound_extends =
        let above : Ranked (program_of s) = ranked x xs kept in
        extends x x' xs appended.rows appended.access appended.texts is_orderly named (is_numbered x xs) alike described placed above
        (grown_ranked (program_of s) (program_of (x' ∷ xs)) sound_keeps above sound_names_own none_named appended.bases)
