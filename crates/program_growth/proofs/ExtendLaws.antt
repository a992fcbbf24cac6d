-- The program of a set to which rows are appended extends the old one.
use Rattle.std.specs.Prelude.{◌∷◌}
use Rattle.machine_laws.specs.Growth.{Ranked, Extends}
use Rattle.set_rows.specs.Sets.{Assembly, Assemblies}
use Rattle.descriptions.specs.Programs.{program_of}
use Rattle.set_growth.specs.Grown.{IsGrown, KeepsAccess, SaysAlike, KeepsTexts}
use Rattle.set_growth.specs.Orderly.{IsOrderly}
use Rattle.program_growth.specs.Rules.{IsNamed, IsNumbered, IsDescribed, HasPlaces}
use Rattle.program_growth.specs.Kept.{KeepsProgram}
use Rattle.program_growth.proofs.ProgramLaws.{keeps_program}
use Rattle.program_growth.proofs.SignatureNumberLaws.{signatures_same}

module _ (x x' : Assembly) (xs : Assemblies) (grown : IsGrown x x') (access : KeepsAccess x x') (texts : KeepsTexts x x') (orderly : IsOrderly x) (named : IsNamed (x ∷ xs)) (numbered : IsNumbered (x ∷ xs)) (alike : SaysAlike (x ∷ xs) (x' ∷ xs)) (described : IsDescribed (x ∷ xs)) (placed : HasPlaces (x ∷ xs)) where
  pub extends : Ranked (program_of (x ∷ xs)) → Ranked (program_of (x' ∷ xs)) → Extends (program_of (x ∷ xs)) (program_of (x' ∷ xs))
  unfolding program_of
  extends ranked ranked_too =
      let k : KeepsProgram (program_of (x ∷ xs)) (program_of (x' ∷ xs)) = keeps_program x x' xs grown access texts orderly named numbered alike described placed in
      record {
        ranked = ranked;
        ranked_too = ranked_too;
        more_types = k.more_types;
        more_fields = k.more_fields;
        more_methods = k.more_methods;
        types = k.types;
        fields = k.fields;
        methods = k.methods;
        signatures = signatures_same x x' xs grown orderly named numbered alike placed;
        tokens = k.tokens;
      }
