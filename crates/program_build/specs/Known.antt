-- What is known of an assembly of a set before its program is made, and what gives the numbers of signatures (own).
use Rattle.std.specs.Prelude.{◌≡◌, ℕ, List, length, slice_get, Option, Some}
use Rattle.set_rows.specs.Sets.{Assemblies, assembly_at}
use Rattle.descriptions.specs.Facts.{AreFacts}
use Rattle.descriptions.specs.TypeFacts.{AreTypeLists}
use Rattle.descriptions.specs.Descriptions.{all_signatures}
use Rattle.descriptions.specs.Signatures.{place_in, signature_number}
use Rattle.type_facts.specs.Known.{AreTypeMarks, AreMethodMarks}
use Rattle.program_build.specs.declared.facts.Known.{Known}
use Rattle.program_build.specs.declared.signatures.Signatures.{Signatures}

pub record IsKnown (s : Assemblies) (a : ℕ) (k : Known) : Type 0 where
  pub members : AreFacts s a k.members
  pub lists : AreTypeLists (assembly_at s a) k.lists
  pub types : AreTypeMarks s a k.types
  pub methods : AreMethodMarks s a k.methods

-- of each assembly
pub record AreKnown (s : Assemblies) (all : List Known) : Type 0 where
  pub many : length all ≡ length s
  pub each : (a : ℕ) (k : Known) → slice_get all a ≡ Some k → IsKnown s a k

-- the numbers of the signatures of the set's methods
pub record AreNumbers (s : Assemblies) (n : Signatures) : Type 0 where
  pub each : (signature : Option (List ℕ)) → place_in n.found n.count signature ≡ signature_number (all_signatures s) signature
