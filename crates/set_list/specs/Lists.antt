-- What `list` tells of a set of assemblies (own): the types of the first, their methods and their clauses; and what it refuses.
use Rattle.std.specs.Prelude.{◌≡◌, ℕ, false, List, [], ◌∷◌, ◌++◌, map, length}
use Rattle.cil_base.specs.declared.refusal.Refusal.{Refusal}
use Rattle.cil_base.specs.Refusals.{First, InLayers, NoneOf}
use Rattle.cil_model.specs.declared.contract.Contract.{Contract}
use Rattle.cil_model.specs.declared.program.Program.{Program}
use Rattle.set_rows.specs.Sets.{Assemblies, assembly_at}
use Rattle.list_lines.specs.Lists.{text_at, types_text}
use Rattle.own_contracts.specs.Own.{AreOwn, BreaksOwn}
use Rattle.own_contracts.specs.Inherited.{Inherits}
use Rattle.set_check.specs.Sets as checked
use Rattle.set_check.specs.Sets.{assemblies_of, IsReadProgram, IsContractFrom}
use Rattle.set_list.specs.Unread.{IsUnread}

-- ---- the text

-- The text of the program of the set with the own contracts of its methods.
pub record IsListed (set : List (List ℕ)) (text : List ℕ) : Type 0 where
  pub program : Program
  pub contracts : List Contract
  pub is : IsReadProgram (assemblies_of set) program
  pub own : AreOwn program contracts
  pub says : text ≡ types_text (text_at contracts) program

-- ---- the layers of rules

-- the rules on the set; those on contract blocks; then what isn't read yet, since effective contracts may be others than own ones:
-- contracts of other assemblies, contract attributes, and clauses from other methods
pub data Layer : Type 0 where
  OfSet : checked.Layer → Layer
  OwnContracts : Layer
  OtherAssemblies : Layer
  Attributes : Layer
  OtherSources : Layer

-- what isn't read yet
abbrev pub unread_layers : List Layer
unread_layers = OtherAssemblies ∷ Attributes ∷ OtherSources ∷ []

-- what is tried where the rules on rows and bodies are kept
abbrev pub contract_layers : List Layer
contract_layers = OwnContracts ∷ unread_layers

-- what is tried where each assembly is read
abbrev pub later_layers : List Layer
later_layers = map OfSet (checked.row_layers false) ++ contract_layers

-- of a set of so many, in the order in which they are tried
abbrev pub layers : ℕ → List Layer
layers n = map OfSet (checked.all_reading_layers 0 n) ++ later_layers

-- one of C1 to C7 in the program of a set
pub record BreaksBlocks (s : Assemblies) (r : Refusal) : Type 0 where
  pub program : Program
  pub is : IsReadProgram s program
  pub breaks : BreaksOwn program r

-- a method of the first assembly that has clauses from another source
pub record HasOtherSource (s : Assemblies) (r : Refusal) : Type 0 where
  pub program : Program
  pub contracts : List Contract
  pub is : IsReadProgram s program
  pub own : AreOwn program contracts
  pub inherits : Inherits program contracts r

-- a rule that the set breaks, and where
abbrev pub Breaks : List (List ℕ) → Layer → Refusal → Type 0
Breaks set (OfSet layer) = checked.Breaks set layer
Breaks set OwnContracts = BreaksBlocks (assemblies_of set)
Breaks set OtherAssemblies = IsContractFrom 1 set
Breaks set Attributes = IsUnread (assembly_at (assemblies_of set) 0)
Breaks set OtherSources = HasOtherSource (assemblies_of set)

-- the first of a layer
abbrev pub Names : List (List ℕ) → Layer → Refusal → Type 0
Names set layer = First (Breaks set layer)

-- the first broken rule of the set
abbrev pub IsUnsound : List (List ℕ) → Refusal → Type 0
IsUnsound set = InLayers (Breaks set) (Names set) (layers (length set))

-- no rule is broken
abbrev pub IsSound : List (List ℕ) → Type 0
IsSound set = NoneOf (Breaks set) (layers (length set))
