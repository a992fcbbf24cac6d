-- What `rewrite` makes of a set of assemblies (ECMA-335, II.6.1), TARGET first: TARGET written anew.
use Rattle.std.specs.Prelude.{ℕ, true, List, [], ◌∷◌, ◌++◌, map, length}
use Rattle.cil_base.specs.declared.refusal.Refusal.{Refusal}
use Rattle.cil_base.specs.Refusals.{InLayers, NoneOf}
use Rattle.set_check.specs.Sets as checked
use Rattle.set_check.specs.Sets.{bytes_at}
use Rattle.assembly_rewrite.specs.Rewrite as one

-- the rules on the set; then those on TARGET as it is written
pub data Layer : Type 0 where
  OfSet : checked.Layer → Layer
  OfTarget : one.Layer → Layer

-- what is tried where the rules on the set are kept
abbrev pub writing_layers : List Layer
writing_layers = OfTarget one.Limits ∷ OfTarget one.Room ∷ []

-- of a set of so many, in the order in which they are tried
abbrev pub layers : ℕ → List Layer
layers n = map OfSet (checked.layers true n) ++ writing_layers

-- a rule that the set breaks, and where
abbrev pub Breaks : List (List ℕ) → Layer → Refusal → Type 0
Breaks set (OfSet layer) = checked.Breaks set layer
Breaks set (OfTarget layer) = one.Breaks (bytes_at set 0) 0 layer

-- which refusals may be named where the layer is the first that is broken
abbrev pub Names : List (List ℕ) → Layer → Refusal → Type 0
Names set (OfSet layer) = checked.Names set layer
Names set (OfTarget layer) = one.Names (bytes_at set 0) 0 layer

-- which two of a layer may both be named
abbrev pub MayBoth : List (List ℕ) → Layer → Refusal → Refusal → Type 0
MayBoth set (OfSet layer) r s = ⊥
MayBoth set (OfTarget layer) r s = one.MayBoth (bytes_at set 0) layer r s

-- the first broken rule of the set
abbrev pub IsSetRefusal : List (List ℕ) → Refusal → Type 0
IsSetRefusal set = InLayers (Breaks set) (Names set) (layers (length set))

-- No rule is broken.
abbrev pub KeepsSetRules : List (List ℕ) → Type 0
KeepsSetRules set = NoneOf (Breaks set) (layers (length set))
