-- The rules of a command on what its files hold, layer by layer in the order in which they are tried. A new layer is one more entry of its list.
use Rattle.std.specs.Prelude.{◌⊎◌, ℕ, List, [], ◌∷◌, length}
use Rattle.cil_base.specs.declared.refusal.Refusal.{Refusal}
use Rattle.command_line.specs.declared.words.Command.{Command}
use Rattle.command_line.specs.declared.words.Command.TheVariants as commands
use Rattle.body_splice.specs.Rewrite as body
use Rattle.set_list.specs.Lists as listing
use Rattle.set_check.specs.Sets.{bytes_at}
use Rattle.set_rewrite.specs.Sets as rewriting

-- these files are refused by this: the first broken rule
abbrev pub IsInnerRefusal : Command → List (List ℕ) → Refusal → Type 0
IsInnerRefusal commands.Body set = body.IsBodyRefusal (bytes_at set 0)
IsInnerRefusal (commands.Rewrite settings) set = rewriting.IsSetRefusal set
IsInnerRefusal commands.List set = listing.IsUnsound set

-- no rule is broken
abbrev pub KeepsInnerRules : Command → List (List ℕ) → Type 0
KeepsInnerRules commands.Body set = body.KeepsBodyRules (bytes_at set 0)
KeepsInnerRules (commands.Rewrite settings) set = rewriting.KeepsSetRules set
KeepsInnerRules commands.List set = listing.IsSound set

-- it is so in one of the layers
abbrev pub InSome : {L : Type 0} → (L → Refusal → Refusal → Type 0) → List L → Refusal → Refusal → Type 0
InSome Holds [] r s = ⊥
InSome Holds (l ∷ ls) r s = Holds l r s ⊎ InSome Holds ls r s

-- either of the two may be named
abbrev pub IsInnerEither : Command → List (List ℕ) → Refusal → Refusal → Type 0
IsInnerEither commands.Body set r s = ⊥
IsInnerEither (commands.Rewrite settings) set r s = InSome (rewriting.MayBoth set) (rewriting.layers (length set)) r s
IsInnerEither commands.List set r s = ⊥
