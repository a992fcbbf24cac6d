-- What the table of a tree needs to break no rule on how regions lie (ECMA-335, I.12.4.2.7 and III.1.7.5).
use Rattle.std.specs.Prelude.{◌≡◌, ◌≤◌, ◌+◌, ℕ, max, true, List, [], ◌∷◌, map, All}
use Rattle.std.specs.List.{enumerate_from}
use Rattle.cil_base.specs.declared.refusal.Place.{Place}
use Rattle.cil_base.specs.declared.refusal.Refusal.{Refusal}
use Rattle.cil_base.specs.Refusals.{Fails}
use Rattle.cil_model.specs.declared.body.Body.{Body}
use Rattle.cil_model.specs.declared.body.Region.{Region}
use Rattle.cil_model.specs.declared.tree.Block.{Block}
use Rattle.cil_model.specs.declared.tree.Block.TheOpen.{Block-F}
use Rattle.cil_model.specs.declared.tree.Block.TheFolds.{fold-Block}
use Rattle.cil_model.specs.declared.tree.Handler.{Handler-F}
use Rattle.region_tree.specs.Nesting.{depths_of, has_parts}
use Rattle.region_tree.specs.Rules.{nesting_test}

-- X2 is broken with this refusal.
abbrev pub BreaksNesting : Place → Body → Refusal → Type 0
BreaksNesting place b r = Fails (map (nesting_test place b) (enumerate_from 0 b.regions)) r

-- each try and each handler has an instruction
abbrev pub HaveCode : List Region → Type 0
HaveCode rs = All (λ r. has_parts r ≡ true) rs

-- no region lies deeper
abbrev pub LieWithin : ℕ → List Region → Type 0
LieWithin most rs = All (λ d. d ≤ most) (depths_of rs)

-- ---- how many protected blocks lie in one another

abbrev pub highest : List ℕ → ℕ
highest [] = 0
highest (x ∷ xs) = max x (highest xs)

abbrev pub block_height : Block-F ℕ ℕ → ℕ
block_height (Block-F.Code is) = 0
block_height (Block-F.Guarded inner handlers) = max (highest inner) (highest handlers) + 1

abbrev pub handler_height : Handler-F ℕ ℕ → ℕ
handler_height h = highest h.blocks

abbrev pub height : List Block → ℕ
height bs = highest (map (λ b. fold-Block ℕ ℕ block_height handler_height b) bs)
