-- The handlers that run where a seam begins run on within it.
use Rattle.std.proofs.Common.{◌≡◌, ℕ, Bool, List, [], ◌∷◌, refl, ap, ◌∙◌, subst}
use Rattle.std.specs.Prelude.{filter, if◌then◌else◌}
use Rattle.cil_model.specs.declared.contract.Contracts.{Contracts}
use Rattle.cil_model.specs.declared.program.Program.{Program}
use Rattle.cil_semantics.specs.declared.state.ProgramPoint.{ProgramPoint}
use Rattle.cil_semantics.specs.declared.state.ProgramPoint.TheVariants.{LeadIn, InGroup, Rest}
use Rattle.cil_semantics.specs.declared.state.Handling.{Handling}
use Rattle.cil_semantics.specs.Unwind.{body_of, in_handler}
use Rattle.cil_semantics.specs.Checks.{AddedNumbers}
use Rattle.splice_facts.specs.Layout.{Depths}
use Rattle.splice_facts.specs.Spliced.{AreLow, Current}
use Rattle.splice_laws.specs.PendingHandlers.{IsHeldAs, HoldsAs}

module _ (p : Program) (k : Contracts) (p' : Program) (g : AddedNumbers) (n : ℕ) (depths : Depths n g) (me : ℕ) where
  abbrev old_holds : ℕ → Handling → Bool
  old_holds q = in_handler (body_of p me).regions q

  abbrev new_holds : ℕ → Handling → Bool
  new_holds q = in_handler (body_of p' me).regions q

  all_held : (old q : ℕ) (hs : List Handling) → AreLow p k p' g n depths me hs → IsHeldAs p k p' g n depths me old q → filter (new_holds q) hs ≡ filter (old_holds old) hs
  all_held old q [] low same = refl
  all_held old q (h ∷ hs) low same = ap (λ b. if b then h ∷ filter (new_holds q) hs else filter (new_holds q) hs) (same h low.0) ∙ ap (λ xs. if old_holds old h then h ∷ xs else xs) (all_held old q hs low.1 same)

  pub run_on : (at : ProgramPoint) (q : ℕ) (hs : List Handling) → Current p k p' g n depths me at hs → HoldsAs p k p' g n depths me at q → filter (new_holds q) hs ≡ hs
  run_on (LeadIn old) q hs pending same = all_held old q hs pending.0 same ∙ pending.1
  run_on (InGroup gr j old) q hs pending same = subst (λ xs. filter (new_holds q) xs ≡ xs) pending.1 refl
  run_on (Rest old) q hs pending same = all_held old q hs pending.0 same ∙ pending.1
