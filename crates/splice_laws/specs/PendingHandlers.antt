-- Which handlers hold a place of a written body (ECMA-335, I.12.4.2.5).
use Rattle.std.specs.Prelude.{◌≡◌, ℕ, ◌<◌, length}
use Rattle.cil_model.specs.declared.contract.Contracts.{Contracts}
use Rattle.cil_model.specs.declared.program.Program.{Program}
use Rattle.cil_semantics.specs.declared.state.ProgramPoint.{ProgramPoint}
use Rattle.cil_semantics.specs.declared.state.ProgramPoint.TheVariants.{LeadIn, InGroup, Rest}
use Rattle.cil_semantics.specs.declared.state.Handling.{Handling}
use Rattle.cil_semantics.specs.Unwind.{body_of, in_handler}
use Rattle.cil_semantics.specs.Checks.{AddedNumbers}
use Rattle.splice_facts.specs.Layout.{Depths}

module _ (p : Program) (k : Contracts) (p' : Program) (g : AddedNumbers) (n : ℕ) (depths : Depths n g) (me : ℕ) where
  -- a place of the written body is held by the handlers that hold an old one
  abbrev pub IsHeldAs : ℕ → ℕ → Type 0
  IsHeldAs old q = (h : Handling) → h.handler < length (body_of p me).regions → in_handler (body_of p' me).regions q h ≡ in_handler (body_of p me).regions old h

  abbrev pub HoldsAs : ProgramPoint → ℕ → Type 0
  HoldsAs (LeadIn old) q = IsHeldAs old q
  HoldsAs (InGroup gr j old) q = Unit {0}
  HoldsAs (Rest old) q = IsHeldAs old q
