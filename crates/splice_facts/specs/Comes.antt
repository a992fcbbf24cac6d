-- The plain run of the written program comes from one state to another.
use Rattle.std.specs.Prelude.{◌≡◌, ℕ, ◌+◌, ◌≤◌}
use Rattle.cil_model.specs.declared.program.Program.{Program}
use Rattle.cil_semantics.specs.declared.state.World.{World}
use Rattle.cil_semantics.specs.State.{State, Next}
use Rattle.cil_semantics.specs.Machine.{and_then, runs}
use Rattle.machine_laws.specs.Simulation.{weight, Match}
use Rattle.machine_laws.specs.Same.{plain_step}

-- in at most so many steps
pub record Comes (p' : Program) (n : ℕ) (x y : Next) : Type 0 where
  pub steps : ℕ
  pub most : steps ≤ n
  pub comes : and_then x (runs (plain_step p') steps) ≡ y

-- the same in at least one step
pub record Goes (p' : Program) (n : ℕ) (x y : Next) : Type 0 where
  pub comes : Comes p' n x y
  pub moves : 1 ≤ comes.steps

-- The first run has come to x; the plain run comes from y to what goes with x, and its steps and what x lays by are at most so many.
pub record Reaches (p' : Program) (E : World → World → Type 0) (R : State → State → Type 0) (f : State → ℕ) (n : ℕ) (x y : Next) : Type 0 where
  pub steps : ℕ
  pub most : steps + weight f x ≤ n
  pub same : Match E R x (and_then y (runs (plain_step p') steps))

-- the same where the plain run takes at least one step
pub record Answers (p' : Program) (E : World → World → Type 0) (R : State → State → Type 0) (f : State → ℕ) (n : ℕ) (x y : Next) : Type 0 where
  pub reaches : Reaches p' E R f n x y
  pub moves : 1 ≤ reaches.steps
