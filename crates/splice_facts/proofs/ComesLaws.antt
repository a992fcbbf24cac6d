-- Runs of the plain machine put together.
use Rattle.std.proofs.Common.{◌≡◌, ℕ, zero, suc, ◌+◌, ◌≤◌, Bool, true, false, List, [], ◌∷◌, Option, Some, None, refl, sym, ap, ◌∙◌, subst, arith}
use Rattle.std.specs.Prelude.{slice_get, option_map, ◌==◌, if◌then◌else◌}
use Rattle.cil_model.specs.declared.contract.Effective.{Effective}
use Rattle.cil_model.specs.declared.contract.Group.{Group}
use Rattle.cil_model.specs.declared.program.Program.{Program}
use Rattle.cil_model.specs.NoContracts.{no_contracts}
use Rattle.cil_model.specs.declared.run.Outcome.{Outcome}
use Rattle.cil_semantics.specs.Lookups.{method_of}
use Rattle.cil_semantics.specs.declared.state.World.{World}
use Rattle.cil_semantics.specs.declared.state.Local.{Local}
use Rattle.cil_semantics.specs.declared.state.ProgramPoint.{ProgramPoint}
use Rattle.cil_semantics.specs.declared.state.Handling.{Handling}
use Rattle.cil_semantics.specs.declared.state.Frame.{Frame}
use Rattle.cil_semantics.specs.State.{State, Next, Running, Ended}
use Rattle.cil_semantics.specs.Contracted.{Piece, Plan, plan_for, effective_of, pieces}
use Rattle.cil_semantics.specs.Unwind.{plan_at, piece_at, arrive, arrive_in, goes_at, first_from, next_piece, takes_part}
use Rattle.cil_semantics.specs.Machine.{and_then, runs}
use Rattle.machine_laws.specs.Simulation.{weight, Match}
use Rattle.machine_laws.specs.Same.{plain_step}
use Rattle.machine_laws.proofs.LiftLaws.{runs_plus}
use Rattle.splice_facts.specs.Comes.{Comes, Goes, Reaches, Answers}

-- ---- a plain run has no plan

abbrev none_of : Bool → Bool → Option Effective
none_of b c = if b then None else (if c then None else None)

none_in : (b c : Bool) → none_of b c ≡ None
none_in true c = refl
none_in false true = refl
none_in false false = refl

pub no_plan : (p : Program) (m : ℕ) → plan_at no_contracts p m ≡ None
unfolding plan_for
no_plan p m = ap (option_map (Rattle.cil_semantics.specs.Contracted.plan_of no_contracts.settings (Rattle.cil_semantics.specs.Contracted.is_visible p m) (Rattle.cil_semantics.specs.Unwind.count_locals p m (Rattle.cil_semantics.specs.Unwind.body_of p m).locals))) (none_in (method_of p m).outside ((method_of p m).assembly == no_contracts.target))

pub arrives_plain : (p : Program) (f : Frame) (at : ProgramPoint) (l : Local) (hs : List Handling) (fs : List Frame) (w : World) → arrive_in p (plan_at no_contracts p f.method) f at l hs fs w ≡ goes_at p f at l hs fs w
arrives_plain p f at l hs fs w = ap (λ o. arrive_in p o f at l hs fs w) (no_plan p f.method)

-- ---- runs

module _ (p' : Program) where
  and_then_runs : (y : Next) (i j : ℕ) → and_then y (runs (plain_step p') (i + j)) ≡ and_then (and_then y (runs (plain_step p') i)) (runs (plain_step p') j)
  and_then_runs (Running s) i j = runs_plus (plain_step p') i j s
  and_then_runs (Ended o w) i j = refl

  no_steps : (y : Next) → and_then y (runs (plain_step p') 0) ≡ y
  no_steps (Running s) = refl
  no_steps (Ended o w) = refl

  pub comes_at_once : (n : ℕ) (x y : Next) → x ≡ y → Comes p' n x y
  comes_at_once n x y e = record { steps = 0; most = omega arith; comes = no_steps x ∙ e }

  pub comes_on : (m n : ℕ) (x y z : Next) → Comes p' m x y → Comes p' n y z → Comes p' (m + n) x z
  comes_on m n x y z a b =
      record {
        steps = a.steps + b.steps;
        most = omega (arith, a.most, b.most);
        comes = and_then_runs x a.steps b.steps ∙ ap (λ t. and_then t (runs (plain_step p') b.steps)) a.comes ∙ b.comes;
      }

  pub comes_within : (m n : ℕ) (x y : Next) → m ≤ n → Comes p' m x y → Comes p' n x y
  comes_within m n x y le a = record { steps = a.steps; most = omega (arith, a.most); comes = a.comes }

  -- one step more
  pub comes_one : (n : ℕ) (s : State) (y : Next) → Comes p' n (plain_step p' s) y → Comes p' (suc n) (Running s) y
  comes_one n s y a = record { steps = suc a.steps; most = omega (arith, a.most); comes = a.comes }

  -- ---- the same in at least one step

  pub moves_one : (n : ℕ) (s : State) (y : Next) → Comes p' n (plain_step p' s) y → Goes p' (suc n) (Running s) y
  moves_one n s y a = record { comes = record { steps = suc a.steps; most = omega (arith, a.most); comes = a.comes }; moves = omega arith }

  pub moves_on : (m n : ℕ) (x y z : Next) → Goes p' m x y → Comes p' n y z → Goes p' (m + n) x z
  moves_on m n x y z a b =
      record {
        comes = record {
          steps = (a.comes).steps + b.steps;
          most = omega (arith, (a.comes).most, b.most);
          comes = and_then_runs x (a.comes).steps b.steps ∙ ap (λ t. and_then t (runs (plain_step p') b.steps)) (a.comes).comes ∙ b.comes;
        };
        moves = omega (arith, a.moves);
      }

  pub moves_behind : (m n : ℕ) (x y z : Next) → Comes p' m x y → Goes p' n y z → Goes p' (m + n) x z
  moves_behind m n x y z a b =
      record {
        comes = record {
          steps = a.steps + (b.comes).steps;
          most = omega (arith, a.most, (b.comes).most);
          comes = and_then_runs x a.steps (b.comes).steps ∙ ap (λ t. and_then t (runs (plain_step p') (b.comes).steps)) a.comes ∙ (b.comes).comes;
        };
        moves = omega (arith, b.moves);
      }

  pub moves_within : (m n : ℕ) (x y : Next) → m ≤ n → Goes p' m x y → Goes p' n x y
  moves_within m n x y le a = record { comes = record { steps = (a.comes).steps; most = omega (arith, (a.comes).most); comes = (a.comes).comes }; moves = a.moves }

  -- a run that goes on ends after a step at least
  pub moves_to_end : (n : ℕ) (s : State) (o : Outcome) (w : World) → Comes p' n (Running s) (Ended o w) → Goes p' n (Running s) (Ended o w)
  moves_to_end n s o w c = record { comes = c; moves = by_steps c.steps c.comes }
    where
      by_steps : (j : ℕ) → and_then (Running s) (runs (plain_step p') j) ≡ Ended o w → 1 ≤ j
      by_steps zero e = absurd (cc e)
      by_steps (suc j) e = omega arith

  module _ (E : World → World → Type 0) (R : State → State → Type 0) (f : State → ℕ) where
    pub reaches_by : (m n : ℕ) (x y z : Next) → Comes p' m y z → Reaches p' E R f n x z → Reaches p' E R f (m + n) x y
    reaches_by m n x y z c h =
        record {
          steps = c.steps + h.steps;
          most = omega (arith, c.most, h.most);
          same = subst (Match E R x) (sym (and_then_runs y c.steps h.steps ∙ ap (λ t. and_then t (runs (plain_step p') h.steps)) c.comes)) h.same;
        }

    pub reaches_within : (m n : ℕ) (x y : Next) → m ≤ n → Reaches p' E R f m x y → Reaches p' E R f n x y
    reaches_within m n x y le h = record { steps = h.steps; most = omega (arith, h.most); same = h.same }

    pub reaches_at_once : (n : ℕ) (x y : Next) → weight f x ≤ n → Match E R x y → Reaches p' E R f n x y
    reaches_at_once n x y le h = record { steps = 0; most = omega (arith, le); same = subst (Match E R x) (sym (no_steps y)) h }

    pub answers_by : (m n : ℕ) (x y z : Next) → Goes p' m y z → Reaches p' E R f n x z → Answers p' E R f (m + n) x y
    answers_by m n x y z c h =
        record {
          reaches = record {
            steps = (c.comes).steps + h.steps;
            most = omega (arith, (c.comes).most, h.most);
            same = subst (Match E R x) (sym (and_then_runs y (c.comes).steps h.steps ∙ ap (λ t. and_then t (runs (plain_step p') h.steps)) (c.comes).comes)) h.same;
          };
          moves = omega (arith, c.moves);
        }

    pub answers_within : (m n : ℕ) (x y : Next) → m ≤ n → Answers p' E R f m x y → Answers p' E R f n x y
    answers_within m n x y le h = record { reaches = record { steps = (h.reaches).steps; most = omega (arith, (h.reaches).most); same = (h.reaches).same }; moves = h.moves }

-- ---- pieces

abbrev Stands : List Piece → ℕ → ℕ × Piece → Type 0
Stands xs i y = (j : ℕ) × (y.0 ≡ i + j) × (slice_get xs j ≡ Some y.1)

one_past : (x : Piece) (xs : List Piece) (i : ℕ) (y : ℕ × Piece) → Stands xs (i + 1) y → Stands (x ∷ xs) i y
one_past x xs i y h = (suc h.0, omega (arith, h.1), h.2)

by_test : (b : Bool) (i : ℕ) (x : Piece) (xs : List Piece) (y : ℕ × Piece) (o : Option (ℕ × Piece)) → (o ≡ Some y → Stands xs (i + 1) y) → (if b then Some (i, x) else o) ≡ Some y → Stands (x ∷ xs) i y
by_test true i x xs y o ih e = let q : (i, x) ≡ y = cc e in (0, ap (λ (z : ℕ × Piece). z.0) (sym q) ∙ zero_more i, ap (λ (z : ℕ × Piece). Some z.1) q)
  where
    zero_more : (n : ℕ) → n ≡ n + 0
    zero_more n = omega arith
by_test false i x xs y o ih e = one_past x xs i y (ih e)

-- the piece that is found stands there
from_there : (test : Piece → Bool) (skip i : ℕ) (xs : List Piece) (y : ℕ × Piece) → first_from test skip i xs ≡ Some y → Stands xs i y
from_there test skip i [] y e = absurd (cc e)
from_there test zero i (x ∷ xs) y e = by_test (test x) i x xs y (first_from test zero (i + 1) xs) (λ h. from_there test zero (i + 1) xs y h) e
from_there test (suc n) i (x ∷ xs) y e = one_past x xs i y (from_there test n (i + 1) xs y e)

pub found_piece : (p : Program) (plan : Plan) (gr : Group) (i : ℕ) (f : Frame) (fs : List Frame) (w : World) (y : ℕ × Piece) → next_piece p plan gr i f fs w ≡ Some y → piece_at (Some plan) gr y.0 ≡ Some y.1
found_piece p plan gr i f fs w y e =
    let h = from_there (takes_part p f fs w) i 0 (pieces plan gr) y e in
    let z : y.0 ≡ h.0 = omega (arith, h.1) in
    ap (slice_get (pieces plan gr)) z ∙ h.2
