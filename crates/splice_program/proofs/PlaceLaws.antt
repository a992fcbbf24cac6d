-- What holds of each entry of a list with its place, and so of each instruction of the two methods and of their clauses.
use Rattle.std.proofs.Common.{◌≡◌, ℕ, zero, suc, ◌≤◌, List, [], ◌∷◌, length, Option, Some, None, refl, sym, ap, ◌∙◌, subst, arith}
use Rattle.std.specs.Prelude.{slice_get, option_map, option_and_then, IsTrue}
use Rattle.cil_model.specs.declared.body.Instr.{Instr}
use Rattle.cil_model.specs.declared.contract.Group.{Group}
use Rattle.cil_model.specs.declared.contract.Group.TheVariants as group
use Rattle.cil_semantics.specs.Contracted.{Piece, Plan}
use Rattle.cil_semantics.specs.Machine.{relocated_instr}
use Rattle.cil_semantics.specs.Unwind.{piece_at}
use Rattle.cil_semantics.specs.declared.state.ProgramPoint.{ProgramPoint}
use Rattle.cil_semantics.specs.declared.state.ProgramPoint.TheVariants.{LeadIn, InGroup, Rest}
use Rattle.machine_rows.specs.Everything.{everything}
use Rattle.splice_facts.specs.Layout.{IsHere, fetch, stands_in}
use Rattle.splice_program.specs.Program.{input, contracts, numbers, nop, next_code, inc_code, a_piece, the_capture, next_plan, inc_plan, next_requires, next_ensures, next_throws, always_valid, inc_requires}

pub some_is : {A : Type 0} (x y : A) → Some x ≡ Some y → x ≡ y
some_is x y e = cc e

pub not_some : {A : Type 0} (x : A) → None ≡ Some x → ⊥
not_some x e = cc e

pub some_not : {A : Type 0} (x : A) → Some x ≡ None → ⊥
some_not x e = cc e

-- ---- lists

pub no_more : {A : Type 0} (xs : List A) (q : ℕ) → slice_get xs q ≡ None → length xs ≤ q
no_more [] q e = omega arith
no_more (x ∷ xs) zero e = absurd (some_not x e)
no_more (x ∷ xs) (suc q) e = let z = no_more xs q e in omega (arith, z)

abbrev pub Along : {A : Type 0} → (ℕ → A → Type 0) → List A → Type 0
Along P [] = Unit {0}
Along P (x ∷ xs) = P 0 x × Along (λ q. P (suc q)) xs

pub along : {A : Type 0} (P : ℕ → A → Type 0) (xs : List A) → Along P xs → (q : ℕ) (x : A) → slice_get xs q ≡ Some x → P q x
along P [] all q x e = absurd (not_some x e)
along P (y ∷ ys) all zero x e = subst (P 0) (some_is y x e) all.0
along P (y ∷ ys) all (suc q) x e = along (λ n. P (suc n)) ys all.1 q x e

-- from a place on
abbrev pub Past : {A : Type 0} → (ℕ → A → Type 0) → ℕ → List A → Type 0
Past P zero xs = Along P xs
Past P (suc n) [] = Unit {0}
Past P (suc n) (x ∷ xs) = Past (λ q. P (suc q)) n xs

pub past : {A : Type 0} (P : ℕ → A → Type 0) (n : ℕ) (xs : List A) → Past P n xs → (q : ℕ) (x : A) → n ≤ q → slice_get xs q ≡ Some x → P q x
past P zero xs all q x le e = along P xs all q x e
past P (suc n) [] all q x le e = absurd (not_some x e)
past P (suc n) (y ∷ ys) all zero x le e = absurd (omega (arith, le))
past P (suc n) (y ∷ ys) all (suc q) x le e = past (λ a. P (suc a)) n ys all q x (omega (arith, le)) e

-- ---- clauses

abbrev pub InPiece : (ProgramPoint → Instr → Type 0) → Group → ℕ → Piece → Type 0
InPiece P gr j x = Along (λ q i. IsTrue (stands_in x q) → P (InGroup gr j q) (relocated_instr x.first_local i)) x.clause.instrs

in_piece : (P : ProgramPoint → Instr → Type 0) (gr : Group) (j q : ℕ) (x : Piece) (i : Instr) → InPiece P gr j x → IsTrue (stands_in x q) → option_map (relocated_instr x.first_local) (slice_get x.clause.instrs q) ≡ Some i → P (InGroup gr j q) i
in_piece P gr j q x i all stands e = by_instr (slice_get x.clause.instrs q) refl e
  where
    by_instr : (o : Option Instr) → slice_get x.clause.instrs q ≡ o → option_map (relocated_instr x.first_local) o ≡ Some i → P (InGroup gr j q) i
    by_instr None s f = absurd (not_some i f)
    by_instr (Some a) s f = subst (P (InGroup gr j q)) (some_is (relocated_instr x.first_local a) i f) (along (λ q1 i1. IsTrue (stands_in x q1) → P (InGroup gr j q1) (relocated_instr x.first_local i1)) x.clause.instrs all q a s stands)

-- at a place of a clause of any plan
at_piece : (plan : Plan) (P : ProgramPoint → Instr → Type 0) (gr : Group) (j q : ℕ) (i : Instr) (here : IsHere (Some plan) (InGroup gr j q)) (m : ℕ) → fetch input contracts numbers (Some plan) m (InGroup gr j q) ≡ Some i → InPiece P gr j here.0 → P (InGroup gr j q) i
at_piece plan P gr j q i here m e all =
    in_piece P gr j q here.0 i all here.3 (sym (ap (option_and_then (λ (x : Piece). option_map (relocated_instr x.first_local) (slice_get x.clause.instrs q))) here.1) ∙ e)

-- the instructions of a clause where a frame may stand in it
abbrev pub InClause : (ℕ → Instr → Type 0) → Piece → Type 0
InClause P x = Along (λ q i. IsTrue (stands_in x q) → P q i) x.clause.instrs

pub in_clause : (P : ℕ → Instr → Type 0) (x : Piece) → InClause P x → (q : ℕ) (i : Instr) → IsTrue (stands_in x q) → slice_get x.clause.instrs q ≡ Some i → P q i
in_clause P x all q i stands e = along (λ q1 i1. IsTrue (stands_in x q1) → P q1 i1) x.clause.instrs all q i e stands

pub stands_there : (plan : Plan) (gr : Group) (j q : ℕ) (x : Piece) → IsHere (Some plan) (InGroup gr j q) → piece_at (Some plan) gr j ≡ Some x → IsTrue (stands_in x q)
stands_there plan gr j q x here e = subst (λ z. IsTrue (stands_in z q)) (some_is here.0 x (sym here.1 ∙ e)) here.3

-- ---- Next

pub entry_piece : (P : ℕ → Piece → Type 0) → P 0 (a_piece next_requires 0) → P 1 the_capture → (j : ℕ) (x : Piece) → piece_at (Some next_plan) group.Entry j ≡ Some x → P j x
entry_piece P a b zero x e = subst (P 0) (some_is (a_piece next_requires 0) x e) a
entry_piece P a b (suc zero) x e = subst (P 1) (some_is the_capture x e) b
entry_piece P a b (suc (suc j)) x e = absurd (not_some x e)

pub exit_piece : (P : ℕ → Piece → Type 0) → P 0 (a_piece next_ensures 0) → (j : ℕ) (x : Piece) → piece_at (Some next_plan) group.Exit j ≡ Some x → P j x
exit_piece P a zero x e = subst (P 0) (some_is (a_piece next_ensures 0) x e) a
exit_piece P a (suc j) x e = absurd (not_some x e)

pub throw_piece : (P : ℕ → Piece → Type 0) → P 0 (a_piece next_throws 1) → (j : ℕ) (x : Piece) → piece_at (Some next_plan) group.Throw j ≡ Some x → P j x
throw_piece P a zero x e = subst (P 0) (some_is (a_piece next_throws 1) x e) a
throw_piece P a (suc j) x e = absurd (not_some x e)

pub invariant_piece : (P : ℕ → Piece → Type 0) → P 0 (a_piece always_valid 1) → (j : ℕ) (x : Piece) → piece_at (Some next_plan) group.Invariant j ≡ Some x → P j x
invariant_piece P a zero x e = subst (P 0) (some_is (a_piece always_valid 1) x e) a
invariant_piece P a (suc j) x e = absurd (not_some x e)

abbrev pub EachPiece : (Group → ℕ → Piece → Type 0) → Type 0
EachPiece P =
    (P group.Entry 0 (a_piece next_requires 0) × P group.Entry 1 the_capture)
    × P group.Exit 0 (a_piece next_ensures 0) × P group.Throw 0 (a_piece next_throws 1) × P group.Invariant 0 (a_piece always_valid 1)

pub each_piece : (P : Group → ℕ → Piece → Type 0) → EachPiece P → (gr : Group) (j : ℕ) (x : Piece) → piece_at (Some next_plan) gr j ≡ Some x → P gr j x
each_piece P all group.Entry j x e = entry_piece (P group.Entry) all.0.0 all.0.1 j x e
each_piece P all group.Exit j x e = exit_piece (P group.Exit) all.1 j x e
each_piece P all group.Throw j x e = throw_piece (P group.Throw) all.2 j x e
each_piece P all group.Invariant j x e = invariant_piece (P group.Invariant) all.3 j x e
each_piece P all group.Inline j x e = absurd (not_some x e)

abbrev pub EachPlace : (ProgramPoint → Instr → Type 0) → Type 0
EachPlace P = P (LeadIn 0) nop × Past (λ q i. P (Rest q) i) 13 next_code × EachPiece (InPiece P)

pub each_place : (P : ProgramPoint → Instr → Type 0) → EachPlace P → (at : ProgramPoint) (i : Instr) → IsHere (Some next_plan) at → fetch input contracts numbers (Some next_plan) 0 at ≡ Some i → P at i
unfolding everything
each_place P all (LeadIn zero) i here e = subst (P (LeadIn 0)) (some_is nop i e) all.0
each_place P all (LeadIn (suc q)) i here e = absurd (omega (arith, here))
each_place P all (Rest q) i here e = past (λ q1 i1. P (Rest q1) i1) 13 next_code all.1 q i here e
each_place P all (InGroup gr j q) i here e = at_piece next_plan P gr j q i here 0 e (each_piece (InPiece P) all.2 gr j here.0 here.1)

-- ---- Inc

pub inc_piece : (P : Group → ℕ → Piece → Type 0) → P group.Entry 0 (a_piece inc_requires 0) → (gr : Group) (j : ℕ) (x : Piece) → piece_at (Some inc_plan) gr j ≡ Some x → P gr j x
inc_piece P h group.Entry zero x e = subst (P group.Entry 0) (some_is (a_piece inc_requires 0) x e) h
inc_piece P h group.Entry (suc j) x e = absurd (not_some x e)
inc_piece P h group.Exit j x e = absurd (not_some x e)
inc_piece P h group.Throw j x e = absurd (not_some x e)
inc_piece P h group.Invariant j x e = absurd (not_some x e)
inc_piece P h group.Inline j x e = absurd (not_some x e)

abbrev pub IncPlace : (ProgramPoint → Instr → Type 0) → Type 0
IncPlace P = Past (λ q i. P (Rest q) i) 4 inc_code × InPiece P group.Entry 0 (a_piece inc_requires 0)

pub inc_place : (P : ProgramPoint → Instr → Type 0) → IncPlace P → (at : ProgramPoint) (i : Instr) → IsHere (Some inc_plan) at → fetch input contracts numbers (Some inc_plan) 1 at ≡ Some i → P at i
unfolding everything
inc_place P all (LeadIn q) i here e = absurd (omega (arith, here))
inc_place P all (Rest q) i here e = past (λ q1 i1. P (Rest q1) i1) 4 inc_code all.0 q i here e
inc_place P all (InGroup gr j q) i here e = at_piece inc_plan P gr j q i here 1 e (inc_piece (InPiece P) all.1 gr j here.0 here.1)
