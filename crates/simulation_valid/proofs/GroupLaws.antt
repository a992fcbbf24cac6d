-- Only the entry group captures; and what height a handler begins at.
use Rattle.std.proofs.Common.{◌≡◌, ℕ, zero, suc, ◌+◌, Bool, true, false, List, [], ◌∷◌, length, Option, Some, None, refl, sym, ap, ◌∙◌, subst, arith, Contains}
use Rattle.std.specs.Prelude.{if◌then◌else◌, filter, slice_get, option_map}
use Rattle.cil_base.specs.declared.token.Token.{Token}
use Rattle.cil_model.specs.declared.body.Region.{Region}
use Rattle.cil_model.specs.declared.body.RegionKind.{RegionKind}
use Rattle.cil_model.specs.declared.body.RegionKind.TheVariants as region
use Rattle.cil_model.specs.declared.contract.Clause.{Clause}
use Rattle.cil_model.specs.declared.contract.Contracts.{Contracts}
use Rattle.cil_model.specs.declared.contract.Effective.{Effective}
use Rattle.cil_model.specs.declared.contract.Group.{Group}
use Rattle.cil_model.specs.declared.contract.Group.TheVariants as group
use Rattle.cil_model.specs.declared.program.Program.{Program}
use Rattle.cil_semantics.specs.Words.{maybe}
use Rattle.cil_semantics.specs.Contracted.{Piece, Plan, plan_for, plan_of, effective_of, is_visible, pieces_from, is_ensures, is_throws}
use Rattle.cil_semantics.specs.Unwind.{body_of, plan_at, count_locals, piece_at, drops, Found, NoHandler, CatchHandler, CleanupHandler, found_in, search_from, in_try}
use Rattle.splice_facts.specs.Input.{handler_height}

-- ---- pieces that capture

abbrev NoCaptures : List Piece → Type 0
NoCaptures [] = Unit {0}
NoCaptures (x ∷ xs) = (x.captures ≡ None) × NoCaptures xs

clauses_capture_none : (keeps : Clause → Bool) (n c : ℕ) (xs : List Clause) → NoCaptures (pieces_from keeps n c xs)
clauses_capture_none keeps n c [] = tt
clauses_capture_none keeps n c (x ∷ xs) = by_test (clauses_capture_none keeps (n + length x.locals) (c + length x.olds) xs) (clauses_capture_none keeps n c xs) (keeps x)
  where
    by_test : NoCaptures (pieces_from keeps (n + length x.locals) (c + length x.olds) xs) → NoCaptures (pieces_from keeps n c xs) → (b : Bool) → NoCaptures (if b then record { clause = x; from = 0; first_local = n; first_captured = c; captures = None } ∷ pieces_from keeps (n + length x.locals) (c + length x.olds) xs else pieces_from keeps n c xs)
    by_test a b true = (refl, a)
    by_test a b false = b

filter_none : (test : Piece → Bool) (xs : List Piece) → NoCaptures xs → NoCaptures (filter test xs)
filter_none test [] h = tt
filter_none test (x ∷ xs) h = by_test (test x) (filter_none test xs h.1)
  where
    by_test : (b : Bool) → NoCaptures (filter test xs) → NoCaptures (if b then x ∷ filter test xs else filter test xs)
    by_test true ih = (h.0, ih)
    by_test false ih = ih

drops_none : (xs : List Piece) (j : ℕ) → NoCaptures xs → drops (slice_get xs j) ≡ false
drops_none [] j h = refl
drops_none (x ∷ xs) zero h = ap (maybe false (λ c. true)) h.0
drops_none (x ∷ xs) (suc j) h = drops_none xs j h.1

-- of the plan of a method no clause captures but by the pieces of the entry group
pub record ClausesAlone (c : Plan) : Type 0 where
  pub clauses : NoCaptures c.clauses
  pub invariants : NoCaptures c.invariants

pub clauses_alone : (k : Contracts) (p : Program) (m : ℕ) (c : Plan) → plan_at k p m ≡ Some c → ClausesAlone c
unfolding plan_for
clauses_alone k p m c e = by_effective (effective_of k p m) e
  where
    by_effective : (o : Option Effective) → option_map (plan_of k.settings (is_visible p m) (count_locals p m (body_of p m).locals)) o ≡ Some c → ClausesAlone c
    by_effective None q = absurd (cc q)
    by_effective (Some x) q =
        let z : plan_of k.settings (is_visible p m) (count_locals p m (body_of p m).locals) x ≡ c = cc q in
        subst ClausesAlone z (record { clauses = clauses_capture_none _ _ _ x.clauses; invariants = clauses_capture_none _ _ _ x.invariants })

pub drops_at_entry : (c : Plan) (gr : Group) (j : ℕ) → ClausesAlone c → drops (piece_at (Some c) gr j) ≡ true → gr ≡ group.Entry
drops_at_entry c group.Entry j h e = refl
drops_at_entry c group.Exit j h e = absurd (cc (sym (drops_none (filter is_ensures c.clauses) j (filter_none is_ensures c.clauses h.clauses)) ∙ e))
drops_at_entry c group.Throw j h e = absurd (cc (sym (drops_none (filter is_throws c.clauses) j (filter_none is_throws c.clauses h.clauses)) ∙ e))
drops_at_entry c group.Invariant j h e = absurd (cc (sym (drops_none c.invariants j h.invariants) ∙ e))
drops_at_entry c group.Inline j h e = absurd (cc e)

-- ---- where a handler begins

pub first_here : {X : Type 0} (x : X) (xs : List X) → Contains (x ∷ xs) x
first_here x xs = (0, omega arith, refl)

pub behind_here : {X : Type 0} (y x : X) (xs : List X) → Contains xs x → Contains (y ∷ xs) x
behind_here y x xs h = (suc h.0, omega (arith, h.1), h.2)

pub record HandlerAt (rs : List Region) (t n : ℕ) : Type 0 where
  pub row : Region
  pub there : Contains rs row
  pub begins : row.handler_from ≡ t
  pub height : handler_height row.kind ≡ n

abbrev pub FoundHeight : List Region → Found → Type 0
FoundHeight rs NoHandler = Unit {0}
FoundHeight rs (CatchHandler i t) = HandlerAt rs t 1
FoundHeight rs (CleanupHandler i t) = HandlerAt rs t 0

found_behind : (x : Region) (xs : List Region) (o : Found) → FoundHeight xs o → FoundHeight (x ∷ xs) o
found_behind x xs NoHandler h = tt
found_behind x xs (CatchHandler i t) h = record { row = h.row; there = behind_here x h.row xs h.there; begins = h.begins; height = h.height }
found_behind x xs (CleanupHandler i t) h = record { row = h.row; there = behind_here x h.row xs h.there; begins = h.begins; height = h.height }

pub search_heights : (fits : Token → Bool) (skip i q : ℕ) (rs : List Region) → FoundHeight rs (search_from fits skip i q rs)
search_heights fits skip i q [] = tt
search_heights fits (suc n) i q (x ∷ xs) = found_behind x xs (search_from fits n (i + 1) q xs) (search_heights fits n (i + 1) q xs)
search_heights fits zero i q (x ∷ xs) = by_try (in_try x q) (found_behind x xs (search_from fits zero (i + 1) q xs) (search_heights fits zero (i + 1) q xs))
  where
    by_fit : (token : Token) (b : Bool) → x.kind ≡ region.Catch token → FoundHeight (x ∷ xs) (search_from fits zero (i + 1) q xs) → FoundHeight (x ∷ xs) (maybe (search_from fits zero (i + 1) q xs) (λ y. y) (if b then Some (CatchHandler i x.handler_from) else None))
    by_fit token true e ih = record { row = x; there = first_here x xs; begins = refl; height = ap handler_height e }
    by_fit token false e ih = ih

    by_kind : (kd : RegionKind) → x.kind ≡ kd → FoundHeight (x ∷ xs) (search_from fits zero (i + 1) q xs) → FoundHeight (x ∷ xs) (maybe (search_from fits zero (i + 1) q xs) (λ y. y) (found_in fits x i kd))
    by_kind (region.Catch token) e ih = by_fit token (fits token) e ih
    by_kind (region.Filter place) e ih = ih
    by_kind region.Finally e ih = record { row = x; there = first_here x xs; begins = refl; height = ap handler_height e }
    by_kind region.Fault e ih = record { row = x; there = first_here x xs; begins = refl; height = ap handler_height e }

    by_try : (b : Bool) → FoundHeight (x ∷ xs) (search_from fits zero (i + 1) q xs) → FoundHeight (x ∷ xs) (if b then maybe (search_from fits zero (i + 1) q xs) (λ y. y) (found_in fits x i x.kind) else search_from fits zero (i + 1) q xs)
    by_try true ih = by_kind x.kind refl ih
    by_try false ih = ih
