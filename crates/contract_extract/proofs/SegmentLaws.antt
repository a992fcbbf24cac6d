-- Segments by their places: each ends behind the one before.
use Rattle.std.proofs.Common.{◌≡◌, ℕ, zero, suc, ◌+◌, ◌<◌, ◌≤◌, Bool, true, false, ◌&&◌, cond, nat_lt, List, [], ◌∷◌, length, get_or, refl, sym, ap, subst, ◌∙◌, arith, leb-true}
use Rattle.std.specs.Prelude.{nat_le, ◌==◌, map, filter, find, slice_get, Option, Some, None, if◌then◌else◌}
use Rattle.std.specs.List.{enumerate_from, prefix_len}
use Rattle.std.specs.List.Sorted.{IsNonDecreasingBy}
use Rattle.std.proofs.lemmas.Bool.{and_parts}
use Rattle.std.proofs.lemmas.List.Sums.{prefix_len_is}
use Rattle.std.proofs.lemmas.Bool.Decides.{nat_tests}
use Rattle.cil_model.specs.declared.body.Instr.{Instr}
use Rattle.contract_parts.specs.declared.segment.Segment.{Segment}
use Rattle.contract_parts.specs.declared.statement.Statement.{Statement}
use Rattle.contract_parts.specs.Flow.{Code}
use Rattle.contract_parts.specs.Parts.{prefixes, is_prefix_at, is_led, statements, last_end, end_before, lead_end, segments, segments_from, is_in}
use Rattle.contract_extract.specs.Rules.{segment_at, segment_from}
use Rattle.contract_extract.specs.Halving.{ends_before}

-- numbers that rise from one on
abbrev pub Rise : ℕ → List ℕ → Type 0
Rise from [] = Unit {0}
Rise from (q ∷ qs) = (from ≤ q) × Rise (q + 1) qs

pub lower : (a b : ℕ) (qs : List ℕ) → a ≤ b → Rise b qs → Rise a qs
lower a b [] h r = tt
lower a b (q ∷ qs) h r = (omega (arith, r.0), r.1)

one_kept : (b : Bool) (k : ℕ) (i : Instr) (xs : List (ℕ × Instr)) → Rise (k + 1) (map (λ (x : ℕ × Instr). x.0) xs) → Rise k (map (λ (x : ℕ × Instr). x.0) (cond b ((k, i) ∷ xs) xs))
one_kept true k i xs r = (omega arith, r)
one_kept false k i xs r = lower k (k + 1) (map (λ (x : ℕ × Instr). x.0) xs) (omega arith) r

-- the places of the instructions that pass a test
kept : (test : ℕ × Instr → Bool) (k : ℕ) (is : List Instr) → Rise k (map (λ (x : ℕ × Instr). x.0) (filter test (enumerate_from k is)))
kept test k [] = tt
kept test k (i ∷ is) = one_kept (test (k, i)) k i (filter test (enumerate_from (k + 1) is)) (kept test (k + 1) is)

one_end : (first from : ℕ) (s : Statement) (rest : List Statement) (b : Bool) → (b ≡ true → s.to ≤ first) → ((f : ℕ) → f ≤ first → last_end f rest ≤ first) → from ≤ first → last_end from (cond b (s ∷ rest) rest) ≤ first
one_end first from s rest true e more h = more s.to (e refl)
one_end first from s rest false e more h = more from h

ends_within : (first : ℕ) (test : Statement → Bool) (ss : List Statement) (from : ℕ) → from ≤ first → last_end from (filter (λ (s : Statement). nat_le s.to first && test s) ss) ≤ first
ends_within first test [] from h = h
ends_within first test (s ∷ ss) from h =
    one_end first from s (filter (λ (s : Statement). nat_le s.to first && test s) ss) (nat_le s.to first && test s)
    (λ e. leb-true s.to first (and_parts (nat_le s.to first) (test s) e).0)
    (λ f k. ends_within first test ss f k)
    h

from_lead : (c : Code) (ps : List ℕ) → Rise 0 ps → Rise (end_before c ps) ps
from_lead c [] r = tt
from_lead c (p ∷ ps) r = (ends_within p (is_led c) (statements c) 0 (omega arith), r.1)

-- the prefix calls of a body rise from the end of the lead-in on
pub prefixes_rise : (c : Code) → Rise (lead_end c) (prefixes c)
prefixes_rise c = from_lead c (prefixes c) (kept (is_prefix_at c) 0 c.body.instrs)

-- ---- the segment of a place

abbrev pub held : ℕ → Option Segment → Option Segment
held q None = None
held q (Some s) = if nat_le s.from q then Some s else None

none_ahead : (q from : ℕ) (ps : List ℕ) → q < from → Rise from ps → find (is_in q) (segments_from from ps) ≡ None
none_ahead q from [] h r = refl
none_ahead q from (p ∷ ps) h r =
    let out : (nat_le from q && nat_le q p) ≡ false = grind (arith, nat_tests) in
    ap (λ (b : Bool). cond b (Some (record { from = from; at = p })) (find (is_in q) (segments_from (p + 1) ps))) out
    ∙ none_ahead q (p + 1) ps (omega (arith, r.0)) r.1

one_found : (q : ℕ) (s : Segment) (rest : List Segment) (a b : Bool) → nat_lt s.at q ≡ a → nat_le s.from q ≡ b → (b ≡ false → a ≡ false → find (is_in q) rest ≡ None)
    → find (is_in q) rest ≡ held q (slice_get rest (prefix_len (ends_before q) rest))
    → find (is_in q) (s ∷ rest) ≡ held q (slice_get (s ∷ rest) (prefix_len (ends_before q) (s ∷ rest)))
one_found q s rest true b ea eb none more =
    let n = prefix_len (ends_before q) rest in
    let next : 1 + n ≡ suc n = omega arith in
    let out : (nat_le s.from q && nat_le q s.at) ≡ false = grind (arith, nat_tests) in
    ap (λ (x : Bool). cond x (Some s) (find (is_in q) rest)) out ∙ more
    ∙ ap (λ (k : ℕ). held q (slice_get (s ∷ rest) k)) (sym next)
    ∙ ap (λ (x : Bool). held q (slice_get (s ∷ rest) (cond x (1 + n) 0))) (sym ea)
one_found q s rest false true ea eb none more =
    let n = prefix_len (ends_before q) rest in
    let within : (nat_le s.from q && nat_le q s.at) ≡ true = grind (arith, nat_tests) in
    ap (λ (x : Bool). cond x (Some s) (find (is_in q) rest)) within
    ∙ ap (λ (x : Bool). if x then Some s else None) (sym eb)
    ∙ ap (λ (x : Bool). held q (slice_get (s ∷ rest) (cond x (1 + n) 0))) (sym ea)
one_found q s rest false false ea eb none more =
    let n = prefix_len (ends_before q) rest in
    let out : (nat_le s.from q && nat_le q s.at) ≡ false = grind (arith, nat_tests) in
    ap (λ (x : Bool). cond x (Some s) (find (is_in q) rest)) out ∙ none refl refl
    ∙ ap (λ (x : Bool). if x then Some s else None) (sym eb)
    ∙ ap (λ (x : Bool). held q (slice_get (s ∷ rest) (cond x (1 + n) 0))) (sym ea)

before_next : (from p q : ℕ) → from ≤ p → nat_le from q ≡ false → q < p + 1
before_next from p q h e = grind (arith, nat_tests)

-- it is the first that doesn't end before the place, if that begins up to it
found : (q from : ℕ) (ps : List ℕ) → Rise from ps → find (is_in q) (segments_from from ps) ≡ held q (slice_get (segments_from from ps) (prefix_len (ends_before q) (segments_from from ps)))
found q from [] r = refl
found q from (p ∷ ps) r =
    one_found q (record { from = from; at = p }) (segments_from (p + 1) ps) (nat_lt p q) (nat_le from q) refl refl
    (λ b a. none_ahead q (p + 1) ps (before_next from p q r.0 b) r.1)
    (found q (p + 1) ps r.1)

pub segment_found : (c : Code) (q : ℕ) → segment_at c q ≡ held q (slice_get (segments c) (prefix_len (ends_before q) (segments c)))
segment_found c q = found q (lead_end c) (prefixes c) (prefixes_rise c)

pub found_in : (c : Code) (q n : ℕ) (ss : List Segment) (o : Option Segment) → ss ≡ segments c → n ≡ prefix_len (ends_before q) ss → o ≡ slice_get ss n → held q o ≡ segment_at c q
found_in c q n ss o e k g =
    ap (held q) (g ∙ ap (slice_get ss) k ∙ ap (λ (l : List Segment). slice_get l (prefix_len (ends_before q) l)) e) ∙ sym (segment_found c q)

pub got_some : (ss : List Segment) (n : ℕ) (s : Segment) → true ≡ nat_lt n (length ss) → s ≡ get_or ss n s → Some s ≡ slice_get ss n
got_some [] n s h e = absurd (omega (arith, less 0 h))
  where
    less : (m : ℕ) → true ≡ nat_lt n m → n < m
    less m h = grind (arith, nat_tests)
got_some (x ∷ ss) zero s h e = ap Some e
got_some (x ∷ ss) (suc n) s h e = got_some ss n s (before n (length ss) h) e
  where
    before : (a b : ℕ) → true ≡ nat_lt (suc a) (suc b) → true ≡ nat_lt a b
    before a b h = grind (arith, nat_tests)

pub got_none : (ss : List Segment) (n : ℕ) → length ss ≤ n → None ≡ slice_get ss n
got_none [] n h = refl
got_none (x ∷ ss) zero h = absurd (omega arith)
got_none (x ∷ ss) (suc n) h = got_none ss n (omega arith)

pub held_some : (q : ℕ) (s : Segment) → s.from ≤ q → held q (Some s) ≡ Some s
held_some q s h =
    let e : nat_le s.from q ≡ true = grind (arith, nat_tests) in
    ap (λ (b : Bool). if b then Some s else None) e

pub held_none : (q : ℕ) (s : Segment) → q < s.from → held q (Some s) ≡ None
held_none q s h =
    let e : nat_le s.from q ≡ false = grind (arith, nat_tests) in
    ap (λ (b : Bool). if b then Some s else None) e

-- ---- the segment that begins at a place

abbrev pub begun : ℕ → Option Segment → Option Segment
begun q None = None
begun q (Some s) = if s.from == q then Some s else None

none_begins : (q from : ℕ) (ps : List ℕ) → q < from → Rise from ps → find (λ (s : Segment). s.from == q) (segments_from from ps) ≡ None
none_begins q from [] h r = refl
none_begins q from (p ∷ ps) h r =
    let out : (from == q) ≡ false = grind (arith, nat_tests) in
    ap (λ (b : Bool). cond b (Some (record { from = from; at = p })) (find (λ (s : Segment). s.from == q) (segments_from (p + 1) ps))) out
    ∙ none_begins q (p + 1) ps (omega (arith, r.0)) r.1

one_begins : (q : ℕ) (s : Segment) (rest : List Segment) (a b : Bool) → s.from ≤ s.at → (s.from == q) ≡ a → (nat_le s.from q && nat_le q s.at) ≡ b
    → (b ≡ true → find (λ (s : Segment). s.from == q) rest ≡ None)
    → find (λ (s : Segment). s.from == q) rest ≡ begun q (find (is_in q) rest)
    → find (λ (s : Segment). s.from == q) (s ∷ rest) ≡ begun q (find (is_in q) (s ∷ rest))
one_begins q s rest true true h ea eb none more =
    ap (λ (x : Bool). cond x (Some s) (find (λ (s : Segment). s.from == q) rest)) ea
    ∙ ap (λ (x : Bool). if x then Some s else None) (sym ea)
    ∙ ap (λ (x : Bool). begun q (cond x (Some s) (find (is_in q) rest))) (sym eb)
one_begins q s rest true false h ea eb none more =
    let within : (nat_le s.from q && nat_le q s.at) ≡ true = grind (arith, nat_tests) in
    absurd (cc (within, eb))
one_begins q s rest false true h ea eb none more =
    ap (λ (x : Bool). cond x (Some s) (find (λ (s : Segment). s.from == q) rest)) ea ∙ none refl
    ∙ ap (λ (x : Bool). if x then Some s else None) (sym ea)
    ∙ ap (λ (x : Bool). begun q (cond x (Some s) (find (is_in q) rest))) (sym eb)
one_begins q s rest false false h ea eb none more =
    ap (λ (x : Bool). cond x (Some s) (find (λ (s : Segment). s.from == q) rest)) ea ∙ more
    ∙ ap (λ (x : Bool). begun q (cond x (Some s) (find (is_in q) rest))) (sym eb)

begins : (q from : ℕ) (ps : List ℕ) → Rise from ps → find (λ (s : Segment). s.from == q) (segments_from from ps) ≡ begun q (find (is_in q) (segments_from from ps))
begins q from [] r = refl
begins q from (p ∷ ps) r =
    one_begins q (record { from = from; at = p }) (segments_from (p + 1) ps) (from == q) (nat_le from q && nat_le q p) r.0 refl refl
    (λ b. none_begins q (p + 1) ps (up_to p q (and_parts (nat_le from q) (nat_le q p) b).1) r.1)
    (begins q (p + 1) ps r.1)
  where
    up_to : (p q : ℕ) → nat_le q p ≡ true → q < p + 1
    up_to p q e = grind (arith, nat_tests)

pub segment_begins : (c : Code) (q : ℕ) → segment_from c q ≡ begun q (segment_at c q)
segment_begins c q = begins q (lead_end c) (prefixes c) (prefixes_rise c)

-- ---- lists that rise

least_by : {X : Type 0} (n : X → ℕ) (from : ℕ) (xs : List X) (j : ℕ) (d : X) → Rise from (map n xs) → j < length xs → from ≤ n (get_or xs j d)
least_by n from [] j d r h = absurd (omega arith)
least_by n from (x ∷ xs) zero d r h = r.0
least_by n from (x ∷ xs) (suc j) d r h = let e = least_by n (n x + 1) xs j d r.1 (omega arith) in omega (arith, r.0)

pub rise_by : {X : Type 0} (n : X → ℕ) (from : ℕ) (xs : List X) → Rise from (map n xs) → IsNonDecreasingBy n xs
rise_by n from [] r i j d le h = absurd (omega arith)
rise_by n from (x ∷ xs) r zero zero d le h = omega arith
rise_by n from (x ∷ xs) r zero (suc j) d le h = let e = least_by n (n x + 1) xs j d r.1 (omega arith) in omega arith
rise_by n from (x ∷ xs) r (suc i) zero d le h = absurd (omega arith)
rise_by n from (x ∷ xs) r (suc i) (suc j) d le h = rise_by n (n x + 1) xs r.1 i j d (omega arith) (omega arith)

ends_are : (from : ℕ) (ps : List ℕ) → map (λ (s : Segment). s.at) (segments_from from ps) ≡ ps
ends_are from [] = refl
ends_are from (p ∷ ps) = ap (λ (qs : List ℕ). p ∷ qs) (ends_are (p + 1) ps)

pub segments_rise : (c : Code) → IsNonDecreasingBy (λ (s : Segment). s.at) (segments c)
segments_rise c = rise_by (λ (s : Segment). s.at) (lead_end c) (segments c) (subst (Rise (lead_end c)) (sym (ends_are (lead_end c) (prefixes c))) (prefixes_rise c))

pub prefix_from_point : {X : Type 0} (p : X → Bool) (xs : List X) (r : ℕ) (d : X) → r ≤ length xs → ((k : ℕ) (e : X) → 0 ≤ k → k < r → p (get_or xs k e) ≡ true) × ((k : ℕ) (e : X) → r ≤ k → k < length xs → p (get_or xs k e) ≡ false) → prefix_len p xs ≡ r
prefix_from_point p xs r d bound point = prefix_len_is p xs r d bound (λ k l. point.0 k d (omega arith) l) (λ l. point.1 r d (omega arith) l)
