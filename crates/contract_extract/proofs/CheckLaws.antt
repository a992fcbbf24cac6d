-- The Assert and Assume calls of a body stand in the order of their places, so those within a segment are next to one another.
use Rattle.std.proofs.Common.{◌≡◌, ℕ, suc, ◌+◌, ◌<◌, ◌≤◌, Bool, true, false, ◌&&◌, cond, nat_lt, List, [], ◌∷◌, take, drop, refl, sym, subst, ap, ◌∙◌, arith}
use Rattle.std.specs.Prelude.{nat_le, map, filter, Option, Some, None, option_map}
use Rattle.std.specs.List.{enumerate_from, filter_map, cons_option, prefix_len}
use Rattle.std.specs.List.Sorted.{IsNonDecreasingBy}
use Rattle.std.proofs.lemmas.Bool.Decides.{nat_tests}
use Rattle.cil_model.specs.declared.body.Instr.{Instr}
use Rattle.cil_model.specs.declared.contract.ClauseKind.{ClauseKind}
use Rattle.cil_model.specs.declared.contract.ClauseKind.TheVariants.{Assert}
use Rattle.cil_semantics.specs.ContractCalls.{contract_call}
use Rattle.contract_parts.specs.declared.segment.Segment.{Segment}
use Rattle.contract_parts.specs.CallKinds.{checked_kind}
use Rattle.contract_parts.specs.Flow.{Code, placed}
use Rattle.contract_parts.specs.Parts.{is_in}
use Rattle.contract_extract.specs.declared.numbers.Numbers.{Numbers}
use Rattle.contract_extract.specs.declared.numbers.Ended.{Ended}
use Rattle.contract_extract.specs.declared.numbers.Counted.{Counted}
use Rattle.contract_extract.specs.Clauses.{one_more, no_numbers, counted_from}
use Rattle.contract_extract.specs.OwnContract.{checked, inlines, label_of, inline_labels}
use Rattle.contract_extract.specs.Halving.{stands_before, stands_by, calls_from, calls_in}
use Rattle.contract_extract.proofs.SegmentLaws.{Rise, lower, rise_by}

abbrev pub place_of : Counted → ℕ
place_of x = x.segment.at

pub some_call : Counted
some_call = record { segment = record { from = 0; at = 0 }; kind = Assert; number = 0 }

one_checked : (n : Numbers) (k : ℕ) (o : Option ClauseKind) (rest : List Ended) → ((m : Numbers) → Rise (k + 1) (map place_of (counted_from m rest)))
    → Rise k (map place_of (counted_from n (cons_option (option_map (λ (kind : ClauseKind). record { segment = record { from = k; at = k }; kind = kind }) o) rest)))
one_checked n k None rest more = lower k (k + 1) (map place_of (counted_from n rest)) (omega arith) (more n)
one_checked n k (Some kind) rest more = (omega arith, more (one_more n kind))

checks_rise : (c : Code) (n : Numbers) (k : ℕ) (is : List Instr) → Rise k (map place_of (counted_from n (filter_map (checked c) (enumerate_from k is))))
checks_rise c n k [] = tt
checks_rise c n k (i ∷ is) =
    one_checked n k (checked_kind (contract_call c.program i)) (filter_map (checked c) (enumerate_from (k + 1) is)) (λ m. checks_rise c m (k + 1) is)

inlines_from : (c : Code) → Rise 0 (map place_of (inlines c))
inlines_from c = checks_rise c no_numbers 0 c.body.instrs

pub inlines_rise : (c : Code) → IsNonDecreasingBy place_of (inlines c)
inlines_rise c = rise_by place_of 0 (inlines c) (inlines_from c)

-- ---- the calls within a segment

abbrev pub stands_in : Segment → Counted → Bool
stands_in s x = is_in x.segment.at s

none_behind : (s : Segment) (from : ℕ) (xs : List Counted) → s.at < from → Rise from (map place_of xs) → filter (stands_in s) xs ≡ []
none_behind s from [] h r = refl
none_behind s from (x ∷ xs) h r =
    let out : (nat_le s.from x.segment.at && nat_le x.segment.at s.at) ≡ false = grind (arith, nat_tests) in
    ap (λ (b : Bool). cond b (x ∷ filter (stands_in s) xs) (filter (stands_in s) xs)) out
    ∙ none_behind s (x.segment.at + 1) xs (omega (arith, r.0)) r.1

one_in : (s : Segment) (x : Counted) (xs : List Counted) (b : Bool) → s.from ≤ x.segment.at → nat_le x.segment.at s.at ≡ b
    → (b ≡ false → filter (stands_in s) xs ≡ [])
    → filter (stands_in s) xs ≡ take (prefix_len (stands_by s.at) xs) xs
    → filter (stands_in s) (x ∷ xs) ≡ take (prefix_len (stands_by s.at) (x ∷ xs)) (x ∷ xs)
one_in s x xs true h e none more =
    let n = prefix_len (stands_by s.at) xs in
    let within : (nat_le s.from x.segment.at && nat_le x.segment.at s.at) ≡ true = grind (arith, nat_tests) in
    let next : 1 + n ≡ suc n = omega arith in
    ap (λ (b : Bool). cond b (x ∷ filter (stands_in s) xs) (filter (stands_in s) xs)) within
    ∙ ap (λ (ys : List Counted). x ∷ ys) more
    ∙ ap (λ (k : ℕ). take k (x ∷ xs)) (sym next)
    ∙ ap (λ (b : Bool). take (cond b (1 + n) 0) (x ∷ xs)) (sym e)
one_in s x xs false h e none more =
    let n = prefix_len (stands_by s.at) xs in
    let out : (nat_le s.from x.segment.at && nat_le x.segment.at s.at) ≡ false = grind (arith, nat_tests) in
    ap (λ (b : Bool). cond b (x ∷ filter (stands_in s) xs) (filter (stands_in s) xs)) out ∙ none refl
    ∙ ap (λ (b : Bool). take (cond b (1 + n) 0) (x ∷ xs)) (sym e)

-- behind the beginning of the segment
front : (s : Segment) (from : ℕ) (xs : List Counted) → s.from ≤ from → Rise from (map place_of xs) → filter (stands_in s) xs ≡ take (prefix_len (stands_by s.at) xs) xs
front s from [] h r = refl
front s from (x ∷ xs) h r =
    one_in s x xs (nat_le x.segment.at s.at) (omega (arith, r.0)) refl
    (λ e. none_behind s (x.segment.at + 1) xs (past x.segment.at s.at e) r.1)
    (front s (x.segment.at + 1) xs (omega (arith, r.0)) r.1)
  where
    past : (a b : ℕ) → nat_le a b ≡ false → b < a + 1
    past a b e = grind (arith, nat_tests)

one_before : (s : Segment) (x : Counted) (xs : List Counted) (b : Bool) → nat_lt x.segment.at s.from ≡ b
    → (b ≡ false → filter (stands_in s) (x ∷ xs) ≡ take (prefix_len (stands_by s.at) (x ∷ xs)) (x ∷ xs))
    → filter (stands_in s) xs ≡ take (prefix_len (stands_by s.at) (calls_from s.from xs)) (calls_from s.from xs)
    → filter (stands_in s) (x ∷ xs) ≡ take (prefix_len (stands_by s.at) (calls_from s.from (x ∷ xs))) (calls_from s.from (x ∷ xs))
one_before s x xs true e here more =
    let n = prefix_len (stands_before s.from) xs in
    let out : (nat_le s.from x.segment.at && nat_le x.segment.at s.at) ≡ false = grind (arith, nat_tests) in
    let next : 1 + n ≡ suc n = omega arith in
    ap (λ (b : Bool). cond b (x ∷ filter (stands_in s) xs) (filter (stands_in s) xs)) out ∙ more
    ∙ ap (λ (k : ℕ). take (prefix_len (stands_by s.at) (drop k (x ∷ xs))) (drop k (x ∷ xs))) (sym next)
    ∙ ap (λ (b : Bool). take (prefix_len (stands_by s.at) (drop (cond b (1 + n) 0) (x ∷ xs))) (drop (cond b (1 + n) 0) (x ∷ xs))) (sym e)
one_before s x xs false e here more =
    let n = prefix_len (stands_before s.from) xs in
    here refl
    ∙ ap (λ (b : Bool). take (prefix_len (stands_by s.at) (drop (cond b (1 + n) 0) (x ∷ xs))) (drop (cond b (1 + n) 0) (x ∷ xs))) (sym e)

stretch : (s : Segment) (from : ℕ) (xs : List Counted) → Rise from (map place_of xs) → filter (stands_in s) xs ≡ take (prefix_len (stands_by s.at) (calls_from s.from xs)) (calls_from s.from xs)
stretch s from [] r = refl
stretch s from (x ∷ xs) r =
    one_before s x xs (nat_lt x.segment.at s.from) refl
    (λ e. front s x.segment.at (x ∷ xs) (not_before x.segment.at s.from e) (omega arith, r.1))
    (stretch s (x.segment.at + 1) xs r.1)
  where
    not_before : (a b : ℕ) → nat_lt a b ≡ false → b ≤ a
    not_before a b e = grind (arith, nat_tests)

-- the calls within a segment are those from its beginning on, up to its end
pub calls_within : (c : Code) (s : Segment) → calls_in s (inlines c) ≡ filter (stands_in s) (inlines c)
calls_within c s = sym (stretch s 0 (inlines c) (inlines_from c))

pub rise_of : (c : Code) (xs : List Counted) → xs ≡ inlines c → IsNonDecreasingBy place_of xs
rise_of c xs e = subst (IsNonDecreasingBy place_of) (sym e) (inlines_rise c)

pub labels_within : (c : Code) (s : Segment) (xs ws : List Counted) → xs ≡ inlines c → ws ≡ calls_in s xs → map (label_of c) ws ≡ inline_labels c s
labels_within c s xs ws e w = ap (map (label_of c)) (w ∙ ap (calls_in s) e ∙ calls_within c s)
