-- A body without a contract call breaks no rule on contract blocks, and its contract is empty.
use Rattle.std.proofs.Common.{◌≡◌, ◌∙◌, ap, refl, arith, ℕ, ◌+◌, Bool, true, false, List, [], ◌∷◌, ◌++◌, Option, Some, None, ◌&&◌, ◌||◌}
use Rattle.std.specs.Prelude.{cond, option_map, filter, map, find, not, get_or, nat_le, nat_lt, ◌==◌, if◌then◌else◌}
use Rattle.std.proofs.lemmas.Bool.Decides.{nat_tests}
use Rattle.std.specs.List.{list_any, flat_map, filter_map, cons_option, enumerate_from, slice_range}
use Rattle.cil_base.specs.declared.refusal.Refusal.{Refusal}
use Rattle.cil_base.specs.declared.rule.Rule.TheVariants.{C1, C2, C3, C4, C5, C6, C7}
use Rattle.cil_base.specs.Refusals.{Test, first_of}
use Rattle.cil_model.specs.declared.body.Instr.{Instr}
use Rattle.cil_model.specs.declared.contract.Contract.{Contract}
use Rattle.cil_semantics.specs.Words.{maybe}
use Rattle.cil_semantics.specs.Lookups.{method_of}
use Rattle.cil_semantics.specs.Unwind.{holds_place}
use Rattle.cil_semantics.specs.declared.contract_call.ContractCall.{ContractCall}
use Rattle.cil_semantics.specs.declared.contract_call.ContractCall.TheVariants.{EndsClause, EndsBlock, Abbreviates, GivesResult, ReadsArgument, TakesOld, ChecksHere, NoContractCall}
use Rattle.cil_semantics.specs.ContractCalls.{contract_call}
use Rattle.contract_parts.specs.declared.segment.Segment.{Segment}
use Rattle.contract_parts.specs.Flow.{Code, placed, last_argument}
use Rattle.contract_parts.specs.CallKinds.{is_prefix, is_result, is_old, is_of_postcondition, ended_kind, checked_kind}
use Rattle.contract_parts.specs.Closures.{is_closure}
use Rattle.contract_parts.specs.Parts.{is_prefix_at, prefixes, end_before, lead_end, segments_from, segments, rest_behind, rest_from, is_it, written, named, read, is_throw, segment_instrs}
use Rattle.contract_extract.specs.declared.numbers.Ended.{Ended}
use Rattle.contract_extract.specs.Clauses.{counted}
use Rattle.contract_extract.specs.OwnContract.{ended, checked, clause_of, inline_clause, own_contract}
use Rattle.contract_extract.specs.Rules.{has_place, crosses, is_generated, segment_breaks_2, is_ensures, kind_at, may_name_result, is_postcondition, is_invariant, old_breaks_4, segment_from, is_in_block, is_in_old, lead_writes, block_writes, lead_stores, rest_stores, named_breaks_6, read_breaks_6, kind_breaks_7, breaks_1, breaks_2, breaks_3, breaks_4, breaks_5, breaks_6, breaks_7, test, tests_at, tests}
use Rattle.own_contracts.specs.Own.{no_contract}
use Rattle.own_contracts.specs.Calls.{is_call, has_call}

first_false : (a b : Bool) → (a || b) ≡ false → a ≡ false
first_false true b e = absurd cc
first_false false b e = refl

rest_false : (a b : Bool) → (a || b) ≡ false → b ≡ false
rest_false true b e = absurd cc
rest_false false b e = e

and_false : (a : Bool) → (a && false) ≡ false
and_false true = refl
and_false false = refl

none_below : (q : ℕ) → nat_lt q 0 ≡ false
none_below q = grind (arith, nat_tests)

nowhere : (q : ℕ) → holds_place 0 0 q ≡ false
nowhere q = ap (λ (b : Bool). nat_le 0 q && b) (none_below q) ∙ and_false (nat_le 0 q)

never : (f : ℕ → Bool) (o : Option ℕ) → ((k : ℕ) → f k ≡ false) → maybe false f o ≡ false
never f None h = refl
never f (Some k) h = h k

isnt_call : (call : ContractCall) → is_call call ≡ false → call ≡ NoContractCall
isnt_call (EndsClause k) e = absurd cc
isnt_call EndsBlock e = absurd cc
isnt_call Abbreviates e = absurd cc
isnt_call GivesResult e = absurd cc
isnt_call ReadsArgument e = absurd cc
isnt_call TakesOld e = absurd cc
isnt_call (ChecksHere k) e = absurd cc
isnt_call NoContractCall e = refl

passes : (t : Test) (ts : List Test) → t.fails ≡ false → first_of (t ∷ ts) ≡ first_of ts
passes t ts e = ap (λ (b : Bool). if b then Some t.refusal else first_of ts) e

module _ (c : Code) where
  abbrev NoCall : Instr → Type 0
  NoCall i = contract_call c.program i ≡ NoContractCall

  here : (i : Instr) (is : List Instr) → has_call c.program (i ∷ is) ≡ false → NoCall i
  here i is e = isnt_call (contract_call c.program i) (first_false (is_call (contract_call c.program i)) (has_call c.program is) e)

  behind : (i : Instr) (is : List Instr) → has_call c.program (i ∷ is) ≡ false → has_call c.program is ≡ false
  behind i is e = rest_false (is_call (contract_call c.program i)) (has_call c.program is) e

  no_prefix : (n : ℕ) (is : List Instr) → has_call c.program is ≡ false → filter (is_prefix_at c) (enumerate_from n is) ≡ []
  no_prefix n [] e = refl
  no_prefix n (i ∷ is) e =
      ap (λ (call : ContractCall). cond (is_prefix call) ((n, i) ∷ filter (is_prefix_at c) (enumerate_from (n + 1) is)) (filter (is_prefix_at c) (enumerate_from (n + 1) is))) (here i is e)
      ∙ no_prefix (n + 1) is (behind i is e)

  abbrev check_of : ℕ → ContractCall → Option Ended
  check_of n call = option_map (λ k. record { segment = record { from = n; at = n }; kind = k }) (checked_kind call)

  no_check : (n : ℕ) (is : List Instr) → has_call c.program is ≡ false → filter_map (checked c) (enumerate_from n is) ≡ []
  no_check n [] e = refl
  no_check n (i ∷ is) e =
      ap (λ (call : ContractCall). cons_option (check_of n call) (filter_map (checked c) (enumerate_from (n + 1) is))) (here i is e)
      ∙ no_check (n + 1) is (behind i is e)

  module _ (none : has_call c.program c.body.instrs ≡ false) where
    no_prefixes : prefixes c ≡ []
    no_prefixes = ap (map (λ (x : ℕ × Instr). x.0)) (no_prefix 0 c.body.instrs none)

    -- ---- the contract

    abbrev made : List ℕ → List Ended → Contract
    made ps es = record {
      lead_end = end_before c ps;
      rest_from = rest_behind 0 ps;
      clauses = map (clause_of c) (counted (filter_map (ended c) (segments_from (end_before c ps) ps)));
      asserts = map (inline_clause c) (counted es);
    }

    pub is_empty : own_contract c ≡ no_contract
    unfolding own_contract no_contract
    is_empty = ap (λ (ps : List ℕ). made ps (filter_map (checked c) (placed c))) no_prefixes ∙ ap (made []) (no_check 0 c.body.instrs none)

    -- ---- the rules

    no_lead : lead_end c ≡ 0
    no_lead = ap (end_before c) no_prefixes

    no_rest : rest_from c ≡ 0
    no_rest = ap (rest_behind 0) no_prefixes

    no_segments : segments c ≡ []
    no_segments = ap (λ (ps : List ℕ). segments_from (end_before c ps) ps) no_prefixes

    no_block : (q : ℕ) → is_in_block c q ≡ false
    no_block q = ap (λ (n : ℕ). holds_place n (rest_from c) q) no_lead ∙ ap (λ (n : ℕ). holds_place 0 n q) no_rest ∙ nowhere q

    no_writes : (k : ℕ) → block_writes c k ≡ false
    no_writes k =
        ap (λ (n : ℕ). list_any (λ i. is_it k (written i)) (slice_range c.body.instrs n (rest_from c))) no_lead
        ∙ ap (λ (n : ℕ). list_any (λ i. is_it k (written i)) (slice_range c.body.instrs 0 n)) no_rest

    module _ (x : ℕ × Instr) (call : NoCall x.1) where
      no_1 : breaks_1 c x ≡ false
      no_1 = ap (λ (k : ContractCall). is_prefix k && (list_any (has_place x.0) c.body.regions || (list_any (crosses x.0) (placed c) || is_generated c.program c.method))) call

      no_2 : breaks_2 c x ≡ false
      no_2 = ap (λ (ss : List Segment). maybe false (segment_breaks_2 c) (find (λ (s : Segment). s.from == x.0) ss)) no_segments

      no_3 : breaks_3 c x ≡ false
      no_3 =
          ap (λ (k : ContractCall).
          (is_result k && not (is_ensures (kind_at c x.0) && may_name_result c.program c.method))
          || ((is_of_postcondition k && not (is_postcondition (kind_at c x.0))) || (is_invariant (ended_kind k) && not (method_of c.program c.method).invariant)))
          call

      no_4 : breaks_4 c x ≡ false
      no_4 = ap (λ (k : ContractCall). is_old k && (not (get_or c.reached x.0 false) || old_breaks_4 c x.0 (last_argument c x.0))) call

      no_5 : breaks_5 c x ≡ false
      no_5 = ap (λ (ss : List Segment). maybe false (λ s. list_any is_throw (segment_instrs c s)) (find (λ (s : Segment). s.from == x.0) ss)) no_segments

      not_named : (k : ℕ) → named_breaks_6 c x.0 k ≡ false
      not_named k = ap (λ (b : Bool). b && (if is_closure c k then is_in_old c x.0 else lead_writes c k)) (no_block x.0)

      not_read : (k : ℕ) → read_breaks_6 c x.0 k ≡ false
      not_read k = ap (λ (b : Bool). nat_le (rest_from c) x.0 && (b && not (lead_stores c k || rest_stores c k))) (no_writes k) ∙ and_false (nat_le (rest_from c) x.0)

      no_6 : breaks_6 c x ≡ false
      no_6 = ap (λ (b : Bool). b || maybe false (read_breaks_6 c x.0) (read x.1)) (never (named_breaks_6 c x.0) (named x.1) not_named) ∙ never (read_breaks_6 c x.0) (read x.1) not_read

      no_7 : breaks_7 c x ≡ false
      no_7 = ap (λ (k : ContractCall). maybe false (kind_breaks_7 c x.1) (ended_kind k)) call

      abbrev t1 : Test
      t1 = test c x C1 (breaks_1 c x)

      abbrev t2 : Test
      t2 = test c x C2 (breaks_2 c x)

      abbrev t3 : Test
      t3 = test c x C3 (breaks_3 c x)

      abbrev t4 : Test
      t4 = test c x C4 (breaks_4 c x)

      abbrev t5 : Test
      t5 = test c x C5 (breaks_5 c x)

      abbrev t6 : Test
      t6 = test c x C6 (breaks_6 c x)

      abbrev t7 : Test
      t7 = test c x C7 (breaks_7 c x)

      all_pass : (ts : List Test) → first_of (tests_at c x ++ ts) ≡ first_of ts
      all_pass ts =
          passes t1 (t2 ∷ t3 ∷ t4 ∷ t5 ∷ t6 ∷ t7 ∷ ts) no_1 ∙ passes t2 (t3 ∷ t4 ∷ t5 ∷ t6 ∷ t7 ∷ ts) no_2 ∙ passes t3 (t4 ∷ t5 ∷ t6 ∷ t7 ∷ ts) no_3
          ∙ passes t4 (t5 ∷ t6 ∷ t7 ∷ ts) no_4 ∙ passes t5 (t6 ∷ t7 ∷ ts) no_5 ∙ passes t6 (t7 ∷ ts) no_6 ∙ passes t7 ts no_7

    rest_pass : (n : ℕ) (is : List Instr) → has_call c.program is ≡ false → first_of (flat_map (tests_at c) (enumerate_from n is)) ≡ None
    rest_pass n [] e = refl
    rest_pass n (i ∷ is) e = all_pass (n, i) (here i is e) (flat_map (tests_at c) (enumerate_from (n + 1) is)) ∙ rest_pass (n + 1) is (behind i is e)

    pub breaks_nothing : first_of (tests c) ≡ None
    unfolding tests
    breaks_nothing = rest_pass 0 c.body.instrs none
