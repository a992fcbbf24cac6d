-- Assert and Assume that are checked in place meet the facts, whichever handlers run there.
use Rattle.std.proofs.Common.{◌≡◌, ℕ, ◌+◌, ◌<◌, ◌≤◌, Bool, true, false, List, Option, Some, None, refl, ap, ◌∙◌, subst, arith}
use Rattle.std.specs.Prelude.{filter, if◌then◌else◌, length, ◌==◌}
use Rattle.cil_model.specs.declared.body.Instr.{Instr}
use Rattle.cil_model.specs.declared.contract.ClauseKind.{ClauseKind}
use Rattle.cil_model.specs.declared.contract.Contracts.{Contracts}
use Rattle.cil_model.specs.declared.program.Program.{Program}
use Rattle.cil_model.specs.declared.program.MethodDesc.{MethodDesc}
use Rattle.cil_model.specs.declared.program.Meaning.{Meaning}
use Rattle.cil_model.specs.declared.program.Meaning.TheVariants.{OfMethod}
use Rattle.std.specs.Prelude.{codes, ◌&&◌}
use Rattle.cil_model.specs.declared.ty.Ty.{out-Ty}
use Rattle.cil_semantics.specs.Core.{Name}
use Rattle.cil_semantics.specs.Lookups.{method_of}
use Rattle.cil_semantics.specs.Types.{is_empty}
use Rattle.cil_semantics.specs.declared.state.ProgramPoint.{ProgramPoint}
use Rattle.cil_semantics.specs.declared.state.ProgramPoint.TheVariants.{LeadIn, InGroup, Rest}
use Rattle.cil_semantics.specs.declared.state.Handling.{Handling}
use Rattle.cil_semantics.specs.declared.state.Frame.{Frame}
use Rattle.cil_semantics.specs.Tokens.{own_meaning}
use Rattle.cil_semantics.specs.Contracted.{Plan}
use Rattle.cil_semantics.specs.Unwind.{body_of, in_handler, next_place}
use Rattle.cil_semantics.specs.ContractCalls.{contract_call, has_message, static_call, abbreviator_call, condition_call, other_call, is_contract, is_called, takes_condition, takes_one, is_own, is_own_by_ref}
use Rattle.cil_semantics.specs.declared.contract_call.ContractCall.{ContractCall}
use Rattle.cil_semantics.specs.declared.contract_call.ContractCall.TheVariants.{ChecksHere}
use Rattle.cil_semantics.specs.Checks.{AddedNumbers}
use Rattle.machine_laws.specs.Same.{most_clauses}
use Rattle.splice_facts.specs.Layout.{Depths, Marks}
use Rattle.splice_facts.specs.Spliced.{IsInline, Current}
use Rattle.splice_laws.specs.Straight.{Stay}
use Rattle.splice_laws.specs.HelperRuns.{HelpersRun}
use Rattle.splice_laws.specs.Fails.{NotMade}
use Rattle.splice_laws.specs.PendingHandlers.{HoldsAs}
use Rattle.splice_laws.proofs.PendingLaws.{run_on}
use Rattle.splice_laws.proofs.CheckLaws.{base, check_at}
use Rattle.splice_laws.proofs.StuckCheckLaws.{first_stores, stuck_at}
use Rattle.seam_laws.specs.InlineCode.{InlineCode, ChecksInPlace}

-- ---- a check in place makes no exception of its own

abbrev NeverMade : ContractCall → Type 0
NeverMade (ChecksHere kd) = NotMade kd
NeverMade _ = Unit {0}

either : (b : Bool) (x y : ContractCall) → NeverMade x → NeverMade y → NeverMade (if b then x else y)
either true x y hx hy = hx
either false x y hx hy = hy

of_condition : (d : MethodDesc) → NeverMade (condition_call d)
of_condition d =
    either (is_called d (codes "Requires") 0) _ _ tt
    (either (is_called d (codes "Requires") 1) _ _ tt
    (either (is_called d (codes "Ensures") 0) _ _ tt
    (either (is_called d (codes "EnsuresOnThrow") 1) _ _ tt
    (either (is_called d (codes "Invariant") 0) _ _ tt
    (either (is_called d (codes "Assert") 0) _ _ tt (either (is_called d (codes "Assume") 0) _ _ tt tt))))))

of_other : (d : MethodDesc) → NeverMade (other_call d)
of_other d =
    either (is_called d (codes "EndContractBlock") 0 && is_empty d.params) _ _ tt
    (either (is_called d (codes "Result") 1 && is_empty d.params) _ _ tt
    (either (is_called d (codes "OldValue") 1 && takes_one is_own d.params) _ _ tt (either (is_called d (codes "ValueAtReturn") 1 && takes_one is_own_by_ref d.params) _ _ tt tt)))

of_abbreviator : (p : Program) (o : Option Meaning) → NeverMade (abbreviator_call p o)
of_abbreviator p (Some (OfMethod owner c args)) = either (method_of p c).abbreviator _ _ tt tt
of_abbreviator p _ = tt

of_static : (p : Program) (o : Option Meaning) → NeverMade (static_call p o)
of_static p (Some (OfMethod owner c args)) =
    either (is_contract p (out-Ty owner)) _ _ (either (takes_condition (method_of p c).params) _ _ (of_condition (method_of p c)) (of_other (method_of p c))) (of_abbreviator p (Some (OfMethod owner c args)))
of_static p _ = tt

of_call : (p : Program) (i : Instr) → NeverMade (contract_call p i)
unfolding contract_call
of_call p i = either (i.op == 0x28) _ _ (of_static p (own_meaning p i.operand)) (either (i.op == 0x6F) _ _ (of_abbreviator p (own_meaning p i.operand)) tt)

not_made : (p : Program) (i : Instr) (kd : ClauseKind) → contract_call p i ≡ ChecksHere kd → NotMade kd
not_made p i kd e = subst NeverMade e (of_call p i)

module _ (p : Program) (k : Contracts) (p' : Program) (g : AddedNumbers) (n : ℕ) (depths : Depths n g) (r : HelpersRun p' g k.settings.throwing depths.owner k.settings.guard) (me : ℕ) (plan : Plan) (m : Marks) (e : InlineCode p k p' g n depths r me plan m) (many : 1 ≤ most_clauses k p 0 p.methods) where
  kind_of : (f : Frame) (fs : List Frame) (at : ProgramPoint) (i : Instr) (kd : ClauseKind) (home : ℕ) (label : Name) → IsInline p k p' g n depths plan me f fs at i kd home label → NotMade kd
  kind_of f fs (LeadIn q) i kd home label h = not_made p i kd h.1
  kind_of f fs (InGroup gr j q) i kd home label h = not_made p i kd h.3
  kind_of f fs (Rest q) i kd home label h = not_made p i kd h.1

  stays_at : (f : Frame) (b : Rattle.cil_semantics.specs.declared.state.Continuation.Continuation) (q : ℕ) (hs : List Handling) → f.method ≡ me → Current p k p' g n depths me f.at hs → HoldsAs p k p' g n depths me f.at q → Stay p' (base p k p' g n depths r me m e.reporting f b) q hs
  stays_at f b q hs a pending same = ap (λ y. filter (in_handler (body_of p' y).regions q) hs) a ∙ run_on p k p' g n depths me f.at q hs pending same

  first_between : (code : List Instr) (s on q : ℕ) → q ≡ s + 1 → on ≡ s + length code → 2 ≤ length code → (s < q) × (q < on)
  first_between code s on q e1 e2 many1 = (omega (arith, e1), omega (arith, e1, e2, many1))

  pub checks_in_place : ChecksInPlace p k p' g n depths r me plan m
  checks_in_place =
      record {
        asserts = λ f fs fs' w ex ss b hs i kd c label home a here inl s pending given.
            let z = e.checks f fs i kd home label a here inl in
            check_at p k p' g n depths r me m e.reporting many f fs fs' w ex ss b hs a s kd None home label (kind_of f fs f.at i kd home label inl)
            (m.places (next_place f.at)) (λ q lo hi. stays_at f b q hs a pending (z.between q lo hi)) z.belongs z.token z.labelled (has_message p i) c z.code z.next given;
        asserts_stuck = λ f fs fs' w ex ss b hs i kd label home a here inl s pending none.
            let z = e.checks f fs i kd home label a here inl in
            let code = Rattle.splice_laws.specs.EntryCode.check_code (has_message p i) r.assembly (e.reporting).tools (Rattle.cil_semantics.specs.Checks.kind_number kd) z.token (m.places (next_place f.at)) in
            stuck_at p k p' g n depths r me m e.reporting many f fs fs' w ex ss b hs a s
            (λ q eq. let y = first_between code (m.places f.at) (m.places (next_place f.at)) q eq z.next (long_code (has_message p i) r.assembly (e.reporting).tools (Rattle.cil_semantics.specs.Checks.kind_number kd) z.token (m.places (next_place f.at))) in stays_at f b q hs a pending (z.between q y.0 y.1))
            (has_message p i) (first_stores (body_of p' me).instrs (m.places f.at) r.assembly (Rattle.cil_semantics.specs.Checks.kind_number kd) (e.reporting).tools z.token (m.places (next_place f.at)) (has_message p i) z.code) f.local.stack refl none;
      }
    where
      long_code : (t : Bool) (a1 : ℕ) (tools : Rattle.splice_laws.specs.EntryCode.Tools) (kn : ℕ) (token : Rattle.cil_base.specs.declared.token.Token.Token) (on : ℕ) → 2 ≤ length (Rattle.splice_laws.specs.EntryCode.check_code t a1 tools kn token on)
      long_code true a1 tools kn token on = omega arith
      long_code false a1 tools kn token on = omega arith
