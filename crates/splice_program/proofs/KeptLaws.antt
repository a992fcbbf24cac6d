-- A method without a contract, whose body is kept, meets the facts; its body has neither regions nor locals.
use Rattle.std.proofs.Common.{◌≡◌, ℕ, ◌<◌, true, false, List, [], ◌∷◌, ◌++◌, length, Some, None, refl, sym, ap, ◌∙◌, subst, arith}
use Rattle.std.specs.Prelude.{slice_get, option_map}
use Rattle.cil_model.specs.declared.body.Body.{Body}
use Rattle.cil_model.specs.declared.body.Instr.{Instr}
use Rattle.cil_model.specs.declared.body.Operand.{Operand}
use Rattle.cil_model.specs.declared.body.Operand.TheVariants.{Target, Targets}
use Rattle.cil_model.specs.declared.body.Region.{Region}
use Rattle.cil_semantics.specs.Tokens.{Here, local_tys, meaning_here, constrained_here}
use Rattle.cil_semantics.specs.Unwind.{body_of, moved_to, next_place, search_from, left_from}
use Rattle.cil_semantics.specs.declared.state.ProgramPoint.{ProgramPoint}
use Rattle.cil_semantics.specs.declared.state.ProgramPoint.TheVariants.{LeadIn, InGroup, Rest}
use Rattle.il_opcodes.specs.Opcodes.{class_of}
use Rattle.splice_facts.specs.Grown.{IsCopy, NamesLocals}
use Rattle.splice_facts.specs.Input.{InputFacts, LandsAt, IsFound, NamesGiving}
use Rattle.splice_facts.specs.Layout.{IsHere, Onward, AllCan, LeadsOn, fetch}
use Rattle.splice_facts.specs.Related.{NamesInput}
use Rattle.splice_facts.specs.Spliced.{Spliced, goes_to}
use Rattle.splice_rows.specs.OneRequires.{kept_marks}
use Rattle.splice_program.specs.Program.{input, contracts, numbers}
use Rattle.splice_program.specs.Written.{output}
use Rattle.splice_program.proofs.PlaceLaws.{not_some, Along, along}
use Rattle.splice_program.proofs.RuntimeLaws.{depths}

-- what an instruction names is of the input
abbrev pub Says : Instr → Type 0
Says i = ((h : Here) → NamesInput input 2 9 (meaning_here input h i)) × ((h : Here) → constrained_here input h i ≡ None) × ((h : Here) → NamesGiving input (meaning_here input h i))

-- an instruction names no local, and is its own copy
abbrev pub Stays : ℕ → Instr → Type 0
Stays m i = ((n : ℕ) → NamesLocals n (class_of i.op) i.operand) × IsCopy input output m (λ t. t) i i

all_can : (q : ℕ) (ts : List ℕ) → AllCan None (Rest q) ts
all_can q [] = tt
all_can q (t ∷ ts) = (tt, all_can q ts)

leads_on : (q : ℕ) (o : Operand) → LeadsOn None (Rest q) o
leads_on q (Target t) = tt
leads_on q (Targets ts) = all_can q ts
leads_on q _ = tt

module _ (m : ℕ) (b : Body) (before : body_of input m ≡ b) (after : body_of output m ≡ b) (regions : b.regions ≡ []) (locals : b.locals ≡ None) (stays : Along (λ q i. Stays m i) b.instrs) where
  regions_in : (body_of input m).regions ≡ []
  regions_in = ap (λ (y : Body). y.regions) before ∙ regions

  regions_out : (body_of output m).regions ≡ []
  regions_out = ap (λ (y : Body). y.regions) after ∙ regions

  locals_in : (body_of input m).locals ≡ None
  locals_in = ap (λ (y : Body). y.locals) before ∙ locals

  locals_out : (body_of output m).locals ≡ None
  locals_out = ap (λ (y : Body). y.locals) after ∙ locals

  stays_at : (q : ℕ) (i : Instr) → slice_get (body_of input m).instrs q ≡ Some i → Stays m i
  stays_at q i e = along (λ q1 i1. Stays m i1) b.instrs stays q i (sym (ap (λ (y : Body). slice_get y.instrs q) before) ∙ e)

  same_code : (q : ℕ) → slice_get (body_of output m).instrs q ≡ slice_get (body_of input m).instrs q
  same_code q = ap (λ (y : Body). slice_get y.instrs q) (after ∙ sym before)

  jumps : (at : ProgramPoint) (i : Instr) → IsHere None at → LeadsOn None at i.operand
  jumps (LeadIn q) i here = absurd here
  jumps (InGroup gr j q) i here = absurd here
  jumps (Rest q) i here = leads_on q i.operand

  names : (at : ProgramPoint) (i : Instr) (n : ℕ) → IsHere None at → fetch input contracts numbers None m at ≡ Some i → NamesLocals n (class_of i.op) i.operand
  names (LeadIn q) i n here e = absurd here
  names (InGroup gr j q) i n here e = absurd here
  names (Rest q) i n here e = (stays_at q i e).0 n

  pub kept_facts : InputFacts input contracts numbers m None
  kept_facts =
      record {
        starts = tt;
        jumps = λ at i here e. jumps at i here;
        names = λ at i here e h q. names at i _ here e;
        lands = λ at q skip fits here h. subst (λ rs. LandsAt None at (length rs) (search_from fits skip 0 q rs)) (sym regions_in) tt;
        left_lands = λ at q skip t x here n h e. absurd (not_some x (sym (ap (left_from skip 0 q t) regions_in) ∙ e));
        pieces = tt;
      }

  abbrev places : ProgramPoint → ℕ
  places = (kept_marks).places

  copied : (at : ProgramPoint) (i : Instr) → IsHere None at → fetch input contracts numbers None m at ≡ Some i → (i' : Instr) × (slice_get (body_of output m).instrs (places at) ≡ Some i') × IsCopy input output m (λ t. places (moved_to t at)) i i'
  copied (LeadIn q) i here e = absurd here
  copied (InGroup gr j q) i here e = absurd here
  copied (Rest q) i here e = (i, same_code q ∙ e, (stays_at q i e).1)

  ends : (at : ProgramPoint) (i' : Instr) → IsHere None at → fetch input contracts numbers None m at ≡ None → slice_get (body_of output m).instrs (places at) ≡ Some i' → ⊥
  ends (LeadIn q) i' here n e = here
  ends (InGroup gr j q) i' here n e = here
  ends (Rest q) i' here n e = not_some i' (sym n ∙ sym (same_code q) ∙ e)

  goes_on : (at : ProgramPoint) → IsHere None at → Onward None places at (next_place at)
  goes_on (LeadIn q) here = absurd here
  goes_on (InGroup gr j q) here = absurd here
  goes_on (Rest q) here = record { there = tt; placed = refl }

  not_guarded : false ≡ true → ⊥
  not_guarded e = cc e

  no_handler : (n : ℕ) → n < length (body_of input m).regions → ⊥
  no_handler n low = let z : n < 0 = subst (λ rs. n < length rs) regions_in low in omega (arith, z)

  pub kept_spliced : Spliced input contracts output numbers 2 depths m None kept_marks
  kept_spliced =
      record {
        locals = λ here e. ap (local_tys output here) locals_out ∙ sym (ap (λ o. (local_tys input here o ++ []) ++ []) locals_in);
        counts = λ here e. (ap (λ o. length (local_tys input here o ++ [])) locals_in, refl);
        begins = refl;
        copied = λ at i here e pl. copied at i here e;
        ends = λ at i' here n e. absurd (ends at i' here n e);
        goes_on = λ at i here e pl n. goes_on at here;
        own = λ at here. refl;
        finds = λ at q skip q' fits here n h bel found. absurd (subst (λ rs. IsFound (search_from fits skip 0 q rs)) regions_in found);
        finally = λ at q skip t q' here n h can bel.
            ap (λ rs. option_map (λ (x : ℕ × Region). goes_to input contracts output numbers 2 depths x.0 x.1.handler_from) (left_from skip 0 q' (places (moved_to t at)) rs)) regions_out
            ∙ sym (ap (λ rs. option_map (λ (x : ℕ × Region). goes_to input contracts output numbers 2 depths x.0 (places (moved_to x.1.handler_from at))) (left_from skip 0 q t rs)) regions_in);
        handlers = λ at h q' here n low bel. absurd (no_handler h.handler low);
        unguarded = λ at q skip q' fits here n g h bel none. ap (search_from fits skip 0 q') regions_out;
        wrapper = λ f fs fs' w ex ss b q skip q' q0 x hs hs' me s low here g. absurd (not_guarded g);
        groups = tt;
      }
