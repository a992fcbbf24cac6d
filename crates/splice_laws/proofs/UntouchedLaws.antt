-- A body without contracts that is written as it was meets what is asked of a written body.
use Rattle.std.proofs.Common.{◌≡◌, ℕ, zero, suc, ◌+◌, ◌<◌, ◌≤◌, Bool, true, false, List, [], ◌∷◌, ◌++◌, length, Option, Some, None, refl, sym, ap, ◌∙◌, subst, arith}
use Rattle.std.specs.Prelude.{slice_get, option_map, ◌==◌, IsTrue, map}
use Rattle.std.proofs.lemmas.List.{append-nil}
use Rattle.std.proofs.lemmas.Bool.{eqb-true}
use Rattle.cil_base.specs.declared.token.Token.{Token}
use Rattle.cil_model.specs.declared.body.Instr.{Instr}
use Rattle.cil_model.specs.declared.body.Operand.{Operand}
use Rattle.cil_model.specs.declared.body.Operand.TheVariants.{Int, Index, Target, Targets, Tok, Nothing}
use Rattle.cil_model.specs.declared.body.Region.{Region}
use Rattle.cil_model.specs.declared.contract.Contracts.{Contracts}
use Rattle.cil_model.specs.declared.program.Program.{Program}
use Rattle.cil_model.specs.declared.program.MethodDesc.{MethodDesc}
use Rattle.cil_semantics.specs.Tokens.{Here, meaning_here, constrained_here, meaning_of, token_here, locals_in}
use Rattle.cil_semantics.specs.declared.state.ProgramPoint.{ProgramPoint}
use Rattle.cil_semantics.specs.declared.state.ProgramPoint.TheVariants.{LeadIn, InGroup, Rest}
use Rattle.il_opcodes.specs.Opcodes.{class_of}
use Rattle.cil_semantics.specs.Unwind.{body_of, place_in, moved_to, Found, NoHandler, CatchHandler, CleanupHandler, search_from, left_from}
use Rattle.cil_semantics.specs.Checks.{AddedNumbers}
use Rattle.splice_facts.specs.Bodies.{with_methods, SameMethods}
use Rattle.splice_facts.specs.Grown.{IsCopy, copy_operand, NamesLocals}
use Rattle.splice_facts.specs.Layout.{Depths, Marks}
use Rattle.splice_facts.specs.Input.{InputFacts, LandsAt}
use Rattle.splice_facts.specs.Spliced.{Spliced, moved_found, goes_to}

-- places are as they were
abbrev same_marks : ℕ → Marks
same_marks n = record { places = place_in; belongs = λ at q. q == place_in at; door = λ gr. 0; out = λ gr. 0; behind = λ gr j. 0; old_locals = n; olds = 0; extra = λ here. []; result_at = 0; thrown_at = 0 }

abbrev token_in : Operand → ℕ × Token
token_in (Tok a t) = (a, t)
token_in o = (0, record { table = 0; row = 0 })

same_targets : (ts : List ℕ) → map (λ t. t) ts ≡ ts
same_targets [] = refl
same_targets (t ∷ ts) = ap (λ us. t ∷ us) (same_targets ts)

same_operand : (at : ProgramPoint) (o : Operand) → o ≡ copy_operand (λ t. place_in (moved_to t at)) (token_in o) o
same_operand (Rest q) (Targets ts) = ap Targets (sym (same_targets ts))
same_operand (LeadIn q) (Targets ts) = ap Targets (sym (same_targets ts))
same_operand (InGroup gr j q) (Targets ts) = ap Targets (sym (same_targets ts))
same_operand (Rest q) (Target t) = refl
same_operand (LeadIn q) (Target t) = refl
same_operand (InGroup gr j q) (Target t) = refl
same_operand at (Tok a t) = refl
same_operand at (Int z) = refl
same_operand at (Index j) = refl
same_operand at Nothing = refl

module _ (p : Program) (k : Contracts) (ms : List MethodDesc) (g : AddedNumbers) (n : ℕ) (d : Depths n g) where
  abbrev p' : Program
  p' = with_methods p ms

  meaning_same : (here : Here) (i : Instr) → meaning_here p' here i ≡ meaning_here p here i
  unfolding token_here meaning_of
  meaning_same here i = refl

  constrained_same : (here : Here) (i : Instr) → constrained_here p' here i ≡ constrained_here p here i
  unfolding token_here meaning_of
  constrained_same here i = refl

  found_same : (o : Found) (at : ProgramPoint) → o ≡ moved_found p k p' g n d (λ t. place_in (moved_to t (Rest 0))) o
  found_same NoHandler at = refl
  found_same (CatchHandler i t) at = refl
  found_same (CleanupHandler i t) at = refl

  left_same : (at : ℕ) (o : Option (ℕ × Region)) → option_map (λ (x : ℕ × Region). goes_to p k p' g n d x.0 x.1.handler_from) o ≡ option_map (λ (x : ℕ × Region). goes_to p k p' g n d x.0 (place_in (moved_to x.1.handler_from (Rest at)))) o
  left_same at None = refl
  left_same at (Some x) = refl

  -- what is asked of the input: operands name locals, and handlers have numbers of the table
  pub record Fit_body (m : ℕ) : Type 0 where
    pub names : (q : ℕ) (i : Instr) → slice_get (body_of p m).instrs q ≡ Some i → (here : Here) → here.method ≡ m → NamesLocals (length (Rattle.cil_semantics.specs.Tokens.local_tys p here (body_of p m).locals ++ [])) (class_of i.op) i.operand
    pub width : ℕ
    pub count : (here : Here) → here.method ≡ m → length (Rattle.cil_semantics.specs.Tokens.local_tys p here (body_of p m).locals ++ []) ≡ width
    pub found : (fits : Token → Bool) (skip q : ℕ) → LandsAt None (Rest q) (length (body_of p m).regions) (search_from fits skip 0 q (body_of p m).regions)
    pub left : (skip q t : ℕ) (x : ℕ × Region) → left_from skip 0 q t (body_of p m).regions ≡ Some x → x.0 < length (body_of p m).regions

  pub untouched : (m : ℕ) → SameMethods p ms → body_of p' m ≡ body_of p m → (fit : Fit_body m) → Spliced p k p' g n d m None (same_marks fit.width)
  unfolding meaning_of
  untouched m same e fit =
      record {
        locals = λ here h. ap (λ b. Rattle.cil_semantics.specs.Tokens.local_tys p' here b.locals) e ∙ locals_same here (body_of p m).locals ∙ sym (append-nil (Rattle.cil_semantics.specs.Tokens.local_tys p here (body_of p m).locals)) ∙ sym (append-nil (Rattle.cil_semantics.specs.Tokens.local_tys p here (body_of p m).locals ++ []));
        counts = λ here h. (fit.count here h, refl);
        begins = refl;
        copied = λ at i here f plain. copied_so at i here f;
        ends = λ at i here f h. ends_so at i here f h;
        goes_on = λ at i here f plain falls. on_so at here;
        own = λ at here. own_so at;
        finds = λ at q skip q' fits here no1 thr bel is. finds_so at q skip q' fits here bel;
        finally = λ at q skip t q' here no1 thr can bel. finally_so at q skip t q' here bel;
        handlers = λ at h q' here no1 low bel. ap (λ b. Rattle.cil_semantics.specs.Unwind.in_handler b.regions q' h) e ∙ ap (λ z. Rattle.cil_semantics.specs.Unwind.in_handler (body_of p m).regions z h) (eqb-true q' (place_in at) bel);
        unguarded = λ at q skip q' fits here no1 u thr bel s. ap (λ b. search_from fits skip 0 q' b.regions) e ∙ ap (λ z. search_from fits skip 0 z (body_of p m).regions) (eqb-true q' (place_in (moved_to q at)) bel ∙ moved_place at q) ∙ s;
        wrapper = λ f fs fs' w ex ss b q skip q' q0 x hs hs' me scene low here u. absurd (cc u);
        groups = tt;
      }
    where
      locals_same : (here : Here) (o : Option Token) → Rattle.cil_semantics.specs.Tokens.local_tys p' here o ≡ Rattle.cil_semantics.specs.Tokens.local_tys p here o
      locals_same here None = refl
      locals_same here (Some token) = ap (λ a. Rattle.cil_semantics.specs.Types.all_under here.type_args here.method_args (locals_in (meaning_of p a token))) ((same here.method).assembly)

      moved_place : (at : ProgramPoint) (q : ℕ) → place_in (moved_to q at) ≡ q
      moved_place (LeadIn a) q = refl
      moved_place (InGroup gr j a) q = refl
      moved_place (Rest a) q = refl

      same_eq : (x : ℕ) → (x == x) ≡ true
      same_eq x = Rattle.std.proofs.Common.eq-eqb x x refl

      own_so : (at : ProgramPoint) → IsTrue (place_in at == place_in at)
      own_so at = same_eq (place_in at)

      copied_so : (at : ProgramPoint) (i : Instr) → Rattle.splice_facts.specs.Layout.IsHere None at → Rattle.splice_facts.specs.Layout.fetch p k g None m at ≡ Some i → (i' : Instr) × (slice_get (body_of p' m).instrs (place_in at) ≡ Some i') × IsCopy p p' m (λ t. place_in (moved_to t at)) i i'
      copied_so (LeadIn q) i here f = absurd here
      copied_so (InGroup gr j q) i here f = absurd here
      copied_so (Rest q) i here f =
          (i, ap (λ b. slice_get b.instrs q) e ∙ f, record { op = refl; named = token_in i.operand; operand = same_operand (Rest q) i.operand; meaning = λ h m1. meaning_same h i; constrained = λ h m1. constrained_same h i })

      ends_so : (at : ProgramPoint) (i : Instr) → Rattle.splice_facts.specs.Layout.IsHere None at → Rattle.splice_facts.specs.Layout.fetch p k g None m at ≡ None → slice_get (body_of p' m).instrs (place_in at) ≡ Some i → class_of i.op ≡ Rattle.il_opcodes.specs.declared.class.Class.TheVariants.Unsupported
      ends_so (LeadIn q) i here f h = absurd here
      ends_so (InGroup gr j q) i here f h = absurd here
      ends_so (Rest q) i here f h = absurd (cc (f, h, ap (λ b. slice_get b.instrs q) e))

      on_so : (at : ProgramPoint) → Rattle.splice_facts.specs.Layout.IsHere None at → Rattle.splice_facts.specs.Layout.Onward None place_in at (Rattle.cil_semantics.specs.Unwind.next_place at)
      on_so (LeadIn q) here = absurd here
      on_so (InGroup gr j q) here = absurd here
      on_so (Rest q) here = record { there = tt; placed = refl }

      finds_so : (at : ProgramPoint) (q skip q' : ℕ) (fits : Token → Bool) → Rattle.splice_facts.specs.Layout.IsHere None at → IsTrue (q' == place_in (moved_to q at)) → search_from fits skip 0 q' (body_of p' m).regions ≡ moved_found p k p' g n d (λ t. place_in (moved_to t at)) (search_from fits skip 0 q (body_of p m).regions)
      finds_so (LeadIn a) q skip q' fits here bel = absurd here
      finds_so (InGroup gr j a) q skip q' fits here bel = absurd here
      finds_so (Rest a) q skip q' fits here bel = ap (λ b. search_from fits skip 0 q' b.regions) e ∙ ap (λ z. search_from fits skip 0 z (body_of p m).regions) (eqb-true q' q bel) ∙ found_same (search_from fits skip 0 q (body_of p m).regions) (Rest a)

      finally_so : (at : ProgramPoint) (q skip t q' : ℕ) → Rattle.splice_facts.specs.Layout.IsHere None at → IsTrue (q' == place_in (moved_to q at))
          → option_map (λ (x : ℕ × Region). goes_to p k p' g n d x.0 x.1.handler_from) (left_from skip 0 q' (place_in (moved_to t at)) (body_of p' m).regions) ≡ option_map (λ (x : ℕ × Region). goes_to p k p' g n d x.0 (place_in (moved_to x.1.handler_from at))) (left_from skip 0 q t (body_of p m).regions)
      finally_so (LeadIn a) q skip t q' here bel = absurd here
      finally_so (InGroup gr j a) q skip t q' here bel = absurd here
      finally_so (Rest a) q skip t q' here bel =
          ap (λ b. option_map (λ (x : ℕ × Region). goes_to p k p' g n d x.0 x.1.handler_from) (left_from skip 0 q' t b.regions)) e
          ∙ ap (λ z. option_map (λ (x : ℕ × Region). goes_to p k p' g n d x.0 x.1.handler_from) (left_from skip 0 z t (body_of p m).regions)) (eqb-true q' q bel) ∙ left_same a (left_from skip 0 q t (body_of p m).regions)

  -- and the rules give the rest
  pub untouched_input : (m : ℕ) → Fit_body m → InputFacts p k g m None
  untouched_input m fit =
      record {
        starts = tt;
        jumps = λ at i here f. leads_so at i.operand here;
        names = λ at i here f hr h. names_so at i here f hr h;
        lands = λ at q skip fits here thr. lands_so at q skip fits here;
        left_lands = λ at q skip t x here no1 thr h. left_so at q skip t x here h;
        pieces = tt;
      }
    where
      all_so : (q : ℕ) (ts : List ℕ) → Rattle.splice_facts.specs.Layout.AllCan None (Rest q) ts
      all_so q [] = tt
      all_so q (t ∷ ts) = (tt, all_so q ts)

      leads_so : (at : ProgramPoint) (o : Operand) → Rattle.splice_facts.specs.Layout.IsHere None at → Rattle.splice_facts.specs.Layout.LeadsOn None at o
      leads_so (LeadIn q) o here = absurd here
      leads_so (InGroup gr j q) o here = absurd here
      leads_so (Rest q) (Target t) here = tt
      leads_so (Rest q) (Targets ts) here = all_so q ts
      leads_so (Rest q) (Tok a t) here = tt
      leads_so (Rest q) (Int z) here = tt
      leads_so (Rest q) (Index j) here = tt
      leads_so (Rest q) Nothing here = tt

      names_so : (at : ProgramPoint) (i : Instr) → Rattle.splice_facts.specs.Layout.IsHere None at → Rattle.splice_facts.specs.Layout.fetch p k g None m at ≡ Some i → (here : Here) → here.method ≡ m → NamesLocals (length (Rattle.cil_semantics.specs.Tokens.local_tys p here (body_of p m).locals ++ [])) (class_of i.op) i.operand
      names_so (LeadIn q) i h f here m1 = absurd h
      names_so (InGroup gr j q) i h f here m1 = absurd h
      names_so (Rest q) i h f here m1 = fit.names q i f here m1

      lands_so : (at : ProgramPoint) (q skip : ℕ) (fits : Token → Bool) → Rattle.splice_facts.specs.Layout.IsHere None at → LandsAt None at (length (body_of p m).regions) (search_from fits skip 0 q (body_of p m).regions)
      lands_so (LeadIn a) q skip fits here = absurd here
      lands_so (InGroup gr j a) q skip fits here = absurd here
      lands_so (Rest a) q skip fits here = by_found (search_from fits skip 0 q (body_of p m).regions) (fit.found fits skip q)
        where
          by_found : (o : Found) → LandsAt None (Rest q) (length (body_of p m).regions) o → LandsAt None (Rest a) (length (body_of p m).regions) o
          by_found NoHandler l = tt
          by_found (CatchHandler i t) l = l
          by_found (CleanupHandler i t) l = l

      left_so : (at : ProgramPoint) (q skip t : ℕ) (x : ℕ × Region) → Rattle.splice_facts.specs.Layout.IsHere None at → left_from skip 0 q t (body_of p m).regions ≡ Some x → Rattle.splice_facts.specs.Layout.IsHere None (moved_to x.1.handler_from at) × (x.0 < length (body_of p m).regions)
      left_so (LeadIn a) q skip t x here h = absurd here
      left_so (InGroup gr j a) q skip t x here h = absurd here
      left_so (Rest a) q skip t x here h = (tt, fit.left skip q t x h)
