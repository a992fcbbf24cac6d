-- ret in both runs: at once, or behind the groups at exit.
use Rattle.std.proofs.Common.{◌≡◌, ℕ, suc, ◌+◌, ◌*◌, Bool, true, false, List, [], ◌∷◌, length, Option, Some, None, refl, sym, ap, ◌∙◌, subst, arith}
use Rattle.std.specs.Prelude.{◌||◌, if◌then◌else◌}
use Rattle.cil_model.specs.declared.value.Value.{Value}
use Rattle.cil_model.specs.declared.body.Instr.{Instr}
use Rattle.cil_model.specs.declared.contract.Contracts.{Contracts}
use Rattle.cil_model.specs.declared.contract.Group.{Group}
use Rattle.cil_model.specs.declared.contract.Group.TheVariants as group
use Rattle.cil_model.specs.declared.program.Program.{Program}
use Rattle.cil_model.specs.declared.program.MethodDesc.{MethodDesc}
use Rattle.cil_model.specs.NoContracts.{no_contracts}
use Rattle.cil_semantics.specs.declared.state.Local.{Local as LocalState}
use Rattle.cil_semantics.specs.declared.state.World.{World}
use Rattle.cil_semantics.specs.declared.state.Statics.{Statics}
use Rattle.cil_semantics.specs.declared.state.ProgramPoint.{ProgramPoint}
use Rattle.cil_semantics.specs.declared.state.ProgramPoint.TheVariants.{LeadIn, InGroup, Rest}
use Rattle.cil_semantics.specs.declared.state.Frame.{Frame}
use Rattle.cil_semantics.specs.State.{Next, with_stack, with_local, raised}
use Rattle.il_opcodes.specs.declared.class.Class.TheVariants as class
use Rattle.il_opcodes.specs.Opcodes.{class_of}
use Rattle.cil_semantics.specs.Contracted.{Piece, Plan, runs_at, pieces}
use Rattle.cil_semantics.specs.Unwind.{plan_at, begin_group, begin_piece, first_from, takes_part}
use Rattle.cil_semantics.specs.Frames.{if_there}
use Rattle.cil_semantics.specs.Returns.{return_to, return_with, return_from, returns, returned, begin_invariants}
use Rattle.cil_semantics.specs.Checks.{AddedNumbers}
use Rattle.splice_facts.specs.Exceptions.{ObjectIf, ExceptionIf}
use Rattle.splice_facts.specs.Bodies.{with_methods}
use Rattle.splice_facts.specs.Grown.{beside}
use Rattle.splice_facts.specs.Layout.{Marks, Keeps, IsHere}
use Rattle.splice_facts.specs.Spliced.{Paired, from_here}
use Rattle.splice_facts.specs.Spliced as Spliced
use Rattle.splice_facts.specs.Related.{Rewritten, Under, FramePair, count_groups, in_group}
use Rattle.splice_facts.specs.Related as Pairs
use Rattle.simulation_calls.specs.Rets as Rets
use Rattle.splice_facts.proofs.ComesLaws.{no_plan, moves_to_end}
use Rattle.simulation.proofs.ArriveLaws as Arriving
use Rattle.simulation.proofs.ArriveLaws.{group_begins, groups_of}
use Rattle.simulation.proofs.UnwindLaws as Unwinding
use Rattle.simulation.proofs.UnwindLaws.{as_many}
use Rattle.simulation_steps.proofs.ReturnLaws as Returning
use Rattle.simulation_steps.proofs.StepLaws as Stepping
use Rattle.splice_facts.proofs.StoreLaws as Storing

module _ (p : Program) (k : Contracts) (ms : List MethodDesc) (g : AddedNumbers) (r : Rewritten p k ms g) where
  abbrev p' : Program
  p' = with_methods p ms

  abbrev To : ℕ → Next → Next → Type 0
  To n x y = Unwinding.To p k ms g r n x y

  abbrev An : ℕ → Next → Next → Type 0
  An n x y = Unwinding.An p k ms g r n x y

  abbrev lay : ℕ → ℕ
  lay n = Unwinding.lay p k ms g r n

  abbrev cst : ℕ
  cst = Unwinding.cst p k ms g r

  abbrev mk : ℕ → Marks
  mk m = Pairs.marks_in p k ms g r m

  abbrev IsBeside : World → List Statics → Type 0
  IsBeside w ss = Unwinding.IsBeside p k ms g r w ss

  with_result : Option Value → LocalState → LocalState
  with_result v l = record l { result = v }

  -- at once: in the lead-in, and without contracts
  at_once : (f f' : Frame) (fs fs' : List Frame) (w : World) (ss : List Statics) (z : Rets.Ret p k ms g r f f' fs fs' w ss) (v : Option Value) → To (cst + lay (suc (suc (length fs)))) (return_to p k (with_local (record f.local { result = v }) f) fs w) (return_to p' no_contracts (with_local (record f'.local { result = v }) f') fs' (beside ss w))
  unfolding return_to
  at_once f f' fs fs' w ss z v =
      let t = z.top in
      let a : f'.local.args ≡ f.local.args = ap (λ (y : Frame). y.local.args) (t.pair).same in
      subst (λ cs. To (cst + lay (suc (suc (length fs)))) (return_with p k f.continuation f.local.args v fs w) (return_with p' no_contracts f'.continuation cs v fs' (beside ss w))) (sym a)
      (Returning.returns_down p k ms g r f.continuation f'.continuation f.local.args v fs fs' w ss t.under t.others z.fine_back z.back z.heap t.alike t.deep z.outside)

  second_returns : (f f' : Frame) (fs fs' : List Frame) (w : World) (ss : List Statics) (z : Rets.Ret p k ms g r f f' fs fs' w ss) → returns p' no_contracts f' fs' (beside ss w) ≡ if_there (returned p f f.local.stack) (beside ss w) (λ v. return_to p' no_contracts (with_local (record f'.local { result = v }) f') fs' (beside ss w))
  second_returns f f' fs fs' w ss z =
      let s = (z.top).pair.same in
      ap (λ o. if_there (returned p' f' f'.local.stack) (beside ss w) (λ v. return_from p' no_contracts o f'.at (with_local (record f'.local { result = v }) f') fs' (beside ss w))) (no_plan p' f'.method)
      ∙ ap (λ st. if_there (returned p' f' st) (beside ss w) (λ v. return_to p' no_contracts (with_local (record f'.local { result = v }) f') fs' (beside ss w))) (ap (λ (y : Frame). y.local.stack) s)
      ∙ ap (λ o. if_there o (beside ss w) (λ v. return_to p' no_contracts (with_local (record f'.local { result = v }) f') fs' (beside ss w))) (Stepping.returned_same p k ms g r f f' f.local.stack (ap (λ (y : Frame). y.method) s) (ap (λ (y : Frame). y.type_args) s) (ap (λ (y : Frame). y.method_args) s))

  -- where no group comes
  comes_at_once : Option Plan → ProgramPoint → Type 0
  comes_at_once o at = (f : Frame) (l : LocalState) (fs : List Frame) (w : World) → return_from p k o at (with_local l f) fs w ≡ return_to p k (with_local l f) fs w

  pub rets_at_once : (o : Option Plan) (f f' : Frame) (fs fs' : List Frame) (w : World) (ss : List Statics) (z : Rets.Ret p k ms g r f f' fs fs' w ss) → plan_at k p f.method ≡ o → ((l : LocalState) → return_from p k o f.at (with_local l f) fs w ≡ return_to p k (with_local l f) fs w) → To (cst + lay (suc (suc (length fs)))) (returns p k f fs w) (returns p' no_contracts f' fs' (beside ss w))
  rets_at_once o f f' fs fs' w ss z e once =
      subst (λ y. To (cst + lay (suc (suc (length fs)))) (returns p k f fs w) y) (sym (second_returns f f' fs fs' w ss z))
      (subst (λ y. To (cst + lay (suc (suc (length fs)))) (if_there (returned p f f.local.stack) w (λ v. return_from p k y f.at (with_local (record f.local { result = v }) f) fs w)) (if_there (returned p f f.local.stack) (beside ss w) (λ v. return_to p' no_contracts (with_local (record f'.local { result = v }) f') fs' (beside ss w)))) (sym e)
      (by_value (returned p f f.local.stack)))
    where
      by_value : (v : Option (Option Value)) → To (cst + lay (suc (suc (length fs)))) (if_there v w (λ v1. return_from p k o f.at (with_local (record f.local { result = v1 }) f) fs w)) (if_there v (beside ss w) (λ v1. return_to p' no_contracts (with_local (record f'.local { result = v1 }) f') fs' (beside ss w)))
      by_value None = Arriving.stuck_both p k ms g r _ w ss ((z.top).alike)
      by_value (Some v) = subst (λ y. To (cst + lay (suc (suc (length fs)))) y (return_to p' no_contracts (with_local (record f'.local { result = v }) f') fs' (beside ss w))) (sym (once (record f.local { result = v }))) (at_once f f' fs fs' w ss z v)

  -- in the rest of a body with contracts the value is kept and the groups at exit come
  pub rets_lifted : (c : Plan) (q : ℕ) (i : Instr) (f f' : Frame) (fs fs' : List Frame) (w : World) (ss : List Statics) (z : Rets.Ret p k ms g r f f' fs fs' w ss) → plan_at k p f.method ≡ Some c → f.at ≡ Rest q → Rattle.splice_facts.specs.Layout.fetch p k g (Some c) f.method f.at ≡ Some i → class_of i.op ≡ class.Return → f.thrown ≡ None → Rattle.splice_facts.specs.Spliced.has_exit p k p' g r.types r.depths c ≡ true → Rattle.splice_facts.specs.Spliced.Current p k p' g r.types r.depths f.method f.at f'.handling → ((v : Option Value) → returned p f f.local.stack ≡ Some v → length f.local.stack ≡ length (Rattle.splice_facts.specs.Input.top_of v))
      → An (5 * cst + lay (suc (suc (length fs)))) (returns p k f fs w) (from_here p k p' g r.types r.depths (mk f.method) f ((z.top).pair.extra) f'.continuation fs' w ss f'.handling)
  rets_lifted c q i f f' fs fs' w ss z e at there is bare exits current just =
      subst (λ y. An (5 * cst + lay (suc (suc (length fs)))) (if_there (returned p f f.local.stack) w (λ v. return_from p k y f.at (with_local (record f.local { result = v }) f) fs w)) from) (sym e) (by_value (returned p f f.local.stack) refl)
    where
      from : Next
      from = from_here p k p' g r.types r.depths (mk f.method) f ((z.top).pair.extra) f'.continuation fs' w ss f'.handling

      here : IsHere (Some c) f.at
      here = subst (λ o. IsHere o f.at) e ((z.top).here)

      scene : Paired p k p' g r.types r.depths (mk f.method) f fs fs' w ((z.top).pair.extra) ss
      scene = record { keeps = (z.top).pair.keeps; beside = (z.top).alike; numbers = as_many p k ms g r f.continuation f'.continuation fs fs' (z.top).under; deep = (z.top).deep }

      lifted : (v : Option Value) → returned p f f.local.stack ≡ Some v → An (5 * cst + lay (suc (suc (length fs)))) (begin_group p c group.Exit (with_local (record f.local { result = v }) f) fs w (begin_invariants p k c (with_local (record f.local { result = v }) f) fs w)) from
      lifted v s =
          let l : LocalState = record f.local { result = v } in
          let a = (groups_of p k ms g r f.method c e ((z.top).stands).old).lifts f fs fs' w ((z.top).pair.extra) ss f'.continuation f'.handling q i v refl z.named exits at here there is scene current s (just v s) in
          let over = begin_invariants p k c (with_local (with_stack l []) f) fs w in
          let b = group_begins p k ms g r c group.Exit f (with_stack l []) (a.arrives).extra f'.continuation fs fs' w (a.arrives).statics over e ((z.top).stands).old (λ d. cc d) refl (subst (λ o. Unwinding.Fits p k ms g r group.Exit o) (sym bare) tt) (subst (ExceptionIf p w) (sym bare) tt) (a.arrives).keeps (a.arrives).beside (as_many p k ms g r f.continuation f'.continuation fs fs' (z.top).under) (z.top).deep (z.top).under (4 * cst + lay (suc (suc (length fs)))) (omega arith)
          (λ a1. Unwinding.reach_within p k ms g r (cst + (3 * cst + lay (suc (suc (length fs))))) _ _ _ (omega arith)
          (Unwinding.reach_by p k ms g r cst (3 * cst + lay (suc (suc (length fs)))) _ _ _ a1.comes
          (subst (λ y. To (3 * cst + lay (suc (suc (length fs)))) over (Spliced.stands p k p' g r.types r.depths f (with_stack l []) a1.extra y f'.continuation fs' w a1.statics)) (sym (groups_of p k ms g r f.method c e ((z.top).stands).old).then_invariants)
          (Returning.invariants_begin p k ms g r c f (with_stack l []) a1.extra f'.continuation fs fs' w a1.statics (exits, Rattle.splice_facts.proofs.StoreLaws.returned_stays p f f.local.stack v s) refl bare a1.beside
          (record { plan = e; old = ((z.top).stands).old; keeps = a1.keeps; under = (z.top).under; others = (z.top).others; own = ((z.top).stands).initializes; fine_back = z.fine_back; deep = (z.top).deep; count = z.outside; heap = z.heap; thrown = subst (ObjectIf (length w.heap)) (sym bare) tt; back = z.back; named = z.named }))))) in
          Unwinding.answer_within p k ms g r (cst + (4 * cst + lay (suc (suc (length fs))))) _ _ _ (omega arith)
          (Unwinding.answer_by p k ms g r cst (4 * cst + lay (suc (suc (length fs)))) _ _ _ (record { comes = (a.arrives).comes; moves = a.moves })
          (subst (λ y. To (4 * cst + lay (suc (suc (length fs)))) y (Spliced.stands p k p' g r.types r.depths f (with_stack l []) (a.arrives).extra ((mk f.method).door group.Exit) f'.continuation fs' w (a.arrives).statics))
          (Returning.group_stack p k ms g r c group.Exit f l fs w (begin_invariants p k c (with_local l f) fs w) over (Returning.group_stack p k ms g r c group.Invariant f l fs w (return_to p k (with_local l f) fs w) (return_to p k (with_local (with_stack l []) f) fs w) (Returning.stack_gone p k ms g r f l fs w))) b))

      by_value : (v : Option (Option Value)) → returned p f f.local.stack ≡ v → An (5 * cst + lay (suc (suc (length fs)))) (if_there v w (λ v1. return_from p k (Some c) f.at (with_local (record f.local { result = v1 }) f) fs w)) from
      by_value None s =
          Unwinding.answer_within p k ms g r (cst + (4 * cst + lay (suc (suc (length fs))))) _ _ _ (omega arith)
          (Unwinding.answer_by p k ms g r cst (4 * cst + lay (suc (suc (length fs)))) _ _ _ (moves_to_end p' cst _ _ _ ((groups_of p k ms g r f.method c e ((z.top).stands).old).lifts_stuck f fs fs' w ((z.top).pair.extra) ss f'.continuation f'.handling q i refl z.named exits at here there is scene current s)) (Arriving.stuck_both p k ms g r _ w ss (z.top).alike))
      by_value (Some v) s = subst (λ y. An (5 * cst + lay (suc (suc (length fs)))) (return_from p k (Some c) y (with_local (record f.local { result = v }) f) fs w) from) (sym at) (lifted v s)

  -- where nothing is checked at exit, `ret` returns at once in the rest too
  no_pieces : (xs : List Piece) → Rattle.splice_facts.specs.Spliced.has_any p k p' g r.types r.depths xs ≡ false → xs ≡ []
  no_pieces [] e = refl
  no_pieces (x ∷ xs) e = absurd (cc e)

  either_none : (a b : Bool) → (a || b) ≡ false → (a ≡ false) × (b ≡ false)
  either_none false false e = (refl, refl)
  either_none true b e = absurd (cc e)
  either_none false true e = absurd (cc e)

  none_begins : (c : Plan) (gr : Group) (f : Frame) (l : LocalState) (fs : List Frame) (w : World) (over : Next) → pieces c gr ≡ [] → begin_group p c gr (with_local l f) fs w over ≡ over
  none_begins c gr f l fs w over e = ap (λ xs. if runs_at c gr w.depth then begin_piece p gr (first_from (takes_part p f fs w) 0 0 xs) (with_local l f) fs (raised w) over else over) e ∙ same (runs_at c gr w.depth)
    where
      same : (b : Bool) → (if b then over else over) ≡ over
      same true = refl
      same false = refl

  pub returns_bare : (c : Plan) (q : ℕ) (f : Frame) (l : LocalState) (fs : List Frame) (w : World) → Rattle.splice_facts.specs.Spliced.has_exit p k p' g r.types r.depths c ≡ false → return_from p k (Some c) (Rest q) (with_local l f) fs w ≡ return_to p k (with_local l f) fs w
  returns_bare c q f l fs w e =
      let n = either_none (Rattle.splice_facts.specs.Spliced.has_any p k p' g r.types r.depths (pieces c group.Exit)) (Rattle.splice_facts.specs.Spliced.has_any p k p' g r.types r.depths (pieces c group.Invariant)) e in
      none_begins c group.Exit f l fs w (begin_invariants p k c (with_local l f) fs w) (no_pieces (pieces c group.Exit) n.0)
      ∙ none_begins c group.Invariant f l fs w (return_to p k (with_local l f) fs w) (no_pieces (pieces c group.Invariant) n.1)

  without_exit : (o : Option Plan) (at : ProgramPoint) (f : Frame) (fs : List Frame) (w : World) → Rets.NoExit p k ms g r o at → (l : LocalState) → return_from p k o at (with_local l f) fs w ≡ return_to p k (with_local l f) fs w
  without_exit None at f fs w n l = refl
  without_exit (Some c) (LeadIn q) f fs w n l = refl
  without_exit (Some c) (InGroup gr j q) f fs w n l = absurd n
  without_exit (Some c) (Rest q) f fs w n l = returns_bare c q f l fs w n

  pub rets_bare : (f f' : Frame) (fs fs' : List Frame) (w : World) (ss : List Statics) → Rets.Ret p k ms g r f f' fs fs' w ss → Rets.NoExit p k ms g r (plan_at k p f.method) f.at → To (cst + lay (suc (suc (length fs)))) (returns p k f fs w) (returns p' no_contracts f' fs' (beside ss w))
  rets_bare f f' fs fs' w ss z n = rets_at_once (plan_at k p f.method) f f' fs fs' w ss z refl (without_exit (plan_at k p f.method) f.at f fs w n)
