-- One step keeps a state in shape.
use Rattle.std.proofs.Common.{◌≡◌, ◌<◌, ◌≤◌, ◌+◌, ◌-◌, inl, inr, ℕ, zero, suc, Bool, true, false, ◌||◌, List, [], ◌∷◌, length, Option, Some, None, refl, sym, ap, ◌∙◌, arith, subst}
use Rattle.std.specs.Prelude.{if◌then◌else◌, slice_get, unwrap_or, nat_lt, nat_le, drop, take, reverse, option_and_then, find, ◌==◌}
use Rattle.std.specs.List.{list_all}
use Rattle.std.proofs.lemmas.Bool.{eqb-true}
use Rattle.std.proofs.lemmas.Bool.Decides.{nat_tests}
use Rattle.std.proofs.lemmas.Option.{slice_get_within}
use Rattle.std.proofs.lemmas.List.{length-drop}
use Rattle.cil_base.proofs.Small.{and_both}
use Rattle.cil_model.specs.declared.body.Instr.{Instr}
use Rattle.cil_model.specs.declared.body.Operand.{Operand}
use Rattle.cil_model.specs.declared.body.Operand.TheVariants as operand
use Rattle.cil_model.specs.declared.contract.Contracts.{Contracts}
use Rattle.cil_model.specs.declared.program.Meaning.{Meaning}
use Rattle.cil_model.specs.declared.program.Meaning.TheVariants.{OfType, OfField, OfMethod, OfText, OfLocals}
use Rattle.cil_model.specs.declared.program.MethodDesc.{MethodDesc}
use Rattle.cil_model.specs.declared.program.Program.{Program}
use Rattle.cil_model.specs.declared.ty.Ty.{Ty}
use Rattle.cil_model.specs.declared.ty.Under.{Under}
use Rattle.cil_model.specs.declared.value.Value.{Value, out-Value}
use Rattle.cil_model.specs.declared.value.Value.TheOpen.{Value-F}
use Rattle.cil_model.specs.ValidBody.{IsValidInstr, IsValidOperand, AllValid, AllBelow}
use Rattle.il_opcodes.specs.declared.class.Class.{Class}
use Rattle.il_opcodes.specs.declared.class.Class.TheVariants as class
use Rattle.il_opcodes.specs.declared.opcode.Opcode.{Opcode}
use Rattle.il_opcodes.specs.Opcodes.{opcode_of, class_of, class_or, the_opcodes}
use Rattle.cil_semantics.specs.declared.state.Frame.{Frame}
use Rattle.cil_semantics.specs.declared.state.Item.{Item}
use Rattle.cil_semantics.specs.declared.state.Local.{Local}
use Rattle.cil_semantics.specs.declared.state.World.{World}
use Rattle.cil_semantics.specs.Checks.{AddedNumbers}
use Rattle.cil_semantics.specs.Lookups.{method_of}
use Rattle.cil_semantics.specs.State.{State, Next, Running, Ended, with_stack, with_objects, unrecorded, goes_after}
use Rattle.cil_semantics.specs.Tokens.{Here, meaning_here, meaning_of, operand_meaning, token_here, meaning_under, meaning_in, if_little, constrained_here}
use Rattle.cil_semantics.specs.Acts.{Act, Stuck, CallMember, CallVirtual, NewObject, LoadVirtualFunction, taken, arity, with_this, method_in, on_top, branch}
use Rattle.cil_semantics.specs.Instructions.{act_of_class, act, throw_value, leave_to}
use Rattle.cil_semantics.specs.Unwind.{body_of, here_of, place_in, moved_to, unwind, innermost}
use Rattle.cil_semantics.specs.Returns.{result_type}
use Rattle.cil_semantics.specs.Frames.{if_there, initializer}
use Rattle.cil_semantics.specs.Machine.{perform, run_plain, step_at, step_frames, step}
use Rattle.il_flow.specs.declared.effect.Effect.{Effect}
use Rattle.il_flow.specs.Counts.{counts, counts_agree, row_agrees, same_count, Leaves, TakesAndLeaves}
use Rattle.il_flow.specs.Effects.{effect_of, effect_in, effect_by, member, method_meant, plain, count_arguments, count_results, height_after}
use Rattle.il_flow.specs.Heights.{cant_go}
use Rattle.il_flow.specs.Successors.{successors, targets, goes_on, class_goes_on}
use Rattle.il_flow.proofs.NoMapLaws.{In, contains}
use Rattle.il_flow.proofs.ActLaws.{act_leaves}
use Rattle.il_flow.proofs.CountLaws.{table_agrees}
use Rattle.flow_laws.specs.Shapes.{HeightsOf, count_of, Over, HasHeight, Stands, Lie, TopStands, InShape, NextInShape}
use Rattle.flow_laws.specs.Measured.{Measured, IsPlain, CallsAsSaid, HasEnough, count_given}
use Rattle.flow_laws.proofs.LandLaws.{moved, arrives, goes_next, unwinds, raises, leaves, resumes}
use Rattle.flow_laws.proofs.WriteLaws.{loads, stores, copies}
use Rattle.flow_laws.proofs.CallLaws.{uses_behind, frame_returns}
use Rattle.flow_laws.proofs.MemberLaws.{calls_member, calls_virtual, finds_virtual, makes}
use Rattle.flow_laws.proofs.FormLaws.{Passes, is_apart, passes}

-- ---- the table

found_passes : (test : Opcode → Bool) (good : Opcode → Bool) (os : List Opcode) (o : Opcode) → list_all good os ≡ true → find test os ≡ Some o → good o ≡ true
found_passes test good [] o a e = absurd cc
found_passes test good (x ∷ os) o a e = go (λ b f. found_passes test good os o b f) (test x) e
  where
    same : Some x ≡ Some o → good x ≡ true → good o ≡ true
    same f t = cc

    go : (list_all good os ≡ true → find test os ≡ Some o → good o ≡ true) → (b : Bool) → (if b then Some x else find test os) ≡ Some o → good o ≡ true
    go rest true f = same f (and_both (good x) (list_all good os) a).0
    go rest false f = rest (and_both (good x) (list_all good os) a).1 f

row_of : (op : ℕ) (o : Opcode) → opcode_of op ≡ Some o → row_agrees o ≡ true
unfolding opcode_of
row_of op o e = found_passes (λ x. x.code == op) row_agrees the_opcodes o table_agrees e

told : (x : Option ℕ) (n : ℕ) → same_count x n ≡ true → unwrap_or x 0 ≡ n
told None n e = absurd cc
told (Some k) n e = eqb-true k n e

goes_same : (x : Option Opcode) → goes_on x ≡ class_goes_on (class_or x)
goes_same None = refl
goes_same (Some o) = refl

-- ---- effects by classes

straight_effect : (own called : MethodDesc) (o : Opcode) (c : Class) → is_apart c ≡ false → effect_by own called o c ≡ plain (unwrap_or o.pops 0) (unwrap_or o.pushes 0)
straight_effect own called o class.Call a = absurd cc
straight_effect own called o class.CallVirtual a = absurd cc
straight_effect own called o class.NewObject a = absurd cc
straight_effect own called o class.Return a = absurd cc
straight_effect own called o class.Leave a = absurd cc
straight_effect own called o _ a = refl

table_effect : (own called : MethodDesc) (op : ℕ) (c : ℕ × ℕ) → ((o : Opcode) → effect_by own called o (class_of op) ≡ plain (unwrap_or o.pops 0) (unwrap_or o.pushes 0)) → counts (class_of op) ≡ Some c → effect_in own called (opcode_of op) ≡ plain c.0 c.1
unfolding class_of
table_effect own called op c f e = go (opcode_of op) refl f e
  where
    go : (x : Option Opcode) → opcode_of op ≡ x → ((o : Opcode) → effect_by own called o (class_or x) ≡ plain (unwrap_or o.pops 0) (unwrap_or o.pushes 0)) → counts (class_or x) ≡ Some c → effect_in own called x ≡ plain c.0 c.1
    go None s f e = absurd cc
    go (Some o) s f e =
        let agrees = sym (ap (counts_agree o) e) ∙ row_of op o s in
        let both = and_both (same_count o.pops c.0) (same_count o.pushes c.1) agrees in
        f o ∙ ap (λ n. plain n (unwrap_or o.pushes 0)) (told o.pops c.0 both.0) ∙ ap (plain c.0) (told o.pushes c.1 both.1)

call_effect : (own called : MethodDesc) (x : Option Opcode) → class_or x ≡ class.Call → effect_in own called x ≡ plain (count_arguments called) (count_results called)
call_effect own called None e = absurd cc
call_effect own called (Some o) e = ap (effect_by own called o) e

virtual_effect : (own called : MethodDesc) (x : Option Opcode) → class_or x ≡ class.CallVirtual → effect_in own called x ≡ plain (count_arguments called) (count_results called)
virtual_effect own called None e = absurd cc
virtual_effect own called (Some o) e = ap (effect_by own called o) e

new_effect : (own called : MethodDesc) (x : Option Opcode) → class_or x ≡ class.NewObject → effect_in own called x ≡ plain (length called.params) 1
new_effect own called None e = absurd cc
new_effect own called (Some o) e = ap (effect_by own called o) e

leave_empties : (own called : MethodDesc) (x : Option Opcode) (h : ℕ) → class_or x ≡ class.Leave → height_after (effect_in own called x) h ≡ 0
leave_empties own called None h e = absurd cc
leave_empties own called (Some o) h e = ap (λ c. height_after (effect_by own called o c) h) e

-- ---- what a call names

meant_in : (u : Option Under) (a b : List Ty) (x : Meaning) (owner : Ty) (m : ℕ) (args : List Ty) → meaning_under a b (meaning_in u x) ≡ OfMethod owner m args → (o : Ty) × (l : List Ty) × (x ≡ OfMethod o m l)
meant_in None a b (OfType t) owner m args e = absurd cc
meant_in None a b (OfField o f) owner m args e = absurd cc
meant_in None a b (OfMethod o j l) owner m args e = (o, l, ap (λ n. OfMethod o n l) (ap number e))
  where
    number : Meaning → ℕ
    number (OfMethod o j l) = j
    number _ = 0
meant_in None a b (OfText units) owner m args e = absurd cc
meant_in None a b (OfLocals ts) owner m args e = absurd cc
meant_in (Some u) a b (OfType t) owner m args e = absurd cc
meant_in (Some u) a b (OfField o f) owner m args e = absurd cc
meant_in (Some u) a b (OfMethod o j l) owner m args e = (o, l, ap (λ n. OfMethod o n l) (ap number e))
  where
    number : Meaning → ℕ
    number (OfMethod o j l) = j
    number _ = 0
meant_in (Some u) a b (OfText units) owner m args e = absurd cc
meant_in (Some u) a b (OfLocals ts) owner m args e = absurd cc

names : (p : Program) (here : Here) (u : Option Under) (x : Operand) (owner : Ty) (m : ℕ) (args : List Ty) → operand_meaning p here u x ≡ Some (OfMethod owner m args) → member p x ≡ method_of p m
unfolding token_here
names p here u (operand.Tok assembly token) owner m args e = go (meaning_of p assembly token) e
  where
    little : (x : Meaning) (b : Bool) → (if b then Some x else None) ≡ Some (OfMethod owner m args) → x ≡ OfMethod owner m args
    little x true f = some_same f
      where
        some_same : {y z : Meaning} → Some y ≡ Some z → y ≡ z
        some_same g = cc
    little x false f = absurd cc

    go : (o : Option Meaning) → option_and_then (λ x. if_little (meaning_under here.type_args here.method_args (meaning_in u x))) o ≡ Some (OfMethod owner m args) → method_meant p o ≡ method_of p m
    go None f = absurd cc
    go (Some x) f = let r = meant_in u here.type_args here.method_args x owner m args (little _ _ f) in ap (λ y. method_meant p (Some y)) r.2
names p here u _ owner m args e = absurd cc

this_counts : (p : Program) (m : ℕ) → with_this p m ≡ count_arguments (method_of p m)
this_counts p m = go (method_of p m).is_static
  where
    go : (b : Bool) → (if b then arity p m else suc (arity p m)) ≡ (if b then arity p m else arity p m + 1)
    go true = refl
    go false = omega arith

-- ---- places

valid_at : (a n : ℕ) (is : List Instr) (q : ℕ) (i : Instr) → AllValid a n is → slice_get is q ≡ Some i → IsValidInstr a n i
valid_at a n [] q i v e = absurd cc
valid_at a n (x ∷ is) zero i v e = subst (IsValidInstr a n) (same e) v.0
  where
    same : Some x ≡ Some i → x ≡ i
    same f = cc
valid_at a n (x ∷ is) (suc q) i v e = valid_at a n is q i v.1 e

below : (n t : ℕ) (ts : List ℕ) → AllBelow n ts → In t ts → t < n
below n t [] v m = absurd m
below n t (x ∷ ts) v (inl e) = omega (arith, v.0, e)
below n t (x ∷ ts) v (inr m) = below n t ts v.1 m

target_below : (a n t : ℕ) (x : Operand) → IsValidOperand a n x → In t (targets x) → t < n
target_below a n t (operand.Target k) v (inl e) = omega (arith, v, e)
target_below a n t (operand.Target k) v (inr m) = absurd m
target_below a n t (operand.Targets ts) v m = below n t ts v m
target_below a n t _ v m = absurd m

in_targets : (b : Bool) (q t : ℕ) (ts : List ℕ) → In t ts → In t (if b then (q + 1) ∷ ts else ts)
in_targets true q t ts m = inr m
in_targets false q t ts m = m

in_next : (b : Bool) (q : ℕ) (ts : List ℕ) → b ≡ true → In (q + 1) (if b then (q + 1) ∷ ts else ts)
in_next true q ts e = inl refl
in_next false q ts e = absurd cc

none_stuck : (p : Program) (here : Here) (i : Instr) (w : World) (l : Local) (c : Class) → is_apart c ≡ false → counts c ≡ None → act_of_class p here i w l c ≡ Stuck
unfolding act_of_class
none_stuck p here i w l class.Unsupported a e = refl
none_stuck p here i w l c a e = absurd cc

straight_goes : (c : Class) → is_apart c ≡ false → class_goes_on c ≡ true
straight_goes class.Jump a = absurd cc
straight_goes class.Return a = absurd cc
straight_goes class.Throw a = absurd cc
straight_goes class.Rethrow a = absurd cc
straight_goes class.Leave a = absurd cc
straight_goes class.EndFinally a = absurd cc
straight_goes _ a = refl

not_less : (h t : ℕ) (y : Bool) → (nat_lt h t || y) ≡ false → t ≤ h
not_less h t y e = go (nat_lt h t) refl e
  where
    go : (b : Bool) → nat_lt h t ≡ b → (b || y) ≡ false → t ≤ h
    go true f c = absurd cc
    go false f c = grind (arith, nat_tests)

-- ---- one instruction

module _ (p : Program) (k : Contracts) (g : AddedNumbers) (height : HeightsOf) (plain' : IsPlain p k) (ok : Measured p height) where
  module _ (f : Frame) (fs : List Frame) (w : World) (i : Instr) (stands : Stands p height f) (lie : Lie p height (f ∷ fs)) (at : slice_get (body_of p f.method).instrs (place_in f.at) ≡ Some i) where
    within : place_in f.at < length (body_of p f.method).instrs
    within = slice_get_within (body_of p f.method).instrs (place_in f.at) i at

    same : height f.method (place_in f.at) ≡ Some (length f.local.stack)
    same = stands.same within

    can_go : cant_go (body_of p f.method).max_stack (effect_of p (method_of p f.method) i) (length f.local.stack) ≡ false
    can_go = (ok.heights f.method).can_go (place_in f.at) (length f.local.stack) i same at

    enough : (effect_of p (method_of p f.method) i).takes ≤ length f.local.stack
    enough = not_less (length f.local.stack) (effect_of p (method_of p f.method) i).takes _ can_go

    abbrev after : ℕ
    after = height_after (effect_of p (method_of p f.method) i) (length f.local.stack)

    next : class_goes_on (class_of i.op) ≡ true → HasHeight p height f.method (place_in f.at + 1) after
    unfolding class_of
    next e =
        record {
          within = omega (arith, within);
          same = λ b. (ok.heights f.method).goes (place_in f.at) (length f.local.stack) (place_in f.at + 1) i same at (contains (place_in f.at + 1) (successors (place_in f.at) i) (in_next (goes_on (opcode_of i.op)) (place_in f.at) (targets i.operand) (goes_same (opcode_of i.op) ∙ e))) b;
        }

    target : (t : ℕ) → In t (targets i.operand) → HasHeight p height f.method t after
    target t m =
        let v = ok.valid f.method in
        let inside = target_below v.0 (length (body_of p f.method).instrs) t i.operand (valid_at v.0 (length (body_of p f.method).instrs) (body_of p f.method).instrs (place_in f.at) i v.1.instrs at).operand m in
        record {
          within = omega (arith, inside);
          same = λ b. (ok.heights f.method).goes (place_in f.at) (length f.local.stack) t i same at (contains t (successors (place_in f.at) i) (in_targets (goes_on (opcode_of i.op)) (place_in f.at) t (targets i.operand) m)) b;
        }

    abbrev Goes : Act → Type 0
    Goes a = Leaves after a → NextInShape p height (perform p k g a f fs w)

    to_height : (m q : ℕ) (x y : ℕ) → x ≡ y → HasHeight p height m q x → HasHeight p height m q y
    to_height m q x y e h = subst (HasHeight p height m q) e h

    all_pass : class_goes_on (class_of i.op) ≡ true → Passes (length f.local.args) i.operand Goes
    all_pass goes =
        record {
          stuck = λ e. tt;
          raised = λ name e. raises p k height plain' ok name (f ∷ fs) w lie;
          on = λ made l args e. goes_next p k height plain' ok f l fs (with_objects p made w) (to_height f.method (place_in f.at + 1) after (length l.stack) (sym e) (next goes)) lie.0 (over args) lie.2;
          jump = λ t l m args e. arrives p k height plain' ok f (moved_to t f.at) l f.handling fs w (subst (λ q. HasHeight p height f.method q (length l.stack)) (sym (moved t f.at)) (to_height f.method t after (length l.stack) (sym e) (target t m))) lie.0 (over args) lie.2;
          load = λ q h l args e. loads p k height plain' ok q h f l fs w (to_height f.method (place_in f.at + 1) after (length l.stack + 1) (sym e) (next goes), lie.0, over args, lie.2);
          store = λ q v l args e. stores p k height plain' ok q v f l fs w (to_height f.method (place_in f.at + 1) after (length l.stack) (sym e) (next goes), lie.0, over args, lie.2);
          copy = λ to from h l args e. copies p k height plain' ok to from h f l fs w (to_height f.method (place_in f.at + 1) after (length l.stack) (sym e) (next goes), lie.0, over args, lie.2);
          uses = λ t a l args e. uses_behind p k height plain' ok (initializer p w t) t a f l fs w (to_height f.method (place_in f.at + 1) after _ (sym e) (next goes)) lie.0 (over args) lie.2;
        }
      where
        over : {n : ℕ} → n ≡ length f.local.args → Over p height f.continuation (count_of p (result_type p f)) n fs
        over e = subst (λ n. Over p height f.continuation (count_of p (result_type p f)) n fs) (sym e) lie.1

    leaves_after : (c : ℕ × ℕ) (a : Act) → effect_of p (method_of p f.method) i ≡ plain c.0 c.1 → TakesAndLeaves (Some c) f.local a → Leaves after a
    leaves_after c a e law =
        let takes : c.0 ≤ length f.local.stack = subst (λ (x : Effect). x.takes ≤ length f.local.stack) e enough in
        let behind : after ≡ length f.local.stack - c.0 + c.1 = ap (λ (x : Effect). height_after x (length f.local.stack)) e in
        subst (λ n. Leaves n a) (sym behind) (law (length f.local.stack - c.0) (omega (arith, takes)))

    goes_straight : is_apart (class_of i.op) ≡ false → NextInShape p height (perform p k g (act_of_class p (here_of f fs) i w f.local (class_of i.op)) f fs w)
    goes_straight apart = by_counts (counts (class_of i.op)) refl
      where
        passed : Goes (act_of_class p (here_of f fs) i w f.local (class_of i.op))
        passed = passes p (here_of f fs) i w f.local (length f.local.args) Goes (all_pass (straight_goes (class_of i.op) apart)) (class_of i.op) apart refl

        by_counts : (x : Option (ℕ × ℕ)) → counts (class_of i.op) ≡ x → NextInShape p height (perform p k g (act_of_class p (here_of f fs) i w f.local (class_of i.op)) f fs w)
        by_counts None e = subst (λ a. NextInShape p height (perform p k g a f fs w)) (sym (none_stuck p (here_of f fs) i w f.local (class_of i.op) apart e)) tt
        by_counts (Some c) e =
            passed (leaves_after c _ (table_effect (method_of p f.method) (member p i.operand) i.op c (λ o. straight_effect (method_of p f.method) (member p i.operand) o (class_of i.op) apart) e)
            (subst (λ x. TakesAndLeaves x f.local (act_of_class p (here_of f fs) i w f.local (class_of i.op))) e (act_leaves p (here_of f fs) i w f.local (class_of i.op))))

    -- ---- calls

    abbrev F : Local → Frame
    F l = record f { local = l }

    calls : (n results : ℕ) (l : Local) → class_goes_on (class_of i.op) ≡ true → effect_of p (method_of p f.method) i ≡ plain n results → l ≡ with_stack f.local (drop n f.local.stack) → HasHeight p height f.method (place_in f.at + 1) (length l.stack + results)
    calls n results l goes e is =
        to_height f.method (place_in f.at + 1) after (length l.stack + results)
        (ap (λ (x : Effect). height_after x (length f.local.stack)) e ∙ ap (λ c. c + results) (sym (ap (λ (x : Local). length x.stack) is ∙ length-drop n f.local.stack)))
        (next goes)

    goes_for : (c : Class) → class_of i.op ≡ c → class_goes_on c ≡ true → class_goes_on (class_of i.op) ≡ true
    goes_for c e t = ap class_goes_on e ∙ t

    named_effect : (owner : Ty) (m : ℕ) (args : List Ty) → meaning_here p (here_of f fs) i ≡ Some (OfMethod owner m args) → member p i.operand ≡ method_of p m
    named_effect owner m args e = names p (here_of f fs) i.under i.operand owner m args e

    abbrev Said : Type 0
    Said = (owner : Ty) (m : ℕ) (args : List Ty) → meaning_here p (here_of f fs) i ≡ Some (OfMethod owner m args) → count_given p owner m args ≡ count_results (method_of p m)

    if_taken : (b : Bool) (a : Act) → NextInShape p height (perform p k g a f fs w) → NextInShape p height (perform p k g (if b then a else Stuck) f fs w)
    if_taken true a h = h
    if_taken false a h = tt

    waits_for : Said → (c : Class) → class_of i.op ≡ c → class_goes_on c ≡ true → ((own called : MethodDesc) (x : Option Opcode) → class_or x ≡ c → effect_in own called x ≡ plain (count_arguments called) (count_results called)) → (owner : Ty) (m : ℕ) (args : List Ty) → meaning_here p (here_of f fs) i ≡ Some (OfMethod owner m args)
        → HasHeight p height f.method (place_in f.at + 1) (length (drop (with_this p m) f.local.stack) + count_given p owner m args)
    unfolding class_of
    waits_for said c e t law owner m args is =
        let own : MethodDesc = method_of p f.method in
        let d = named_effect owner m args is in
        let eff : effect_of p own i ≡ plain (with_this p m) (count_given p owner m args) =
        law own (member p i.operand) (opcode_of i.op) e ∙ ap (λ (x : MethodDesc). plain (count_arguments x) (count_results x)) d
        ∙ ap (λ n. plain n (count_results (method_of p m))) (sym (this_counts p m)) ∙ ap (plain (with_this p m)) (sym (said owner m args is)) in
        calls (with_this p m) (count_given p owner m args) (with_stack f.local (drop (with_this p m) f.local.stack)) (goes_for c e t) eff refl

    goes_called : Said → class_of i.op ≡ class.Call → NextInShape p height (perform p k g (act_of_class p (here_of f fs) i w f.local class.Call) f fs w)
    unfolding act_of_class
    goes_called said e = go (meaning_here p (here_of f fs) i) refl
      where
        go : (x : Option Meaning) → meaning_here p (here_of f fs) i ≡ x → NextInShape p height (perform p k g (taken p i (here_of f fs) (with_this p (method_in x)) x f.local CallMember) f fs w)
        go (Some (OfMethod owner m args)) is = if_taken (nat_le (with_this p m) (length f.local.stack)) _ (calls_member p k height plain' ok owner m args _ (F (with_stack f.local (drop (with_this p m) f.local.stack)) ∷ fs) w (waits_for said class.Call e refl call_effect owner m args is, lie))
        go None is = tt
        go (Some (OfType t)) is = tt
        go (Some (OfField o n)) is = tt
        go (Some (OfText units)) is = tt
        go (Some (OfLocals ts)) is = tt

    goes_virtual : Said → class_of i.op ≡ class.CallVirtual → NextInShape p height (perform p k g (act_of_class p (here_of f fs) i w f.local class.CallVirtual) f fs w)
    unfolding act_of_class
    goes_virtual said e = go (meaning_here p (here_of f fs) i) refl
      where
        go : (x : Option Meaning) → meaning_here p (here_of f fs) i ≡ x → NextInShape p height (perform p k g (taken p i (here_of f fs) (with_this p (method_in x)) x f.local CallVirtual) f fs w)
        go (Some (OfMethod owner m args)) is = if_taken (nat_le (with_this p m) (length f.local.stack)) _ (calls_virtual p k height plain' ok (record { owner = owner; method = m; method_args = args; values = reverse (take (with_this p m) f.local.stack); constrained = constrained_here p (here_of f fs) i }) (F (with_stack f.local (drop (with_this p m) f.local.stack)) ∷ fs) w (waits_for said class.CallVirtual e refl virtual_effect owner m args is, lie))
        go None is = tt
        go (Some (OfType t)) is = tt
        go (Some (OfField o n)) is = tt
        go (Some (OfText units)) is = tt
        go (Some (OfLocals ts)) is = tt

    goes_new : class_of i.op ≡ class.NewObject → NextInShape p height (perform p k g (act_of_class p (here_of f fs) i w f.local class.NewObject) f fs w)
    unfolding act_of_class class_of
    goes_new e = go (meaning_here p (here_of f fs) i) refl
      where
        go : (x : Option Meaning) → meaning_here p (here_of f fs) i ≡ x → NextInShape p height (perform p k g (taken p i (here_of f fs) (arity p (method_in x)) x f.local NewObject) f fs w)
        go (Some (OfMethod owner m args)) is =
            if_taken (nat_le (arity p m) (length f.local.stack)) _
            (makes p k height plain' ok owner m _ (F (with_stack f.local (drop (arity p m) f.local.stack)) ∷ fs) w
            (calls (arity p m) 1 (with_stack f.local (drop (arity p m) f.local.stack)) (goes_for class.NewObject e refl) (new_effect (method_of p f.method) (member p i.operand) (opcode_of i.op) e ∙ ap (λ (x : MethodDesc). plain (length x.params) 1) (named_effect owner m args is)) refl, lie))
        go None is = tt
        go (Some (OfType t)) is = tt
        go (Some (OfField o n)) is = tt
        go (Some (OfText units)) is = tt
        go (Some (OfLocals ts)) is = tt

    goes_found : class_of i.op ≡ class.LoadVirtualFunction → NextInShape p height (perform p k g (act_of_class p (here_of f fs) i w f.local class.LoadVirtualFunction) f fs w)
    unfolding act_of_class
    goes_found e = go (meaning_here p (here_of f fs) i)
      where
        eff : effect_of p (method_of p f.method) i ≡ plain 1 1
        eff = table_effect (method_of p f.method) (member p i.operand) i.op (1, 1) (λ o. ap (effect_by (method_of p f.method) (member p i.operand) o) e) (ap counts e)

        go : (x : Option Meaning) → NextInShape p height (perform p k g (taken p i (here_of f fs) 1 x f.local LoadVirtualFunction) f fs w)
        go (Some (OfMethod owner m args)) =
            if_taken (nat_le 1 (length f.local.stack)) _ (finds_virtual p k height plain' ok (record { owner = owner; method = m; method_args = args; values = reverse (take 1 f.local.stack); constrained = constrained_here p (here_of f fs) i }) (reverse (take 1 f.local.stack)) (F (with_stack f.local (drop 1 f.local.stack)) ∷ fs) w (calls 1 1 (with_stack f.local (drop 1 f.local.stack)) (goes_for class.LoadVirtualFunction e refl) eff refl, lie))
        go None = tt
        go (Some (OfType t)) = tt
        go (Some (OfField o n)) = tt
        go (Some (OfText units)) = tt
        go (Some (OfLocals ts)) = tt

    -- ---- what goes elsewhere

    goes_jumped : class_of i.op ≡ class.Jump → NextInShape p height (perform p k g (act_of_class p (here_of f fs) i w f.local class.Jump) f fs w)
    unfolding act_of_class
    goes_jumped e = go i.operand refl
      where
        eff : effect_of p (method_of p f.method) i ≡ plain 0 0
        eff = table_effect (method_of p f.method) (member p i.operand) i.op (0, 0) (λ o. ap (effect_by (method_of p f.method) (member p i.operand) o) e) (ap counts e)

        go : (x : Operand) → i.operand ≡ x → NextInShape p height (perform p k g (branch x true f.local) f fs w)
        go (operand.Target t) is =
            arrives p k height plain' ok f (moved_to t f.at) f.local f.handling fs w
            (subst (λ q. HasHeight p height f.method q (length f.local.stack)) (sym (moved t f.at))
            (to_height f.method t after (length f.local.stack) (ap (λ (x : Effect). height_after x (length f.local.stack)) eff ∙ omega arith) (target t (subst (λ y. In t (targets y)) (sym is) (inl refl))))) lie.0 lie.1 lie.2
        go _ is = tt

    goes_left : class_of i.op ≡ class.Leave → NextInShape p height (perform p k g (act_of_class p (here_of f fs) i w f.local class.Leave) f fs w)
    unfolding act_of_class class_of
    goes_left e = go i.operand refl
      where
        go : (x : Operand) → i.operand ≡ x → NextInShape p height (perform p k g (leave_to x) f fs w)
        go (operand.Target t) is =
            leaves p k height plain' ok 0 (place_in f.at) t f f.handling fs w
            (to_height f.method t after 0 (leave_empties (method_of p f.method) (member p i.operand) (opcode_of i.op) (length f.local.stack) e) (target t (subst (λ y. In t (targets y)) (sym is) (inl refl)))) lie.0 lie.1 lie.2
        go _ is = tt

    goes_thrown : NextInShape p height (perform p k g (act_of_class p (here_of f fs) i w f.local class.Throw) f fs w)
    unfolding act_of_class
    goes_thrown = go f.local.stack
      where
        thrown : (v : Value-F Value) → NextInShape p height (perform p k g (throw_value v) f fs w)
        thrown Value-F.Null = raises p k height plain' ok _ (f ∷ fs) w lie
        thrown (Value-F.Obj x) = unwinds p k height plain' ok false (f ∷ fs) w x lie
        thrown _ = tt

        go : (s : List Value) → NextInShape p height (perform p k g (on_top s (λ v rest. throw_value (out-Value v))) f fs w)
        go [] = tt
        go (v ∷ rest) = thrown (out-Value v)

    goes_rethrown : NextInShape p height (perform p k g (act_of_class p (here_of f fs) i w f.local class.Rethrow) f fs w)
    unfolding act_of_class
    goes_rethrown = go (innermost f.handling)
      where
        go : (o : Option ℕ) → NextInShape p height (if_there o w (λ x. unwind p k false (f ∷ fs) w x))
        go None = tt
        go (Some x) = unwinds p k height plain' ok false (f ∷ fs) w x lie

    goes_ended : NextInShape p height (perform p k g (act_of_class p (here_of f fs) i w f.local class.EndFinally) f fs w)
    unfolding act_of_class
    goes_ended = resumes p k height plain' ok f.handling f fs w lie.0 lie.1 lie.2

    goes_returned : NextInShape p height (perform p k g (act_of_class p (here_of f fs) i w f.local class.Return) f fs w)
    unfolding act_of_class
    goes_returned = frame_returns p k height plain' ok f fs w lie

    goes_apart : Said → (c : Class) → class_of i.op ≡ c → is_apart c ≡ true → NextInShape p height (perform p k g (act_of_class p (here_of f fs) i w f.local c) f fs w)
    goes_apart said class.Call e a = goes_called said e
    goes_apart said class.CallVirtual e a = goes_virtual said e
    goes_apart said class.NewObject e a = goes_new e
    goes_apart said class.LoadVirtualFunction e a = goes_found e
    goes_apart said class.Jump e a = goes_jumped e
    goes_apart said class.Throw e a = goes_thrown
    goes_apart said class.Rethrow e a = goes_rethrown
    goes_apart said class.Leave e a = goes_left e
    goes_apart said class.EndFinally e a = goes_ended
    goes_apart said class.Return e a = goes_returned
    goes_apart said _ e a = absurd cc

    performs : Said → NextInShape p height (perform p k g (act_of_class p (here_of f fs) i w f.local (class_of i.op)) f fs w)
    performs said = go (is_apart (class_of i.op)) refl
      where
        go : (b : Bool) → is_apart (class_of i.op) ≡ b → NextInShape p height (perform p k g (act_of_class p (here_of f fs) i w f.local (class_of i.op)) f fs w)
        go true e = goes_apart said (class_of i.op) refl e
        go false e = goes_straight e

  -- ---- one step

  frames_step : (fs : List Frame) (w : World) → TopStands p height fs → Lie p height fs → CallsAsSaid p fs → NextInShape p height (step_frames p k g fs w)
  unfolding act
  frames_step [] w top lie said = tt
  frames_step (f ∷ fs) w top lie said = subst (λ o. NextInShape p height (step_at p k g o f.at f fs w)) (sym (plain' f.method)) (go (slice_get (body_of p f.method).instrs (place_in f.at)) refl)
    where
      go : (o : Option Instr) → slice_get (body_of p f.method).instrs (place_in f.at) ≡ o → NextInShape p height (if_there o w (λ i. run_plain p k g i f fs w))
      go None e = tt
      go (Some i) e = performs f fs w i top lie e (λ owner m args is. said i owner m args e is)

  goes_on_after : (before : List Item) (x : Next) → NextInShape p height x → NextInShape p height (goes_after before x)
  goes_on_after before (Running s) h = record { top = h.top; lie = h.lie }
  goes_on_after before (Ended o w) h = tt

  pub step_keeps_shape : (s : State) → InShape p height s → CallsAsSaid p s.frames → NextInShape p height (step p k g s)
  unfolding step
  step_keeps_shape s h said = goes_on_after s.world.trace (step_frames p k g s.frames (unrecorded s.world)) (frames_step s.frames (unrecorded s.world) h.top h.lie said)

  pub has_enough : (s : State) → InShape p height s → HasEnough p s.frames
  has_enough s h = go s.frames h.top h.lie
    where
      go : (fs : List Frame) → TopStands p height fs → Lie p height fs → HasEnough p fs
      go [] top lie = tt
      go (f ∷ fs) top lie = λ i at. enough f fs s.world i top lie at
