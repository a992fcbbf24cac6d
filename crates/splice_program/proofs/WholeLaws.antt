-- The whole written program meets the facts.
use Rattle.std.proofs.Common.{◌≡◌, ℕ, zero, suc, ◌<◌, ◌≤◌, Bool, true, false, List, [], Some, None, Option, refl, sym, ap, ◌∙◌, subst, arith}
use Rattle.std.specs.Prelude.{slice_get, nat_lt, find, IsTrue, option_map, if◌then◌else◌, codes, ◌&&◌, ◌==◌, not}
use Rattle.cil_model.specs.declared.ty.Ty.{Ty, out-Ty}
use Rattle.cil_model.specs.declared.body.Body.{Body}
use Rattle.cil_model.specs.declared.body.Instr.{Instr}
use Rattle.cil_model.specs.declared.program.MethodDesc.{MethodDesc}
use Rattle.cil_model.specs.declared.program.TypeDesc.{TypeDesc}
use Rattle.cil_model.specs.declared.contract.ClauseKind.TheVariants as kind
use Rattle.cil_model.specs.declared.contract.Group.{Group}
use Rattle.cil_semantics.specs.Calls.{core_of}
use Rattle.cil_semantics.specs.Contracted.{Piece, Plan, effective_of, plan_of, plan_for, is_visible}
use Rattle.cil_semantics.specs.Core.{object_ty}
use Rattle.cil_semantics.specs.Dispatch.{is_virtual, is_interface_kind, is_interface_at, is_interface}
use Rattle.cil_semantics.specs.Frames.{initializer, initializer_state, is_initializer, ToRun}
use Rattle.cil_semantics.specs.Lookups.{contract_exception, no_method, in_set, type_of, method_of, is_sub, args_of}
use Rattle.cil_semantics.specs.Tokens.{Here, constrained_here}
use Rattle.cil_semantics.specs.Types.{under}
use Rattle.cil_semantics.specs.Unwind.{body_of, no_body, count_locals, plan_at, piece_at}
use Rattle.cil_semantics.specs.Words.{maybe}
use Rattle.cil_semantics.specs.declared.state.Init.{Init}
use Rattle.cil_semantics.specs.declared.state.Init.TheVariants.{Begun, Failed}
use Rattle.cil_semantics.specs.declared.state.ProgramPoint.{ProgramPoint}
use Rattle.cil_semantics.specs.declared.state.ProgramPoint.TheVariants.{LeadIn, InGroup, Rest}
use Rattle.cil_semantics.specs.declared.state.World.{World}
use Rattle.machine_laws.specs.Answers.{is_below}
use Rattle.machine_rows.specs.Everything.{everything}
use Rattle.splice_facts.specs.Bodies.{ButBody, SameMethods}
use Rattle.splice_facts.specs.Input.{InputFacts, StackHeights}
use Rattle.splice_facts.specs.Layout.{IsHere, fetch}
use Rattle.splice_facts.specs.Related.{Rewritten}
use Rattle.splice_facts.specs.Spliced.{Spliced}
use Rattle.splice_facts.specs.WellFormed.{NoneVoid}
use Rattle.splice_laws.specs.Fails.{NotMade}
use Rattle.splice_rows.specs.OneRequires.{token, a_body, kept_marks}
use Rattle.splice_rows.proofs.BaseLaws.{class_whole, object_whole, bases_whole}
use Rattle.splice_rows.proofs.FoundLaws.{OverridesNothing, each_at, found_below}
use Rattle.splice_rows.proofs.RootLaws.{Rooted, at_root, exception, rooted_from}
use Rattle.same_behaviour.specs.Behaviour.{SameAmong}
use Rattle.same_behaviour.proofs.AmongLaws.{same_among}
use Rattle.splice_program.specs.Facts.{MeetsFacts}
use Rattle.splice_program.specs.Program.{input, contracts, numbers, next_plan, inc_plan, valid_code}
use Rattle.splice_program.specs.Written.{output, written_methods, marks_of}
use Rattle.splice_program.proofs.HeightLaws.{next_stack, inc_stack}
use Rattle.splice_program.proofs.IncLaws.{inc_facts, inc_spliced, inc_tells}
use Rattle.splice_program.proofs.KeptLaws.{Says, Stays, kept_facts, kept_spliced}
use Rattle.splice_program.proofs.NextLaws.{next_facts, next_spliced, tells}
use Rattle.splice_program.proofs.PlaceLaws.{some_is, not_some, Along, along, each_piece, inc_piece}
use Rattle.splice_program.proofs.RuntimeLaws.{depths}
use Rattle.splice_program.proofs.SeamLaws.{small}

-- two methods have contracts
none_behind : (m : ℕ) → effective_of contracts input (suc (suc m)) ≡ None
none_behind m = either (method_of input (suc (suc m))).outside ((method_of input (suc (suc m))).assembly == 0)
  where
    either : (a b : Bool) → (if a then None else if b then slice_get contracts.by_method (suc (suc m)) else None) ≡ None
    either true b = refl
    either false true = refl
    either false false = refl

no_contract : (m : ℕ) → 9 ≤ m → effective_of contracts input m ≡ None
no_contract zero l = absurd (omega (arith, l))
no_contract (suc zero) l = absurd (omega (arith, l))
no_contract (suc (suc m)) l = none_behind m

no_plan : (m : ℕ) → plan_at contracts input (suc (suc m)) ≡ None
unfolding plan_for
no_plan m = ap (option_map (plan_of contracts.settings (is_visible input (suc (suc m))) (count_locals input (suc (suc m)) (body_of input (suc (suc m))).locals))) (none_behind m)

-- ---- methods whose bodies are kept: that of the invariant, and those of the contract library, which have none

abbrev IsKept : ℕ → Type 0
IsKept m = InputFacts input contracts numbers m None × Spliced input contracts output numbers 2 depths m None kept_marks

kept : (m : ℕ) (b : Body) → body_of input m ≡ b → body_of output m ≡ b → b.regions ≡ [] → b.locals ≡ None → Along (λ q i. Stays m i) b.instrs → IsKept m
kept m b before after regions locals stays = (kept_facts m b before after regions locals stays, kept_spliced m b before after regions locals stays)

valid : IsKept 2
unfolding everything
valid =
    kept 2 (a_body valid_code [] None) refl refl refl refl (
      (λ n. tt, record { op = refl; named = (0, token 0 0); operand = refl; meaning = λ h q. refl; constrained = λ h q. refl }),
      (
        (λ n. tt, record { op = refl; named = (0, token 4 1); operand = refl; meaning = λ h q. refl; constrained = λ h q. refl }),
        (
          (λ n. tt, record { op = refl; named = (0, token 10 8); operand = refl; meaning = λ h q. refl; constrained = λ h q. refl }),
          ((λ n. tt, record { op = refl; named = (0, token 0 0); operand = refl; meaning = λ h q. refl; constrained = λ h q. refl }), tt),
        ),
      ),
    )

outside : (m : ℕ) → body_of input m ≡ no_body → body_of output m ≡ no_body → IsKept m
unfolding no_body
outside m before after = kept m no_body before after refl refl tt

abbrev Both : ℕ → Type 0
Both m = InputFacts input contracts numbers m (plan_at contracts input m) × Spliced input contracts output numbers 2 depths m (plan_at contracts input m) (marks_of m)

both : (m : ℕ) → m < 9 → Both m
unfolding everything
both zero l = (next_facts, next_spliced)
both (suc zero) l = (inc_facts, inc_spliced)
both (suc (suc zero)) l = valid
both (suc (suc (suc zero))) l = outside 3 refl refl
both (suc (suc (suc (suc zero)))) l = outside 4 refl refl
both (suc (suc (suc (suc (suc zero))))) l = outside 5 refl refl
both (suc (suc (suc (suc (suc (suc zero)))))) l = outside 6 refl refl
both (suc (suc (suc (suc (suc (suc (suc zero))))))) l = outside 7 refl refl
both (suc (suc (suc (suc (suc (suc (suc (suc zero)))))))) l = outside 8 refl refl
both (suc (suc (suc (suc (suc (suc (suc (suc (suc m))))))))) l = absurd (omega (arith, l))

with_heights : (m : ℕ) (plan : Plan) → m < 9 → plan_at contracts input m ≡ Some plan → StackHeights input contracts numbers m plan
unfolding everything
with_heights zero plan l e = subst (StackHeights input contracts numbers 0) (some_is next_plan plan e) next_stack
with_heights (suc zero) plan l e = subst (StackHeights input contracts numbers 1) (some_is inc_plan plan e) inc_stack
with_heights (suc (suc m)) plan l e = absurd (not_some plan (sym (no_plan m) ∙ e))

-- ---- the tables

alike : (d : MethodDesc) → ButBody d d
alike d = record { assembly = refl; owner = refl; name = refl; params = refl; result = refl; sig = refl; is_static = refl; flags = refl; outside = refl; generics = refl; has_body = refl }

same : SameMethods input written_methods
unfolding everything
same zero = record { assembly = refl; owner = refl; name = refl; params = refl; result = refl; sig = refl; is_static = refl; flags = refl; outside = refl; generics = refl; has_body = refl }
same (suc zero) = record { assembly = refl; owner = refl; name = refl; params = refl; result = refl; sig = refl; is_static = refl; flags = refl; outside = refl; generics = refl; has_body = refl }
same (suc (suc m)) = alike (method_of input (suc (suc m)))

abbrev test : ℕ → Bool
test m = is_initializer (method_of input m) && not (type_of input (method_of input m).owner).reference

no_initializer : (o : Option (ℕ × List Ty)) → IsTrue (maybe true (λ (d : ℕ × List Ty). nat_lt d.0 2) o) → find test (maybe [] (λ (d : ℕ × List Ty). (type_of input d.0).methods) o) ≡ None
unfolding everything
no_initializer None b = refl
no_initializer (Some d) b = by_number d.0 (grind (arith, b))
  where
    by_number : (n : ℕ) → n < 2 → find test (type_of input n).methods ≡ None
    by_number zero l = refl
    by_number (suc zero) l = refl
    by_number (suc (suc n)) l = absurd (omega (arith, l))

never_runs : (s : Option Init) (m : ℕ) → initializer_state s None ≡ ToRun m → ⊥
never_runs None m e = cc e
never_runs (Some Begun) m e = cc e
never_runs (Some (Failed x)) m e = cc e

owned : (t : Ty) (w : World) (m : ℕ) → IsTrue (is_below 2 t) → initializer input w t ≡ ToRun m → m < 9
unfolding initializer
owned t w m b e = absurd (never_runs _ m (sym (ap (initializer_state _) (no_initializer (in_set (out-Ty t)) b)) ∙ e))

abbrev IsClass : TypeDesc → Type 0
IsClass d = (is_interface_kind d.kind ≡ false) × (d.impls ≡ [])

are_classes : (k : ℕ) → IsClass (type_of input k)
unfolding everything
are_classes k = each_at IsClass input.types contract_exception ((refl, refl), ((refl, refl), ((refl, refl), ((refl, refl), ((refl, refl), ((refl, refl), tt)))))) (refl, refl) k

no_virtual : (m : ℕ) → is_virtual (method_of input m) ≡ false
unfolding everything
no_virtual m = each_at (λ (d : MethodDesc). is_virtual d ≡ false) input.methods no_method (refl, (refl, (refl, (refl, (refl, (refl, (refl, (refl, (refl, (refl, (refl, (refl, (refl, (refl, (refl, (refl, tt)))))))))))))))) refl m

no_interface : (t : Ty) → is_interface input t ≡ false
unfolding everything
no_interface t = by_number (in_set (out-Ty t))
  where
    by_number : (o : Option (ℕ × List Ty)) → is_interface_at input t o ≡ false
    by_number None = refl
    by_number (Some d) = (are_classes d.0).0

overrides_nothing : OverridesNothing input
overrides_nothing = record { interfaces = no_interface; rows = λ k. (are_classes k).1; virtual = no_virtual }

first : 0 < 2
first = omega arith

second : 1 < 2
second = omega arith

-- the first nine methods belong to the first two types
members : (m : ℕ) → m < 9 → (method_of input m).owner < 2
unfolding everything
members zero l = first
members (suc zero) l = first
members (suc (suc zero)) l = first
members (suc (suc (suc zero))) l = second
members (suc (suc (suc (suc zero)))) l = second
members (suc (suc (suc (suc (suc zero))))) l = second
members (suc (suc (suc (suc (suc (suc zero)))))) l = second
members (suc (suc (suc (suc (suc (suc (suc zero))))))) l = second
members (suc (suc (suc (suc (suc (suc (suc (suc zero)))))))) l = second
members (suc (suc (suc (suc (suc (suc (suc (suc (suc m))))))))) l = absurd (omega (arith, l))

bases : (k : ℕ) (args : List Ty) → Rooted 13 input (maybe object_ty (under args []) (type_of input k).base)
unfolding everything
bases = each_at (λ (d : TypeDesc). (args : List Ty) → Rooted 13 input (maybe object_ty (under args []) d.base)) input.types contract_exception (at_top, (at_top, (at_top, (λ args. exception 12 input, (at_top, (at_top, tt)))))) (λ args. exception 12 input)
  where
    at_top : (args : List Ty) → Rooted 13 input object_ty
    at_top args = at_root 13 input

no_void : (k : ℕ) (args : List Ty) → NoneVoid input (args_of (maybe object_ty (under args []) (type_of input k).base))
unfolding everything
no_void = each_at (λ (d : TypeDesc). (args : List Ty) → NoneVoid input (args_of (maybe object_ty (under args []) d.base))) input.types contract_exception (at_top, (at_top, (at_top, (λ args. class_whole input (codes "System.Exception"), (at_top, (at_top, tt)))))) (λ args. class_whole input (codes "System.Exception"))
  where
    at_top : (args : List Ty) → NoneVoid input (args_of object_ty)
    at_top args = object_whole input

rooted : (t : Ty) → is_sub input t object_ty ≡ true
unfolding is_sub everything
rooted t = rooted_from 9 input bases t

-- ---- what the code names

valid_says : (q : ℕ) (i : Instr) → slice_get valid_code q ≡ Some i → Says i
unfolding everything core_of
valid_says q i e =
    along (λ q1 i1. Says i1) valid_code
    ((λ h. tt, λ h. refl, λ h. tt), ((λ h. (refl, tt), λ h. refl, λ h. tt), ((λ h. (omega arith, refl, tt, tt), λ h. refl, λ h. tt), ((λ h. tt, λ h. refl, λ h. tt), tt)))) q i e

abbrev SaysAll : ℕ → Type 0
SaysAll m = (at : ProgramPoint) (i : Instr) → IsHere (plan_at contracts input m) at → fetch input contracts numbers (plan_at contracts input m) m at ≡ Some i → Says i

kept_says : (m : ℕ) → ((q : ℕ) (i : Instr) → slice_get (body_of input m).instrs q ≡ Some i → Says i) → (at : ProgramPoint) (i : Instr) → IsHere None at → fetch input contracts numbers None m at ≡ Some i → Says i
kept_says m h (LeadIn q) i here e = absurd here
kept_says m h (InGroup gr j q) i here e = absurd here
kept_says m h (Rest q) i here e = h q i e

none_said : (q : ℕ) (i : Instr) → slice_get {X = Instr} [] q ≡ Some i → Says i
none_said q i e = absurd (not_some i e)

says : (m : ℕ) → m < 9 → SaysAll m
unfolding everything
says zero l = λ at i here e. let z = tells at i here e in (z.3, z.4, z.5)
says (suc zero) l = λ at i here e. let z = inc_tells at i here e in (z.3, z.4, z.5)
says (suc (suc zero)) l = kept_says 2 valid_says
says (suc (suc (suc zero))) l = kept_says 3 none_said
says (suc (suc (suc (suc zero)))) l = kept_says 4 none_said
says (suc (suc (suc (suc (suc zero))))) l = kept_says 5 none_said
says (suc (suc (suc (suc (suc (suc zero)))))) l = kept_says 6 none_said
says (suc (suc (suc (suc (suc (suc (suc zero))))))) l = kept_says 7 none_said
says (suc (suc (suc (suc (suc (suc (suc (suc zero)))))))) l = kept_says 8 none_said
says (suc (suc (suc (suc (suc (suc (suc (suc (suc m))))))))) l = absurd (omega (arith, l))

named : (m : ℕ) (at : ProgramPoint) (i : Instr) → m < 9 → IsHere (plan_at contracts input m) at → fetch input contracts numbers (plan_at contracts input m) m at ≡ Some i → Says i
named m at i l here e = says m l at i here e

constrains : (m : ℕ) (at : ProgramPoint) (i : Instr) (h : Here) (t : Ty) → m < 9 → IsHere (plan_at contracts input m) at → fetch input contracts numbers (plan_at contracts input m) m at ≡ Some i → constrained_here input h i ≡ Some t → NoneVoid input (args_of t)
constrains m at i h t l here e c = absurd (not_some t (sym ((named m at i l here e).1 h) ∙ c))

-- no clause is a Requires<E>
none_made : (m : ℕ) (plan : Plan) (gr : Group) (j : ℕ) (x : Piece) → m < 9 → plan_at contracts input m ≡ Some plan → piece_at (Some plan) gr j ≡ Some x → x.clause.kind ≡ kind.RequiresOf → ⊥
unfolding everything
none_made zero plan gr j x l e s kd = subst NotMade kd (each_piece (λ g1 j1 z. NotMade z.clause.kind) ((tt, tt), tt, tt, tt) gr j x (subst (λ y. piece_at (Some y) gr j ≡ Some x) (sym (some_is next_plan plan e)) s))
none_made (suc zero) plan gr j x l e s kd = subst NotMade kd (inc_piece (λ g1 j1 z. NotMade z.clause.kind) tt gr j x (subst (λ y. piece_at (Some y) gr j ≡ Some x) (sym (some_is inc_plan plan e)) s))
none_made (suc (suc m)) plan gr j x l e s kd = absurd (not_some plan (sym (no_plan m) ∙ e))

pub whole : Rewritten input contracts written_methods numbers
unfolding everything
whole =
    record {
      types = 2;
      methods = 9;
      same_methods = same;
      depths = depths;
      marks = marks_of;
      input = λ m l. (both m l).0;
      heights = with_heights;
      bodies = λ m l. (both m l).1;
      appended = no_contract;
      guard = small;
      rooted = rooted;
      names = λ m at i here l me a b h e. (named m at i l h e).0 here;
      constrains = λ m at i here t l me a b h e c. constrains m at i here t l h e c;
      bases = λ t u h e. bases_whole input no_void t u e;
      gives = λ m at i here l me h e c. (named m at i l h e).2 here;
      owned = owned;
      exceptions = λ m plan gr j x here t d l me e s kd ex set. absurd (none_made m plan gr j x l e s kd);
      members = members;
      found = λ t s x l old e. found_below input 2 9 overrides_nothing members t s x l e;
    }

pub meets_facts : MeetsFacts
unfolding everything whole
meets_facts = record { whole = whole; types = refl; methods = refl }

pub same_two : SameAmong 2 9 input contracts numbers output
unfolding whole
same_two = same_among input contracts written_methods numbers whole
