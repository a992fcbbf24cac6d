-- The heights of the body's stack, and the whole written program.
use Rattle.std.proofs.Common.{◌≡◌, ℕ, zero, suc, ◌<◌, ◌≤◌, Bool, true, false, List, [], ◌∷◌, ◌++◌, length, Some, None, Option, refl, sym, ap, ◌∙◌, subst, arith}
use Rattle.std.specs.Prelude.{slice_get, nat_lt, find, IsTrue, pos, option_map, option_and_then, if◌then◌else◌, codes, Contains, ◌&&◌, not}
use Rattle.cil_model.specs.declared.ty.Ty.{Ty, out-Ty, Prim}
use Rattle.cil_model.specs.declared.value.Value.{Value, I4, I8, Native}
use Rattle.cil_model.specs.declared.body.Instr.{Instr}
use Rattle.cil_model.specs.declared.program.MethodDesc.{MethodDesc}
use Rattle.cil_model.specs.declared.program.TypeDesc.{TypeDesc}
use Rattle.cil_model.specs.declared.contract.ClauseKind.{ClauseKind}
use Rattle.cil_model.specs.declared.contract.ClauseKind.TheVariants as kind
use Rattle.cil_model.specs.declared.contract.Group.{Group}
use Rattle.il_opcodes.specs.Opcodes.{class_of}
use Rattle.il_opcodes.specs.declared.class.Class.TheVariants as class
use Rattle.cil_semantics.specs.Words.{maybe}
use Rattle.cil_semantics.specs.ContractCalls.{contract_call}
use Rattle.cil_semantics.specs.declared.contract_call.ContractCall.TheVariants.{ChecksHere}
use Rattle.cil_semantics.specs.declared.state.Cell.{Cell}
use Rattle.cil_semantics.specs.declared.state.Frame.{Frame}
use Rattle.cil_semantics.specs.declared.state.Init.{Init}
use Rattle.cil_semantics.specs.declared.state.Init.TheVariants.{Begun, Failed}
use Rattle.cil_semantics.specs.declared.state.Local.{Local as LocalState}
use Rattle.cil_semantics.specs.declared.state.ProgramPoint.{ProgramPoint}
use Rattle.cil_semantics.specs.declared.state.ProgramPoint.TheVariants.{LeadIn, InGroup, Rest}
use Rattle.cil_semantics.specs.declared.state.World.{World}
use Rattle.cil_semantics.specs.Acts.{if_some, goes_with, on_two, compute, number_act, paired, numeric}
use Rattle.cil_semantics.specs.declared.number.Number.{Number}
use Rattle.cil_semantics.specs.declared.number.Number.TheVariants.{Is, DividesByZero, Overflows}
use Rattle.cil_semantics.specs.declared.number.Pair.{Pair}
use Rattle.cil_semantics.specs.declared.number.Pair.TheVariants.{Both4, Both8, BothNative, NoPair}
use Rattle.cil_semantics.specs.Contracted.{Piece, Plan, effective_of}
use Rattle.cil_semantics.specs.Frames.{Initializer, initializer, initializer_state, is_initializer, ToRun}
use Rattle.cil_semantics.specs.Instructions.{act}
use Rattle.cil_semantics.specs.Dispatch.{is_virtual, is_interface_kind, is_interface_at, is_interface}
use Rattle.cil_semantics.specs.Core.{object_ty}
use Rattle.cil_semantics.specs.Lookups.{contract_exception, no_method, in_set, type_of, method_of, is_sub, args_of}
use Rattle.cil_semantics.specs.Numbers as number
use Rattle.cil_semantics.specs.Places.{Truncated, storage, stored_in}
use Rattle.cil_semantics.specs.Numbers.{B32}
use Rattle.cil_semantics.specs.Returns.{returned, kept_as}
use Rattle.cil_semantics.specs.Tokens.{Here, ref_type, meaning_here, constrained_here}
use Rattle.cil_semantics.specs.Types.{under}
use Rattle.cil_semantics.specs.Unwind.{body_of, place_in, plan_at, piece_at}
use Rattle.machine_rows.specs.Everything.{everything}
use Rattle.cil_semantics.specs.Calls.{core_of}
use Rattle.splice_facts.specs.Bodies.{ButBody, SameMethods}
use Rattle.splice_facts.specs.WellFormed.{NoneVoid}
use Rattle.splice_facts.specs.Input.{InputFacts, StackHeights, LeavesHeight, is_group, top_of, NamesGiving}
use Rattle.splice_facts.specs.Layout.{IsHere, fetch}
use Rattle.splice_facts.specs.Related.{NamesInput, Rewritten, IsOwnClass}
use Rattle.splice_facts.specs.Spliced.{Spliced}
use Rattle.machine_laws.specs.Answers.{is_below}
use Rattle.splice_rows.specs.OneRequires.{contracts, the_plan, input, output, numbers, written_methods, heights_here, marks_of, Meets}
use Rattle.splice_rows.proofs.RootLaws.{Rooted, at_root, exception, rooted_from}
use Rattle.splice_rows.proofs.BaseLaws.{class_whole, object_whole, bases_whole}
use Rattle.splice_rows.proofs.FoundLaws.{OverridesNothing, each_at, found_below}
use Rattle.splice_rows.proofs.OneRequiresCode.{depths, helpers, code, in_entry, never_called}
use Rattle.splice_rows.proofs.OneRequiresLaws.{each, not_check, not_check_too, only, facts, spliced}

-- ---- heights

-- a path leads to each place
abbrev each_height : ProgramPoint → Option ℕ
each_height at = Some (heights_here at)

a_height : (n m : ℕ) → Some n ≡ Some m → n ≡ m
a_height n m e = cc e

-- what an instruction of the rest leaves
abbrev Keeps : ProgramPoint → Instr → Type 0
Keeps at i = (here : Here) (w : World) (l : LocalState) → is_group at ≡ false → length l.stack ≡ heights_here at → LeavesHeight input each_height at (act input here i w l)

in_clause : (X : Type 0) → true ≡ false → X
in_clause X e = absurd (cc e)

pushes : (at : ProgramPoint) (n : ℕ) (l : LocalState) (o : Option Cell) → heights_here (Rattle.cil_semantics.specs.Unwind.next_place at) ≡ suc n → length l.stack ≡ n → LeavesHeight input each_height at (if_some o (λ (c : Cell). goes_with l c.value l.stack))
pushes at n l None h e = tt
pushes at n l (Some c) h e = ap (λ (m : ℕ). Some m) (ap suc e ∙ sym h)

adds : (st : List Value) (l : LocalState) → length st ≡ 2 → LeavesHeight input each_height (Rest 6) (on_two st (λ x y rest. compute number.Add (paired (numeric x) (numeric y)) (record l { stack = rest })))
adds [] l e = tt
adds (y ∷ []) l e = tt
adds (y ∷ x ∷ rest) l e = by_pair (paired (numeric x) (numeric y))
  where
    one : suc (length rest) ≡ 1
    one = let d : suc (suc (length rest)) ≡ 2 = e in omega (arith, d)

    by_number : (back : Rattle.std.specs.Prelude.ℤ → Value) (n : Number Rattle.std.specs.Prelude.ℤ) → LeavesHeight input each_height (Rest 6) (number_act back n (record l { stack = rest }))
    by_number back (Is z) = ap (λ (m : ℕ). Some m) one
    by_number back DividesByZero = tt
    by_number back Overflows = tt

    by_pair : (q : Pair) → LeavesHeight input each_height (Rest 6) (compute number.Add q (record l { stack = rest }))
    by_pair (Both4 a b) = by_number I4 (number.computed number.Add number.size_32 a b)
    by_pair (Both8 a b) = by_number I8 (number.computed number.Add number.size_64 a b)
    by_pair (BothNative a b) = by_number Native (number.computed number.Add number.size_64 a b)
    by_pair NoPair = tt

keeps : (at : ProgramPoint) (i : Instr) → IsHere (Some the_plan) at → fetch input contracts numbers (Some the_plan) 0 at ≡ Some i → Keeps at i
unfolding everything
keeps at i here e =
    each Keeps
    (λ h w l n s. in_clause _ n)
    (λ h w l n s. in_clause _ n)
    (λ h w l n s. in_clause _ n)
    (λ h w l n s. in_clause _ n)
    (λ h w l n s. pushes (Rest 4) 0 l (slice_get l.args 0) refl s)
    (λ h w l n s. ap (λ (m : ℕ). Some (suc m)) s)
    (λ h w l n s. adds l.stack l s)
    (λ h w l n s. tt)
    at i here e

checks : (at : ProgramPoint) (i : Instr) (kd : ClauseKind) → IsHere (Some the_plan) at → is_group at ≡ false → fetch input contracts numbers (Some the_plan) 0 at ≡ Some i → contract_call input i ≡ ChecksHere kd → ⊥
checks (LeadIn q) i kd here n e c = absurd (omega (arith, here))
checks (InGroup gr j q) i kd here n e c = in_clause ⊥ n
checks (Rest q) i kd here n e c = never_called (ChecksHere kd) (not_check kd) (not_check_too kd) q i e c

-- only the last instruction returns
abbrev HasOne : ProgramPoint → Instr → Type 0
HasOne at i = is_group at ≡ false → class_of i.op ≡ class.Return → heights_here at ≡ 1

has_one : (at : ProgramPoint) (i : Instr) → IsHere (Some the_plan) at → fetch input contracts numbers (Some the_plan) 0 at ≡ Some i → HasOne at i
unfolding everything
has_one at i here e =
    each HasOne
    (λ n c. in_clause _ n)
    (λ n c. in_clause _ n)
    (λ n c. in_clause _ n)
    (λ n c. in_clause _ n)
    (λ n c. let z : class.LoadArgument ≡ class.Return = c in absurd (cc z))
    (λ n c. refl)
    (λ n c. let z : class.Binary number.Add ≡ class.Return = c in absurd (cc z))
    (λ n c. refl)
    at i here e

one_value : (f : Frame) (v : Option Value) → f.method ≡ 0 → returned input f f.local.stack ≡ Some v → length (top_of v) ≡ 1
unfolding everything
one_value f v me e = of_method f.method me e
  where
    by_value : (o : Option Value) → option_map Some o ≡ Some v → length (top_of v) ≡ 1
    by_value None q = absurd (cc q)
    by_value (Some x) q = let s : Some x ≡ v = cc q in subst (λ u. length (top_of u) ≡ 1) s refl

    by_stack : (st : List Value) → kept_as input (Prim 0x08) (Truncated B32 true) st ≡ Some v → length (top_of v) ≡ 1
    by_stack [] q = absurd (cc q)
    by_stack (x ∷ st) q = by_value (stored_in input (Prim 0x08) x) q

    of_method : (m : ℕ) → m ≡ 0 → kept_as input (under f.type_args f.method_args (method_of input m).result) (storage input (under f.type_args f.method_args (method_of input m).result)) f.local.stack ≡ Some v → length (top_of v) ≡ 1
    of_method m z q = by_stack f.local.stack (subst (λ a. kept_as input (under f.type_args f.method_args (method_of input a).result) (storage input (under f.type_args f.method_args (method_of input a).result)) f.local.stack ≡ Some v) z q)

pub heights : StackHeights input contracts numbers 0 the_plan
unfolding everything
heights =
    record {
      height = each_height;
      begins = refl;
      entry = λ n e. a_height n 0 e;
      rest = refl;
      keeps = λ at i h w l me here n e s. keeps at i here e h w l n (a_height (length l.stack) (heights_here at) s);
      checks = λ at i kd s rest here n e c len d. absurd (checks at i kd here n e c);
      handlers = λ at r c n here. absurd (omega (arith, c.1));
      returns = λ f i v me named here n e c r s. a_height (length f.local.stack) (heights_here f.at) s ∙ has_one f.at i here e n c ∙ sym (one_value f v me r);
    }

-- ---- the whole program

no_instr : (i : Instr) → None ≡ Some i → ⊥
no_instr i e = cc e

-- Requires is outside the set: it has no body and no contract.
outside_facts : InputFacts input contracts numbers 1 None
unfolding everything
outside_facts =
    record {
      starts = tt;
      jumps = λ at i here e. absurd (nothing_at at i here e);
      names = λ at i here e h q. absurd (nothing_at at i here e);
      lands = λ at q skip fits here h. tt;
      left_lands = λ at q skip t x here n h e. let z : None ≡ Some x = e in absurd (cc z);
      pieces = tt;
    }
  where
    nothing_at : (at : ProgramPoint) (i : Instr) → IsHere None at → fetch input contracts numbers None 1 at ≡ Some i → ⊥
    nothing_at (LeadIn q) i here e = here
    nothing_at (InGroup gr j q) i here e = here
    nothing_at (Rest q) i here e = no_instr i e

outside_spliced : Spliced input contracts output numbers 2 depths 1 None (marks_of 1)
unfolding everything
outside_spliced =
    record {
      locals = λ here e. of_method here e;
      counts = λ here e. of_method_too here e;
      begins = refl;
      copied = λ at i here e pl. absurd (nothing_at at i here e);
      ends = λ at i' here n e. absurd (nothing_there at i' here e);
      goes_on = λ at i here e pl n. absurd (nothing_at at i here e);
      own = λ at here. refl;
      finds = λ at q skip q' fits here n h bel found. absurd found;
      finally = λ at q skip t q' here n h can bel. refl;
      handlers = λ at h q' here n low bel. absurd (omega (arith, low));
      unguarded = λ at q skip q' fits here n g h bel none. refl;
      wrapper = λ f fs fs' w ex ss b q skip q' q0 x hs hs' me s low here g. let z : false ≡ true = g in absurd (cc z);
      groups = tt;
    }
  where
    nothing_at : (at : ProgramPoint) (i : Instr) → IsHere None at → fetch input contracts numbers None 1 at ≡ Some i → ⊥
    nothing_at (LeadIn q) i here e = here
    nothing_at (InGroup gr j q) i here e = here
    nothing_at (Rest q) i here e = no_instr i e

    nothing_there : (at : ProgramPoint) (i : Instr) → IsHere None at → slice_get (body_of output 1).instrs (place_in at) ≡ Some i → ⊥
    nothing_there at i here e = no_instr i e

    of_method : (here : Here) → here.method ≡ 1 → Rattle.cil_semantics.specs.Tokens.local_tys output here (body_of output 1).locals ≡ (Rattle.cil_semantics.specs.Tokens.local_tys input here (body_of input 1).locals ++ Rattle.cil_semantics.specs.Frames.clause_tys input here None) ++ (Rattle.cil_semantics.specs.Frames.captured_tys input here None ++ [])
    of_method here e = refl

    of_method_too : (here : Here) → here.method ≡ 1 → (length (Rattle.cil_semantics.specs.Tokens.local_tys input here (body_of input 1).locals ++ Rattle.cil_semantics.specs.Frames.clause_tys input here None) ≡ 0) × (length (Rattle.cil_semantics.specs.Frames.captured_tys input here None) ≡ 0)
    of_method_too here e = (refl, refl)

abbrev Both : ℕ → Type 0
Both m = InputFacts input contracts numbers m (plan_at contracts input m) × Spliced input contracts output numbers 2 depths m (plan_at contracts input m) (marks_of m)

both : (m : ℕ) → m < 2 → Both m
unfolding everything
both zero l = (facts, spliced)
both (suc zero) l = (outside_facts, outside_spliced)
both (suc (suc m)) l = absurd (omega (arith, l))

with_heights : (m : ℕ) (plan : Plan) → m < 2 → plan_at contracts input m ≡ Some plan → StackHeights input contracts numbers m plan
unfolding everything
with_heights zero plan l e = let s : the_plan ≡ plan = cc e in subst (StackHeights input contracts numbers 0) s heights
with_heights (suc zero) plan l e = let z : None ≡ Some plan = e in absurd (cc z)
with_heights (suc (suc m)) plan l e = absurd (omega (arith, l))

no_contract : (m : ℕ) → 2 ≤ m → effective_of contracts input m ≡ None
no_contract zero l = absurd (omega (arith, l))
no_contract (suc zero) l = absurd (omega (arith, l))
no_contract (suc (suc m)) l = either (method_of input (suc (suc m))).outside (Rattle.std.specs.Prelude.nat_eq (method_of input (suc (suc m))).assembly 0)
  where
    either : (a b : Bool) → (if a then None else if b then slice_get contracts.by_method (suc (suc m)) else None) ≡ None
    either true b = refl
    either false true = refl
    either false false = refl

alike : (d : MethodDesc) → ButBody d d
alike d = record { assembly = refl; owner = refl; name = refl; params = refl; result = refl; sig = refl; is_static = refl; flags = refl; outside = refl; generics = refl; has_body = refl }

same : SameMethods input written_methods
unfolding everything
same zero = record { assembly = refl; owner = refl; name = refl; params = refl; result = refl; sig = refl; is_static = refl; flags = refl; outside = refl; generics = refl; has_body = refl }
same (suc m) = alike (method_of input (suc m))

abbrev test : ℕ → Bool
test m = is_initializer (method_of input m) && not (type_of input (method_of input m).owner).reference

no_initializer : (o : Option (ℕ × List Ty)) → IsTrue (maybe true (λ (d : ℕ × List Ty). nat_lt d.0 2) o) → find test (maybe [] (λ (d : ℕ × List Ty). (type_of input d.0).methods) o) ≡ None
unfolding everything
no_initializer None b = refl
no_initializer (Some d) b = by_number d.0 (grind (arith, b))
  where
    by_number : (n : ℕ) → n < 2 → find test (type_of input n).methods ≡ None
    by_number zero l = refl
    by_number (suc zero) l = refl
    by_number (suc (suc n)) l = absurd (omega (arith, l))

never_runs : (s : Option Init) (m : ℕ) → initializer_state s None ≡ ToRun m → ⊥
never_runs None m e = cc e
never_runs (Some Begun) m e = cc e
never_runs (Some (Failed x)) m e = cc e

owned : (t : Ty) (w : World) (m : ℕ) → IsTrue (is_below 2 t) → initializer input w t ≡ ToRun m → m < 2
unfolding initializer
owned t w m b e = absurd (never_runs _ m (sym (ap (initializer_state _) (no_initializer (in_set (out-Ty t)) b)) ∙ e))

-- ---- no type is an interface or has rows, and no method is virtual

abbrev IsClass : TypeDesc → Type 0
IsClass d = (is_interface_kind d.kind ≡ false) × (d.impls ≡ [])

are_classes : (k : ℕ) → IsClass (type_of input k)
unfolding everything
are_classes k = each_at IsClass input.types contract_exception ((refl, refl), ((refl, refl), ((refl, refl), ((refl, refl), ((refl, refl), ((refl, refl), tt)))))) (refl, refl) k

no_virtual : (m : ℕ) → is_virtual (method_of input m) ≡ false
unfolding everything
no_virtual m = each_at (λ (d : MethodDesc). is_virtual d ≡ false) input.methods no_method (refl, (refl, (refl, (refl, (refl, (refl, (refl, (refl, (refl, tt))))))))) refl m

no_interface : (t : Ty) → is_interface input t ≡ false
unfolding everything
no_interface t = by_number (in_set (out-Ty t))
  where
    by_number : (o : Option (ℕ × List Ty)) → is_interface_at input t o ≡ false
    by_number None = refl
    by_number (Some d) = (are_classes d.0).0

-- no clause is a Requires<E>
no_exceptions : (m : ℕ) (plan : Plan) (gr : Group) (j : ℕ) (x : Piece) (here : Here) (t : Ty) (d : ℕ × List Ty) → m < 2 → here.method ≡ m → plan_at contracts input m ≡ Some plan → piece_at (Some plan) gr j ≡ Some x → x.clause.kind ≡ kind.RequiresOf
    → option_and_then (ref_type input here) x.clause.exception ≡ Some t → in_set (out-Ty t) ≡ Some d → IsOwnClass input 2 2 t × (NoneVoid input here.type_args → NoneVoid input here.method_args → NoneVoid input (args_of t))
unfolding everything
no_exceptions zero plan gr j x here t d l me e s kd ex set =
    let same : the_plan ≡ plan = cc e in
    absurd (in_entry (λ g1 j1 z. z.clause.kind ≡ kind.RequiresOf → ⊥) (λ q. let z : kind.Requires ≡ kind.RequiresOf = q in cc z) gr j x (subst (λ y. piece_at (Some y) gr j ≡ Some x) (sym same) s) kd)
no_exceptions (suc zero) plan gr j x here t d l me e s kd ex set = let z : None ≡ Some plan = e in absurd (cc z)
no_exceptions (suc (suc m)) plan gr j x here t d l me e s kd ex set = absurd (omega (arith, l))

overrides_nothing : OverridesNothing input
overrides_nothing = record { interfaces = no_interface; rows = λ k. (are_classes k).1; virtual = no_virtual }

members : (m : ℕ) → m < 2 → (method_of input m).owner < 2
members zero l = let e : 0 < 2 = omega arith in e
members (suc zero) l = let e : 1 < 2 = omega arith in e
members (suc (suc m)) l = absurd (omega (arith, l))

named : (at : ProgramPoint) (i : Instr) → IsHere (Some the_plan) at → fetch input contracts numbers (Some the_plan) 0 at ≡ Some i → (h : Here) → NamesInput input 2 2 (meaning_here input h i)
unfolding everything
named at i here e =
    each (λ at1 j. (h : Here) → NamesInput input 2 2 (meaning_here input h j)) (λ h. tt) (λ h. tt) (λ h. tt) (λ h. (let l : 1 < 2 = omega arith in l, refl, tt, tt)) (λ h. tt) (λ h. tt) (λ h. tt) (λ h. tt) at i here e

names : (m : ℕ) (at : ProgramPoint) (i : Instr) (here : Here) → m < 2 → here.method ≡ m → NoneVoid input here.type_args → NoneVoid input here.method_args → IsHere (plan_at contracts input m) at → fetch input contracts numbers (plan_at contracts input m) m at ≡ Some i → NamesInput input 2 2 (meaning_here input here i)
unfolding everything
names zero at i here l me a b h e = named at i h e here
names (suc zero) (LeadIn q) i here l me a b h e = absurd h
names (suc zero) (InGroup gr j q) i here l me a b h e = absurd h
names (suc zero) (Rest q) i here l me a b h e = let z : None ≡ Some i = e in absurd (cc z)
names (suc (suc m)) at i here l me a b h e = absurd (omega (arith, l))

unconstrained : (at : ProgramPoint) (i : Instr) → IsHere (Some the_plan) at → fetch input contracts numbers (Some the_plan) 0 at ≡ Some i → (h : Here) → constrained_here input h i ≡ None
unfolding everything
unconstrained at i here e =
    each (λ at1 j. (h : Here) → constrained_here input h j ≡ None) (λ h. refl) (λ h. refl) (λ h. refl) (λ h. refl) (λ h. refl) (λ h. refl) (λ h. refl) (λ h. refl) at i here e

constrains : (m : ℕ) (at : ProgramPoint) (i : Instr) (here : Here) (t : Ty) → m < 2 → here.method ≡ m → NoneVoid input here.type_args → NoneVoid input here.method_args → IsHere (plan_at contracts input m) at → fetch input contracts numbers (plan_at contracts input m) m at ≡ Some i → constrained_here input here i ≡ Some t → NoneVoid input (args_of t)
unfolding everything
constrains zero at i here t l me a b h e q = let z : None ≡ Some t = sym (unconstrained at i h e here) ∙ q in absurd (cc z)
constrains (suc zero) (LeadIn q) i here t l me a b h e r = absurd h
constrains (suc zero) (InGroup gr j q) i here t l me a b h e r = absurd h
constrains (suc zero) (Rest q) i here t l me a b h e r = let z : None ≡ Some i = e in absurd (cc z)
constrains (suc (suc m)) at i here t l me a b h e r = absurd (omega (arith, l))

giving : (at : ProgramPoint) (i : Instr) → IsHere (Some the_plan) at → fetch input contracts numbers (Some the_plan) 0 at ≡ Some i → (h : Here) → NamesGiving input (meaning_here input h i)
unfolding everything core_of
giving at i here e = each (λ at1 j. (h : Here) → NamesGiving input (meaning_here input h j)) (λ h. tt) (λ h. tt) (λ h. tt) (λ h. tt) (λ h. tt) (λ h. tt) (λ h. tt) (λ h. tt) at i here e

gives : (m : ℕ) (at : ProgramPoint) (i : Instr) (here : Here) → m < 2 → here.method ≡ m → IsHere (plan_at contracts input m) at → fetch input contracts numbers (plan_at contracts input m) m at ≡ Some i → NamesGiving input (meaning_here input here i)
unfolding everything
gives zero at i here l me h e = giving at i h e here
gives (suc zero) (LeadIn q) i here l me h e = absurd h
gives (suc zero) (InGroup gr j q) i here l me h e = absurd h
gives (suc zero) (Rest q) i here l me h e = let z : None ≡ Some i = e in absurd (cc z)
gives (suc (suc m)) at i here l me h e = absurd (omega (arith, l))

bases : (k : ℕ) (args : List Ty) → Rooted 13 input (maybe object_ty (under args []) (type_of input k).base)
unfolding everything
bases = each_at (λ (d : TypeDesc). (args : List Ty) → Rooted 13 input (maybe object_ty (under args []) d.base)) input.types contract_exception (at_top, (at_top, (at_top, (at_top, (at_top, (at_top, tt)))))) (λ args. exception 12 input)
  where
    at_top : (args : List Ty) → Rooted 13 input object_ty
    at_top args = at_root 13 input

no_void : (k : ℕ) (args : List Ty) → NoneVoid input (args_of (maybe object_ty (under args []) (type_of input k).base))
unfolding everything
no_void = each_at (λ (d : TypeDesc). (args : List Ty) → NoneVoid input (args_of (maybe object_ty (under args []) d.base))) input.types contract_exception (at_top, (at_top, (at_top, (at_top, (at_top, (at_top, tt)))))) (λ args. class_whole input (codes "System.Exception"))
  where
    at_top : (args : List Ty) → NoneVoid input (args_of object_ty)
    at_top args = object_whole input

rooted : (t : Ty) → is_sub input t object_ty ≡ true
unfolding is_sub everything
rooted t = rooted_from 9 input bases t

pub whole : Rewritten input contracts written_methods numbers
unfolding everything
whole =
    record {
      types = 2;
      methods = 2;
      same_methods = same;
      depths = depths;
      marks = marks_of;
      input = λ m l. (both m l).0;
      heights = with_heights;
      bodies = λ m l. (both m l).1;
      appended = no_contract;
      guard = let e : 4 ≤ 100 = omega arith in e;
      rooted = rooted;
      names = names;
      constrains = constrains;
      bases = λ t u h e. bases_whole input no_void t u e;
      gives = λ m at i here l me h e c. gives m at i here l me h e;
      owned = owned;
      exceptions = no_exceptions;
      members = members;
      found = λ t s x l old e. found_below input 2 2 overrides_nothing members t s x l e;
    }

-- how many types and methods of the input it speaks of
pub whole_types : whole.types ≡ 2
unfolding whole
whole_types = refl

pub whole_methods : whole.methods ≡ 2
unfolding whole
whole_methods = refl

pub meets : Meets
unfolding everything depths
meets = record { plan = refl; depths = depths; helpers = helpers; code = code; only = only; facts = facts; spliced = spliced; heights = heights; whole = whole }
