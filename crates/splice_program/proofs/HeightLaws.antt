-- The heights of the stacks of both methods.
use Rattle.std.proofs.Common.{◌≡◌, ℕ, zero, suc, ◌+◌, Bool, true, false, List, [], ◌∷◌, length, Some, None, Option, refl, sym, ap, ◌∙◌, subst, arith}
use Rattle.std.specs.Prelude.{slice_get, ℤ, option_map, nat_le, take, reverse, if◌then◌else◌}
use Rattle.cil_model.specs.declared.ty.Ty.{Prim, Known}
use Rattle.cil_model.specs.declared.value.Value.{Value, I4, I8, Native}
use Rattle.cil_model.specs.declared.body.Instr.{Instr}
use Rattle.cil_model.specs.declared.contract.ClauseKind.{ClauseKind}
use Rattle.cil_semantics.specs.Acts.{CallMember, Stuck, if_some, goes_with, on_two, on_top, compute, number_act, paired, numeric, branch, is_wanted, truth, taken}
use Rattle.cil_semantics.specs.ContractCalls.{contract_call}
use Rattle.cil_semantics.specs.Instructions.{act}
use Rattle.cil_semantics.specs.Lookups.{method_of}
use Rattle.cil_semantics.specs.Numbers as number
use Rattle.cil_semantics.specs.Numbers.{B32}
use Rattle.cil_semantics.specs.Places.{Truncated, storage, stored_in}
use Rattle.cil_semantics.specs.Returns.{returned, kept_as}
use Rattle.cil_semantics.specs.Tokens.{Here, meaning_here}
use Rattle.cil_semantics.specs.Types.{under}
use Rattle.cil_semantics.specs.Unwind.{next_place}
use Rattle.cil_semantics.specs.declared.contract_call.ContractCall.TheVariants.{ChecksHere}
use Rattle.cil_semantics.specs.declared.number.Number.{Number}
use Rattle.cil_semantics.specs.declared.number.Number.TheVariants.{Is, DividesByZero, Overflows}
use Rattle.cil_semantics.specs.declared.number.Pair.{Pair}
use Rattle.cil_semantics.specs.declared.number.Pair.TheVariants.{Both4, Both8, BothNative, NoPair}
use Rattle.cil_semantics.specs.declared.state.Cell.{Cell}
use Rattle.cil_semantics.specs.declared.state.Frame.{Frame}
use Rattle.cil_semantics.specs.declared.state.Local.{Local as LocalState}
use Rattle.cil_semantics.specs.declared.state.ProgramPoint.{ProgramPoint}
use Rattle.cil_semantics.specs.declared.state.ProgramPoint.TheVariants.{LeadIn, InGroup, Rest}
use Rattle.cil_semantics.specs.declared.state.World.{World}
use Rattle.il_opcodes.specs.Opcodes.{class_of}
use Rattle.il_opcodes.specs.declared.class.Class.TheVariants as class
use Rattle.machine_rows.specs.Everything.{everything}
use Rattle.splice_facts.specs.Input.{StackHeights, LeavesHeight, is_group, top_of}
use Rattle.splice_facts.specs.Layout.{IsHere, fetch}
use Rattle.splice_laws.specs.Straight.{call, brtrue}
use Rattle.splice_rows.specs.OneRequires.{token}
use Rattle.splice_program.specs.Program.{input, contracts, numbers, next_plan, inc_plan, next_code, inc_code, nop}
use Rattle.splice_program.specs.Written.{next_heights, inc_heights}
use Rattle.splice_program.proofs.PlaceLaws.{some_is, Past, past}
use Rattle.splice_program.proofs.NextCode.{unchecked, not_here}
use Rattle.splice_program.proofs.IncLaws.{inc_unchecked}

-- a path leads to each place
abbrev each_height : (ProgramPoint → ℕ) → ProgramPoint → Option ℕ
each_height heights at = Some (heights at)

height_is : (n m : ℕ) → Some n ≡ Some m → n ≡ m
height_is n m e = cc e

some : {n m : ℕ} → n ≡ m → Some n ≡ Some m
some e = ap (λ k. Some k) e

-- what an instruction leaves
abbrev Leaves : (ProgramPoint → ℕ) → ProgramPoint → Instr → Type 0
Leaves heights at i = (here : Here) (w : World) (l : LocalState) → length l.stack ≡ heights at → LeavesHeight input (each_height heights) at (act input here i w l)

pushes : (heights : ProgramPoint → ℕ) (at : ProgramPoint) (n : ℕ) (l : LocalState) (o : Option Cell) → heights (next_place at) ≡ suc n → length l.stack ≡ n → LeavesHeight input (each_height heights) at (if_some o (λ (c : Cell). goes_with l c.value l.stack))
pushes heights at n l None h e = tt
pushes heights at n l (Some c) h e = some (ap suc e ∙ sym h)

-- `brtrue` of Next, both of whose ways have nothing on the stack
branches : (st : List Value) (l : LocalState) → length st ≡ 1 → LeavesHeight input (each_height next_heights) (Rest 14) (on_top st (λ v rest. if_some (truth v) (λ b. branch (brtrue 17).operand (is_wanted true b) (record l { stack = rest }))))
branches [] l e = tt
branches (v ∷ rest) l e = by_truth (truth v)
  where
    none : length rest ≡ 0
    none = let d : suc (length rest) ≡ 1 = e in omega (arith, d)

    by_truth : (o : Option Bool) → LeavesHeight input (each_height next_heights) (Rest 14) (if_some o (λ b. branch (brtrue 17).operand (is_wanted true b) (record l { stack = rest })))
    by_truth None = tt
    by_truth (Some true) = some none
    by_truth (Some false) = some none

-- the call of Inc takes one value and leaves another
calls : (here : Here) (st : List Value) (l : LocalState) → l.stack ≡ st → length st ≡ 1 → LeavesHeight input (each_height next_heights) (Rest 18) (taken input (call 0 (token 6 1)) here 1 (meaning_here input here (call 0 (token 6 1))) (record l { stack = st }) CallMember)
unfolding everything
calls here [] l s e = tt
calls here (v ∷ rest) l s e = by_test (nat_le 1 (length (v ∷ rest)))
  where
    none : length rest ≡ 0
    none = let d : suc (length rest) ≡ 1 = e in omega (arith, d)

    by_test : (b : Bool) → LeavesHeight input (each_height next_heights) (Rest 18) (if b then CallMember (record { owner = Known 0; method = 1; method_args = []; values = reverse (take 1 (v ∷ rest)); constrained = None }) (record l { stack = rest }) else Stuck)
    by_test true = some (ap (λ m. m + 1) none)
    by_test false = tt

next_table : Leaves next_heights (LeadIn 0) nop × Past (λ q i. Leaves next_heights (Rest q) i) 13 next_code
unfolding everything
next_table = (
  λ h w l s. some s,
  (
    λ h w l s. pushes next_heights (Rest 13) 0 l (slice_get l.args 1) refl s,
    (
      λ h w l s. branches l.stack l s,
      (
        λ h w l s. some (ap suc s),
        (
          λ h w l s. tt,
          (
            λ h w l s. pushes next_heights (Rest 17) 0 l (slice_get l.args 1) refl s,
            (
              λ h w l s. calls h l.stack l refl s,
              (λ h w l s. tt, tt),
            ),
          ),
        ),
      ),
    ),
  ),
)

next_keeps : (at : ProgramPoint) (i : Instr) → IsHere (Some next_plan) at → is_group at ≡ false → fetch input contracts numbers (Some next_plan) 0 at ≡ Some i → Leaves next_heights at i
unfolding everything
next_keeps (LeadIn zero) i here n e = subst (Leaves next_heights (LeadIn 0)) (some_is nop i e) next_table.0
next_keeps (LeadIn (suc q)) i here n e = absurd (omega (arith, here))
next_keeps (InGroup gr j q) i here n e = absurd (not_here (sym n))
next_keeps (Rest q) i here n e = past (λ q1 i1. Leaves next_heights (Rest q1) i1) 13 next_code next_table.1 q i here e

-- ---- what is returned is one value

abbrev HasOne : (ProgramPoint → ℕ) → ProgramPoint → Instr → Type 0
HasOne heights at i = class_of i.op ≡ class.Return → heights at ≡ 1

next_ones : HasOne next_heights (LeadIn 0) nop × Past (λ q i. HasOne next_heights (Rest q) i) 13 next_code
unfolding everything
next_ones = (
  λ c. absurd (nop_no_return c),
  (λ c. absurd (argument_no_return c), (λ c. refl, (λ c. absurd (int_no_return c), (λ c. refl, (λ c. absurd (argument_no_return c), (λ c. refl, (λ c. refl, tt))))))),
)
  where
    nop_no_return : class.Nop ≡ class.Return → ⊥
    nop_no_return e = cc e

    argument_no_return : class.LoadArgument ≡ class.Return → ⊥
    argument_no_return e = cc e

    int_no_return : class.LoadInt ≡ class.Return → ⊥
    int_no_return e = cc e

next_one : (at : ProgramPoint) (i : Instr) → IsHere (Some next_plan) at → is_group at ≡ false → fetch input contracts numbers (Some next_plan) 0 at ≡ Some i → HasOne next_heights at i
unfolding everything
next_one (LeadIn zero) i here n e = subst (HasOne next_heights (LeadIn 0)) (some_is nop i e) next_ones.0
next_one (LeadIn (suc q)) i here n e = absurd (omega (arith, here))
next_one (InGroup gr j q) i here n e = absurd (not_here (sym n))
next_one (Rest q) i here n e = past (λ q1 i1. HasOne next_heights (Rest q1) i1) 13 next_code next_ones.1 q i here e

int_value : (st : List Value) (v : Option Value) → kept_as input (Prim 0x08) (Truncated B32 true) st ≡ Some v → length (top_of v) ≡ 1
int_value [] v q = absurd (cc q)
int_value (x ∷ st) v q = by_value (stored_in input (Prim 0x08) x) q
  where
    by_value : (o : Option Value) → option_map Some o ≡ Some v → length (top_of v) ≡ 1
    by_value None q = absurd (cc q)
    by_value (Some x) q = subst (λ u. length (top_of u) ≡ 1) (some_is (Some x) v q) refl

abbrev Returns_as : ℕ → Frame → Option Value → Type 0
Returns_as m f v = kept_as input (under f.type_args f.method_args (method_of input m).result) (storage input (under f.type_args f.method_args (method_of input m).result)) f.local.stack ≡ Some v

next_value : (f : Frame) (v : Option Value) → f.method ≡ 0 → returned input f f.local.stack ≡ Some v → length (top_of v) ≡ 1
unfolding everything
next_value f v me e = int_value f.local.stack v (subst (λ m. Returns_as m f v) me e)

inc_value : (f : Frame) (v : Option Value) → f.method ≡ 1 → returned input f f.local.stack ≡ Some v → length (top_of v) ≡ 1
unfolding everything
inc_value f v me e = int_value f.local.stack v (subst (λ m. Returns_as m f v) me e)

next_checks : (at : ProgramPoint) (i : Instr) (kd : ClauseKind) → is_group at ≡ false → fetch input contracts numbers (Some next_plan) 0 at ≡ Some i → contract_call input i ≡ ChecksHere kd → ⊥
next_checks (LeadIn q) i kd n e c = unchecked q i kd e c
next_checks (InGroup gr j q) i kd n e c = absurd (not_here (sym n))
next_checks (Rest q) i kd n e c = unchecked q i kd e c

pub next_stack : StackHeights input contracts numbers 0 next_plan
unfolding everything
next_stack =
    record {
      height = each_height next_heights;
      begins = refl;
      entry = λ n e. height_is n 0 e;
      rest = refl;
      keeps = λ at i h w l me here n e s. next_keeps at i here n e h w l (height_is (length l.stack) (next_heights at) s);
      checks = λ at i kd s rest here n e c len d. absurd (next_checks at i kd n e c);
      handlers = λ at r c n here. absurd (omega (arith, c.1));
      returns = λ f i v me named here n e c r s. height_is (length f.local.stack) (next_heights f.at) s ∙ next_one f.at i here n e c ∙ sym (next_value f v me r);
    }

-- ---- Inc

adds : (st : List Value) (l : LocalState) → length st ≡ 2 → LeavesHeight input (each_height inc_heights) (Rest 6) (on_two st (λ x y rest. compute number.Add (paired (numeric x) (numeric y)) (record l { stack = rest })))
adds [] l e = tt
adds (y ∷ []) l e = tt
adds (y ∷ x ∷ rest) l e = by_pair (paired (numeric x) (numeric y))
  where
    one : suc (length rest) ≡ 1
    one = let d : suc (suc (length rest)) ≡ 2 = e in omega (arith, d)

    by_number : (back : ℤ → Value) (n : Number ℤ) → LeavesHeight input (each_height inc_heights) (Rest 6) (number_act back n (record l { stack = rest }))
    by_number back (Is z) = some one
    by_number back DividesByZero = tt
    by_number back Overflows = tt

    by_pair : (q : Pair) → LeavesHeight input (each_height inc_heights) (Rest 6) (compute number.Add q (record l { stack = rest }))
    by_pair (Both4 a b) = by_number I4 (number.computed number.Add number.size_32 a b)
    by_pair (Both8 a b) = by_number I8 (number.computed number.Add number.size_64 a b)
    by_pair (BothNative a b) = by_number Native (number.computed number.Add number.size_64 a b)
    by_pair NoPair = tt

inc_table : Past (λ q i. Leaves inc_heights (Rest q) i) 4 inc_code
unfolding everything
inc_table = (λ h w l s. pushes inc_heights (Rest 4) 0 l (slice_get l.args 0) refl s, (λ h w l s. some (ap suc s), (λ h w l s. adds l.stack l s, (λ h w l s. tt, tt))))

inc_ones : Past (λ q i. HasOne inc_heights (Rest q) i) 4 inc_code
unfolding everything
inc_ones = (λ c. absurd (argument_no_return c), (λ c. refl, (λ c. absurd (add_no_return c), (λ c. refl, tt))))
  where
    argument_no_return : class.LoadArgument ≡ class.Return → ⊥
    argument_no_return e = cc e

    add_no_return : class.Binary number.Add ≡ class.Return → ⊥
    add_no_return e = cc e

inc_keeps : (at : ProgramPoint) (i : Instr) → IsHere (Some inc_plan) at → is_group at ≡ false → fetch input contracts numbers (Some inc_plan) 1 at ≡ Some i → Leaves inc_heights at i × HasOne inc_heights at i
unfolding everything
inc_keeps (LeadIn q) i here n e = absurd (omega (arith, here))
inc_keeps (InGroup gr j q) i here n e = absurd (not_here (sym n))
inc_keeps (Rest q) i here n e = (past (λ q1 i1. Leaves inc_heights (Rest q1) i1) 4 inc_code inc_table q i here e, past (λ q1 i1. HasOne inc_heights (Rest q1) i1) 4 inc_code inc_ones q i here e)

inc_checks : (at : ProgramPoint) (i : Instr) (kd : ClauseKind) → is_group at ≡ false → fetch input contracts numbers (Some inc_plan) 1 at ≡ Some i → contract_call input i ≡ ChecksHere kd → ⊥
inc_checks (LeadIn q) i kd n e c = inc_unchecked q i kd e c
inc_checks (InGroup gr j q) i kd n e c = absurd (not_here (sym n))
inc_checks (Rest q) i kd n e c = inc_unchecked q i kd e c

pub inc_stack : StackHeights input contracts numbers 1 inc_plan
unfolding everything
inc_stack =
    record {
      height = each_height inc_heights;
      begins = refl;
      entry = λ n e. height_is n 0 e;
      rest = refl;
      keeps = λ at i h w l me here n e s. (inc_keeps at i here n e).0 h w l (height_is (length l.stack) (inc_heights at) s);
      checks = λ at i kd s rest here n e c len d. absurd (inc_checks at i kd n e c);
      handlers = λ at r c n here. absurd (omega (arith, c.1));
      returns = λ f i v me named here n e c r s. height_is (length f.local.stack) (inc_heights f.at) s ∙ (inc_keeps f.at i here n e).1 c ∙ sym (inc_value f v me r);
    }
