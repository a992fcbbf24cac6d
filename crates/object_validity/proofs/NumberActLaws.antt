-- Instructions that compute, convert and compare leave references to objects that are there.
use Rattle.std.proofs.Common.{ℕ, Bool, false, List, [], Option, Some, None}
use Rattle.std.specs.Prelude.{option_map, option_and_then, slice_get, not, ℤ}
use Rattle.cil_model.specs.declared.value.Value.{Value, I4, I8, Native}
use Rattle.cil_model.specs.declared.body.Operand.{Operand}
use Rattle.cil_model.specs.declared.body.Operand.TheVariants.{Targets}
use Rattle.cil_model.specs.declared.program.Program.{Program}
use Rattle.cil_semantics.specs.Words.{maybe}
use Rattle.cil_semantics.specs.Numbers as number
use Rattle.cil_semantics.specs.declared.number.Number.{Number}
use Rattle.cil_semantics.specs.declared.number.Number.TheVariants as result
use Rattle.cil_semantics.specs.declared.number.Numeric.{Numeric}
use Rattle.cil_semantics.specs.declared.number.Numeric.TheVariants.{Int4, Int8, IntNative, NoNumber}
use Rattle.cil_semantics.specs.declared.number.Pair.{Pair}
use Rattle.cil_semantics.specs.declared.number.Pair.TheVariants.{Both4, Both8, BothNative, NoPair}
use Rattle.il_opcodes.specs.declared.class.BinaryOp.{BinaryOp}
use Rattle.il_opcodes.specs.declared.class.ShiftOp.{ShiftOp}
use Rattle.il_opcodes.specs.declared.class.UnaryOp.{UnaryOp}
use Rattle.il_opcodes.specs.declared.class.Comparison.{Comparison}
use Rattle.il_opcodes.specs.declared.class.NumberKind.{NumberKind}
use Rattle.il_opcodes.specs.declared.class.NumberKind.TheVariants as kind
use Rattle.cil_semantics.specs.Acts.{Act, GoOn, Jump, on_top, on_two, if_some, goes_with, overflow, numeric, paired, number_act, compute, shift, shift_count, unary, read_number, put_in, convert, convert_checked, compare, flag, is_wanted, branch, switch}
use Rattle.cil_semantics.specs.declared.state.Local.{Local}
use Rattle.object_validity.specs.Known.{KnownValue, KnownValues, KnownLocal, KnownAct}
use Rattle.object_validity.proofs.GrowthLaws.{restacked}
use Rattle.object_validity.proofs.OperandLaws as operand
use Rattle.object_validity.proofs.PlaceActLaws as place
use Rattle.object_validity.proofs.PointerActLaws as pointer

module _ (p : Program) (b : ℕ) (l : Local) (known : KnownLocal b l) where
  abbrev Fine : Act → Type 0
  Fine a = KnownAct b a

  pushes : (v : Value) (s : List Value) → KnownValue b v → KnownValues b s → Fine (goes_with l v s)
  pushes = place.pushes_fine p b l known

  number_fine : (back : ℤ → Value) → ((z : ℤ) → KnownValue b (back z)) → (n : Number ℤ) (s : List Value) → KnownValues b s → Fine (number_act back n (record l { stack = s }))
  number_fine back fb (result.Is z) s h = pushes (back z) s (fb z) h
  number_fine back fb result.DividesByZero s h = tt
  number_fine back fb result.Overflows s h = tt

  compute_fine : (op : BinaryOp) (x : Pair) (s : List Value) → KnownValues b s → Fine (compute op x (record l { stack = s }))
  compute_fine op (Both4 x y) s h = number_fine I4 (λ z. tt) (number.computed op number.size_32 x y) s h
  compute_fine op (Both8 x y) s h = number_fine I8 (λ z. tt) (number.computed op number.size_64 x y) s h
  compute_fine op (BothNative x y) s h = number_fine Native (λ z. tt) (number.computed op number.size_64 x y) s h
  compute_fine op NoPair s h = tt

  pub binary_fine : (op : BinaryOp) (s : List Value) → KnownValues b s → Fine (on_two s (λ x y rest. compute op (paired (numeric x) (numeric y)) (record l { stack = rest })))
  binary_fine op s h = operand.two_fine b s (λ x y rest. compute op (paired (numeric x) (numeric y)) (record l { stack = rest })) h (λ x y rest fx fy fr. compute_fine op (paired (numeric x) (numeric y)) rest fr)

  shift_fine : (s : ShiftOp) (x : Numeric) (c : Option ℕ) (rest : List Value) → KnownValues b rest → Fine (if_some (option_and_then (shift s x) c) (λ v. goes_with l v rest))
  shift_fine s x None rest h = tt
  shift_fine s (Int4 x) (Some c) rest h = pushes (I4 (number.shifted s number.size_32 x c)) rest tt h
  shift_fine s (Int8 x) (Some c) rest h = pushes (I8 (number.shifted s number.size_64 x c)) rest tt h
  shift_fine s (IntNative x) (Some c) rest h = pushes (Native (number.shifted s number.size_64 x c)) rest tt h
  shift_fine s NoNumber (Some c) rest h = tt

  pub shifts_fine : (o : ShiftOp) (s : List Value) → KnownValues b s → Fine (on_two s (λ x c rest. if_some (option_and_then (shift o (numeric x)) (shift_count (numeric c))) (λ v. goes_with l v rest)))
  shifts_fine o s h = operand.two_fine b s (λ x c rest. if_some (option_and_then (shift o (numeric x)) (shift_count (numeric c))) (λ v. goes_with l v rest)) h (λ x c rest fx fc fr. shift_fine o (numeric x) (shift_count (numeric c)) rest fr)

  unary_fine : (u : UnaryOp) (x : Numeric) (rest : List Value) → KnownValues b rest → Fine (if_some (unary u x) (λ v. goes_with l v rest))
  unary_fine u (Int4 x) rest h = pushes (I4 (number.unary_result u number.size_32 x)) rest tt h
  unary_fine u (Int8 x) rest h = pushes (I8 (number.unary_result u number.size_64 x)) rest tt h
  unary_fine u (IntNative x) rest h = pushes (Native (number.unary_result u number.size_64 x)) rest tt h
  unary_fine u NoNumber rest h = tt

  pub unaries_fine : (u : UnaryOp) (s : List Value) → KnownValues b s → Fine (on_top s (λ x rest. if_some (unary u (numeric x)) (λ v. goes_with l v rest)))
  unaries_fine u s h = operand.top_fine b s (λ x rest. if_some (unary u (numeric x)) (λ v. goes_with l v rest)) h (λ x rest fx fr. unary_fine u (numeric x) rest fr)

  put_fine : (t : NumberKind) (z : ℤ) → KnownValue b (put_in t z)
  put_fine (kind.Small n s) z = tt
  put_fine (kind.Wide s) z = tt
  put_fine (kind.Native s) z = tt

  put_if_read : (t : NumberKind) (o : Option ℤ) (rest : List Value) → KnownValues b rest → Fine (if_some (option_map (put_in t) o) (λ v. goes_with l v rest))
  put_if_read t None rest h = tt
  put_if_read t (Some z) rest h = pushes (put_in t z) rest (put_fine t z) h

  convert_fine : (t : NumberKind) (x : Numeric) (rest : List Value) → KnownValues b rest → Fine (if_some (convert t x) (λ v. goes_with l v rest))
  convert_fine (kind.Small n s) x rest h = put_if_read (kind.Small n s) (read_number false x) rest h
  convert_fine (kind.Wide s) x rest h = put_if_read (kind.Wide s) (read_number (not s) x) rest h
  convert_fine (kind.Native s) x rest h = put_if_read (kind.Native s) (read_number (not s) x) rest h

  pub converts_fine : (t : NumberKind) (s : List Value) → KnownValues b s → Fine (on_top s (λ x rest. if_some (convert t (numeric x)) (λ v. goes_with l v rest)))
  converts_fine t s h = operand.top_fine b s (λ x rest. if_some (convert t (numeric x)) (λ v. goes_with l v rest)) h (λ x rest fx fr. convert_fine t (numeric x) rest fr)

  pub checked_fine : (u : Bool) (t : NumberKind) (s : List Value) → KnownValues b s → Fine (on_top s (λ x rest. if_some (read_number u (numeric x)) (λ z. convert_checked t z l rest)))
  checked_fine u t s h =
      operand.top_fine b s (λ x rest. if_some (read_number u (numeric x)) (λ z. convert_checked t z l rest)) h
      (λ x rest fx fr. operand.some_fine b (read_number u (numeric x)) (λ z. convert_checked t z l rest)
      (λ z e. operand.either_fine b (number.lies_in t z) (goes_with l (put_in t z) rest) overflow (pushes (put_in t z) rest (put_fine t z) fr) tt))

  pub compares_fine : (t : Comparison) (s : List Value) → KnownValues b s → Fine (on_two s (λ x y rest. if_some (compare t x y) (λ c. goes_with l (flag c) rest)))
  compares_fine t s h =
      operand.two_fine b s (λ x y rest. if_some (compare t x y) (λ c. goes_with l (flag c) rest)) h
      (λ x y rest fx fy fr. operand.some_fine b (compare t x y) (λ c. goes_with l (flag c) rest) (λ c e. pushes (flag c) rest tt fr))

  pub compared_branches_fine : (t : Comparison) (wanted : Bool) (o : Operand) (s : List Value) → KnownValues b s → Fine (on_two s (λ x y rest. if_some (compare t x y) (λ c. branch o (is_wanted wanted c) (record l { stack = rest }))))
  compared_branches_fine t wanted o s h =
      operand.two_fine b s (λ x y rest. if_some (compare t x y) (λ c. branch o (is_wanted wanted c) (record l { stack = rest }))) h
      (λ x y rest fx fy fr. operand.some_fine b (compare t x y) (λ c. branch o (is_wanted wanted c) (record l { stack = rest })) (λ c e. pointer.branch_fine p b l known o (is_wanted wanted c) rest fr))

  case_fine : (o : Option ℕ) (s : List Value) → KnownValues b s → Fine (maybe (GoOn [] (record l { stack = s })) (λ t. Jump t (record l { stack = s })) o)
  case_fine None s h = restacked b l s known h
  case_fine (Some t) s h = restacked b l s known h

  switch_fine : (o : Operand) (n : Numeric) (s : List Value) → KnownValues b s → Fine (switch o n (record l { stack = s }))
  switch_fine (Targets ts) (Int4 z) s h = case_fine (slice_get ts (number.unsigned number.size_32 z)) s h
  switch_fine (Targets ts) _ s h = tt
  switch_fine _ n s h = tt

  pub switches_fine : (o : Operand) (s : List Value) → KnownValues b s → Fine (on_top s (λ v rest. switch o (numeric v) (record l { stack = rest })))
  switches_fine o s h = operand.top_fine b s (λ v rest. switch o (numeric v) (record l { stack = rest })) h (λ v rest fv fr. switch_fine o (numeric v) rest fr)
