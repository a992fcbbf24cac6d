-- One lemma for every instruction that is copied.
use Rattle.std.proofs.Common.{◌≡◌, ℕ, zero, suc, ◌<◌, Bool, true, false, List, [], ◌∷◌, ◌++◌, length, Option, Some, None, refl, ap, ◌∙◌, arith}
use Rattle.std.specs.Prelude.{slice_get, slice_set, option_map, option_and_then, map, ℤ, pos, negsuc, nat_lt, nat_le, if◌then◌else◌, not, ◌&&◌, ◌||◌, codes}
use Rattle.std.proofs.lemmas.Option.{slice_get-map}
use Rattle.std.proofs.lemmas.List.{set-append_left}
use Rattle.cil_base.specs.declared.token.Token.{Token}
use Rattle.cil_model.specs.declared.ty.Ty.{Ty, out-Ty}
use Rattle.cil_model.specs.declared.value.Value.{Value, out-Value, I4, I8, Native, Null, Ptr}
use Rattle.cil_model.specs.declared.value.Value.TheOpen.{Value-F}
use Rattle.cil_model.specs.declared.value.Pointer.{Pointer}
use Rattle.cil_model.specs.declared.value.Pointer.TheVariants.{Local, Inside}
use Rattle.cil_model.specs.declared.body.Instr.{Instr}
use Rattle.cil_model.specs.declared.body.Operand.{Operand}
use Rattle.cil_model.specs.declared.body.Operand.TheVariants.{Int, Index, Target, Targets}
use Rattle.cil_model.specs.declared.program.Program.{Program}
use Rattle.cil_model.specs.declared.program.Meaning.{Meaning}
use Rattle.cil_model.specs.declared.program.Meaning.TheVariants.{OfType, OfField, OfMethod}
use Rattle.cil_semantics.specs.Words.{maybe}
use Rattle.cil_semantics.specs.Numbers as number
use Rattle.cil_semantics.specs.Places as Places
use Rattle.cil_semantics.specs.Acts as Acts
use Rattle.cil_semantics.specs.declared.state.Cell.{Cell}
use Rattle.cil_semantics.specs.Places.{set_cell}
use Rattle.cil_model.specs.declared.value.Value.TheVariants as value
use Rattle.cil_semantics.specs.declared.state.Local.{Local as LocalState}
use Rattle.cil_semantics.specs.declared.state.World.{World}
use Rattle.cil_semantics.specs.declared.state.Statics.{Statics}
use Rattle.cil_semantics.specs.declared.state.Object.{Object}
use Rattle.cil_semantics.specs.State.{object_at, with_stack}
use Rattle.il_opcodes.specs.declared.class.Class.TheVariants as class
use Rattle.il_opcodes.specs.declared.class.Class.{Class}
use Rattle.il_opcodes.specs.Opcodes.{class_of}
use Rattle.cil_semantics.specs.Tokens.{Here, meaning_here, constrained_here}
use Rattle.cil_semantics.specs.declared.number.Numeric.TheVariants.{Int4}
use Rattle.cil_semantics.specs.Acts.{item_type, Act, Stuck, GoOn, Jump, Raise, Throw, Leave, Call, on_top, on_two, if_some, goes_with, numeric, paired, compute, number_act, convert_checked, branch, switch, is_wanted, if_pointer, on_pointer, load_argument, load_local, store_argument, store_local, point_to_argument, point_to_local, push_int, cast, unboxed, box, on_field, load_field, point_to_field, store_field, field_of_value, on_static, on_array, on_item, at_index, made_array, store_item, on_type, taken, method_in, is_null, dynamic_type}
use Rattle.cil_semantics.specs.declared.number.Number.{Number}
use Rattle.cil_semantics.specs.declared.number.Number.TheVariants as result
use Rattle.cil_semantics.specs.declared.number.Pair.{Pair}
use Rattle.cil_semantics.specs.declared.number.Pair.TheVariants.{Both4, Both8, BothNative, NoPair}
use Rattle.cil_semantics.specs.declared.number.Numeric.{Numeric}
use Rattle.cil_semantics.specs.Instructions.{act, act_of_class, throw_value, leave_to, push_function}
use Rattle.cil_model.specs.declared.program.MethodDesc.{MethodDesc}
use Rattle.splice_facts.specs.Bodies.{with_methods, SameMethods}
use Rattle.simulation.proofs.ProgramLaws.{fun_ext, storage_same, stored_in_same, default_same, sub_same, layout_same, set_cell_same, new_cell_same, default_cell_same, handle_same, arity_same, with_this_same}
use Rattle.splice_facts.specs.Grown.{grow, beside, grow_act, copy_operand, IsCopy, NamesBelow, NamesLocals}

abbrev array_mismatch : Act
array_mismatch = Raise (codes "System.ArrayTypeMismatchException")

-- a local that isn't behind the old ones
pub get_left : {X : Type 0} (xs ys : List X) (i : ℕ) → i < length xs → slice_get (xs ++ ys) i ≡ slice_get xs i
get_left [] ys i lt = absurd (omega (arith, lt))
get_left (x ∷ xs) ys zero lt = refl
get_left (x ∷ xs) ys (suc i) lt = get_left xs ys i (omega (arith, lt))

module _ (to : ℕ → ℕ) (ex : List Cell) (ss : List Statics) where
  abbrev G : Act → Act
  G = grow_act to ex

  if_grow : (b : Bool) (x y : Act) → (if b then G x else G y) ≡ G (if b then x else y)
  if_grow true x y = refl
  if_grow false x y = refl

  -- both arms go on alike
  arms_grow : (b : Bool) (x y x' y' : Act) → x' ≡ G x → y' ≡ G y → (if b then x' else y') ≡ G (if b then x else y)
  arms_grow true x y x' y' h1 h2 = h1
  arms_grow false x y x' y' h1 h2 = h2

  top_grow : (s : List Value) (go go' : Value → List Value → Act) → ((v : Value) (rest : List Value) → go' v rest ≡ G (go v rest)) → on_top s go' ≡ G (on_top s go)
  top_grow [] go go' h = refl
  top_grow (v ∷ rest) go go' h = h v rest

  two_grow : (s : List Value) (go go' : Value → Value → List Value → Act) → ((x y : Value) (rest : List Value) → go' x y rest ≡ G (go x y rest)) → on_two s go' ≡ G (on_two s go)
  two_grow [] go go' h = refl
  two_grow (y ∷ []) go go' h = refl
  two_grow (y ∷ x ∷ rest) go go' h = h x y rest

  some_grow : {X : Type 0} (o : Option X) (go go' : X → Act) → ((x : X) → go' x ≡ G (go x)) → if_some o go' ≡ G (if_some o go)
  some_grow None go go' h = refl
  some_grow (Some x) go go' h = h x

  type_grow : (m : Option Meaning) (go go' : Ty → Act) → ((t : Ty) → go' t ≡ G (go t)) → on_type m go' ≡ G (on_type m go)
  type_grow None go go' h = refl
  type_grow (Some (OfType t)) go go' h = h t
  type_grow (Some _) go go' h = refl

  pointer_grow : (v : Value-F Value) (go go' : Pointer → Act) → ((q : Pointer) → go' q ≡ G (go q)) → if_pointer v go' ≡ G (if_pointer v go)
  pointer_grow (Value-F.Ptr q) go go' h = h q
  pointer_grow _ go go' h = refl

  number_grow : (back : ℤ → Value) (n : Number ℤ) (l : LocalState) → number_act back n (grow ex l) ≡ G (number_act back n l)
  number_grow back (result.Is z) l = refl
  number_grow back result.DividesByZero l = refl
  number_grow back result.Overflows l = refl

  compute_grow : (op : number.BinaryOp) (x : Pair) (l : LocalState) → compute op x (grow ex l) ≡ G (compute op x l)
  compute_grow op (Both4 x y) l = number_grow I4 (number.computed op number.size_32 x y) l
  compute_grow op (Both8 x y) l = number_grow I8 (number.computed op number.size_64 x y) l
  compute_grow op (BothNative x y) l = number_grow Native (number.computed op number.size_64 x y) l
  compute_grow op NoPair l = refl

  pub jumps_grow : (o : Operand) (named : ℕ × Token) (b : Bool) (l : LocalState) → branch (copy_operand to named o) b (grow ex l) ≡ G (branch o b l)
  jumps_grow (Target t) named b l = if_grow b (Jump t l) (GoOn [] l)
  jumps_grow _ named b l = refl

  case_grow : (o : Option ℕ) (l : LocalState) → maybe (GoOn [] (grow ex l)) (λ t. Jump t (grow ex l)) (option_map to o) ≡ G (maybe (GoOn [] l) (λ t. Jump t l) o)
  case_grow None l = refl
  case_grow (Some t) l = refl

  switch_grow : (o : Operand) (named : ℕ × Token) (n : Numeric) (l : LocalState) → switch (copy_operand to named o) n (grow ex l) ≡ G (switch o n l)
  switch_grow (Targets ts) named (Int4 z) l =
      ap (λ o. maybe (GoOn [] (grow ex l)) (λ t. Jump t (grow ex l)) o) (slice_get-map to ts (number.unsigned number.size_32 z)) ∙ case_grow (slice_get ts (number.unsigned number.size_32 z)) l
  switch_grow (Targets ts) named _ l = refl
  switch_grow _ named n l = refl

  leave_grow : (o : Operand) (named : ℕ × Token) → leave_to (copy_operand to named o) ≡ G (leave_to o)
  leave_grow (Target t) named = refl
  leave_grow _ named = refl

  push_int_grow : (back : ℤ → Value) (o : Operand) (named : ℕ × Token) (l : LocalState) → push_int back (copy_operand to named o) (grow ex l) ≡ G (push_int back o l)
  push_int_grow back (Int z) named l = refl
  push_int_grow back _ named l = refl

  load_argument_grow : (o : Operand) (named : ℕ × Token) (l : LocalState) → load_argument (copy_operand to named o) (grow ex l) ≡ G (load_argument o l)
  load_argument_grow (Index j) named l = some_grow (slice_get l.args j) _ _ (λ c. refl)
  load_argument_grow _ named l = refl

  load_local_grow : (o : Operand) (named : ℕ × Token) (l : LocalState) → NamesBelow (length l.locals) o → load_local (copy_operand to named o) (grow ex l) ≡ G (load_local o l)
  load_local_grow (Index j) named l lt =
      ap (λ o. if_some o (λ (c : Cell). goes_with (grow ex l) c.value l.stack)) (get_left l.locals (l.captured ++ ex) j lt) ∙ some_grow (slice_get l.locals j) _ _ (λ c. refl)
  load_local_grow _ named l lt = refl

  point_argument_grow : (here : Here) (o : Operand) (named : ℕ × Token) (l : LocalState) → point_to_argument here (copy_operand to named o) (grow ex l) ≡ G (point_to_argument here o l)
  point_argument_grow here (Index j) named l = refl
  point_argument_grow here _ named l = refl

  point_local_grow : (here : Here) (o : Operand) (named : ℕ × Token) (l : LocalState) → point_to_local here (copy_operand to named o) (grow ex l) ≡ G (point_to_local here o l)
  point_local_grow here (Index j) named l = refl
  point_local_grow here _ named l = refl

  array_grow : (w : World) (v : Value-F Value) (go go' : ℕ → Object → Ty → Act) → ((k : ℕ) (o : Object) (t : Ty) → go' k o t ≡ G (go k o t)) → on_array (beside ss w) v go' ≡ G (on_array w v go)
  array_grow w Value-F.Null go go' h = refl
  array_grow w (Value-F.Obj k) go go' h = object_grow (object_at w k)
    where
      object_grow : (o : Option Object) → if_some o (λ (x : Object). if_some (item_type x) (go' k x)) ≡ G (if_some o (λ (x : Object). if_some (item_type x) (go k x)))
      object_grow o = some_grow o _ _ (λ x. some_grow (item_type x) _ _ (h k x))
  array_grow w _ go go' h = refl

  index_grow : (n : ℕ) (z : ℤ) (go go' : ℕ → Act) → ((j : ℕ) → go' j ≡ G (go j)) → at_index n z go' ≡ G (at_index n z go)
  index_grow n (pos j) go go' h = arms_grow (nat_lt j n) (go j) Acts.out_of_range (go' j) Acts.out_of_range (h j) refl
  index_grow n (negsuc j) go go' h = refl

  item_grow : (w : World) (a n : Value) (go go' : Pointer → Ty → Act) → ((q : Pointer) (t : Ty) → go' q t ≡ G (go q t)) → on_item (beside ss w) a n go' ≡ G (on_item w a n go)
  item_grow w a n go go' h =
      some_grow (Acts.index_number (numeric n)) _ _ (λ z. array_grow w (out-Value a) _ _ (λ k o t. index_grow (length o.cells) z _ _ (λ j. h (Inside k (j ∷ [])) t)))

  unboxed_grow : (w : World) (t : Ty) (v : Value-F Value) (go go' : ℕ → Cell → Act) → ((k : ℕ) (c : Cell) → go' k c ≡ G (go k c)) → unboxed (beside ss w) t v go' ≡ G (unboxed w t v go)
  unboxed_grow w t Value-F.Null go go' h = refl
  unboxed_grow w t (Value-F.Obj k) go go' h =
      some_grow (object_at w k) _ _ (λ (o : Object). arms_grow (Rattle.cil_semantics.specs.Types.same_ty o.ty t) _ _ _ _ (some_grow (slice_get o.cells 0) _ _ (λ c. h k c)) refl)
  unboxed_grow w t (Value-F.Text units) go go' h = refl
  unboxed_grow w t _ go go' h = refl

  throw_grow : (v : Value-F Value) → throw_value v ≡ G (throw_value v)
  throw_grow Value-F.Null = refl
  throw_grow (Value-F.Obj k) = refl
  throw_grow _ = refl

  function_grow : (m : Option Meaning) (l : LocalState) → push_function m (grow ex l) ≡ G (push_function m l)
  function_grow None l = refl
  function_grow (Some (OfMethod owner m args)) l = refl
  function_grow (Some _) l = refl

  module _ (p : Program) (ms : List MethodDesc) where
    abbrev p' : Program
    p' = with_methods p ms

    store_argument_grow : (o : Operand) (named : ℕ × Token) (l : LocalState) → store_argument p' (copy_operand to named o) (grow ex l) ≡ G (store_argument p o l)
    store_argument_grow (Index j) named l =
        top_grow l.stack _ _ (λ v rest.
        ap (λ f. if_some (option_and_then f (slice_get l.args j)) (λ c. GoOn [] (record (grow ex l) { args = slice_set l.args j c; stack = rest }))) (fun_ext (set_cell_same p ms v))
        ∙ some_grow (option_and_then (set_cell p v) (slice_get l.args j)) _ _ (λ c. refl))
    store_argument_grow _ named l = refl

    store_local_grow : (o : Operand) (named : ℕ × Token) (l : LocalState) → NamesBelow (length l.locals) o → store_local p' (copy_operand to named o) (grow ex l) ≡ G (store_local p o l)
    store_local_grow (Index j) named l lt =
        top_grow l.stack _ _ (λ v rest.
        ap (λ f. if_some (option_and_then f (slice_get (l.locals ++ (l.captured ++ ex)) j)) (λ c. GoOn [] (record (grow ex l) { locals = slice_set (l.locals ++ (l.captured ++ ex)) j c; stack = rest }))) (fun_ext (set_cell_same p ms v))
        ∙ ap (λ o. if_some (option_and_then (set_cell p v) o) (λ c. GoOn [] (record (grow ex l) { locals = slice_set (l.locals ++ (l.captured ++ ex)) j c; stack = rest }))) (get_left l.locals (l.captured ++ ex) j lt)
        ∙ some_grow (option_and_then (set_cell p v) (slice_get l.locals j)) _ _ (λ c. ap (λ ls. GoOn [] (record (grow ex l) { locals = ls; stack = rest })) (set-append_left l.locals (l.captured ++ ex) j c lt)))
    store_local_grow _ named l lt = refl

    cast_grow : (t : Ty) (v : Value) (fits other fits' other' : Act) (w : World) → fits' ≡ G fits → other' ≡ G other → cast p' t v fits' other' (beside ss w) ≡ G (cast p t v fits other w)
    cast_grow t v fits other fits' other' w h1 h2 =
        arms_grow (is_null v) _ _ _ _ h1
        (some_grow (dynamic_type w v) _ _ (λ u. ap (λ b. if b then fits' else other') (sub_same p ms u t) ∙ arms_grow (Rattle.cil_semantics.specs.Lookups.is_sub p u t) _ _ _ _ h1 h2))

    unbox_grow : (t : Ty) (v : Value) (rest : List Value) (w : World) (l : LocalState) → Acts.unbox p' (beside ss w) t v (grow ex l) rest ≡ G (Acts.unbox p w t v l rest)
    unbox_grow t v rest w l =
        ap (λ h. if Places.is_reference h then Stuck else unboxed (beside ss w) t (out-Value v) (λ k c. goes_with (grow ex l) (Ptr (Inside k (0 ∷ []))) rest)) (storage_same p ms t)
        ∙ arms_grow (Places.is_reference (Places.storage p t)) _ _ _ _ refl (unboxed_grow w t (out-Value v) _ _ (λ k c. refl))

    box_grow : (t : Ty) (v : Value) (rest : List Value) (w : World) (l : LocalState) → box p' t v rest (beside ss w) (grow ex l) ≡ G (box p t v rest w l)
    box_grow t v rest w l =
        ap (λ h. if Places.is_reference h then goes_with (grow ex l) v rest else if_some (Places.new_cell p' t v) (boxed' (beside ss w) (grow ex l))) (storage_same p ms t)
        ∙ ap (λ o. if Places.is_reference (Places.storage p t) then goes_with (grow ex l) v rest else if_some o (boxed' (beside ss w) (grow ex l))) (new_cell_same p ms t v)
        ∙ arms_grow (Places.is_reference (Places.storage p t)) _ _ _ _ refl (some_grow (Places.new_cell p t v) (boxed' w l) (boxed' (beside ss w) (grow ex l)) (λ c. refl))
      where
        boxed' : World → LocalState → Cell → Act
        boxed' w1 l1 c = Acts.goes_with_new w1 (record { ty = t; cells = c ∷ [] }) l1 rest

    place_same : (t : Ty) (f : ℕ) → Places.field_place p' t f ≡ Places.field_place p t f
    place_same t f = ap (Places.place_of f) (layout_same p ms t)

    object_place_same : (w : World) (f k : ℕ) → Acts.field_of_object p' w k f ≡ Acts.field_of_object p w k f
    object_place_same w f k =
        ap (λ go. option_and_then go (object_at w k))
        (fun_ext (λ (o : Object). ap (λ h. if Places.is_reference h then Places.field_place p' o.ty f else None) (storage_same p ms o.ty) ∙ ap (λ x. if Places.is_reference (Places.storage p o.ty) then x else None) (place_same o.ty f)))

    field_grow : (w : World) (owner : Ty) (f : ℕ) (v : Value-F Value) (go go' : Pointer → Act) (other other' : Act) → ((q : Pointer) → go' q ≡ G (go q)) → other' ≡ G other → on_field p' (beside ss w) owner f v go' other' ≡ G (on_field p w owner f v go other)
    field_grow w owner f Value-F.Null go go' other other' h e = refl
    field_grow w owner f (Value-F.Obj k) go go' other other' h e =
        ap (λ o. if_some o (λ i. go' (Inside k (i ∷ [])))) (object_place_same w f k) ∙ some_grow (Acts.field_of_object p w k f) _ _ (λ i. h (Inside k (i ∷ [])))
    field_grow w owner f (Value-F.Ptr q) go go' other other' h e =
        ap (λ o. if_some o (λ i. go' (Acts.extended i q))) (place_same owner f) ∙ some_grow (Places.field_place p owner f) _ _ (λ i. h (Acts.extended i q))
    field_grow w owner f _ go go' other other' h e = e

    value_field_grow : (owner : Ty) (f : ℕ) (v : Value) (l : LocalState) (rest : List Value) → field_of_value p' owner f v (grow ex l) rest ≡ G (field_of_value p owner f v l rest)
    value_field_grow owner f v l rest =
        ap (λ o. if_some (option_and_then (slice_get (Places.fields_in (out-Value v))) o) (λ x. goes_with (grow ex l) x rest)) (place_same owner f)
        ∙ some_grow (option_and_then (slice_get (Places.fields_in (out-Value v))) (Places.field_place p owner f)) _ _ (λ x. refl)

    load_field_grow : (m : Option Meaning) (w : World) (l : LocalState) → load_field p' m (beside ss w) (grow ex l) ≡ G (load_field p m w l)
    load_field_grow None w l = refl
    load_field_grow (Some (OfField owner f)) w l = top_grow l.stack _ _ (λ v rest. field_grow w owner f (out-Value v) _ _ _ _ (λ q. refl) (value_field_grow owner f v l rest))
    load_field_grow (Some _) w l = refl

    point_field_grow : (m : Option Meaning) (w : World) (l : LocalState) → point_to_field p' m (beside ss w) (grow ex l) ≡ G (point_to_field p m w l)
    point_field_grow None w l = refl
    point_field_grow (Some (OfField owner f)) w l = top_grow l.stack _ _ (λ v rest. field_grow w owner f (out-Value v) _ _ _ _ (λ q. refl) refl)
    point_field_grow (Some _) w l = refl

    store_field_grow : (m : Option Meaning) (w : World) (l : LocalState) → store_field p' m (beside ss w) (grow ex l) ≡ G (store_field p m w l)
    store_field_grow None w l = refl
    store_field_grow (Some (OfField owner f)) w l = two_grow l.stack _ _ (λ o v rest. field_grow w owner f (out-Value o) _ _ _ _ (λ q. refl) refl)
    store_field_grow (Some _) w l = refl

    maybe_static : {X : Type 0} (o : Option X) (x : Act) → maybe Stuck (λ (d : X). G x) o ≡ G (maybe Stuck (λ (d : X). x) o)
    maybe_static None x = refl
    maybe_static (Some d) x = refl

    static_grow : (m : Option Meaning) (go go' : Ty → Pointer → Act) → ((t : Ty) (q : Pointer) → go' t q ≡ G (go t q)) → on_static p' m go' ≡ G (on_static p m go)
    static_grow None go go' h = refl
    static_grow (Some (OfField owner f)) go go' h =
        arms_grow (Rattle.cil_semantics.specs.Lookups.field_of p f).is_static _ _ _ _
        (ap (λ x. maybe Stuck (λ (d : ℕ × List Ty). x) (Rattle.cil_semantics.specs.Lookups.in_set (out-Ty owner))) (h owner (Rattle.cil_model.specs.declared.value.Pointer.TheVariants.Static owner f []))
        ∙ maybe_static (Rattle.cil_semantics.specs.Lookups.in_set (out-Ty owner)) (go owner (Rattle.cil_model.specs.declared.value.Pointer.TheVariants.Static owner f [])))
        refl
    static_grow (Some _) go go' h = refl

    array_made_grow : (t : Ty) (z : ℤ) (w : World) (l : LocalState) (rest : List Value) → made_array p' t z (beside ss w) (grow ex l) rest ≡ G (made_array p t z w l rest)
    array_made_grow t (pos n) w l rest =
        ap (λ c. Acts.goes_with_new (beside ss w) (record { ty = Rattle.cil_model.specs.declared.ty.Ty.TheVariants.Array t; cells = Rattle.std.specs.Prelude.replicate n c }) (grow ex l) rest) (default_cell_same p ms t)
    array_made_grow t (negsuc n) w l rest = refl

    fits_item_same : (w : World) (t : Ty) (v : Value) → Acts.fits_item p' w t v ≡ Acts.fits_item p w t v
    fits_item_same w t v = ap (λ (go : Ty → Bool). is_null v || maybe true go (dynamic_type w v)) (fun_ext (λ u. sub_same p ms u t))

    put_grow : (w : World) (l : LocalState) (rest : List Value) (q : Pointer) (t : Ty) (x : Value)
        → (if Places.is_reference (Places.storage p' t) && not (Acts.fits_item p' (beside ss w) t x) then array_mismatch else Acts.Store q x (with_stack (grow ex l) rest)) ≡ G (if Places.is_reference (Places.storage p t) && not (Acts.fits_item p w t x) then array_mismatch else Acts.Store q x (with_stack l rest))
    put_grow w l rest q t x =
        ap (λ k. if Places.is_reference k && not (Acts.fits_item p' (beside ss w) t x) then array_mismatch else Acts.Store q x (with_stack (grow ex l) rest)) (storage_same p ms t)
        ∙ ap (λ b. if Places.is_reference (Places.storage p t) && not b then array_mismatch else Acts.Store q x (with_stack (grow ex l) rest)) (fits_item_same w t x)
        ∙ if_grow (Places.is_reference (Places.storage p t) && not (Acts.fits_item p w t x)) array_mismatch (Acts.Store q x (with_stack l rest))

    store_item_grow : (w : World) (l : LocalState) (store : Value → Option Value) (s : List Value) → store_item p' (beside ss w) (grow ex l) store s ≡ G (store_item p w l store s)
    store_item_grow w l store [] = refl
    store_item_grow w l store (v ∷ []) = refl
    store_item_grow w l store (v ∷ i ∷ []) = refl
    store_item_grow w l store (v ∷ i ∷ a ∷ rest) = item_grow w a i _ _ (λ q t. some_grow (store v) _ _ (λ x. put_grow w l rest q t x))

    taken_grow : (i i' : Instr) (here : Here) (n : ℕ) (m : Option Meaning) (l : LocalState) (go : Call → LocalState → Act) → constrained_here p' here i' ≡ constrained_here p here i → ((c : Call) (l1 : LocalState) → go c (grow ex l1) ≡ G (go c l1)) → taken p' i' here n m (grow ex l) go ≡ G (taken p i here n m l go)
    taken_grow i i' here n None l go e h = refl
    taken_grow i i' here n (Some (OfMethod owner m args)) l go e h =
        arms_grow (nat_le n (length l.stack)) _ _ _ _
        (ap (λ o. go (record { owner = owner; method = m; method_args = args; values = Rattle.std.specs.Prelude.reverse (Rattle.std.specs.Prelude.take n l.stack); constrained = o }) (grow ex (with_stack l (Rattle.std.specs.Prelude.drop n l.stack)))) e
        ∙ h (record { owner = owner; method = m; method_args = args; values = Rattle.std.specs.Prelude.reverse (Rattle.std.specs.Prelude.take n l.stack); constrained = constrained_here p here i }) (with_stack l (Rattle.std.specs.Prelude.drop n l.stack)))
        refl
    taken_grow i i' here n (Some _) l go e h = refl

    module _ (same : SameMethods p ms) (here : Here) (i i' : Instr) (named : ℕ × Token) (eo : i'.operand ≡ copy_operand to named i.operand) (em : meaning_here p' here i' ≡ meaning_here p here i) (ec : constrained_here p' here i' ≡ constrained_here p here i) (w : World) (l : LocalState) where
      -- an act that goes by the operand, or by the meaning of the token
      by_operand : (go go' : Operand → Act) → ((o : Operand) → go' (copy_operand to named o) ≡ G (go o)) → go' i'.operand ≡ G (go i.operand)
      by_operand go go' h = ap go' eo ∙ h i.operand

      by_meaning : (go go' : Option Meaning → Act) → ((m : Option Meaning) → go' m ≡ G (go m)) → go' (meaning_here p' here i') ≡ G (go (meaning_here p here i))
      by_meaning go go' h = ap go' em ∙ h (meaning_here p here i)

      loads_type : (q : Pointer) (t : Ty) (l1 : LocalState) → Acts.Load q (Places.storage p' t) (grow ex l1) ≡ G (Acts.Load q (Places.storage p t) l1)
      loads_type q t l1 = ap (λ h. Acts.Load q h (grow ex l1)) (storage_same p ms t)

      taken_by : (n n' : ℕ) (go : Call → LocalState → Act) → n' ≡ n → ((c : Call) (l1 : LocalState) → go c (grow ex l1) ≡ G (go c l1)) → taken p' i' here n' (meaning_here p' here i') (grow ex l) go ≡ G (taken p i here n (meaning_here p here i) l go)
      taken_by n n' go e h = ap (λ k. taken p' i' here k (meaning_here p' here i') (grow ex l) go) e ∙ ap (λ m. taken p' i' here n m (grow ex l) go) em ∙ taken_grow i i' here n (meaning_here p here i) l go ec h

      counted_with_this : Acts.with_this p' (method_in (meaning_here p' here i')) ≡ Acts.with_this p (method_in (meaning_here p here i))
      counted_with_this = ap (λ m. Acts.with_this p' (method_in m)) em ∙ with_this_same p ms same (method_in (meaning_here p here i))

      counted : Acts.arity p' (method_in (meaning_here p' here i')) ≡ Acts.arity p (method_in (meaning_here p here i))
      counted = ap (λ m. Acts.arity p' (method_in m)) em ∙ arity_same p ms same (method_in (meaning_here p here i))

      pub by_class : (c : Class) → NamesLocals (length l.locals) c i.operand → act_of_class p' here i' (beside ss w) (grow ex l) c ≡ G (act_of_class p here i w l c)
      unfolding act_of_class
      by_class class.Nop n = refl
      by_class class.LoadArgument n = by_operand (λ o. load_argument o l) (λ o. load_argument o (grow ex l)) (λ o. load_argument_grow o named l)
      by_class class.StoreArgument n = by_operand (λ o. store_argument p o l) (λ o. store_argument p' o (grow ex l)) (λ o. store_argument_grow o named l)
      by_class class.ArgumentAddress n = by_operand (λ o. point_to_argument here o l) (λ o. point_to_argument here o (grow ex l)) (λ o. point_argument_grow here o named l)
      by_class class.LoadLocal n = ap (λ o. load_local o (grow ex l)) eo ∙ load_local_grow i.operand named l n
      by_class class.StoreLocal n = ap (λ o. store_local p' o (grow ex l)) eo ∙ store_local_grow i.operand named l n
      by_class class.LocalAddress n = by_operand (λ o. point_to_local here o l) (λ o. point_to_local here o (grow ex l)) (λ o. point_local_grow here o named l)
      by_class class.LoadNull n = refl
      by_class class.LoadInt n = by_operand (λ o. push_int I4 o l) (λ o. push_int I4 o (grow ex l)) (λ o. push_int_grow I4 o named l)
      by_class class.LoadLong n = by_operand (λ o. push_int I8 o l) (λ o. push_int I8 o (grow ex l)) (λ o. push_int_grow I8 o named l)
      by_class class.LoadString n = by_meaning (λ m. if_some (Acts.text_in m) (λ v. goes_with l v l.stack)) (λ m. if_some (Acts.text_in m) (λ v. goes_with (grow ex l) v l.stack)) (λ m. some_grow (Acts.text_in m) _ _ (λ v. refl))
      by_class class.LoadToken n =
          by_meaning (λ m. if_some (option_and_then (Acts.handle_of p) m) (λ name. goes_with l (value.Opaque name) l.stack)) (λ m. if_some (option_and_then (Acts.handle_of p') m) (λ name. goes_with (grow ex l) (value.Opaque name) l.stack))
          (λ m. ap (λ h. if_some (option_and_then h m) (λ name. goes_with (grow ex l) (value.Opaque name) l.stack)) (fun_ext (handle_same p ms same)) ∙ some_grow (option_and_then (Acts.handle_of p) m) _ _ (λ v. refl))
      by_class class.SizeOf n = by_meaning (λ m. on_type m (λ t. if_some (Acts.size_at (out-Ty t)) (λ z. goes_with l (I4 (pos z)) l.stack))) (λ m. on_type m (λ t. if_some (Acts.size_at (out-Ty t)) (λ z. goes_with (grow ex l) (I4 (pos z)) l.stack))) (λ m. type_grow m _ _ (λ t. some_grow (Acts.size_at (out-Ty t)) _ _ (λ z. refl)))
      by_class class.LoadFunction n = by_meaning (λ m. push_function m l) (λ m. push_function m (grow ex l)) (λ m. function_grow m l)
      by_class class.Duplicate n = top_grow l.stack _ _ (λ v rest. refl)
      by_class class.Pop n = top_grow l.stack _ _ (λ v rest. refl)
      by_class (class.Binary op) n = two_grow l.stack _ _ (λ x y rest. compute_grow op (paired (numeric x) (numeric y)) (with_stack l rest))
      by_class (class.Shift s) n = two_grow l.stack _ _ (λ x y rest. some_grow (option_and_then (Acts.shift s (numeric x)) (Acts.shift_count (numeric y))) _ _ (λ v. refl))
      by_class (class.Unary u) n = top_grow l.stack _ _ (λ x rest. some_grow (Acts.unary u (numeric x)) _ _ (λ v. refl))
      by_class (class.Convert t) n = top_grow l.stack _ _ (λ x rest. some_grow (Acts.convert t (numeric x)) _ _ (λ v. refl))
      by_class (class.ConvertChecked u t) n = top_grow l.stack _ _ (λ x rest. some_grow (Acts.read_number u (numeric x)) _ _ (λ z. arms_grow (number.lies_in t z) _ _ _ _ refl refl))
      by_class (class.Compare t) n = two_grow l.stack _ _ (λ x y rest. some_grow (Acts.compare t x y) _ _ (λ b. refl))
      by_class class.Jump n = by_operand (λ o. branch o true l) (λ o. branch o true (grow ex l)) (λ o. jumps_grow o named true l)
      by_class class.Switch n = top_grow l.stack _ _ (λ v rest. by_operand (λ o. switch o (numeric v) (with_stack l rest)) (λ o. switch o (numeric v) (grow ex (with_stack l rest))) (λ o. switch_grow o named (numeric v) (with_stack l rest)))
      by_class (class.Branch wanted) n =
          top_grow l.stack _ _ (λ v rest. some_grow (Acts.truth v) _ _ (λ b. by_operand (λ o. branch o (is_wanted wanted b) (with_stack l rest)) (λ o. branch o (is_wanted wanted b) (grow ex (with_stack l rest))) (λ o. jumps_grow o named (is_wanted wanted b) (with_stack l rest))))
      by_class (class.CompareBranch t wanted) n =
          two_grow l.stack _ _ (λ x y rest. some_grow (Acts.compare t x y) _ _ (λ b. by_operand (λ o. branch o (is_wanted wanted b) (with_stack l rest)) (λ o. branch o (is_wanted wanted b) (grow ex (with_stack l rest))) (λ o. jumps_grow o named (is_wanted wanted b) (with_stack l rest))))
      by_class (class.LoadIndirect h) n = top_grow l.stack _ _ (λ q rest. pointer_grow (out-Value q) _ _ (λ r. refl))
      by_class (class.StoreIndirect h) n = two_grow l.stack _ _ (λ q v rest. pointer_grow (out-Value q) _ _ (λ r. some_grow (Places.stored h v) _ _ (λ x. refl)))
      by_class class.CopyObject n =
          by_meaning (λ m. on_type m (λ t. on_two l.stack (λ a b rest. on_pointer a (λ q. on_pointer b (λ r. Acts.Copy q r (Places.storage p t) (with_stack l rest))))))
          (λ m. on_type m (λ t. on_two l.stack (λ a b rest. on_pointer a (λ q. on_pointer b (λ r. Acts.Copy q r (Places.storage p' t) (grow ex (with_stack l rest)))))))
          (λ m. type_grow m _ _ (λ t. two_grow l.stack _ _ (λ a b rest. pointer_grow (out-Value a) _ _ (λ q. pointer_grow (out-Value b) _ _ (λ r. ap (λ h. Acts.Copy q r h (grow ex (with_stack l rest))) (storage_same p ms t))))))
      by_class class.LoadObject n =
          by_meaning (λ m. on_type m (λ t. on_top l.stack (λ a rest. on_pointer a (λ q. Acts.Load q (Places.storage p t) (with_stack l rest)))))
          (λ m. on_type m (λ t. on_top l.stack (λ a rest. on_pointer a (λ q. Acts.Load q (Places.storage p' t) (grow ex (with_stack l rest))))))
          (λ m. type_grow m _ _ (λ t. top_grow l.stack _ _ (λ a rest. pointer_grow (out-Value a) _ _ (λ q. loads_type q t (with_stack l rest)))))
      by_class class.StoreObject n =
          by_meaning (λ m. on_type m (λ t. on_two l.stack (λ a v rest. on_pointer a (λ q. if_some (Places.stored_in p t v) (λ x. Acts.Store q x (with_stack l rest))))))
          (λ m. on_type m (λ t. on_two l.stack (λ a v rest. on_pointer a (λ q. if_some (Places.stored_in p' t v) (λ x. Acts.Store q x (grow ex (with_stack l rest)))))))
          (λ m. type_grow m _ _ (λ t. two_grow l.stack _ _ (λ a v rest. pointer_grow (out-Value a) _ _ (λ q. ap (λ o. if_some o (λ x. Acts.Store q x (grow ex (with_stack l rest)))) (stored_in_same p ms t v) ∙ some_grow (Places.stored_in p t v) _ _ (λ x. refl)))))
      by_class class.InitObject n =
          by_meaning (λ m. on_type m (λ t. on_top l.stack (λ a rest. on_pointer a (λ q. Acts.Store q (Places.default_value p t) (with_stack l rest)))))
          (λ m. on_type m (λ t. on_top l.stack (λ a rest. on_pointer a (λ q. Acts.Store q (Places.default_value p' t) (grow ex (with_stack l rest))))))
          (λ m. type_grow m _ _ (λ t. top_grow l.stack _ _ (λ a rest. pointer_grow (out-Value a) _ _ (λ q. ap (λ v. Acts.Store q v (grow ex (with_stack l rest))) (default_same p ms 1001 t)))))
      by_class class.CastClass n =
          by_meaning (λ m. on_type m (λ t. on_top l.stack (λ v rest. cast p t v (goes_with l v rest) Acts.invalid_cast w)))
          (λ m. on_type m (λ t. on_top l.stack (λ v rest. cast p' t v (goes_with (grow ex l) v rest) Acts.invalid_cast (beside ss w))))
          (λ m. type_grow m _ _ (λ t. top_grow l.stack _ _ (λ v rest. cast_grow t v (goes_with l v rest) Acts.invalid_cast _ _ w refl refl)))
      by_class class.IsInstance n =
          by_meaning (λ m. on_type m (λ t. on_top l.stack (λ v rest. cast p t v (goes_with l v rest) (goes_with l Null rest) w)))
          (λ m. on_type m (λ t. on_top l.stack (λ v rest. cast p' t v (goes_with (grow ex l) v rest) (goes_with (grow ex l) Null rest) (beside ss w))))
          (λ m. type_grow m _ _ (λ t. top_grow l.stack _ _ (λ v rest. cast_grow t v (goes_with l v rest) (goes_with l Null rest) _ _ w refl refl)))
      by_class class.Unbox n =
          by_meaning (λ m. on_type m (λ t. on_top l.stack (λ v rest. Acts.unbox p w t v l rest))) (λ m. on_type m (λ t. on_top l.stack (λ v rest. Acts.unbox p' (beside ss w) t v (grow ex l) rest)))
          (λ m. type_grow m _ _ (λ t. top_grow l.stack _ _ (λ v rest. unbox_grow t v rest w l)))
      by_class class.Box n =
          by_meaning (λ m. on_type m (λ t. on_top l.stack (λ v rest. box p t v rest w l))) (λ m. on_type m (λ t. on_top l.stack (λ v rest. box p' t v rest (beside ss w) (grow ex l))))
          (λ m. type_grow m _ _ (λ t. top_grow l.stack _ _ (λ v rest. box_grow t v rest w l)))
      by_class class.UnboxAny n =
          by_meaning (λ m. on_type m (λ t. on_top l.stack (λ v rest. if Places.is_reference (Places.storage p t) then cast p t v (goes_with l v rest) Acts.invalid_cast w else unboxed w t (out-Value v) (λ k (c : Cell). goes_with l c.value rest))))
          (λ m. on_type m (λ t. on_top l.stack (λ v rest. if Places.is_reference (Places.storage p' t) then cast p' t v (goes_with (grow ex l) v rest) Acts.invalid_cast (beside ss w) else unboxed (beside ss w) t (out-Value v) (λ k (c : Cell). goes_with (grow ex l) c.value rest))))
          (λ m. type_grow m _ _ (λ t. top_grow l.stack _ _ (λ v rest.
          ap (λ h. if Places.is_reference h then cast p' t v (goes_with (grow ex l) v rest) Acts.invalid_cast (beside ss w) else unboxed (beside ss w) t (out-Value v) (λ k (c : Cell). goes_with (grow ex l) c.value rest)) (storage_same p ms t)
          ∙ arms_grow (Places.is_reference (Places.storage p t)) _ _ _ _ (cast_grow t v (goes_with l v rest) Acts.invalid_cast _ _ w refl refl) (unboxed_grow w t (out-Value v) _ _ (λ k c. refl)))))
      by_class class.Throw n = top_grow l.stack _ _ (λ v rest. throw_grow (out-Value v))
      by_class class.Rethrow n = refl
      by_class class.LoadField n = by_meaning (λ m. load_field p m w l) (λ m. load_field p' m (beside ss w) (grow ex l)) (λ m. load_field_grow m w l)
      by_class class.FieldAddress n = by_meaning (λ m. point_to_field p m w l) (λ m. point_to_field p' m (beside ss w) (grow ex l)) (λ m. point_field_grow m w l)
      by_class class.StoreField n = by_meaning (λ m. store_field p m w l) (λ m. store_field p' m (beside ss w) (grow ex l)) (λ m. store_field_grow m w l)
      by_class class.LoadStatic n = by_meaning (λ m. on_static p m (λ t q. Acts.UseStatic t (Rattle.cil_semantics.specs.declared.state.Access.TheVariants.Read q) l)) (λ m. on_static p' m (λ t q. Acts.UseStatic t (Rattle.cil_semantics.specs.declared.state.Access.TheVariants.Read q) (grow ex l))) (λ m. static_grow m _ _ (λ t q. refl))
      by_class class.StaticAddress n = by_meaning (λ m. on_static p m (λ t q. Acts.UseStatic t (Rattle.cil_semantics.specs.declared.state.Access.TheVariants.PointTo q) l)) (λ m. on_static p' m (λ t q. Acts.UseStatic t (Rattle.cil_semantics.specs.declared.state.Access.TheVariants.PointTo q) (grow ex l))) (λ m. static_grow m _ _ (λ t q. refl))
      by_class class.StoreStatic n =
          top_grow l.stack _ _ (λ v rest. by_meaning (λ m. on_static p m (λ t q. Acts.UseStatic t (Rattle.cil_semantics.specs.declared.state.Access.TheVariants.Write q v) (with_stack l rest))) (λ m. on_static p' m (λ t q. Acts.UseStatic t (Rattle.cil_semantics.specs.declared.state.Access.TheVariants.Write q v) (grow ex (with_stack l rest)))) (λ m. static_grow m _ _ (λ t q. refl)))
      by_class class.NewArray n =
          by_meaning (λ m. on_type m (λ t. on_top l.stack (λ v rest. if_some (Acts.index_number (numeric v)) (λ z. made_array p t z w l rest)))) (λ m. on_type m (λ t. on_top l.stack (λ v rest. if_some (Acts.index_number (numeric v)) (λ z. made_array p' t z (beside ss w) (grow ex l) rest))))
          (λ m. type_grow m _ _ (λ t. top_grow l.stack _ _ (λ v rest. some_grow (Acts.index_number (numeric v)) _ _ (λ z. array_made_grow t z w l rest))))
      by_class class.ArrayLength n = top_grow l.stack _ _ (λ a rest. array_grow w (out-Value a) _ _ (λ k o t. refl))
      by_class class.ElementAddress n = two_grow l.stack _ _ (λ a x rest. item_grow w a x (λ q t. goes_with l (Ptr q) rest) (λ q t. goes_with (grow ex l) (Ptr q) rest) (λ q t. refl))
      by_class class.LoadTypedElement n =
          by_meaning (λ m. on_type m (λ t. on_two l.stack (λ a x rest. on_item w a x (λ q u. Acts.Load q (Places.storage p t) (with_stack l rest))))) (λ m. on_type m (λ t. on_two l.stack (λ a x rest. on_item (beside ss w) a x (λ q u. Acts.Load q (Places.storage p' t) (grow ex (with_stack l rest))))))
          (λ m. type_grow m _ _ (λ t. two_grow l.stack _ _ (λ a x rest. item_grow w a x (λ q u. Acts.Load q (Places.storage p t) (with_stack l rest)) (λ q u. Acts.Load q (Places.storage p' t) (grow ex (with_stack l rest))) (λ q u. loads_type q t (with_stack l rest)))))
      by_class class.StoreTypedElement n =
          by_meaning (λ m. on_type m (λ t. store_item p w l (Places.stored_in p t) l.stack)) (λ m. on_type m (λ t. store_item p' (beside ss w) (grow ex l) (Places.stored_in p' t) l.stack))
          (λ m. type_grow m _ _ (λ t. ap (λ store. store_item p' (beside ss w) (grow ex l) store l.stack) (fun_ext (stored_in_same p ms t)) ∙ store_item_grow w l (Places.stored_in p t) l.stack))
      by_class (class.LoadElement h) n = two_grow l.stack _ _ (λ a x rest. item_grow w a x (λ q u. Acts.Load q h (with_stack l rest)) (λ q u. Acts.Load q h (grow ex (with_stack l rest))) (λ q u. refl))
      by_class (class.StoreElement h) n = store_item_grow w l (Places.stored h) l.stack
      by_class class.EndFinally n = refl
      by_class class.Leave n = by_operand leave_to leave_to (λ o. leave_grow o named)
      by_class class.Call n = taken_by _ _ Acts.CallMember counted_with_this (λ c l1. refl)
      by_class class.CallVirtual n = taken_by _ _ Acts.CallVirtual counted_with_this (λ c l1. refl)
      by_class class.NewObject n = taken_by _ _ Acts.NewObject counted (λ c l1. refl)
      by_class class.LoadVirtualFunction n = taken_by 1 1 Acts.LoadVirtualFunction refl (λ c l1. refl)
      by_class class.Return n = refl
      by_class class.Unsupported n = refl
      by_class class.Prefix n = refl

-- An instruction and its copy: what the copy wants in the grown frame is what the instruction wants, grown.
pub act_grow : (p : Program) (ms : List MethodDesc) (to : ℕ → ℕ) (ex : List Cell) (ss : List Statics) (here : Here) (i i' : Instr) (w : World) (l : LocalState) → SameMethods p ms → IsCopy p (with_methods p ms) here.method to i i' → NamesLocals (length l.locals) (class_of i.op) i.operand
    → act (with_methods p ms) here i' (beside ss w) (grow ex l) ≡ grow_act to ex (act p here i w l)
unfolding act
act_grow p ms to ex ss here i i' w l same c n =
    ap (λ op. act_of_class (with_methods p ms) here i' (beside ss w) (grow ex l) (class_of op)) c.op ∙ by_class to ex ss p ms same here i i' c.named c.operand (c.meaning here refl) (c.constrained here refl) w l (class_of i.op) n
