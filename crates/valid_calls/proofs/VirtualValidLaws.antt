-- Virtual calls, constrained. and ldvirtftn: the body that is found waits for as many values as the member that is named.
use Rattle.std.proofs.Common.{◌≡◌, ℕ, suc, ◌<◌, Bool, true, false, List, [], ◌∷◌, ◌++◌, length, Option, Some, None, refl, sym, ap, ◌∙◌, subst, arith}
use Rattle.std.specs.Prelude.{slice_get, not, if◌then◌else◌, option_and_then, option_map, IsTrue, codes}
use Rattle.cil_model.specs.declared.ty.Ty.{Ty}
use Rattle.cil_model.specs.declared.value.Value.{Value, out-Value, Obj, Ptr}
use Rattle.cil_model.specs.declared.value.Value as val
use Rattle.cil_model.specs.declared.value.Pointer.{Pointer}
use Rattle.cil_model.specs.declared.contract.Contracts.{Contracts}
use Rattle.cil_model.specs.declared.program.Program.{Program}
use Rattle.cil_model.specs.declared.program.MethodDesc.{MethodDesc}
use Rattle.cil_semantics.specs.Words.{same_bool}
use Rattle.cil_semantics.specs.Lookups.{method_of, args_of}
use Rattle.cil_semantics.specs.Places.{storage, is_void, is_reference, new_cell}
use Rattle.cil_semantics.specs.Types.{same_ty, under}
use Rattle.cil_semantics.specs.Dispatch.{Seen}
use Rattle.cil_semantics.specs.Acts.{Call, dynamic_type, is_null}
use Rattle.cil_semantics.specs.declared.state.Cell.{Cell}
use Rattle.cil_semantics.specs.declared.state.Object.{Object}
use Rattle.cil_semantics.specs.declared.state.World.{World}
use Rattle.cil_semantics.specs.declared.state.Frame.{Frame}
use Rattle.cil_semantics.specs.declared.state.Continuation.TheVariants.{Push}
use Rattle.cil_semantics.specs.State.{Next, object_at, next_object, with_object}
use Rattle.cil_semantics.specs.Unwind.{raise}
use Rattle.cil_semantics.specs.Frames.{stuck, if_there, read, gives_value, enter_delegate, this_value}
use Rattle.cil_semantics.specs.Returns.{push_below}
use Rattle.cil_semantics.specs.Outside.{is_outside}
use Rattle.cil_semantics.specs.Calls.{CoreMember, Constructor, Equality, Concatenation, TextLength, IsNullOrEmpty, Quantifier, NotCore, core_of, outside_call, call_unfound, call_found, body_seen, own_body, is_invoke, call_on, pointed, call_boxed, call_struct, call_constrained, call_virtual_on, call_virtual, function_of, find_virtual_on, gives_alike}
use Rattle.cil_semantics.specs.Checks.{AddedNumbers}
use Rattle.machine_laws.specs.Answers.{is_below}
use Rattle.splice_facts.specs.WellFormed.{Bounds, NoneVoid, WellFormedValue, WellFormedValues, WellFormedPointer}
use Rattle.splice_facts.specs.Input.{GivesAsDescribed, result_count}
use Rattle.splice_facts.specs.Related.{Rewritten, bounds}
use Rattle.simulation_objects.proofs.StoredLaws.{boxed_fine, read_fine}
use Rattle.simulation_valid.specs.Keeping.{StaysValid}
use Rattle.simulation_valid.specs.Steps.{NextHeight, MayCall}
use Rattle.simulation_valid.proofs.WorldLaws.{object_added, class_typed}
use Rattle.simulation_valid.proofs.EnterValidLaws.{void_stays}
use Rattle.simulation_valid.proofs.PushValidLaws.{pushes_valid}
use Rattle.simulation_valid.proofs.MoveValidLaws.{frames_fine}
use Rattle.simulation_valid.proofs.CallValidLaws.{caller_waits, calls_outside_valid, calls_plainly_valid}
use Rattle.simulation_valid.proofs.DelegateValidLaws.{this_fine, delegate_enters}
use Rattle.valid_calls.proofs.MemberLaws.{by_core, raises}
use Rattle.valid_calls.proofs.TypeLaws.{found_whole}

twice : (x : Bool) → not (not x) ≡ x
twice true = refl
twice false = refl

last_there : (os : List Object) (o : Object) → slice_get (os ++ o ∷ []) (length os) ≡ Some o
last_there [] o = refl
last_there (x ∷ os) o = last_there os o

-- a new object has the type that it was made of
new_type : (p : Program) (o : Object) (w : World) (t : Ty) → dynamic_type (with_object p o w) (Obj (next_object w)) ≡ Some t → o.ty ≡ t
unfolding val.out-Value denote.Hole.Carrier.out
new_type p o w t e =
    let number : next_object w ≡ suc (length w.heap) = omega arith in
    let there : object_at (with_object p o w) (next_object w) ≡ Some o = ap (object_at (with_object p o w)) number ∙ last_there w.heap o in
    let same : Some o.ty ≡ Some t = sym (ap (option_map (λ (x : Object). x.ty)) there) ∙ e in
    cc same

module _ (p : Program) (k : Contracts) (ms : List MethodDesc) (g : AddedNumbers) (r : Rewritten p k ms g) where
  abbrev Stays : Next → Type 0
  Stays x = StaysValid p k ms g r x

  abbrev Bs : Bounds
  Bs = bounds p k ms g r

  abbrev Fine : Value → Type 0
  Fine v = WellFormedValue Bs v

  abbrev AllFine : List Value → Type 0
  AllFine vs = WellFormedValues Bs vs

  -- another member with as many results
  as_many : (m n : ℕ) (fs : List Frame) (w : World) → result_count p n ≡ result_count p m → MayCall p k ms g r m fs w → MayCall p k ms g r n fs w
  as_many m n fs w e c = record { tail = c.tail; next = subst (λ j. NextHeight p k ms g r j fs) (sym e) c.next; world = c.world; count = c.count; deep = c.deep }

  -- with one more object
  one_more : (o : Object) (m : ℕ) (fs : List Frame) (w : World) → Rattle.splice_facts.specs.WellFormed.WellFormedObject Bs o → MayCall p k ms g r m fs w → MayCall p k ms g r m fs (with_object p o w)
  one_more o m fs w fine c = record { tail = c.tail; next = c.next; world = object_added Bs p o w fine c.world; count = c.count; deep = c.deep }

  -- the member that a token names
  module _ (owner : Ty) (m : ℕ) (args : List Ty) (old : m < r.methods) (own : IsTrue (is_below r.types owner)) (na : NoneVoid p (args_of owner)) (nb : NoneVoid p args) where
    abbrev named : List Value → Option Ty → Call
    named values q = record { owner = owner; method = m; method_args = args; values = values; constrained = q }

    abbrev Waits : List Frame → World → Type 0
    Waits fs w = MayCall p k ms g r m fs w

    abbrev IsWhole : Ty → Type 0
    IsWhole t = NoneVoid p (args_of t)

    module _ (gives : GivesAsDescribed (core_of p owner m) (result_count p m)) where
      unfound : (x : CoreMember) → GivesAsDescribed x (result_count p m) → (all : List Value) (q : Option Ty) (fs : List Frame) (w : World) → AllFine all → Waits fs w → Stays (call_unfound p k x (named all q) fs w)
      unfound NotCore y all q fs w fa c = by_test (is_outside p m)
        where
          by_test : (b : Bool) → Stays (if b then outside_call p k owner m args all fs w else stuck w)
          by_test true = calls_outside_valid p k ms g r owner m args all fs w na nb fa c
          by_test false = tt
      unfound Constructor y all q fs w fa c = by_core p k ms g r Constructor owner m args all fs w old own na nb fa y c
      unfound (Equality b) y all q fs w fa c = by_core p k ms g r (Equality b) owner m args all fs w old own na nb fa y c
      unfound Concatenation y all q fs w fa c = by_core p k ms g r Concatenation owner m args all fs w old own na nb fa y c
      unfound TextLength y all q fs w fa c = by_core p k ms g r TextLength owner m args all fs w old own na nb fa y c
      unfound IsNullOrEmpty y all q fs w fa c = by_core p k ms g r IsNullOrEmpty owner m args all fs w old own na nb fa y c
      unfound (Quantifier e) y all q fs w fa c = by_core p k ms g r (Quantifier e) owner m args all fs w old own na nb fa y c

      both_give : (b c : Bool) → same_bool b (not c) ≡ true → c ≡ not b
      both_give true true e = absurd cc
      both_give true false e = refl
      both_give false true e = refl
      both_give false false e = absurd cc

      wanted : (n : ℕ) → is_void (storage p (method_of p n).result) ≡ not (gives_value p owner m args) → result_count p n ≡ result_count p m
      wanted n e = ap (λ (c : Bool). if c then 0 else 1) (e ∙ twice _ ∙ void_stays p (args_of owner) args na nb (method_of p m).result)

      plainly : (t : Ty) (s : Seen) (values all : List Value) (q : Option Ty) (fs : List Frame) (w : World) → IsWhole t → body_seen p t (owner, m) ≡ Some s → AllFine values → Waits fs w
          → Stays (if gives_alike p (named all q) s then Rattle.cil_semantics.specs.Calls.plain_call p k s.0 s.1 args values fs w else stuck w)
      plainly t s values all q fs w f e fv c = by_test (gives_alike p (named all q) s) refl
        where
          by_test : (b : Bool) → gives_alike p (named all q) s ≡ b → Stays (if b then Rattle.cil_semantics.specs.Calls.plain_call p k s.0 s.1 args values fs w else stuck w)
          by_test false y = tt
          by_test true y =
              let there = r.found t (owner, m) s old own e in
              let full = found_whole p k ms g r t (owner, m) s f e in
              let same : is_void (storage p (method_of p s.1).result) ≡ not (gives_value p owner m args) =
              sym (void_stays p (args_of s.0) args full nb (method_of p s.1).result) ∙ both_give (gives_value p owner m args) (is_void (storage p (under (args_of s.0) args (method_of p s.1).result))) y in
              calls_plainly_valid p k ms g r s.0 s.1 args values fs w there.0 there.1 full nb fv (as_many m s.1 fs w (wanted s.1 same) c)

      found : (o : Option Seen) (t : Ty) (this : Value) (values all : List Value) (q : Option Ty) (fs : List Frame) (w : World) → body_seen p t (owner, m) ≡ o → IsWhole t → Fine this → AllFine values → AllFine all → Waits fs w → Stays (call_found p k o t (named all q) this values fs w)
      found None t this values all q fs w e f ft fv fa c = unfound (core_of p owner m) gives all q fs w fa c
      found (Some s) t this values all q fs w e f ft fv fa c = plainly t s (this_value p t (out-Value this) this ∷ values) all q fs w f e (this_fine p k ms g r t (out-Value this) this ft, fv) c

      calls_on : (this : Value) (values all : List Value) (q : Option Ty) (fs : List Frame) (w : World) → ((t : Ty) → dynamic_type w this ≡ Some t → IsWhole t) → Fine this → AllFine values → AllFine all → Waits fs w → Stays (call_on p k (named all q) this values fs w)
      calls_on this values all q fs w f ft fv fa c = by_tests (is_null this) (is_invoke p w (named all q) this)
        where
          by_type : (o : Option Ty) → dynamic_type w this ≡ o → Stays (if_there o w (λ t. call_found p k (body_seen p t (owner, m)) t (named all q) this values fs w))
          by_type None e = tt
          by_type (Some t) e = found (body_seen p t (owner, m)) t this values all q fs w refl (f t e) ft fv fa c

          by_tests : (a b : Bool)
              → Stays (if a then raise p k (codes "System.NullReferenceException") fs w else if b then enter_delegate p k (gives_value p owner m args) (out-Value this) values Push fs w else if_there (dynamic_type w this) w (λ t. call_found p k (body_seen p t (owner, m)) t (named all q) this values fs w))
          by_tests true b = raises p k ms g r (codes "System.NullReferenceException") m fs w c
          by_tests false true = delegate_enters p k ms g r (gives_value p owner m args) (out-Value this) values Push fs w c.world fv (λ cells. tt) (λ n e. caller_waits p k ms g r n fs w (as_many m n fs w (wanted n e) c))
          by_tests false false = by_type (dynamic_type w this) refl

      calls_boxed : (t : Ty) (v : Value) (values all : List Value) (q : Option Ty) (fs : List Frame) (w : World) → IsWhole t → Fine v → AllFine values → Waits fs w → Stays (call_boxed p k t v (named all q) values fs w)
      calls_boxed t v values all q fs w f ft fv c = by_cell (new_cell p t v) refl
        where
          by_cell : (o : Option Cell) → new_cell p t v ≡ o → Stays (if_there o w (λ cell. call_on p k (named (Obj (next_object w) ∷ values) q) (Obj (next_object w)) values fs (with_object p (record { ty = t; cells = cell ∷ [] }) w)))
          by_cell None e = tt
          by_cell (Some cell) e =
              calls_on (Obj (next_object w)) values (Obj (next_object w) ∷ values) q fs (with_object p (record { ty = t; cells = cell ∷ [] }) w) (λ u y. subst IsWhole (new_type p (record { ty = t; cells = cell ∷ [] }) w u y) f) tt fv (tt, fv)
              (one_more (record { ty = t; cells = cell ∷ [] }) m fs w (f, (boxed_fine Bs p t v cell ft e, tt)) c)

      own_is : (t : Ty) (s : Seen) → own_body p t (owner, m) ≡ Some s → body_seen p t (owner, m) ≡ Some s
      own_is t s e = by_seen (body_seen p t (owner, m)) e
        where
          by_test : (y : Seen) (b : Bool) → (if b then Some y else None) ≡ Some s → Some y ≡ Some s
          by_test y true q = q
          by_test y false q = absurd (cc q)

          by_seen : (o : Option Seen) → option_and_then (λ (y : Seen). if same_ty y.0 t then Some y else None) o ≡ Some s → o ≡ Some s
          by_seen None h = absurd (cc h)
          by_seen (Some y) h = by_test y (same_ty y.0 t) h

      pointer_fine : (v : Value) (q : Pointer) → Fine v → pointed (out-Value v) ≡ Some q → WellFormedPointer Bs q
      unfolding val.out-Value denote.Hole.Carrier.out
      pointer_fine (val.Ptr q0) q fine e = let y : q0 ≡ q = cc e in subst (WellFormedPointer Bs) y fine
      pointer_fine _ q fine e = absurd (cc e)

      module _ (fs : List Frame) (w : World) (objects : (v : Value) (t : Ty) → dynamic_type w v ≡ Some t → IsWhole t) (c : Waits fs w) where
        read_there : (x : Pointer) (v : Value) → WellFormedPointer Bs x → read p fs w x ≡ Some v → Fine v
        read_there x v fx e = read_fine Bs p fs w x v (frames_fine p k ms g r fs c.tail.others) c.world e

        calls_struct : (o : Option Seen) (t : Ty) (x : Pointer) (values all : List Value) (q : Option Ty) → own_body p t (owner, m) ≡ o → IsWhole t → WellFormedPointer Bs x → AllFine values → Stays (call_struct p k o t x (named all q) values fs w)
        calls_struct (Some s) t x values all q e f fx fv = plainly t s (Ptr x ∷ values) all q fs w f (own_is t s e) (fx, fv) c
        calls_struct None t x values all q e f fx fv = by_value (read p fs w x) refl
          where
            by_value : (o : Option Value) → read p fs w x ≡ o → Stays (if_there o w (λ v. call_boxed p k t v (named all q) values fs w))
            by_value None h = tt
            by_value (Some v) h = calls_boxed t v values all q fs w f (read_there x v fx h) fv c

        calls_constrained : (q : Option Ty) (this : Value) (values : List Value) → ((t : Ty) → q ≡ Some t → IsWhole t) → Fine this → AllFine values → Stays (call_constrained p k q (named (this ∷ values) q) this values fs w)
        calls_constrained None this values own_type ft fv = calls_on this values (this ∷ values) None fs w (objects this) ft fv (ft, fv) c
        calls_constrained (Some t) this values own_type ft fv = by_pointer (pointed (out-Value this)) refl
          where
            by_kind : (x : Pointer) → WellFormedPointer Bs x → (b : Bool) → Stays (if b then if_there (read p fs w x) w (λ v. call_on p k (named (v ∷ values) (Some t)) v values fs w) else call_struct p k (own_body p t (owner, m)) t x (named (this ∷ values) (Some t)) values fs w)
            by_kind x fx false = calls_struct (own_body p t (owner, m)) t x values (this ∷ values) (Some t) refl (own_type t refl) fx fv
            by_kind x fx true = by_value (read p fs w x) refl
              where
                by_value : (o : Option Value) → read p fs w x ≡ o → Stays (if_there o w (λ v. call_on p k (named (v ∷ values) (Some t)) v values fs w))
                by_value None h = tt
                by_value (Some v) h = calls_on v values (v ∷ values) (Some t) fs w (objects v) (read_there x v fx h) fv (read_there x v fx h, fv) c

            by_pointer : (o : Option Pointer) → pointed (out-Value this) ≡ o
                → Stays (if_there o w (λ x. if is_reference (storage p t) then if_there (read p fs w x) w (λ v. call_on p k (named (v ∷ values) (Some t)) v values fs w) else call_struct p k (own_body p t (owner, m)) t x (named (this ∷ values) (Some t)) values fs w))
            by_pointer None e = tt
            by_pointer (Some x) e = by_kind x (pointer_fine this x ft e) (is_reference (storage p t))

        -- callvirt
        pub virtual_stays : (values : List Value) (q : Option Ty) → ((t : Ty) → q ≡ Some t → IsWhole t) → AllFine values → Stays (call_virtual p k (named values q) fs w)
        unfolding call_virtual
        virtual_stays values q own_type fv = by_static (method_of p m).is_static
          where
            by_values : (vs : List Value) → AllFine vs → Stays (call_virtual_on p k (named vs q) vs fs w)
            by_values [] h = tt
            by_values (this ∷ rest) h = calls_constrained q this rest own_type h.0 h.1

            by_static : (b : Bool) → Stays (if b then stuck w else call_virtual_on p k (named values q) values fs w)
            by_static true = tt
            by_static false = by_values values fv

    -- ldvirtftn, from frames that wait for one value
    module _ (fs : List Frame) (w : World) (objects : (v : Value) (t : Ty) → dynamic_type w v ≡ Some t → IsWhole t) (c : Rattle.valid_calls.specs.Members.MayMake p k ms g r fs w) where
      function_fine : (t : Ty) (all : List Value) (q : Option Ty) → IsWhole t → (o : Option Seen) → body_seen p t (owner, m) ≡ o → Fine (function_of p (named all q) o)
      function_fine t all q f None e = (old, na, nb)
      function_fine t all q f (Some s) e = ((r.found t (owner, m) s old own e).0, found_whole p k ms g r t (owner, m) s f e, nb)

      pub function_stays : (values all : List Value) (q : Option Ty) → Stays (find_virtual_on p k (named all q) values fs w)
      function_stays [] all q = tt
      function_stays (this ∷ values) all q = by_null (is_null this)
        where
          by_type : (o : Option Ty) → dynamic_type w this ≡ o → Stays (if_there o w (λ t. push_below p k (Some (function_of p (named all q) (body_seen p t (owner, m)))) fs w))
          by_type None e = tt
          by_type (Some t) e =
              pushes_valid p k ms g r (Some (function_of p (named all q) (body_seen p t (owner, m)))) fs w
              (record { others = c.tail.others; returning = c.tail.returning; heights = c.tail.heights; world = c.world; count = c.count; deep = c.deep }) (function_fine t all q (objects this t e) (body_seen p t (owner, m)) refl) c.next

          by_null : (b : Bool) → Stays (if b then raise p k (codes "System.NullReferenceException") fs w else if_there (dynamic_type w this) w (λ t. push_below p k (Some (function_of p (named all q) (body_seen p t (owner, m)))) fs w))
          by_null true =
              Rattle.simulation_valid.proofs.UnwindValidLaws.unwinds p k ms g r Push fs c.tail (with_object p (record { ty = Rattle.cil_semantics.specs.Core.class_named (codes "System.NullReferenceException"); cells = [] }) w) (next_object w)
              (object_added Bs p (record { ty = Rattle.cil_semantics.specs.Core.class_named (codes "System.NullReferenceException"); cells = [] }) w (class_typed Bs (codes "System.NullReferenceException"), tt) c.world) c.count c.deep
          by_null false = by_type (dynamic_type w this) refl
