-- Calls: core members, members outside, bodies, virtual calls, `constrained.`, and ldvirtftn.
use Rattle.std.proofs.Common.{◌≡◌, ℕ, suc, ◌+◌, ◌<◌, ◌≤◌, List, [], ◌∷◌, ◌++◌, length, Option, Some, None, refl, sym, ap, ◌∙◌, subst, ◌⊎◌, inl, inr}
use Rattle.std.specs.Prelude.{Bool, true, false, ◌&&◌, bytes_eq, if◌then◌else◌, nat_lt, is_some, option_map, option_and_then, codes}
use Rattle.std.proofs.lemmas.Bool.{cases_lt, lt-ltb, ltb-true}
use Rattle.cil_model.specs.declared.ty.Ty.{Ty, out-Ty, Known}
use Rattle.cil_model.specs.declared.ty.Ty as types
use Rattle.cil_model.specs.declared.ty.Ty.TheOpen.{Ty-F}
use Rattle.cil_model.specs.declared.value.Value.{Value, out-Value, Obj, Ptr}
use Rattle.cil_model.specs.declared.value.Value as val
use Rattle.cil_model.specs.declared.value.Value.TheOpen.{Value-F}
use Rattle.cil_model.specs.declared.value.Value.TheVariants as value
use Rattle.cil_model.specs.declared.value.Pointer.{Pointer}
use Rattle.cil_model.specs.declared.value.Pointer.TheVariants.{Inside}
use Rattle.cil_model.specs.declared.contract.Contracts.{Contracts}
use Rattle.cil_model.specs.declared.program.Kind.{Kind}
use Rattle.cil_model.specs.declared.program.Program.{Program}
use Rattle.cil_model.specs.declared.program.MethodDesc.{MethodDesc}
use Rattle.cil_semantics.specs.Words.{maybe, same_bool}
use Rattle.cil_semantics.specs.Types.{same_ty}
use Rattle.cil_semantics.specs.Core.{Name, string_ty}
use Rattle.cil_semantics.specs.Lookups.{type_of, method_of, in_set, args_of}
use Rattle.cil_semantics.specs.Dispatch.{Seen}
use Rattle.cil_semantics.specs.declared.state.Cell.{Cell}
use Rattle.cil_semantics.specs.declared.state.Object.{Object}
use Rattle.cil_semantics.specs.declared.state.World.{World}
use Rattle.cil_semantics.specs.declared.state.Frame.{Frame}
use Rattle.cil_semantics.specs.declared.state.Remaining.{Remaining}
use Rattle.cil_semantics.specs.declared.state.Remaining.TheVariants.{Range, Elements}
use Rattle.cil_semantics.specs.declared.state.Continuation.TheVariants.{Push}
use Rattle.cil_semantics.specs.State.{Next, next_object, with_object, object_at}
use Rattle.cil_semantics.specs.Places.{Storage, Reference, storage, storage_at, is_reference, kind_storage, new_cell}
use Rattle.cil_semantics.specs.Acts.{Call, dynamic_at, dynamic_type, is_null}
use Rattle.cil_semantics.specs.Unwind.{raise}
use Rattle.cil_semantics.specs.Frames.{if_there, stuck, read, this_value, gives_value, enter, enter_delegate, next_try, parts_of}
use Rattle.cil_semantics.specs.Outside.{is_outside}
use Rattle.cil_semantics.specs.Returns.{push_below, try_next}
use Rattle.cil_semantics.specs.Calls.{CoreMember, Constructor, Equality, Concatenation, TextLength, IsNullOrEmpty, Quantifier, NotCore, core_of, Texted, NullText, SomeText, NotText, string_answer, count_units, outside_call, number_in, array_in, quantify, plain_call, first_texted, call_core, call_member, body_seen, gives_alike, call_unfound, call_found, is_delegate_kind, may_be_delegate, is_delegate_at, is_invoke, call_on, pointed, own_body, call_boxed, call_struct, call_constrained, call_virtual_on, call_virtual, function_of, find_virtual_on}
use Rattle.cil_semantics.specs.Checks.{AddedNumbers}
use Rattle.machine_laws.specs.Answers.{Each, IsOld, is_below}
use Rattle.machine_laws.proofs.FindLaws.{each_append}
use Rattle.splice_facts.specs.Related.{Rewritten, bounds}
use Rattle.splice_facts.specs.WellFormed.{WellFormedValue, WellFormedValues, WellFormedCells, WellFormedObjects, WellFormedWorld, WellFormedPointer}
use Rattle.simulation_objects.specs.Calls.{WellFormedFrames}
use Rattle.simulation_objects.proofs.StoredLaws.{read_fine}
use Rattle.grown_runs.specs.Grown.{GrowsAround, IsHeld}
use Rattle.grown_runs.specs.Looks.{LooksAlike}
use Rattle.grown_runs.proofs.AlikeLaws.{option_on, HeldWorld, held_at, Alike, ends, there, perhaps, choose, given}
use Rattle.grown_runs.proofs.MoveLaws.{OwnFrames, class_held, object_held, with_new, unwinds, raises}
use Rattle.grown_runs.proofs.ReadLaws.{OwnPointer, new_same, read_same}
use Rattle.grown_runs.proofs.EnterLaws.{OwnFunction, OwnDelegate, OwnDelegates, gives_same, enters, enters_delegate, this_value_same}
use Rattle.grown_runs.proofs.ReturnLaws.{pushes, tries}
use Rattle.grown_runs.proofs.OutsideLaws.{owns, own_pointer, calls_outside}

module _ (p0 p : Program) (k : Contracts) (ms : List MethodDesc) (g : AddedNumbers) (r : Rewritten p k ms g) (h : GrowsAround p0 p k g.exception) (l : LooksAlike p0 p g.exception) (ty : r.types ≡ length p0.types) (me : r.methods ≡ length p0.methods) where
  abbrev A : (Program → Next) → Type 0
  A F = Alike p0 p g.exception F

  abbrev Held : World → Type 0
  Held w = HeldWorld p0 g.exception w

  abbrev IsOwn : ℕ → Type 0
  IsOwn m = m < length p0.methods

  abbrev Fine : List Value → Type 0
  Fine vs = WellFormedValues (bounds p k ms g r) vs

  -- the frames that call, and the world
  pub record Calls (fs : List Frame) (w : World) : Type 0 where
    pub others : OwnFrames p0 fs
    pub delegates : OwnDelegates p0 w
    pub held : HeldWorld p0 g.exception w

  pub pushes_it : (v : Option Value) (fs : List Frame) (w : World) → Calls fs w → A (λ q. push_below q k v fs w)
  pushes_it v fs w c = pushes p0 p k g.exception h l (owns p0 p k ms g r h l ty me) v fs w c.others c.held

  pub raises_it : (name : Name) (fs : List Frame) (w : World) → Calls fs w → A (λ q. raise q k name fs w)
  raises_it name fs w c = raises p0 p k g.exception h l name fs w c.others c.held

  -- ---- a member that is settled

  tries_it : (exists : Bool) (target : Value) (o : Option (Value × Remaining)) (fs : List Frame) (w : World) → Calls fs w → A (λ q. try_next q k exists target o fs w)
  tries_it exists target o fs w c = tries p0 p k g.exception h l (owns p0 p k ms g r h l ty me) exists target o fs w c.delegates c.others c.held

  body_there : (m : ℕ) → IsOwn m → is_some (method_of p m).body ≡ is_some (method_of p0 m).body
  body_there m own = (h.tables.extends.methods m own).has_body

  pub calls_plainly : (owner : Ty) (m : ℕ) (args : List Ty) (values : List Value) (fs : List Frame) (w : World) → IsOld p0 owner → IsOwn m → Fine values → Calls fs w → A (λ q. plain_call q k owner m args values fs w)
  calls_plainly owner m args values fs w old own fine c =
      choose p0 p g.exception (λ q. is_outside q m) (λ q. outside_call q k owner m args values fs w) (λ q. if is_some (method_of q m).body then enter q k owner m args values Push fs w else stuck w) (l.outside m own)
      (λ t. calls_outside p0 p k ms g r h l ty me owner m args values fs w old own fine c.others c.held)
      (λ t. choose p0 p g.exception (λ q. is_some (method_of q m).body) (λ q. enter q k owner m args values Push fs w) (λ q. stuck w) (body_there m own)
      (λ u. enters p0 p k g.exception h l (owns p0 p k ms g r h l ty me) owner m args values Push fs w old own c.others c.held) (λ u. ends p0 p g.exception w))

  quantifies : (exists : Bool) (values : List Value) (fs : List Frame) (w : World) (other : Program → Next) → Calls fs w → A other → A (λ q. quantify q k exists values fs w (other q))
  quantifies exists [] fs w other c a = ends p0 p g.exception w
  quantifies exists (x ∷ []) fs w other c a = ends p0 p g.exception w
  quantifies exists (items ∷ target ∷ []) fs w other c a =
      perhaps p0 p g.exception (λ q. array_in w (out-Value items)) other (λ q x. try_next q k exists target (next_try w (Elements x 0)) fs w) refl (λ t. a) (λ x t. tries_it exists target (next_try w (Elements x 0)) fs w c)
  quantifies exists (from ∷ to ∷ target ∷ []) fs w other c a =
      there p0 p g.exception w (λ q. option_and_then (λ a. option_map (λ b. Range a b) (number_in (out-Value to))) (number_in (out-Value from))) (λ q left. try_next q k exists target (next_try w left) fs w) refl (λ left t. tries_it exists target (next_try w left) fs w c)
  quantifies exists (x ∷ y ∷ z ∷ u ∷ vs) fs w other c a = ends p0 p g.exception w

  counts : (x : Texted) (fs : List Frame) (w : World) → Calls fs w → A (λ q. count_units q k x fs w)
  counts NullText fs w c = raises_it (codes "System.NullReferenceException") fs w c
  counts (SomeText units) fs w c = pushes_it _ fs w c
  counts NotText fs w c = ends p0 p g.exception w

  pub calls_core : (x : CoreMember) (owner : Ty) (m : ℕ) (args : List Ty) (values : List Value) (fs : List Frame) (w : World) → IsOld p0 owner → IsOwn m → Fine values → Calls fs w → A (λ q. call_core q k x owner m args values fs w)
  calls_core Constructor owner m args values fs w old own fine c = pushes_it None fs w c
  calls_core (Equality b) owner m args values fs w old own fine c = there p0 p g.exception w (λ q. string_answer (Equality b) values) (λ q v. push_below q k (Some v) fs w) refl (λ v t. pushes_it (Some v) fs w c)
  calls_core Concatenation owner m args values fs w old own fine c = there p0 p g.exception w (λ q. string_answer Concatenation values) (λ q v. push_below q k (Some v) fs w) refl (λ v t. pushes_it (Some v) fs w c)
  calls_core TextLength owner m args values fs w old own fine c = counts (first_texted values) fs w c
  calls_core IsNullOrEmpty owner m args values fs w old own fine c = there p0 p g.exception w (λ q. string_answer IsNullOrEmpty values) (λ q v. push_below q k (Some v) fs w) refl (λ v t. pushes_it (Some v) fs w c)
  calls_core (Quantifier exists) owner m args values fs w old own fine c = quantifies exists values fs w (λ q. plain_call q k owner m args values fs w) c (calls_plainly owner m args values fs w old own fine c)
  calls_core NotCore owner m args values fs w old own fine c = calls_plainly owner m args values fs w old own fine c

  pub calls_member : (owner : Ty) (m : ℕ) (args : List Ty) (values : List Value) (fs : List Frame) (w : World) → IsOld p0 owner → IsOwn m → Fine values → Calls fs w → A (λ q. call_member q k owner m args values fs w)
  unfolding call_member
  calls_member owner m args values fs w old own fine c =
      given p0 p g.exception (λ q. core_of q owner m) (λ q x. call_core q k x owner m args values fs w) (l.cores owner m own old) (calls_core (core_of p owner m) owner m args values fs w old own fine c)

  -- ---- virtual calls

  string_old : IsOld p0 string_ty
  unfolding types.out-Ty denote.Hole.Carrier.out
  string_old = refl

  -- the type of a value that a run holds
  pub type_held : (w : World) (v : Value) (t : Ty) → Held w → dynamic_type w v ≡ Some t → IsHeld p0 g.exception t
  type_held w v t held q = by_out (out-Value v) q
    where
      by_object : (x : ℕ) (o : Option Object) → object_at w x ≡ o → option_map (λ (o : Object). o.ty) o ≡ Some t → IsHeld p0 g.exception t
      by_object x None s z = absurd (cc z)
      by_object x (Some o) s z = let y : o.ty ≡ t = cc z in subst (IsHeld p0 g.exception) y (held_at p0 g.exception w x o held s)

      by_out : (o : Value-F Value) → dynamic_at w o ≡ Some t → IsHeld p0 g.exception t
      by_out (Value-F.Obj x) z = by_object x (object_at w x) refl z
      by_out (Value-F.Text units) z = let y : string_ty ≡ t = cc z in subst (IsHeld p0 g.exception) y (inl string_old)
      by_out Value-F.Null z = absurd (cc z)
      by_out (Value-F.I4 n) z = absurd (cc z)
      by_out (Value-F.I8 n) z = absurd (cc z)
      by_out (Value-F.Native n) z = absurd (cc z)
      by_out (Value-F.Ptr x) z = absurd (cc z)
      by_out (Value-F.Struct vs) z = absurd (cc z)
      by_out (Value-F.Func m u) z = absurd (cc z)
      by_out (Value-F.Opaque bytes) z = absurd (cc z)

  this_fine : (t : Ty) (v : Value) → WellFormedValue (bounds p k ms g r) v → WellFormedValue (bounds p k ms g r) (this_value p t (out-Value v) v)
  this_fine t v fine = by_out (out-Value v) (is_reference (storage p t))
    where
      by_kind : (x : ℕ) (b : Bool) → WellFormedValue (bounds p k ms g r) (if b then v else Ptr (Inside x (0 ∷ [])))
      by_kind x true = fine
      by_kind x false = tt

      by_out : (o : Value-F Value) → Bool → WellFormedValue (bounds p k ms g r) (this_value p t o v)
      by_out (Value-F.Obj x) b = by_kind x (is_reference (storage p t))
      by_out (Value-F.Text units) b = fine
      by_out Value-F.Null b = fine
      by_out (Value-F.I4 n) b = fine
      by_out (Value-F.I8 n) b = fine
      by_out (Value-F.Native n) b = fine
      by_out (Value-F.Ptr x) b = fine
      by_out (Value-F.Struct vs) b = fine
      by_out (Value-F.Func m u) b = fine
      by_out (Value-F.Opaque bytes) b = fine

  -- what is appended is no struct
  pub struct_held : (t : Ty) → is_reference (storage p t) ≡ false → IsHeld p0 g.exception t
  unfolding storage
  struct_held t q = by_out (out-Ty t) q
    where
      by_number : (j : ℕ) → is_reference (kind_storage p (type_of p j) (type_of p j).kind) ≡ false → (j < length p0.types) ⊎ (length p0.types ≤ j) → nat_lt j (length p0.types) ≡ true
      by_number j q (inl lt) = lt-ltb j (length p0.types) lt
      by_number j q (inr le) = let z : true ≡ false = sym (ap (λ c. is_reference (kind_storage p (type_of p j) c)) (h.tables.classes j le)) ∙ q in absurd (cc z)

      by_out : (o : Ty-F Ty) → is_reference (storage_at p o) ≡ false → (maybe true (λ (d : ℕ × List Ty). nat_lt d.0 (length p0.types)) (in_set o) ≡ true) ⊎ (t ≡ Known g.exception)
      by_out (Ty-F.Known j) z = inl (by_number j z (cases_lt j (length p0.types)))
      by_out (Ty-F.Inst j args) z = inl (by_number j z (cases_lt j (length p0.types)))
      by_out (Ty-F.Prim b) z = inl refl
      by_out (Ty-F.Outside name b) z = inl refl
      by_out (Ty-F.Array item) z = inl refl
      by_out (Ty-F.ByRef item) z = inl refl
      by_out (Ty-F.Var j) z = inl refl
      by_out (Ty-F.MVar j) z = inl refl
      by_out Ty-F.Opaque z = inl refl

  -- ---- the member that a token names

  module _ (owner : Ty) (m : ℕ) (args : List Ty) (old : IsOld p0 owner) (own : IsOwn m) where
    abbrev named : List Value → Option Ty → Call
    named values q = record { owner = owner; method = m; method_args = args; values = values; constrained = q }

    -- the body that is found is of the input
    found_own : (t : Ty) (s : Seen) → body_seen p t (owner, m) ≡ Some s → IsOwn s.1 × IsOld p0 s.0
    found_own t s q =
        let x = r.found t (owner, m) s (subst (λ n. m < n) (sym me) own) (subst (λ n. is_below n owner ≡ true) (sym ty) old) q in
        (subst (λ n. s.1 < n) me x.0, subst (λ n. is_below n s.0 ≡ true) ty x.1)

    alike_same : (s : Seen) (values : List Value) (q : Option Ty) → IsOwn s.1 → gives_alike p (named values q) s ≡ gives_alike p0 (named values q) s
    alike_same s values q so =
        ap (λ (b : Bool). same_bool b (gives_value p s.0 s.1 args)) (gives_same p0 p k g.exception h l (owns p0 p k ms g r h l ty me) owner m args own)
        ∙ ap (same_bool (gives_value p0 owner m args)) (gives_same p0 p k g.exception h l (owns p0 p k ms g r h l ty me) s.0 s.1 args so)

    unfound : (x : CoreMember) (values : List Value) (q : Option Ty) (fs : List Frame) (w : World) → Fine values → Calls fs w → A (λ p. call_unfound p k x (named values q) fs w)
    unfound NotCore values q fs w fine c =
        choose p0 p g.exception (λ q. is_outside q m) (λ q. outside_call q k owner m args values fs w) (λ q. stuck w) (l.outside m own) (λ t. calls_outside p0 p k ms g r h l ty me owner m args values fs w old own fine c.others c.held) (λ t. ends p0 p g.exception w)
    unfound Constructor values q fs w fine c = calls_core Constructor owner m args values fs w old own fine c
    unfound (Equality b) values q fs w fine c = calls_core (Equality b) owner m args values fs w old own fine c
    unfound Concatenation values q fs w fine c = calls_core Concatenation owner m args values fs w old own fine c
    unfound TextLength values q fs w fine c = calls_core TextLength owner m args values fs w old own fine c
    unfound IsNullOrEmpty values q fs w fine c = calls_core IsNullOrEmpty owner m args values fs w old own fine c
    unfound (Quantifier b) values q fs w fine c = calls_core (Quantifier b) owner m args values fs w old own fine c

    plainly : (t : Ty) (s : Seen) (x : List Value) (values : Program → List Value) (all : List Value) (c0 : Option Ty) (fs : List Frame) (w : World) → body_seen p t (owner, m) ≡ Some s → values p ≡ values p0 → Fine (values p) → Calls fs w
        → A (λ q. if gives_alike q (named all c0) s then plain_call q k s.0 s.1 args (values q) fs w else stuck w)
    plainly t s x values all c0 fs w found same fine c =
        choose p0 p g.exception (λ q. gives_alike q (named all c0) s) (λ q. plain_call q k s.0 s.1 args (values q) fs w) (λ q. stuck w) (alike_same s all c0 (found_own t s found).0)
        (λ u. given p0 p g.exception values (λ q vs. plain_call q k s.0 s.1 args vs fs w) same (calls_plainly s.0 s.1 args (values p) fs w (found_own t s found).1 (found_own t s found).0 fine c)) (λ u. ends p0 p g.exception w)

    finds : (o : Option Seen) (t : Ty) (this : Value) (values all : List Value) (c0 : Option Ty) (fs : List Frame) (w : World) → body_seen p t (owner, m) ≡ o → WellFormedValue (bounds p k ms g r) this → Fine values → Fine all → Calls fs w → A (λ q. call_found q k o t (named all c0) this values fs w)
    finds None t this values all c0 fs w found ft fv fa c =
        given p0 p g.exception (λ q. core_of q owner m) (λ q x. call_unfound q k x (named all c0) fs w) (l.cores owner m own old) (unfound (core_of p owner m) all c0 fs w fa c)
    finds (Some s) t this values all c0 fs w found ft fv fa c =
        plainly t s values (λ q. this_value q t (out-Value this) this ∷ values) all c0 fs w found (ap (λ v. v ∷ values) (this_value_same p0 p k g.exception h l (owns p0 p k ms g r h l ty me) t (out-Value this) this)) (this_fine t this ft, fv) c

    delegate_same : (d : Option (ℕ × List Ty)) → in_set (out-Ty owner) ≡ d → maybe true (λ (d : ℕ × List Ty). is_delegate_kind (type_of p d.0).kind) d ≡ maybe true (λ (d : ℕ × List Ty). is_delegate_kind (type_of p0 d.0).kind) d
    delegate_same None q = refl
    delegate_same (Some d) q = ap is_delegate_kind (h.tables.extends.types d.0 (ltb-true d.0 (length p0.types) (sym (ap (maybe true (λ (d : ℕ × List Ty). nat_lt d.0 (length p0.types))) q) ∙ old))).kind

    pub may_same : may_be_delegate p owner ≡ may_be_delegate p0 owner
    may_same = delegate_same (in_set (out-Ty owner)) refl

    invoke_same : (w : World) (values : List Value) (c0 : Option Ty) (this : Value) → is_invoke p w (named values c0) this ≡ is_invoke p0 w (named values c0) this
    invoke_same w values c0 this =
        ap (λ (n : Name). bytes_eq n (codes "Invoke") && (may_be_delegate p owner && is_delegate_at w (out-Value this))) (h.tables.extends.methods m own).name
        ∙ ap (λ (b : Bool). bytes_eq (method_of p0 m).name (codes "Invoke") && (b && is_delegate_at w (out-Value this))) may_same

    calls_on : (this : Value) (values all : List Value) (c0 : Option Ty) (fs : List Frame) (w : World) → WellFormedValue (bounds p k ms g r) this → Fine values → Fine all → Calls fs w → A (λ q. call_on q k (named all c0) this values fs w)
    calls_on this values all c0 fs w ft fv fa c =
        choose p0 p g.exception (λ q. is_null this) (λ q. raise q k (codes "System.NullReferenceException") fs w)
        (λ q. if is_invoke q w (named all c0) this then enter_delegate q k (gives_value q owner m args) (out-Value this) values Push fs w else if_there (dynamic_type w this) w (λ t. call_found q k (body_seen q t (owner, m)) t (named all c0) this values fs w)) refl
        (λ t. raises_it (codes "System.NullReferenceException") fs w c)
        (λ t. choose p0 p g.exception (λ q. is_invoke q w (named all c0) this) (λ q. enter_delegate q k (gives_value q owner m args) (out-Value this) values Push fs w) (λ q. if_there (dynamic_type w this) w (λ t. call_found q k (body_seen q t (owner, m)) t (named all c0) this values fs w)) (invoke_same w all c0 this)
        (λ u. given p0 p g.exception (λ q. gives_value q owner m args) (λ q b. enter_delegate q k b (out-Value this) values Push fs w) (gives_same p0 p k g.exception h l (owns p0 p k ms g r h l ty me) owner m args own)
        (enters_delegate p0 p k g.exception h l (owns p0 p k ms g r h l ty me) (gives_value p owner m args) (out-Value this) values Push fs w c.delegates c.others c.held))
        (λ u. there p0 p g.exception w (λ q. dynamic_type w this) (λ q t. call_found q k (body_seen q t (owner, m)) t (named all c0) this values fs w) refl
        (λ t s. given p0 p g.exception (λ q. body_seen q t (owner, m)) (λ q o. call_found q k o t (named all c0) this values fs w) (l.bodies t (owner, m) (type_held w this t c.held s) old own)
        (finds (body_seen p t (owner, m)) t this values all c0 fs w refl ft fv fa c))))

    -- ---- constrained.

    with_box : (t : Ty) (cell : Cell) (q : Program) (fs : List Frame) (w : World) → IsHeld p0 g.exception t → Calls fs w → Calls fs (with_object q (record { ty = t; cells = cell ∷ [] }) w)
    with_box t cell q fs w th c =
        record {
          others = c.others;
          delegates = each_append (OwnDelegate p0) w.heap (record { ty = t; cells = cell ∷ [] } ∷ []) c.delegates (λ d e. absurd (cc e), tt);
          held = object_held p0 g.exception q (record { ty = t; cells = cell ∷ [] }) w th c.held;
        }

    boxes : (t : Ty) (v : Value) (values all : List Value) (c0 : Option Ty) (fs : List Frame) (w : World) → IsHeld p0 g.exception t → Fine values → Calls fs w → A (λ q. call_boxed q k t v (named all c0) values fs w)
    boxes t v values all c0 fs w th fv c =
        there p0 p g.exception w (λ q. new_cell q t v) (λ q cell. call_on q k (named (Obj (next_object w) ∷ values) c0) (Obj (next_object w)) values fs (with_object q (record { ty = t; cells = cell ∷ [] }) w)) (new_same p0 p k g.exception h l t v)
        (λ cell s. with_new p0 p k g.exception h l (record { ty = t; cells = cell ∷ [] }) w (λ q u. call_on q k (named (Obj (next_object w) ∷ values) c0) (Obj (next_object w)) values fs u) th c.held
        (λ u same okay. calls_on (Obj (next_object w)) values (Obj (next_object w) ∷ values) c0 fs u tt fv (tt, fv) (subst (Calls fs) (sym same) (with_box t cell p fs w th c))))

    pointer_fine : (v : Value) (q : Pointer) → WellFormedValue (bounds p k ms g r) v → pointed (out-Value v) ≡ Some q → WellFormedPointer (bounds p k ms g r) q
    unfolding val.out-Value denote.Hole.Carrier.out
    pointer_fine (val.Ptr q0) q fine e = let y : q0 ≡ q = cc e in subst (WellFormedPointer (bounds p k ms g r)) y fine
    pointer_fine _ q fine e = absurd (cc e)

    own_same : (t : Ty) → IsHeld p0 g.exception t → own_body p t (owner, m) ≡ own_body p0 t (owner, m)
    own_same t th = ap (λ (o : Option Seen). option_and_then (λ (x : Seen). if same_ty x.0 t then Some x else None) o) (l.bodies t (owner, m) th old own)

    own_is : (t : Ty) (s : Seen) → own_body p t (owner, m) ≡ Some s → body_seen p t (owner, m) ≡ Some s
    own_is t s e = by_seen (body_seen p t (owner, m)) e
      where
        by_test : (y : Seen) (b : Bool) → (if b then Some y else None) ≡ Some s → Some y ≡ Some s
        by_test y true q = q
        by_test y false q = absurd (cc q)

        by_seen : (o : Option Seen) → option_and_then (λ (y : Seen). if same_ty y.0 t then Some y else None) o ≡ Some s → o ≡ Some s
        by_seen None q = absurd (cc q)
        by_seen (Some y) q = by_test y (same_ty y.0 t) q

    module _ (fs : List Frame) (w : World) (c : Calls fs w) (places : WellFormedFrames (bounds p k ms g r) fs) (world : WellFormedWorld (bounds p k ms g r) w) where
      read_there : (x : Pointer) (v : Value) → read p fs w x ≡ Some v → WellFormedValue (bounds p k ms g r) v
      read_there x v e = read_fine (bounds p k ms g r) p fs w x v places world e

      reads_same : (x : Pointer) → WellFormedPointer (bounds p k ms g r) x → read p fs w x ≡ read p0 fs w x
      reads_same x fx = read_same p0 p k g.exception h l fs w x (own_pointer p0 p k ms g r h l ty me x fx)

      structs : (o : Option Seen) (t : Ty) (x : Pointer) (values all : List Value) (c0 : Option Ty) → own_body p t (owner, m) ≡ o → IsHeld p0 g.exception t → WellFormedPointer (bounds p k ms g r) x → Fine values → A (λ q. call_struct q k o t x (named all c0) values fs w)
      structs (Some s) t x values all c0 e th fx fv = plainly t s values (λ q. Ptr x ∷ values) all c0 fs w (own_is t s e) refl (fx, fv) c
      structs None t x values all c0 e th fx fv =
          there p0 p g.exception w (λ q. read q fs w x) (λ q v. call_boxed q k t v (named all c0) values fs w) (reads_same x fx) (λ v s. boxes t v values all c0 fs w th fv c)

      constrains : (c0 : Option Ty) (this : Value) (values : List Value) → WellFormedValue (bounds p k ms g r) this → Fine values → A (λ q. call_constrained q k c0 (named (this ∷ values) c0) this values fs w)
      constrains None this values ft fv = calls_on this values (this ∷ values) None fs w ft fv (ft, fv) c
      constrains (Some t) this values ft fv =
          there p0 p g.exception w (λ q. pointed (out-Value this))
          (λ q x. if is_reference (storage q t) then if_there (read q fs w x) w (λ v. call_on q k (named (v ∷ values) (Some t)) v values fs w) else call_struct q k (own_body q t (owner, m)) t x (named (this ∷ values) (Some t)) values fs w) refl
          (λ x s. let fx = pointer_fine this x ft s in
          choose p0 p g.exception (λ q. is_reference (storage q t)) (λ q. if_there (read q fs w x) w (λ v. call_on q k (named (v ∷ values) (Some t)) v values fs w)) (λ q. call_struct q k (own_body q t (owner, m)) t x (named (this ∷ values) (Some t)) values fs w) (ap is_reference (l.storages t))
          (λ u. there p0 p g.exception w (λ q. read q fs w x) (λ q v. call_on q k (named (v ∷ values) (Some t)) v values fs w) (reads_same x fx) (λ v z. calls_on v values (v ∷ values) (Some t) fs w (read_there x v z) fv (read_there x v z, fv) c))
          (λ u. given p0 p g.exception (λ q. own_body q t (owner, m)) (λ q o. call_struct q k o t x (named (this ∷ values) (Some t)) values fs w) (own_same t (struct_held t u)) (structs (own_body p t (owner, m)) t x values (this ∷ values) (Some t) refl (struct_held t u) fx fv)))

      on_values : (c0 : Option Ty) (vs : List Value) → Fine vs → A (λ q. call_virtual_on q k (named vs c0) vs fs w)
      on_values c0 [] fv = ends p0 p g.exception w
      on_values c0 (this ∷ values) fv = constrains c0 this values fv.0 fv.1

      pub calls_virtual : (values : List Value) (c0 : Option Ty) → Fine values → A (λ q. call_virtual q k (named values c0) fs w)
      unfolding call_virtual
      calls_virtual values c0 fv =
          choose p0 p g.exception (λ q. (method_of q m).is_static) (λ q. stuck w) (λ q. call_virtual_on q k (named values c0) values fs w) (h.tables.extends.methods m own).is_static (λ u. ends p0 p g.exception w) (λ u. on_values c0 values fv)

      -- ldvirtftn
      pub finds_function : (vs all : List Value) (c0 : Option Ty) → A (λ q. find_virtual_on q k (named all c0) vs fs w)
      finds_function [] all c0 = ends p0 p g.exception w
      finds_function (this ∷ vs) all c0 =
          choose p0 p g.exception (λ q. is_null this) (λ q. raise q k (codes "System.NullReferenceException") fs w) (λ q. if_there (dynamic_type w this) w (λ t. push_below q k (Some (function_of q (named all c0) (body_seen q t (owner, m)))) fs w)) refl
          (λ u. raises_it (codes "System.NullReferenceException") fs w c)
          (λ u. there p0 p g.exception w (λ q. dynamic_type w this) (λ q t. push_below q k (Some (function_of q (named all c0) (body_seen q t (owner, m)))) fs w) refl
          (λ t s. given p0 p g.exception (λ q. body_seen q t (owner, m)) (λ q o. push_below q k (Some (function_of q (named all c0) o)) fs w) (l.bodies t (owner, m) (type_held w this t c.held s) old own)
          (by_seen (body_seen p t (owner, m)))))
        where
          by_seen : (o : Option Seen) → A (λ q. push_below q k (Some (function_of q (named all c0) o)) fs w)
          by_seen None = pushes_it _ fs w c
          by_seen (Some s) = pushes_it _ fs w c
