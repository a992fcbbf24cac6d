-- A call of a member: core members push what they answer, ForAll and Exists call their delegate, others are called plainly.
use Rattle.std.proofs.Common.{ℕ, ◌<◌, Bool, true, false, List, [], ◌∷◌, length, Option, Some, None, sym, subst}
use Rattle.std.specs.Prelude.{not, option_map, option_and_then, IsTrue, ◌==◌, codes}
use Rattle.cil_model.specs.declared.ty.Ty.{Ty}
use Rattle.cil_model.specs.declared.value.Value.{Value, out-Value}
use Rattle.cil_model.specs.declared.contract.Contracts.{Contracts}
use Rattle.cil_model.specs.declared.program.Program.{Program}
use Rattle.cil_model.specs.declared.program.MethodDesc.{MethodDesc}
use Rattle.cil_semantics.specs.Words.{maybe}
use Rattle.cil_semantics.specs.Core.{Name, class_named}
use Rattle.cil_semantics.specs.Lookups.{args_of}
use Rattle.cil_semantics.specs.Acts.{flag}
use Rattle.cil_semantics.specs.declared.state.World.{World}
use Rattle.cil_semantics.specs.declared.state.Frame.{Frame}
use Rattle.cil_semantics.specs.declared.state.Continuation.TheVariants.{Push, TryNext}
use Rattle.cil_semantics.specs.declared.state.Remaining.{Remaining}
use Rattle.cil_semantics.specs.declared.state.Remaining.TheVariants.{Range, Elements}
use Rattle.cil_semantics.specs.State.{Next, next_object, with_object}
use Rattle.cil_semantics.specs.Unwind.{raise}
use Rattle.cil_semantics.specs.Frames.{if_there, next_try}
use Rattle.cil_semantics.specs.Returns.{push_below, try_next}
use Rattle.cil_semantics.specs.Calls.{CoreMember, Constructor, Equality, Concatenation, TextLength, IsNullOrEmpty, Quantifier, NotCore, Texted, NullText, SomeText, NotText, texted, same_text, units_of, joined, is_empty_text, wanted_flag, string_answer, count_units, first_texted, number_in, array_in, quantify, plain_call, call_core, core_of, call_member}
use Rattle.cil_semantics.specs.Checks.{AddedNumbers}
use Rattle.machine_laws.specs.Answers.{is_below}
use Rattle.splice_facts.specs.WellFormed.{Bounds, NoneVoid, WellFormedValue, WellFormedValues, WellFormedIf}
use Rattle.splice_facts.specs.Input.{result_count}
use Rattle.splice_facts.specs.Related.{Rewritten, HasHeight, bounds}
use Rattle.splice_facts.specs.Related as Pairs
use Rattle.simulation_valid.specs.Keeping.{StaysValid}
use Rattle.simulation_valid.specs.Steps.{NextHeight, MayPush, MayReturn, MayCall}
use Rattle.simulation_valid.proofs.WorldLaws.{object_added, class_typed}
use Rattle.simulation_valid.proofs.UnwindValidLaws.{unwinds}
use Rattle.simulation_valid.proofs.PushValidLaws.{pushes_valid}
use Rattle.simulation_valid.proofs.CallValidLaws.{calls_plainly_valid}
use Rattle.simulation_valid.proofs.DelegateValidLaws.{tried_fine}
use Rattle.simulation_valid.proofs.ReturnValidLaws.{tries_valid}
use Rattle.valid_calls.specs.Members.{GivesAsDescribed}

module _ (b : Bounds) where
  flag_fine : (c : Bool) → WellFormedValue b (flag c)
  flag_fine true = tt
  flag_fine false = tt

  equality_fine : (wanted : Bool) (values : List Value) → WellFormedIf b (string_answer (Equality wanted) values)
  equality_fine wanted [] = tt
  equality_fine wanted (x ∷ []) = tt
  equality_fine wanted (x ∷ y ∷ z ∷ more) = tt
  equality_fine wanted (x ∷ y ∷ []) = by_answer (same_text (texted x) (texted y))
    where
      by_wanted : (u v : Bool) → WellFormedValue b (wanted_flag u v)
      by_wanted true v = flag_fine v
      by_wanted false v = flag_fine (not v)

      by_answer : (o : Option Bool) → WellFormedIf b (option_map (wanted_flag wanted) o)
      by_answer None = tt
      by_answer (Some v) = by_wanted wanted v

  joined_fine : (values : List Value) → WellFormedIf b (string_answer Concatenation values)
  joined_fine [] = tt
  joined_fine (x ∷ []) = tt
  joined_fine (x ∷ y ∷ z ∷ more) = tt
  joined_fine (x ∷ y ∷ []) = by_texts (units_of (texted x)) (units_of (texted y))
    where
      by_texts : (u v : Option (List ℕ)) → WellFormedIf b (joined u v)
      by_texts None None = tt
      by_texts None (Some v) = tt
      by_texts (Some u) None = tt
      by_texts (Some u) (Some v) = tt

  emptiness_fine : (values : List Value) → WellFormedIf b (string_answer IsNullOrEmpty values)
  emptiness_fine [] = tt
  emptiness_fine (x ∷ y ∷ more) = tt
  emptiness_fine (x ∷ []) = by_text (texted x)
    where
      by_text : (t : Texted) → WellFormedIf b (is_empty_text t)
      by_text NullText = tt
      by_text (SomeText a) = flag_fine (length a == 0)
      by_text NotText = tt

module _ (p : Program) (k : Contracts) (ms : List MethodDesc) (g : AddedNumbers) (r : Rewritten p k ms g) where
  abbrev Stays : Next → Type 0
  Stays x = StaysValid p k ms g r x

  abbrev Bs : Bounds
  Bs = bounds p k ms g r

  pub may_push : (m : ℕ) (fs : List Frame) (w : World) → MayCall p k ms g r m fs w → MayPush p k ms g r fs w
  may_push m fs w c = record { others = c.tail.others; returning = c.tail.returning; heights = c.tail.heights; world = c.world; count = c.count; deep = c.deep }

  pushes_if : (o : Option Value) (m : ℕ) (fs : List Frame) (w : World) → MayCall p k ms g r m fs w → WellFormedIf Bs o → NextHeight p k ms g r 1 fs → Stays (if_there o w (λ v. push_below p k (Some v) fs w))
  pushes_if None m fs w c fine next = tt
  pushes_if (Some v) m fs w c fine next = pushes_valid p k ms g r (Some v) fs w (may_push m fs w c) fine next

  pub raises : (name : Name) (m : ℕ) (fs : List Frame) (w : World) → MayCall p k ms g r m fs w → Stays (raise p k name fs w)
  raises name m fs w c =
      unwinds p k ms g r Push fs c.tail (with_object p (record { ty = class_named name; cells = [] }) w) (next_object w) (object_added Bs p (record { ty = class_named name; cells = [] }) w (class_typed Bs name, tt) c.world) c.count c.deep

  counts : (t : Texted) (m : ℕ) (fs : List Frame) (w : World) → MayCall p k ms g r m fs w → NextHeight p k ms g r 1 fs → Stays (count_units p k t fs w)
  counts NullText m fs w c next = raises (codes "System.NullReferenceException") m fs w c
  counts (SomeText a) m fs w c next = pushes_valid p k ms g r _ fs w (may_push m fs w c) tt next
  counts NotText m fs w c next = tt

  -- the frames below wait for what ForAll and Exists answer
  waits_tried : (e : Bool) (t : Value) (l : Remaining) (m : ℕ) (fs : List Frame) (w : World) → MayCall p k ms g r m fs w → NextHeight p k ms g r 1 fs → WellFormedValue Bs t → MayReturn p k ms g r m (TryNext e t l) fs w
  waits_tried e t l m [] w c next ft = record { tail = record { placed = tt; others = tt; returning = tt; heights = tt }; waiting = λ f q d. tt; world = c.world; fine_back = ft; count = c.count; deep = c.deep }
  waits_tried e t l m (h ∷ hs) w c next ft =
      record {
        tail = record { placed = c.tail.placed; others = c.tail.others; returning = c.tail.returning; heights = c.tail.heights };
        waiting = λ f q d. (subst (λ b. HasHeight p k ms g r h (Pairs.goes_on_at p k ms g r b h.at) (Pairs.pushes p k ms g r f.method b)) (sym q) next, c.tail.heights);
        world = c.world;
        fine_back = ft;
        count = c.count;
        deep = c.deep;
      }

  tries : (e : Bool) (t : Value) (l : Remaining) (m : ℕ) (fs : List Frame) (w : World) → MayCall p k ms g r m fs w → NextHeight p k ms g r 1 fs → WellFormedValue Bs t → Stays (try_next p k e t (next_try w l) fs w)
  tries e t l m fs w c next ft = tries_valid p k ms g r e t (next_try w l) l m fs w (λ x q. tried_fine p k ms g r w l x c.world q) ft (waits_tried e t l m fs w c next ft)

  quantifies : (e : Bool) (values : List Value) (m : ℕ) (fs : List Frame) (w : World) (other : Next) → WellFormedValues Bs values → MayCall p k ms g r m fs w → NextHeight p k ms g r 1 fs → Stays other → Stays (quantify p k e values fs w other)
  quantifies e [] m fs w other fv c next o = tt
  quantifies e (a ∷ []) m fs w other fv c next o = tt
  quantifies e (items ∷ target ∷ []) m fs w other fv c next o = by_array (array_in w (out-Value items))
    where
      by_array : (x : Option ℕ) → Stays (maybe other (λ y. try_next p k e target (next_try w (Elements y 0)) fs w) x)
      by_array None = o
      by_array (Some y) = tries e target (Elements y 0) m fs w c next fv.1.0
  quantifies e (from ∷ to ∷ target ∷ []) m fs w other fv c next o = by_range (option_and_then (λ a. option_map (λ b. Range a b) (number_in (out-Value to))) (number_in (out-Value from)))
    where
      by_range : (x : Option Remaining) → Stays (if_there x w (λ left. try_next p k e target (next_try w left) fs w))
      by_range None = tt
      by_range (Some left) = tries e target left m fs w c next fv.1.1.0
  quantifies e (a ∷ b ∷ d ∷ x ∷ more) m fs w other fv c next o = tt

  pub by_core : (x : CoreMember) (owner : Ty) (m : ℕ) (args : List Ty) (values : List Value) (fs : List Frame) (w : World) → m < r.methods → IsTrue (is_below r.types owner) → NoneVoid p (args_of owner) → NoneVoid p args → WellFormedValues Bs values → GivesAsDescribed x (result_count p m) → MayCall p k ms g r m fs w
      → Stays (call_core p k x owner m args values fs w)
  by_core Constructor owner m args values fs w old own na nb fv gives c = pushes_valid p k ms g r None fs w (may_push m fs w c) tt (subst (λ n. NextHeight p k ms g r n fs) gives c.next)
  by_core (Equality b) owner m args values fs w old own na nb fv gives c = pushes_if (string_answer (Equality b) values) m fs w c (equality_fine Bs b values) (subst (λ n. NextHeight p k ms g r n fs) gives c.next)
  by_core Concatenation owner m args values fs w old own na nb fv gives c = pushes_if (string_answer Concatenation values) m fs w c (joined_fine Bs values) (subst (λ n. NextHeight p k ms g r n fs) gives c.next)
  by_core TextLength owner m args values fs w old own na nb fv gives c = counts (first_texted values) m fs w c (subst (λ n. NextHeight p k ms g r n fs) gives c.next)
  by_core IsNullOrEmpty owner m args values fs w old own na nb fv gives c = pushes_if (string_answer IsNullOrEmpty values) m fs w c (emptiness_fine Bs values) (subst (λ n. NextHeight p k ms g r n fs) gives c.next)
  by_core (Quantifier e) owner m args values fs w old own na nb fv gives c =
      quantifies e values m fs w (plain_call p k owner m args values fs w) fv c (subst (λ n. NextHeight p k ms g r n fs) gives c.next) (calls_plainly_valid p k ms g r owner m args values fs w old own na nb fv c)
  by_core NotCore owner m args values fs w old own na nb fv gives c = calls_plainly_valid p k ms g r owner m args values fs w old own na nb fv c

  -- the member that a token names
  pub members_valid : (owner : Ty) (m : ℕ) (args : List Ty) (values : List Value) (fs : List Frame) (w : World) → m < r.methods → IsTrue (is_below r.types owner) → NoneVoid p (args_of owner) → NoneVoid p args → WellFormedValues Bs values → GivesAsDescribed (core_of p owner m) (result_count p m) → MayCall p k ms g r m fs w
      → Stays (call_member p k owner m args values fs w)
  unfolding call_member
  members_valid owner m args values fs w old own na nb fv gives c = by_core (core_of p owner m) owner m args values fs w old own na nb fv gives c
