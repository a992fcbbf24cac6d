-- A call outside: what it stores back, what it makes and what it answers are well formed.
use Rattle.std.proofs.Common.{◌≡◌, Bool, true, false, List, [], ◌∷◌, length, Option, Some, None, refl, sym, ap, ◌∙◌, subst}
use Rattle.std.specs.Prelude.{if◌then◌else◌, option_and_then, codes}
use Rattle.cil_model.specs.declared.ty.Ty.{Ty}
use Rattle.cil_model.specs.declared.value.Value.{Value, out-Value}
use Rattle.cil_model.specs.declared.value.Pointer.{Pointer}
use Rattle.cil_model.specs.declared.contract.Contracts.{Contracts}
use Rattle.cil_model.specs.declared.program.Program.{Program}
use Rattle.cil_model.specs.declared.program.MethodDesc.{MethodDesc}
use Rattle.cil_model.specs.declared.run.ReplyResult.{ReplyResult}
use Rattle.cil_model.specs.declared.run.ReplyResult.TheVariants as reply
use Rattle.cil_semantics.specs.Words.{maybe}
use Rattle.cil_semantics.specs.Core.{Name, class_named}
use Rattle.cil_semantics.specs.Lookups.{is_sub}
use Rattle.cil_semantics.specs.Places.{storage, is_void, stored_in}
use Rattle.cil_semantics.specs.declared.state.Cell.{Cell}
use Rattle.cil_semantics.specs.declared.state.World.{World}
use Rattle.cil_semantics.specs.declared.state.Frame.{Frame}
use Rattle.cil_semantics.specs.State.{next_object, with_object}
use Rattle.cil_semantics.specs.Frames.{stored_args, write}
use Rattle.cil_semantics.specs.Outside.{fits, by_ref_args, pointer_in, stored_back, Answer, Returned, Threw, Unfit, next_reply, Member, given, recorded, unfit, thrown_out, result_of, answered, ask}
use Rattle.cil_semantics.specs.Checks.{AddedNumbers}
use Rattle.splice_facts.specs.WellFormed.{Bounds, WellFormedValue, WellFormedValues, WellFormedIf, WellFormedWorld, WellFormedPointer}
use Rattle.splice_facts.specs.Input.{top_of}
use Rattle.splice_facts.specs.Related.{Rewritten, bounds}
use Rattle.simulation_steps.specs.Outside.{WellFormedRefs, values_of}
use Rattle.simulation_objects.proofs.RefLaws.{refs_there}
use Rattle.simulation_valid.proofs.WorldLaws.{object_added, class_typed}
use Rattle.simulation_valid.proofs.ChangeLaws.{all_unchanged, all_changed_twice, writes_keep, kept_fine}
use Rattle.simulation_valid.proofs.FitsLaws.{fits_fine, fits_no_void}
use Rattle.simulation_valid.specs.Changes.{Written}
use Rattle.simulation_valid.specs.Steps.{AfterCall, ValidAnswer}

module _ (p : Program) (k : Contracts) (ms : List MethodDesc) (g : AddedNumbers) (r : Rewritten p k ms g) where
  abbrev Bs : Bounds
  Bs = bounds p k ms g r

  written_twice : (fs : List Frame) (w : World) (x y : List Frame × World) → Written Bs p fs w x → Written Bs p x.0 x.1 y → Written Bs p fs w y
  written_twice fs w x y a c = record { frames = all_changed_twice Bs fs x.0 y.0 a.frames c.frames; world = λ h. c.world (a.world h); depth = c.depth ∙ a.depth }

  pub stores_back : (args : List (Ty × Value)) (vs : List Value) (fs : List Frame) (w : World) (x : List Frame × World) → WellFormedRefs p k ms g r args → stored_back p args vs fs w ≡ Some x → Written Bs p fs w x
  stores_back args [] fs w x refs e = let z : (fs, w) ≡ x = cc e in subst (Written Bs p fs w) z (record { frames = all_unchanged Bs fs; world = λ h. h; depth = refl })
  stores_back [] (v ∷ vs) fs w x refs e = absurd (cc e)
  stores_back (a ∷ args) (v ∷ vs) fs w x refs e = by_fit (λ y q. stores_back args vs y.0 y.1 x refs.1 q) (fits p w a.0 v) refl e
    where
      by_write : ((y : List Frame × World) → stored_back p args vs y.0 y.1 ≡ Some x → Written Bs p y.0 y.1 x) → (q : Pointer) → WellFormedPointer Bs q → WellFormedValue Bs v → (o : Option (List Frame × World)) → write p fs w q v ≡ o → option_and_then (λ (y : List Frame × World). stored_back p args vs y.0 y.1) o ≡ Some x → Written Bs p fs w x
      by_write more q fq fv None s z = absurd (cc z)
      by_write more q fq fv (Some y) s z = written_twice fs w y x (writes_keep Bs p fs w q v y fq fv s) (more y z)

      by_pointer : ((y : List Frame × World) → stored_back p args vs y.0 y.1 ≡ Some x → Written Bs p y.0 y.1 x) → WellFormedValue Bs v → (o : Option Pointer) → pointer_in (out-Value a.1) ≡ o → option_and_then (λ (y : List Frame × World). stored_back p args vs y.0 y.1) (option_and_then (λ q. write p fs w q v) o) ≡ Some x → Written Bs p fs w x
      by_pointer more fv None s z = absurd (cc z)
      by_pointer more fv (Some q) s z = by_write more q (refs.0 q s) fv (write p fs w q v) refl z

      by_fit : ((y : List Frame × World) → stored_back p args vs y.0 y.1 ≡ Some x → Written Bs p y.0 y.1 x) → (c : Bool) → fits p w a.0 v ≡ c → (if c then option_and_then (λ (y : List Frame × World). stored_back p args vs y.0 y.1) (option_and_then (λ q. write p fs w q v) (pointer_in (out-Value a.1))) else None) ≡ Some x → Written Bs p fs w x
      by_fit more true s z = by_pointer more (fits_fine Bs 1001 p w a.0 v s) (pointer_in (out-Value a.1)) refl z
      by_fit more false s z = absurd (cc z)

  pub told : (m : Member) (values : List Value) (res : ReplyResult) (back : List Value) (fs : List Frame) (w : World) (x : List Frame × World) → WellFormedWorld Bs w → Written Bs p fs w x → AfterCall p k ms g r fs w x.0 (recorded m values res back x.1)
  told m values res back fs w x ok a = let h = a.world ok in record { frames = a.frames; world = record { heap = h.heap; statics = h.statics }; depth = a.depth }

  throws_out : (m : Member) (name : Name) (fs gs : List Frame) (w w2 : World) (other : Answer) → AfterCall p k ms g r fs w gs w2 → ValidAnswer p k ms g r m fs w other → ValidAnswer p k ms g r m fs w (thrown_out p name gs w2 other)
  throws_out m name fs gs w w2 other a o = by_test (is_sub p (class_named name) (class_named (codes "System.Exception")))
    where
      by_test : (c : Bool) → ValidAnswer p k ms g r m fs w (if c then Threw (next_object w2) gs (with_object p (record { ty = class_named name; cells = [] }) w2) else other)
      by_test true = record { frames = a.frames; world = object_added Bs p (record { ty = class_named name; cells = [] }) w2 (class_typed Bs name, tt) a.world; depth = a.depth }
      by_test false = o

  -- what a reply comes to
  results : (m : Member) (values : List Value) (res : ReplyResult) (back : List Value) (fs : List Frame) (w : World) (x : List Frame × World) (other : Answer) → WellFormedWorld Bs w → Written Bs p fs w x → WellFormedIf Bs m.default → length (top_of m.default) ≡ (if is_void (storage p m.result) then 0 else 1) → ValidAnswer p k ms g r m fs w other → ValidAnswer p k ms g r m fs w (result_of p m values res back x.0 x.1 other)
  results m values reply.Default back fs w x other ok a fd many o = (told m values (given m.default) back fs w x ok a, fd, many)
  results m values reply.Void back fs w x other ok a fd many o = by_void (is_void (storage p m.result)) refl
    where
      by_void : (c : Bool) → is_void (storage p m.result) ≡ c → ValidAnswer p k ms g r m fs w (if c then Returned None x.0 (recorded m values reply.Void back x.1) else other)
      by_void true e = (told m values reply.Void back fs w x ok a, tt, ap (λ (c : Bool). if c then 0 else 1) (sym e))
      by_void false e = o
  results m values (reply.Given v) back fs w x other ok a fd many o = by_fit (fits p x.1 m.result v) refl
    where
      by_stored : fits p x.1 m.result v ≡ true → (s : Option Value) → stored_in p m.result v ≡ s → ValidAnswer p k ms g r m fs w (maybe other (λ y. Returned (Some y) x.0 (recorded m values (reply.Given v) back x.1)) s)
      by_stored e None q = o
      by_stored e (Some y) q = (told m values (reply.Given v) back fs w x ok a, kept_fine Bs p m.result v y (fits_fine Bs 1001 p x.1 m.result v e) q, ap (λ (c : Bool). if c then 0 else 1) (sym (fits_no_void Bs 1001 p x.1 m.result v e)))

      by_fit : (c : Bool) → fits p x.1 m.result v ≡ c → ValidAnswer p k ms g r m fs w (if c then maybe other (λ y. Returned (Some y) x.0 (recorded m values (reply.Given v) back x.1)) (stored_in p m.result v) else other)
      by_fit true e = by_stored e (stored_in p m.result v) refl
      by_fit false e = o
  results m values (reply.Throw name) back fs w x other ok a fd many o = throws_out m name fs x.0 w (recorded m values (reply.Throw name) back x.1) other (told m values (reply.Throw name) back fs w x ok a) o

  -- the whole call
  pub asks_valid : (m : Member) (values : List Value) (fs : List Frame) (w : World) → WellFormedValues Bs values → WellFormedWorld Bs w → WellFormedIf Bs m.default → ((cells : List Cell) → stored_args p m.params values ≡ Some cells → length (top_of m.default) ≡ (if is_void (storage p m.result) then 0 else 1)) → ValidAnswer p k ms g r m fs w (ask p m values fs w)
  unfolding ask
  asks_valid m values fs w fv ok fd many = by_cells (stored_args p m.params values) refl
    where
      by_stored : (vs : List Value) → length (top_of m.default) ≡ (if is_void (storage p m.result) then 0 else 1) → WellFormedRefs p k ms g r (by_ref_args m.params vs) → (o : Option (List Frame × World)) → stored_back p (by_ref_args m.params vs) (next_reply w.replies).by_ref fs w ≡ o → ValidAnswer p k ms g r m fs w (answered p m vs (next_reply w.replies) w o)
      by_stored vs n refs None e = tt
      by_stored vs n refs (Some x) e = results m vs (next_reply w.replies).result (next_reply w.replies).by_ref fs w x (unfit m vs (next_reply w.replies) w) ok (stores_back (by_ref_args m.params vs) (next_reply w.replies).by_ref fs w x refs e) fd n tt

      by_cells : (o : Option (List Cell)) → stored_args p m.params values ≡ o → ValidAnswer p k ms g r m fs w (maybe (Unfit w) (λ (cells : List Cell). answered p m (values_of cells) (next_reply w.replies) w (stored_back p (by_ref_args m.params (values_of cells)) (next_reply w.replies).by_ref fs w)) o)
      by_cells None e = tt
      by_cells (Some cells) e = by_stored (values_of cells) (many cells e) (refs_there p k ms g r m.params values fv cells e) (stored_back p (by_ref_args m.params (values_of cells)) (next_reply w.replies).by_ref fs w) refl
