-- Worlds stay well formed: with one more object, and with other statics.
use Rattle.std.proofs.Common.{◌≡◌, ℕ, Bool, true, false, List, [], ◌∷◌, ◌++◌, Option, Some, None, refl, subst}
use Rattle.std.specs.Prelude.{if◌then◌else◌, IsTrue}
use Rattle.cil_model.specs.declared.ty.Ty.{Ty, Known}
use Rattle.cil_model.specs.declared.ty.Ty.TheVariants as ty
use Rattle.cil_model.specs.declared.program.Program.{Program}
use Rattle.cil_semantics.specs.Words.{maybe}
use Rattle.cil_semantics.specs.Types.{same_ty}
use Rattle.cil_semantics.specs.declared.state.Init.TheVariants.{Failed}
use Rattle.cil_semantics.specs.declared.state.Object.{Object}
use Rattle.cil_semantics.specs.declared.state.Statics.{Statics}
use Rattle.cil_semantics.specs.declared.state.World.{World}
use Rattle.cil_semantics.specs.State.{with_object}
use Rattle.cil_semantics.specs.Unwind.{set_statics, find_statics, with_failed}
use Rattle.machine_laws.specs.Answers.{is_below}
use Rattle.cil_semantics.specs.Core.{Name, class_named}
use Rattle.cil_semantics.specs.Lookups.{args_of}
use Rattle.splice_facts.specs.WellFormed.{Bounds, NoneVoid, WellFormedCells, WellFormedObject, WellFormedObjects, WellFormedStatics, WellFormedWorld}

module _ (b : Bounds) where
  -- a core class has no arguments
  pub class_typed : (name : Name) → NoneVoid b.program (args_of (class_named name))
  unfolding Rattle.cil_model.specs.declared.ty.Ty.out-Ty denote.Hole.Carrier.out
  class_typed name = tt

  pub known_typed : (k : ℕ) → NoneVoid b.program (args_of (Known k))
  unfolding Rattle.cil_model.specs.declared.ty.Ty.out-Ty denote.Hole.Carrier.out
  known_typed k = tt

  -- nor has an array
  pub array_typed : (t : Ty) → NoneVoid b.program (args_of (ty.Array t))
  unfolding Rattle.cil_model.specs.declared.ty.Ty.out-Ty denote.Hole.Carrier.out
  array_typed t = tt

  pub one_more_object : (os : List Object) (o : Object) → WellFormedObjects b os → WellFormedObject b o → WellFormedObjects b (os ++ o ∷ [])
  one_more_object [] o h c = (c, tt)
  one_more_object (x ∷ xs) o h c = (h.0, one_more_object xs o h.1 c)

  pub object_added : (p : Program) (o : Object) (w : World) → WellFormedObject b o → WellFormedWorld b w → WellFormedWorld b (with_object p o w)
  object_added p o w c h = record { heap = one_more_object w.heap o h.heap c; statics = h.statics }

  pub statics_set : (test : Ty → Bool) (s : Statics) (ss : List Statics) → WellFormedStatics b ss → IsTrue (is_below b.types s.owner) → WellFormedCells b s.cells → WellFormedStatics b (set_statics test s ss)
  statics_set test s [] h o c = (o, c, tt)
  statics_set test s (x ∷ xs) h o c = by_test (test x.owner) (statics_set test s xs h.2 o c)
    where
      by_test : (t : Bool) → WellFormedStatics b (set_statics test s xs) → WellFormedStatics b (if t then s ∷ xs else x ∷ set_statics test s xs)
      by_test true ih = (o, c, h.2)
      by_test false ih = (h.0, h.1, ih)

  -- what stands among well-formed statics
  pub record WellFormedEntry (s : Statics) : Type 0 where
    pub owner : IsTrue (is_below b.types s.owner)
    pub cells : WellFormedCells b s.cells

  pub statics_found : (t : Ty) (ss : List Statics) (s : Statics) → WellFormedStatics b ss → find_statics t ss ≡ Some s → WellFormedEntry s
  statics_found t [] s h e = absurd (cc e)
  statics_found t (x ∷ xs) s h e = by_test (λ q. statics_found t xs s h.2 q) (same_ty x.owner t) e
    where
      by_test : (find_statics t xs ≡ Some s → WellFormedEntry s) → (c : Bool) → (if c then Some x else find_statics t xs) ≡ Some s → WellFormedEntry s
      by_test more true q = let z : x ≡ s = cc q in subst WellFormedEntry z (record { owner = h.0; cells = h.1 })
      by_test more false q = more q

  pub failed_kept : (t : Ty) (y : ℕ) (w : World) → IsTrue (is_below b.types t) → WellFormedWorld b w → WellFormedWorld b (with_failed t y w)
  failed_kept t y w own h = by_found (find_statics t w.statics) (λ s e. statics_found t w.statics s h.statics e)
    where
      by_found : (o : Option Statics) → ((s : Statics) → o ≡ Some s → WellFormedEntry s) → WellFormedWorld b (record w { statics = set_statics (same_ty t) (maybe (record { owner = t; init = Some (Failed y); cells = [] }) (λ (s : Statics). record s { init = Some (Failed y) }) o) w.statics })
      by_found None f = record { heap = h.heap; statics = statics_set (same_ty t) (record { owner = t; init = Some (Failed y); cells = [] }) w.statics h.statics own tt }
      by_found (Some s) f = record { heap = h.heap; statics = statics_set (same_ty t) (record s { init = Some (Failed y) }) w.statics h.statics (f s refl).owner (f s refl).cells }
