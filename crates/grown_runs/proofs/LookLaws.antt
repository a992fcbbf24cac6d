-- Look-ups answer alike in the input and where its tables have grown.
--
-- | on what | which | where |
-- |---|---|---|
-- | every type | what a place holds, the types of a struct's fields | PlaceLaws |
-- | every type | stores, default values, paths into structs | StoreLaws |
-- | every type, where the heap is held | what fits, what a value refers to | FitsLaws |
-- | types of the input | names; core members, and methods outside | NameLaws |
-- | the class of failures | what stands above it, its slots and bodies | FailureLaws |
-- | whatever is called | what is found is a method of the program, and where it is seen | FoundLaws |
-- | held types | what stands above, subs, bodies, places of fields, names | HeldLaws |
-- | types of the input | initializers, constructors, or whatever else is found among their methods | OwnerLaws |
-- | methods of the input | whether they are visible | VisibleLaws |
-- | tokens of the input's code | their meanings, and the types that clauses refer to | TokenLaws |
-- | instructions of the input | which contract call it is, its message, how many checks (`call_same`, `message_same`, `counts_same`) | ContractLaws |
-- | instructions of the input | what it wants done, each class (`acts_same`) | ActLaws |
use Rattle.std.proofs.Common.{refl, ℕ, List}
use Rattle.cil_model.specs.declared.ty.Ty.{Ty}
use Rattle.cil_model.specs.declared.ty.Ty as types
use Rattle.cil_model.specs.declared.contract.Contracts.{Contracts}
use Rattle.cil_model.specs.declared.program.Program.{Program}
use Rattle.cil_semantics.specs.declared.state.Object.{Object}
use Rattle.cil_semantics.specs.Core.{string_ty}
use Rattle.machine_laws.specs.Answers.{AnswersAlike, Each, IsOld}
use Rattle.machine_laws.proofs.AnswerLaws.{each_on}
use Rattle.machine_laws.proofs.FindLaws.{answers_alike}
use Rattle.grown_runs.specs.Grown.{GrowsAround, IsHeld}
use Rattle.grown_runs.specs.Looks.{LooksAlike, HeldHeap}
use Rattle.grown_runs.proofs.PlaceLaws.{storage_same}
use Rattle.grown_runs.proofs.StoreLaws.{stored_same, default_same, path_same}
use Rattle.grown_runs.proofs.FitsLaws.{SameSubs, fits_same}
use Rattle.grown_runs.proofs.NameLaws.{outside_same, core_same}
use Rattle.grown_runs.proofs.HeldLaws.{sub_held, seen_held, place_held, name_held}
use Rattle.grown_runs.proofs.OwnerLaws.{initializer_same, constructor_same}
use Rattle.grown_runs.proofs.VisibleLaws.{visible_same}
use Rattle.grown_runs.proofs.TokenLaws.{meaning_same, token_same, ref_same}

string_old : (p0 : Program) → IsOld p0 string_ty
unfolding types.out-Ty denote.Hole.Carrier.out
string_old p0 = refl

module _ (p0 p : Program) (k : Contracts) (exception : ℕ) (g : GrowsAround p0 p k exception) where
  abbrev alike : AnswersAlike p0 p
  alike = answers_alike p0 p g.tables.extends g.tables.names_own g.tables.names_none

  heap_subs : (os : List Object) → HeldHeap p0 exception os → Each (λ (o : Object). SameSubs p0 p o.ty) os
  heap_subs os held = each_on (λ (o : Object). IsHeld p0 exception o.ty) (λ (o : Object). SameSubs p0 p o.ty) os (λ o h u. sub_held p0 p g.tables exception g.failure o.ty u h) held

  pub looks_alike : LooksAlike p0 p exception
  looks_alike =
      let h = g.tables in
      let kept = h.extends in
      record {
        storages = storage_same p0 p h;
        stores = λ t v. stored_same p0 p h 1001 t v;
        defaults = λ t. default_same p0 p h 1001 t;
        paths = path_same p0 p h;
        fitting = λ w t v held. fits_same p0 p h (λ u. alike.subs string_ty u (string_old p0)) w (heap_subs w.heap held) 1001 t v;
        layouts = alike.layouts;
        field_places = λ t f held l. place_held p0 p h exception g.failure t f held l;
        statics = alike.statics;
        subs = λ t u held. sub_held p0 p h exception g.failure t u held;
        names = λ t held. name_held p0 p h exception g.failure t held;
        outside = λ m l. outside_same p0 p h m l (g.members m l);
        cores = λ owner m l old. core_same p0 p h owner m l old;
        bodies = λ t s held old l. seen_held p0 p h exception g.failure t s held (old, l);
        initializers = λ w t old. initializer_same p0 p kept h.names_own g.members w t old;
        visible = λ m l. visible_same p0 p kept g.encloses m l (g.members m l);
        meanings = λ a t none. meaning_same p0 p kept a t none;
        tokens = λ here u a t none. token_same p0 p kept here u a t none;
        refs = λ here r none. ref_same p0 p kept here r none (λ m e. g.names r.assembly r.token m e);
        constructors = λ t home ts old l. constructor_same p0 p kept h.names_own g.code.constructors t home ts old l;
      }
