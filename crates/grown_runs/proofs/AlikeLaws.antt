-- What two programs come to alike: the same, and with objects of held types alone. Each look-up is answered alike in turn.
use Rattle.std.proofs.Common.{◌≡◌, ℕ, zero, suc, List, [], ◌∷◌, ◌++◌, Option, Some, None, refl, sym, ap, ◌∙◌, subst}
use Rattle.std.specs.Prelude.{Bool, true, false, if◌then◌else◌, slice_get, slice_set, option_map, option_and_then}
use Rattle.cil_model.specs.declared.program.Program.{Program}
use Rattle.cil_model.specs.declared.ty.Ty.{Ty}
use Rattle.cil_semantics.specs.Words.{maybe}
use Rattle.cil_semantics.specs.declared.state.Object.{Object}
use Rattle.cil_semantics.specs.declared.state.World.{World}
use Rattle.cil_semantics.specs.State.{State, Next, Running, Ended, object_at}
use Rattle.cil_semantics.specs.Frames.{stuck, if_there}
use Rattle.machine_laws.specs.Answers.{Each}
use Rattle.grown_runs.specs.Grown.{IsHeld}
use Rattle.grown_runs.specs.Looks.{HeldHeap}

-- ---- options, lists

pub option_on : {A B : Type 0} (f g : A → Option B) (o : Option A) → ((x : A) → o ≡ Some x → f x ≡ g x) → option_and_then f o ≡ option_and_then g o
option_on f g None h = refl
option_on f g (Some x) h = h x refl

pub mapped_on : {A B : Type 0} (f g : A → B) (o : Option A) → ((x : A) → o ≡ Some x → f x ≡ g x) → option_map f o ≡ option_map g o
mapped_on f g None h = refl
mapped_on f g (Some x) h = ap Some (h x refl)

pub maybe_on : {A B : Type 0} (n : B) (f g : A → B) (o : Option A) → ((x : A) → o ≡ Some x → f x ≡ g x) → maybe n f o ≡ maybe n g o
maybe_on n f g None h = refl
maybe_on n f g (Some x) h = h x refl

pub each_get : {A : Type 0} (P : A → Type 0) (xs : List A) (i : ℕ) (x : A) → Each P xs → slice_get xs i ≡ Some x → P x
each_get P [] i x h e = let q : None ≡ Some x = e in absurd (cc q)
each_get P (y ∷ ys) zero x h e = let q : Some y ≡ Some x = e in subst P (cc q) h.0
each_get P (y ∷ ys) (suc i) x h e = each_get P ys i x h.1 e

pub each_set : {A : Type 0} (P : A → Type 0) (xs : List A) (i : ℕ) (x : A) → Each P xs → P x → Each P (slice_set xs i x)
each_set P [] i x h y = tt
each_set P (z ∷ zs) zero x h y = (y, h.1)
each_set P (z ∷ zs) (suc i) x h y = (h.0, each_set P zs i x h.1 y)

module _ (p0 : Program) (e : ℕ) where
  abbrev pub HeldWorld : World → Type 0
  HeldWorld w = HeldHeap p0 e w.heap

  abbrev pub HeldNext : Next → Type 0
  HeldNext (Running s) = HeldWorld s.world
  HeldNext (Ended o w) = Unit {0}

  -- an object that is there
  pub held_at : (w : World) (x : ℕ) (o : Object) → HeldWorld w → object_at w x ≡ Some o → IsHeld p0 e o.ty
  held_at w zero o h q = let z : None ≡ Some o = q in absurd (cc z)
  held_at w (suc x) o h q = each_get (λ (o : Object). IsHeld p0 e o.ty) w.heap x o h q

  abbrev pub Pair : Next → Next → Type 0
  Pair x y = (x ≡ y) × HeldNext x

-- ---- the two programs

module _ (p0 p : Program) (e : ℕ) where
  abbrev pub Alike : (Program → Next) → Type 0
  Alike F = Pair p0 e (F p) (F p0)

  -- nothing of a program is asked
  pub ends : (w : World) → Alike (λ q. stuck w)
  ends w = (refl, tt)

  pub there : {X : Type 0} (w : World) (o : Program → Option X) (go : Program → X → Next) → o p ≡ o p0 → ((x : X) → o p ≡ Some x → Alike (λ q. go q x)) → Alike (λ q. if_there (o q) w (go q))
  there {X} w o go same h = subst (λ (z : Option X). Pair p0 e (if_there (o p) w (go p)) (if_there z w (go p0))) same (by_case (o p) refl)
    where
      by_case : (z : Option X) → o p ≡ z → Pair p0 e (if_there z w (go p)) (if_there z w (go p0))
      by_case None q = (refl, tt)
      by_case (Some x) q = h x q

  pub perhaps : {X : Type 0} (o : Program → Option X) (none : Program → Next) (go : Program → X → Next) → o p ≡ o p0 → (o p ≡ None → Alike none) → ((x : X) → o p ≡ Some x → Alike (λ q. go q x)) → Alike (λ q. maybe (none q) (go q) (o q))
  perhaps {X} o none go same n h = subst (λ (z : Option X). Pair p0 e (maybe (none p) (go p) (o p)) (maybe (none p0) (go p0) z)) same (by_case (o p) refl)
    where
      by_case : (z : Option X) → o p ≡ z → Pair p0 e (maybe (none p) (go p) z) (maybe (none p0) (go p0) z)
      by_case None q = n q
      by_case (Some x) q = h x q

  pub choose : (b : Program → Bool) (x y : Program → Next) → b p ≡ b p0 → (b p ≡ true → Alike x) → (b p ≡ false → Alike y) → Alike (λ q. if b q then x q else y q)
  choose b x y same h i = subst (λ (z : Bool). Pair p0 e (if b p then x p else y p) (if z then x p0 else y p0)) same (by_case (b p) refl)
    where
      by_case : (z : Bool) → b p ≡ z → Pair p0 e (if z then x p else y p) (if z then x p0 else y p0)
      by_case true q = h q
      by_case false q = i q

  -- a look-up that is answered alike
  pub given : {X : Type 0} (v : Program → X) (F : Program → X → Next) → v p ≡ v p0 → Alike (λ q. F q (v p)) → Alike (λ q. F q (v q))
  given {X} v F same h = subst (λ (z : X). Pair p0 e (F p (v p)) (F p0 z)) same h
