-- From one step to whole runs, for any two machines.
use Rattle.std.proofs.Common.{◌≡◌, ℕ, zero, suc, ◌+◌, ◌-◌, ◌*◌, ◌≤◌, List, [], ◌++◌, refl, sym, ap, ◌∙◌, subst, ⊎_elim, arith, append_assoc}
use Rattle.std.proofs.lemmas.Bool.{cases_lt}
use Rattle.std.proofs.lemmas.List.{append-nil}
use Rattle.cil_model.specs.declared.run.Outcome.{Outcome}
use Rattle.cil_model.specs.declared.run.Outcome.TheVariants as outcome
use Rattle.cil_semantics.specs.declared.state.World.{World}
use Rattle.cil_semantics.specs.declared.state.Item.{Item}
use Rattle.cil_semantics.specs.State.{State, Next, Running, Ended}
use Rattle.cil_semantics.specs.Machine.{and_then, runs}
use Rattle.machine_laws.specs.Simulation.{IsPrefix, trace_of, Grows, weight, Match, Simulates, EndsAlike, Lifts}

pub prefix_refl : (xs : List Item) → IsPrefix xs xs
prefix_refl xs = ([], sym (append-nil xs))

pub prefix_trans : (xs ys zs : List Item) → IsPrefix xs ys → IsPrefix ys zs → IsPrefix xs zs
prefix_trans xs ys zs a b = (a.0 ++ b.0, b.1 ∙ ap (λ l. l ++ b.0) a.1 ∙ append_assoc xs a.0 b.0)

and_then_assoc : (n : Next) (f g : State → Next) → and_then (and_then n f) g ≡ and_then n (λ m. and_then (f m) g)
and_then_assoc (Running m) f g = refl
and_then_assoc (Ended o w) f g = refl

pub runs_plus : (go : State → Next) (j n : ℕ) (m : State) → runs go (j + n) m ≡ and_then (runs go j m) (runs go n)
runs_plus go zero n m = let e : 0 + n ≡ n = omega arith in ap (λ k. runs go k m) e
runs_plus go (suc j) n m =
    let e : suc j + n ≡ suc (j + n) = omega arith in
    ap (λ k. runs go k m) e ∙ inner (λ m1. runs_plus go j n m1) (go m) ∙ sym (and_then_assoc (go m) (runs go j) (runs go n))
  where
    inner : ((m1 : State) → runs go (j + n) m1 ≡ and_then (runs go j m1) (runs go n)) → (x : Next) → and_then x (runs go (j + n)) ≡ and_then x (λ m1. and_then (runs go j m1) (runs go n))
    inner ih (Running m1) = ih m1
    inner ih (Ended o w) = refl

-- how a run that is over ended
abbrev pub end_outcome : Next → Outcome
end_outcome (Running s) = outcome.Stuck
end_outcome (Ended o w) = o

abbrev pub end_world : Next → World
end_world (Running s) = s.world
end_world (Ended o w) = w

abbrev pub IsGoing : Next → Type 0
IsGoing (Running m) = Unit {0}
IsGoing (Ended o w) = ⊥

-- a run that is over stays over
stays : (go : State → Next) (j n : ℕ) (m : State) (o : Outcome) (w : World) → j ≤ n → runs go j m ≡ Ended o w → runs go n m ≡ Ended o w
stays go j n m o w le e =
    let s : n ≡ j + (n - j) = omega arith in
    ap (λ k. runs go k m) s ∙ runs_plus go j (n - j) m ∙ ap (λ x. and_then x (runs go (n - j))) e

-- what a run has written only grows
grown : (go : State → Next) → Grows go → (n : ℕ) (m : State) → IsPrefix m.world.trace (trace_of (runs go n m))
grown go g zero m = prefix_refl m.world.trace
grown go g (suc n) m = inner (λ m1. grown go g n m1) (go m) (g m)
  where
    inner : ((m1 : State) → IsPrefix m1.world.trace (trace_of (runs go n m1))) → (x : Next) → IsPrefix m.world.trace (trace_of x) → IsPrefix m.world.trace (trace_of (and_then x (runs go n)))
    inner ih (Running m1) p = prefix_trans m.world.trace m1.world.trace (trace_of (runs go n m1)) p (ih m1)
    inner ih (Ended o w) p = p

pub grown_from : (go : State → Next) → Grows go → (j n : ℕ) (m : State) → j ≤ n → IsPrefix (trace_of (runs go j m)) (trace_of (runs go n m))
grown_from go g j n m le =
    let s : n ≡ j + (n - j) = omega arith in
    subst (λ x. IsPrefix (trace_of (runs go j m)) (trace_of x)) (sym (ap (λ k. runs go k m) s ∙ runs_plus go j (n - j) m)) (inner (runs go j m))
  where
    inner : (x : Next) → IsPrefix (trace_of x) (trace_of (and_then x (runs go (n - j))))
    inner (Running m1) = grown go g (n - j) m1
    inner (Ended o w) = prefix_refl w.trace

-- the first n steps of a from m are answered by the first j of b from m'
pub record Tracks (a b : State → Next) (E : World → World → Type 0) (R : State → State → Type 0) (c n k : ℕ) (m m' : State) : Type 0 where
  pub steps : ℕ
  pub at_least : IsGoing (runs a n m) → n ≤ steps
  pub at_most : steps ≤ c * n + k
  pub same : Match E R (runs a n m) (runs b steps m')

module _ (a b : State → Next) (E : World → World → Type 0) (R : State → State → Type 0) (f : State → ℕ) (c : ℕ) (sim : Simulates a b E R f c) where
  abbrev Many : ℕ → Next → Next → Type 0
  Many n x y = (j : ℕ) × (j + weight f (and_then x (runs a n)) ≤ c * n + weight f x) × Match E R (and_then x (runs a n)) (and_then y (runs b j)) × (IsGoing (and_then x (runs a n)) → n ≤ j)

  many : (n : ℕ) (x y : Next) → Match E R x y → Many n x y
  many n (Running m) (Ended o' w') h = absurd h
  many n (Ended o w) (Running m') h = absurd h
  many n (Ended o w) (Ended o' w') h = (0, omega arith, h, λ g. absurd g)
  many zero (Running m) (Running m') h = (0, omega arith, h, λ g. omega arith)
  many (suc n) (Running m) (Running m') h =
      let s = sim.answer m m' h in
      let r = many n (a m) (runs b (suc s.0) m') s.2 in
      let e = runs_plus b (suc s.0) r.0 m' in
      (suc s.0 + r.0, bound s.0 r.0 (weight f (a m)) (weight f (and_then (a m) (runs a n))) (f m) s.1 r.1, subst (Match E R (and_then (a m) (runs a n))) (sym e) r.2, λ g. let q : n ≤ r.0 = r.3 g in omega arith)
    where
      bound : (j1 j2 w1 w2 w0 : ℕ) → suc j1 + w1 ≤ c + w0 → j2 + w2 ≤ c * n + w1 → suc j1 + j2 + w2 ≤ c * suc n + w0
      bound j1 j2 w1 w2 w0 p q = omega arith

  pub tracks : (n j0 : ℕ) (m m' m0 : State) → R m m' → runs b j0 m0 ≡ Running m' → j0 + f m ≤ c → Tracks a b E R c n c m m0
  tracks n j0 m m' m0 h e le =
      let r = many n (Running m) (Running m') h in
      record {
        steps = j0 + r.0;
        at_least = λ g. let q : n ≤ r.0 = r.3 g in omega arith;
        at_most = bound r.0 (weight f (runs a n m)) (f m) r.1 le;
        same = subst (Match E R (runs a n m)) (sym (runs_plus b j0 r.0 m0 ∙ ap (λ x. and_then x (runs b r.0)) e)) r.2;
      }
    where
      bound : (j w fm : ℕ) → j + w ≤ c * n + fm → j0 + fm ≤ c → j0 + j ≤ c * n + c
      bound j w fm p q = omega arith

  pub ends_too : (n : ℕ) (m m0 : State) (o : Outcome) (w : World) → Tracks a b E R c n c m m0 → runs a n m ≡ Ended o w → EndsAlike (E w) (runs b (c * (n + 1)) m0) o
  ends_too n m m0 o w t e =
      let s = subst (λ x. Match E R x (runs b t.steps m0)) e t.same in
      let le : t.steps ≤ c * (n + 1) = omega (arith, t.at_most) in
      inner le (runs b t.steps m0) refl s
    where
      inner : t.steps ≤ c * (n + 1) → (y : Next) → runs b t.steps m0 ≡ y → Match E R (Ended o w) y → EndsAlike (E w) (runs b (c * (n + 1)) m0) o
      inner le (Running m1) q h = absurd h
      inner le (Ended o' w') q h = (w', stays b t.steps (c * (n + 1)) m0 o w' le (q ∙ ap (λ v. Ended v w') (sym h.0)), h.1)

  pub ends_only : (n : ℕ) (m m0 : State) (o : Outcome) (w' : World) → Tracks a b E R c n c m m0 → runs b n m0 ≡ Ended o w' → EndsAlike (λ w. E w w') (runs a n m) o
  ends_only n m m0 o w' t e = inner (runs a n m) (runs b t.steps m0) refl refl t.at_least t.same
    where
      alike : (o1 o2 : Outcome) (w1 w2 : World) → runs a n m ≡ Ended o1 w1 → Ended o2 w2 ≡ Ended o w' → o1 ≡ o2 → E w1 w2 → EndsAlike (λ w. E w w') (runs a n m) o
      alike o1 o2 w1 w2 p z g h = (w1, p ∙ ap (λ v. Ended v w1) (g ∙ ap end_outcome z), subst (E w1) (ap end_world z) h)

      inner : (x y : Next) → runs a n m ≡ x → runs b t.steps m0 ≡ y → (IsGoing x → n ≤ t.steps) → Match E R x y → EndsAlike (λ w. E w w') (runs a n m) o
      inner (Running m1) (Ended o2 w2) p q l h = absurd h
      inner (Ended o1 w1) (Running m1') p q l h = absurd h
      inner (Running m1) (Running m1') p q l h = let s = stays b n t.steps m0 o w' (l tt) e in absurd (cc (q, s))
      inner (Ended o1 w1) (Ended o2 w2) p q l h =
          ⊎_elim
          (λ lt. let le : n ≤ t.steps = omega arith in let s = stays b n t.steps m0 o w' le e in alike o1 o2 w1 w2 p (sym q ∙ s) h.0 h.1)
          (λ le. let s = stays b t.steps n m0 o2 w2 le q in alike o1 o2 w1 w2 p (sym s ∙ e) h.0 h.1)
          (cases_lt n t.steps)

  same_written : (x y : Next) → Match E R x y → trace_of x ≡ trace_of y
  same_written (Running m) (Running m') h = sim.same_trace m m' h
  same_written (Ended o w) (Ended o' w') h = sim.same_recorded w w' h.1
  same_written (Running m) (Ended o' w') h = absurd h
  same_written (Ended o w) (Running m') h = absurd h

  -- (c)
  pub writes_no_more : Grows b → (n : ℕ) (m m0 : State) → Tracks a b E R c n c m m0 → IsPrefix (trace_of (runs b n m0)) (trace_of (runs a n m))
  writes_no_more g n m m0 t =
      subst (IsPrefix (trace_of (runs b n m0))) (sym (same_written (runs a n m) (runs b t.steps m0) t.same)) (inner (runs a n m) (runs b t.steps m0) refl t.at_least t.same)
    where
      inner : (x y : Next) → runs b t.steps m0 ≡ y → (IsGoing x → n ≤ t.steps) → Match E R x y → IsPrefix (trace_of (runs b n m0)) (trace_of (runs b t.steps m0))
      inner (Running m1) y q l h = grown_from b g n t.steps m0 (l tt)
      inner (Ended o1 w1) (Running m1') q l h = absurd h
      inner (Ended o1 w1) (Ended o' w') q l h =
          ⊎_elim
          (λ lt. let le : n ≤ t.steps = omega arith in grown_from b g n t.steps m0 le)
          (λ le. let s = stays b t.steps n m0 o' w' le q in subst (λ z. IsPrefix (trace_of z) (trace_of (runs b t.steps m0))) (q ∙ sym s) (prefix_refl (trace_of (runs b t.steps m0))))
          (cases_lt n t.steps)

  pub writes_no_less : Grows b → (n : ℕ) (m m0 : State) → Tracks a b E R c n c m m0 → IsPrefix (trace_of (runs a n m)) (trace_of (runs b (c * (n + 1)) m0))
  writes_no_less g n m m0 t =
      let le : t.steps ≤ c * (n + 1) = omega (arith, t.at_most) in
      subst (λ s. IsPrefix s (trace_of (runs b (c * (n + 1)) m0))) (sym (same_written (runs a n m) (runs b t.steps m0) t.same)) (grown_from b g t.steps (c * (n + 1)) m0 le)

pub lifts : (a b : State → Next) (E : World → World → Type 0) (R : State → State → Type 0) (f : State → ℕ) (c : ℕ) → Simulates a b E R f c → Lifts a b E R f c
lifts a b E R f c sim j s s' t r e le =
    let k : (n : ℕ) → Tracks a b E R c n c s t = λ n. tracks a b E R f c sim n j s s' t r e le in
    record {
      ends_only = λ n o w h. ends_only a b E R f c sim n s t o w (k n) h;
      ends_too = λ n o w h. ends_too a b E R f c sim n s t o w (k n) h;
      writes_no_more = λ n. writes_no_more a b E R f c sim sim.grows n s t (k n);
      writes_no_less = λ n. writes_no_less a b E R f c sim sim.grows n s t (k n);
    }
