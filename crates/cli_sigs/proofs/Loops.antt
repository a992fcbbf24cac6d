-- A loop that reads so many, one after another.
use Rattle.std.proofs.Common.{◌≡◌, ℕ, Option, Some, None, suc, ◌+◌, ◌-◌, ◌<◌, ◌≤◌, List, [], ◌∷◌, ◌++◌, Ok, Err, refl, sym, ap, ◌∙◌, append_assoc, append-nil, arith}
use Rattle.cli_sigs.specs.declared.types.SigTy.{SigTy}
use Rattle.cli_sigs.specs.Read.{Outcome, Reader, and_then, ◌>>=◌, pure, maps, many, with_front, behind, marked}
use Rattle.cli_sigs.specs.declared.numbers.Stop.{Stop}
use Rattle.cli_sigs.specs.declared.numbers.Stop.TheVariants as stop
use Rattle.cli_sigs.specs.Reading.{open_params, Stops}

step : {A : Type 0} (front : List A) (x : A) (o : Outcome (List A)) → with_front front (and_then o (λ xs. pure (x ∷ xs))) ≡ with_front (front ++ x ∷ []) o
step {A = A} front x (Ok p) = ap (λ (l : List A). let o : Outcome (List A) = Ok (l, p.1) in o) (sym (append_assoc front (x ∷ []) p.0))
step front x (Err n) = refl

module _ {A : Type 0} (r : Reader A) (front : List A) (count counter : ℕ) (rest : List ℕ) (whole : Outcome (List A)) where
  more_left : counter < count → count - counter ≡ suc (count - (counter + 1))
  more_left h = omega arith

  pub goes_on : (x : A) (mid : List ℕ) → counter < count → r rest ≡ Ok (x, mid) → with_front front (many (count - counter) r rest) ≡ whole → with_front (front ++ x ∷ []) (many (count - (counter + 1)) r mid) ≡ whole
  goes_on x mid h e i =
      let n = count - (counter + 1) in
      sym (step front x (many n r mid))
      ∙ sym (ap (λ (o : Outcome A). with_front front (and_then o (λ y. maps (λ ys. y ∷ ys) (many n r)))) e)
      ∙ sym (ap (λ (k : ℕ). with_front front (many k r rest)) (more_left h)) ∙ i

  pub stops : (n : ℕ) → counter < count → r rest ≡ Err n → with_front front (many (count - counter) r rest) ≡ whole → whole ≡ Err n
  stops n h e i =
      let k = count - (counter + 1) in
      sym i ∙ ap (λ (j : ℕ). with_front front (many j r rest)) (more_left h)
      ∙ ap (λ (o : Outcome A). with_front front (and_then o (λ y. maps (λ ys. y ∷ ys) (many k r)))) e

  pub ends : count ≤ counter → with_front front (many (count - counter) r rest) ≡ whole → whole ≡ Ok (front, rest)
  ends h i =
      let none : count - counter ≡ 0 = omega arith in
      sym i ∙ ap (λ (j : ℕ). with_front front (many j r rest)) none ∙ simp append-nil

-- ---- parameters, with a mark before the extra ones

abbrev pub with_params : {A : Type 0} → List A → Outcome (List A × Option ℕ) → Outcome (List A × Option ℕ)
with_params front o = and_then o (λ p. pure (front ++ p.0, p.1))

pub marked_some : {A : Type 0} (mark : ℕ) (r s : Reader A) (bytes rest : List ℕ) → Some rest ≡ behind mark bytes → marked mark r s bytes ≡ r rest
marked_some {A = A} mark r s bytes rest e = let f : Option (List ℕ) → Outcome A = elim [ Some left ↦ r left | None ↦ s bytes ] in ap f (sym e)

pub marked_none : {A : Type 0} (mark : ℕ) (r s : Reader A) (bytes : List ℕ) → None ≡ behind mark bytes → marked mark r s bytes ≡ s bytes
marked_none {A = A} mark r s bytes e = let f : Option (List ℕ) → Outcome A = elim [ Some left ↦ r left | None ↦ s bytes ] in ap f (sym e)

step_params : (front : List SigTy) (t : SigTy) (o : Outcome (List SigTy × Option ℕ)) → with_params front (and_then o (λ p. pure (t ∷ p.0, p.1))) ≡ with_params (front ++ t ∷ []) o
step_params front t (Ok p) = ap (λ (l : List SigTy). let o : Outcome (List SigTy × Option ℕ) = Ok ((l, p.0.1), p.1) in o) (sym (append_assoc front (t ∷ []) p.0.0))
step_params front t (Err n) = refl

extra_params : (front : List SigTy) (s : Option ℕ) (o : Outcome (List SigTy)) → with_params front (and_then o (λ ts. pure (ts, s))) ≡ and_then (with_front front o) (λ ts. pure (ts, s))
extra_params front s (Ok p) = refl
extra_params front s (Err n) = refl

module _ (r : Reader SigTy) (front : List SigTy) (count k : ℕ) (rest : List ℕ) (whole : Outcome (List SigTy × Option ℕ)) where
  abbrev one_then : ℕ → Reader (List SigTy × Option ℕ)
  one_then n = r >>= (λ t. maps (λ p. (t ∷ p.0, p.1)) (open_params r (k + 1) n))

  more : k < count → count - k ≡ suc (count - (k + 1))
  more h = omega arith

  abbrev Invariant : Type 0
  Invariant = with_params front (open_params r k (count - k) rest) ≡ whole

  at_extra : (after : List ℕ) → k < count → Some after ≡ behind 65 rest → Invariant → whole ≡ and_then (with_front front (many (count - k) r after)) (λ ts. pure (ts, Some k))
  unfolding open_params
  at_extra after h e i =
      let n = count - (k + 1) in
      sym i ∙ ap (λ (j : ℕ). with_params front (open_params r k j rest)) (more h)
      ∙ ap (λ (o : Outcome (List SigTy × Option ℕ)). with_params front o) (marked_some 65 (maps (λ ts. (ts, Some k)) (many (suc n) r)) (one_then n) rest after e)
      ∙ extra_params front (Some k) (many (suc n) r after)
      ∙ ap (λ (j : ℕ). and_then (with_front front (many j r after)) (λ ts. pure (ts, Some k))) (sym (more h))

  pub extra_ok : (after left : List ℕ) (ts : List SigTy) → k < count → Some after ≡ behind 65 rest → with_front front (many (count - k) r after) ≡ Ok (ts, left) → Invariant → whole ≡ Ok ((ts, Some k), left)
  extra_ok after left ts h e g i = at_extra after h e i ∙ ap (λ (o : Outcome (List SigTy)). and_then o (λ us. pure (us, Some k))) g

  pub extra_stop : (after : List ℕ) (n : ℕ) → k < count → Some after ≡ behind 65 rest → with_front front (many (count - k) r after) ≡ Err n → Invariant → whole ≡ Err n
  extra_stop after n h e g i = at_extra after h e i ∙ ap (λ (o : Outcome (List SigTy)). and_then o (λ us. pure (us, Some k))) g

  at_one : k < count → None ≡ behind 65 rest → Invariant → whole ≡ with_params front (one_then (count - (k + 1)) rest)
  unfolding open_params
  at_one h e i =
      let n = count - (k + 1) in
      sym i ∙ ap (λ (j : ℕ). with_params front (open_params r k j rest)) (more h)
      ∙ ap (λ (o : Outcome (List SigTy × Option ℕ)). with_params front o) (marked_none 65 (maps (λ ts. (ts, Some k)) (many (suc n) r)) (one_then n) rest e)

  abbrev go_on : Outcome SigTy → Outcome (List SigTy × Option ℕ)
  go_on o = with_params front (and_then o (λ t. maps (λ p. (t ∷ p.0, p.1)) (open_params r (k + 1) (count - (k + 1)))))

  pub one_more : (t : SigTy) (after : List ℕ) → k < count → None ≡ behind 65 rest → r rest ≡ Ok (t, after) → Invariant → with_params (front ++ t ∷ []) (open_params r (k + 1) (count - (k + 1)) after) ≡ whole
  one_more t after h e g i =
      sym (step_params front t (open_params r (k + 1) (count - (k + 1)) after)) ∙ sym (ap go_on g) ∙ sym (at_one h e i)

  pub one_stops : (n : ℕ) → k < count → None ≡ behind 65 rest → r rest ≡ Err n → Invariant → whole ≡ Err n
  one_stops n h e g i = at_one h e i ∙ ap go_on g

  pub none_left : count ≤ k → Invariant → whole ≡ Ok ((front, None), rest)
  unfolding open_params
  none_left h i =
      let none : count - k ≡ 0 = omega arith in
      sym i ∙ ap (λ (j : ℕ). with_params front (open_params r k j rest)) none ∙ simp append-nil

-- a stop of one reader is a stop of another
pub stops_along : {A B : Type 0} (s : Stop) (a : Outcome A) (b : Outcome B) → Stops s a → ((n : ℕ) → a ≡ Err n → b ≡ Err n) → Stops s b
stops_along (stop.At n) a b h f = f n h
stops_along (stop.Memory e) a b h f = tt
