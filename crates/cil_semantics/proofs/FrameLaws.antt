-- Frames by their number from below, where the topmost stands last.
use Rattle.std.proofs.Common.{◌≡◌, ◌≢◌, ℕ, zero, suc, ◌<◌, ◌≤◌, Bool, true, false, if◌then◌else◌, ◌==◌, nat_lt, List, [], ◌∷◌, ◌++◌, length, reverse, refl, sym, ap, ◌∙◌, arith, Option, Some, None}
use Rattle.std.specs.Prelude.{slice_get, option_and_then}
use Rattle.std.proofs.lemmas.Bool.{eqb-true, eq-eqb, ltb-true, ltb-false}
use Rattle.std.proofs.lemmas.Option.{slice_get_past}
use Rattle.std.proofs.lemmas.List.{length-reverse, reverse-append, reverse-reverse}
use Rattle.cil_semantics.specs.declared.state.Frame.{Frame}
use Rattle.cil_semantics.specs.Frames.{frame_at}

pub slice_get_front : {X : Type 0} (xs : List X) (y : X) (n : ℕ) → n < length xs → slice_get (xs ++ y ∷ []) n ≡ slice_get xs n
slice_get_front [] y n h = absurd (omega arith)
slice_get_front (x ∷ xs) y zero h = refl
slice_get_front (x ∷ xs) y (suc n) h = let l : n < length xs = omega arith in slice_get_front xs y n l

pub slice_get_last : {X : Type 0} (xs : List X) (y : X) → slice_get (xs ++ y ∷ []) (length xs) ≡ Some y
slice_get_last [] y = refl
slice_get_last (x ∷ xs) y = slice_get_last xs y

abbrev pub if_runs : ℕ → Frame → Option Frame
if_runs m f = if f.method == m then Some f else None

pub reverse_cons : {X : Type 0} (x : X) (xs : List X) → reverse (x ∷ xs) ≡ reverse xs ++ x ∷ []
reverse_cons x xs = reverse-append (x ∷ []) xs

pub by_order : {P : Type 0} (a b : ℕ) → (a < b → P) → (a ≡ b → P) → (b < a → P) → P
by_order {P = P} a b lt eq gt = cases (nat_lt a b) (nat_lt b a) (ltb-true a b) (ltb-true b a) (ltb-false a b) (ltb-false b a)
  where
    cases : (x y : Bool) → (x ≡ true → a < b) → (y ≡ true → b < a) → (x ≡ false → b ≤ a) → (y ≡ false → a ≤ b) → P
    cases true y f g h i = lt (f refl)
    cases false true f g h i = gt (g refl)
    cases false false f g h i = eq (let p : b ≤ a = h refl in let q : a ≤ b = i refl in omega arith)

pub frame_at_past : (fs : List Frame) (n m : ℕ) → length fs ≤ n → frame_at fs n m ≡ None
frame_at_past [] n m h = refl
frame_at_past (f ∷ fs) n m h = let k : length fs ≤ n = omega arith in cases (n == length fs) (eqb-true n (length fs)) (frame_at_past fs n m k)
  where
    cases : (b : Bool) → (b ≡ true → n ≡ length fs) → frame_at fs n m ≡ None → (if b then if_runs m f else frame_at fs n m) ≡ None
    cases true e r = absurd (let q : n ≡ length fs = e refl in omega arith)
    cases false e r = r

pub frame_at_front : (f : Frame) (fs : List Frame) (n m : ℕ) → n < length fs → frame_at (f ∷ fs) n m ≡ frame_at fs n m
frame_at_front f fs n m h = cases (n == length fs) (eqb-true n (length fs))
  where
    cases : (b : Bool) → (b ≡ true → n ≡ length fs) → (if b then if_runs m f else frame_at fs n m) ≡ frame_at fs n m
    cases true e = absurd (let q : n ≡ length fs = e refl in omega arith)
    cases false e = refl

pub frame_at_top : (f : Frame) (fs : List Frame) (n m : ℕ) → n ≡ length fs → frame_at (f ∷ fs) n m ≡ if_runs m f
frame_at_top f fs n m h = ap (λ b. if b then if_runs m f else frame_at fs n m) (eq-eqb n (length fs) h)

-- The frame of a number is that place of the frames in the order in which they came.
pub frame_at_is : (fs : List Frame) (n m : ℕ) → frame_at fs n m ≡ option_and_then (if_runs m) (slice_get (reverse fs) n)
frame_at_is [] n m = refl
frame_at_is (f ∷ fs) n m = by_order n (length fs) (below (frame_at_is fs n m)) here above
  where
    below : frame_at fs n m ≡ option_and_then (if_runs m) (slice_get (reverse fs) n) → n < length fs → frame_at (f ∷ fs) n m ≡ option_and_then (if_runs m) (slice_get (reverse (f ∷ fs)) n)
    below r h =
        let k : n < length (reverse fs) = omega (arith, length-reverse fs) in
        frame_at_front f fs n m h ∙ r ∙ sym (ap (option_and_then (if_runs m)) (ap (λ xs. slice_get xs n) (reverse_cons f fs) ∙ slice_get_front (reverse fs) f n k))

    here : n ≡ length fs → frame_at (f ∷ fs) n m ≡ option_and_then (if_runs m) (slice_get (reverse (f ∷ fs)) n)
    here e =
        frame_at_top f fs n m e
        ∙ sym (ap (option_and_then (if_runs m)) (ap (λ xs. slice_get xs n) (reverse_cons f fs) ∙ ap (slice_get (reverse fs ++ f ∷ [])) (e ∙ sym (length-reverse fs)) ∙ slice_get_last (reverse fs) f))

    above : length fs < n → frame_at (f ∷ fs) n m ≡ option_and_then (if_runs m) (slice_get (reverse (f ∷ fs)) n)
    above h =
        let k : length (reverse (f ∷ fs)) ≤ n = omega (arith, length-reverse (f ∷ fs)) in
        let k2 : length (f ∷ fs) ≤ n = omega arith in
        frame_at_past (f ∷ fs) n m k2 ∙ sym (ap (option_and_then (if_runs m)) (slice_get_past (reverse (f ∷ fs)) n k))

-- in terms of the place in a vector whose last is topmost
pub frame_at_place : (xs : List Frame) (n m : ℕ) → frame_at (reverse xs) n m ≡ option_and_then (if_runs m) (slice_get xs n)
frame_at_place xs n m = frame_at_is (reverse xs) n m ∙ ap (λ ys. option_and_then (if_runs m) (slice_get ys n)) (reverse-reverse xs)

-- what a look-up in the vector says of the frame of a number
pub found_frame : (xs self : List Frame) (n m : ℕ) (f : Frame) → reverse xs ≡ self → Some f ≡ slice_get xs n → f.method ≡ m → Some f ≡ frame_at self n m
found_frame xs self n m f v e r =
    sym (ap (λ s. frame_at s n m) (sym v) ∙ frame_at_place xs n m ∙ ap (option_and_then (if_runs m)) (sym e) ∙ ap (λ b. if b then Some f else None) (eq-eqb f.method m r))

pub other_frame : (xs self : List Frame) (n m : ℕ) (f : Frame) → reverse xs ≡ self → Some f ≡ slice_get xs n → f.method ≢ m → None ≡ frame_at self n m
other_frame xs self n m f v e r =
    sym (ap (λ s. frame_at s n m) (sym v) ∙ frame_at_place xs n m ∙ ap (option_and_then (if_runs m)) (sym e) ∙ cases (f.method == m) (eqb-true f.method m))
  where
    cases : (b : Bool) → (b ≡ true → f.method ≡ m) → (if b then Some f else None) ≡ None
    cases true g = absurd (r (g refl))
    cases false g = refl

pub no_frame : (xs self : List Frame) (n m : ℕ) → reverse xs ≡ self → None ≡ slice_get xs n → None ≡ frame_at self n m
no_frame xs self n m v e = sym (ap (λ s. frame_at s n m) (sym v) ∙ frame_at_place xs n m ∙ ap (option_and_then (if_runs m)) (sym e))
