-- A change in one of some frames, by its number from below.
use Rattle.std.proofs.Common.{◌≡◌, ◌∙◌, sym, ap, refl, arith, ℕ, ◌<◌, ◌≤◌, Bool, true, false, if◌then◌else◌, ◌==◌, List, [], ◌∷◌, ◌++◌, length, reverse, Option, Some, None}
use Rattle.std.specs.Prelude.{option_and_then, option_map, slice_get, slice_set}
use Rattle.std.proofs.lemmas.Bool.{eqb-true, eq-eqb}
use Rattle.std.proofs.lemmas.List.{length-reverse, reverse-append, reverse-reverse, set-append_left}
use Rattle.std.proofs.Math.Seq.{set-append_seam}
use Rattle.cil_semantics.specs.declared.Frame.{Frame}
use Rattle.cil_semantics.specs.declared.Local.{Local}
use Rattle.cil_semantics.specs.Frames.{frame_at, in_frame}
use Rattle.cil_semantics.proofs.FrameLaws.{by_order, frame_at_front, frame_at_is, frame_at_past, frame_at_top, if_runs, reverse_cons}

-- ---- the frame itself

pub is_below : (fs : List Frame) (n m : ℕ) (f : Frame) → Some f ≡ frame_at fs n m → n < length fs
is_below fs n m f e = by_order n (length fs) (λ h. h) (λ h. absurd (past (omega arith))) (λ h. absurd (past (omega arith)))
  where
    past : length fs ≤ n → ⊥
    past h = let none : frame_at fs n m ≡ None = frame_at_past fs n m h in cc

runs : (m : ℕ) (f : Frame) (o : Option Frame) → Some f ≡ option_and_then (if_runs m) o → o ≡ Some f
runs m f None e = absurd cc
runs m f (Some g) e = cases (g.method == m) e
  where
    cases : (b : Bool) → Some f ≡ (if b then Some g else None) → Some g ≡ Some f
    cases true h = sym h
    cases false h = absurd cc

pub is_at : (fs : List Frame) (n m : ℕ) (f : Frame) → Some f ≡ frame_at fs n m → slice_get (reverse fs) n ≡ Some f
is_at fs n m f e = runs m f (slice_get (reverse fs) n) (e ∙ frame_at_is fs n m)

-- ---- the change

abbrev changed : ℕ → (Local → Option Local) → Frame → List Frame → Option (List Frame)
changed m go f fs = if f.method == m then option_map (λ l. record f { local = l } ∷ fs) (go f.local) else None

change_front : (g : Frame) (fs : List Frame) (n m : ℕ) (go : Local → Option Local) → n < length fs → in_frame (g ∷ fs) n m go ≡ option_map (λ rest. g ∷ rest) (in_frame fs n m go)
change_front g fs n m go h = cases (n == length fs) (eqb-true n (length fs))
  where
    cases : (b : Bool) → (b ≡ true → n ≡ length fs) → (if b then changed m go g fs else option_map (λ rest. g ∷ rest) (in_frame fs n m go)) ≡ option_map (λ rest. g ∷ rest) (in_frame fs n m go)
    cases true e = absurd (let q : n ≡ length fs = e refl in omega arith)
    cases false e = refl

pub change_top : (g : Frame) (fs : List Frame) (n m : ℕ) (go : Local → Option Local) → n ≡ length fs → in_frame (g ∷ fs) n m go ≡ changed m go g fs
change_top g fs n m go h = ap (λ b. if b then changed m go g fs else option_map (λ rest. g ∷ rest) (in_frame fs n m go)) (eq-eqb n (length fs) h)

change_past : (fs : List Frame) (n m : ℕ) (go : Local → Option Local) → length fs ≤ n → in_frame fs n m go ≡ None
change_past [] n m go h = refl
change_past (g ∷ fs) n m go h = cases (n == length fs) (eqb-true n (length fs)) (change_past fs n m go (omega arith))
  where
    cases : (b : Bool) → (b ≡ true → n ≡ length fs) → in_frame fs n m go ≡ None → (if b then changed m go g fs else option_map (λ rest. g ∷ rest) (in_frame fs n m go)) ≡ None
    cases true e r = absurd (let q : n ≡ length fs = e refl in omega arith)
    cases false e r = ap (option_map (λ rest. g ∷ rest)) r

-- a change in the list of the frames, the lowest first
abbrev put : List Frame → ℕ → Frame → List Frame
put fs n f = reverse (slice_set (reverse fs) n f)

put_front : (g : Frame) (fs : List Frame) (n : ℕ) (f : Frame) → n < length fs → put (g ∷ fs) n f ≡ g ∷ put fs n f
put_front g fs n f h =
    let k : n < length (reverse fs) = omega (arith, length-reverse fs) in
    ap (λ xs. reverse (slice_set xs n f)) (reverse_cons g fs)
    ∙ ap reverse (set-append_left (reverse fs) (g ∷ []) n f k)
    ∙ reverse-append (slice_set (reverse fs) n f) (g ∷ [])

put_top : (g : Frame) (fs : List Frame) (n : ℕ) (f : Frame) → n ≡ length fs → put (g ∷ fs) n f ≡ f ∷ fs
put_top g fs n f h =
    ap (λ xs. reverse (slice_set xs n f)) (reverse_cons g fs)
    ∙ ap (λ (k : ℕ). reverse (slice_set (reverse fs ++ g ∷ []) k f)) (h ∙ sym (length-reverse fs))
    ∙ ap reverse (set-append_seam (reverse fs) g [] f)
    ∙ reverse-append (reverse fs) (f ∷ [])
    ∙ ap (λ xs. f ∷ xs) (reverse-reverse fs)

-- by what the change of the frame answers
abbrev answer : List Frame → ℕ → (Local → Option Local) → Frame → Option (List Frame)
answer fs n go f = option_map (λ l. put fs n (record f { local = l })) (go f.local)

change_is : (fs : List Frame) (n m : ℕ) (go : Local → Option Local) → in_frame fs n m go ≡ option_and_then (answer fs n go) (frame_at fs n m)
change_is [] n m go = refl
change_is (g ∷ fs) n m go = by_order n (length fs) (front (change_is fs n m go)) top past
  where
    front : in_frame fs n m go ≡ option_and_then (answer fs n go) (frame_at fs n m) → n < length fs → in_frame (g ∷ fs) n m go ≡ option_and_then (answer (g ∷ fs) n go) (frame_at (g ∷ fs) n m)
    front r h = change_front g fs n m go h ∙ ap (option_map (λ rest. g ∷ rest)) r ∙ found (frame_at fs n m) ∙ sym (ap (option_and_then (answer (g ∷ fs) n go)) (frame_at_front g fs n m h))
      where
        local : (f : Frame) (o : Option Local) → option_map (λ rest. g ∷ rest) (option_map (λ l. put fs n (record f { local = l })) o) ≡ option_map (λ l. put (g ∷ fs) n (record f { local = l })) o
        local f None = refl
        local f (Some l) = ap Some (sym (put_front g fs n (record f { local = l }) h))

        found : (o : Option Frame) → option_map (λ rest. g ∷ rest) (option_and_then (answer fs n go) o) ≡ option_and_then (answer (g ∷ fs) n go) o
        found None = refl
        found (Some f) = local f (go f.local)

    top : n ≡ length fs → in_frame (g ∷ fs) n m go ≡ option_and_then (answer (g ∷ fs) n go) (frame_at (g ∷ fs) n m)
    top h = change_top g fs n m go h ∙ tested (g.method == m) ∙ sym (ap (option_and_then (answer (g ∷ fs) n go)) (frame_at_top g fs n m h))
      where
        local : (o : Option Local) → option_map (λ l. record g { local = l } ∷ fs) o ≡ option_map (λ l. put (g ∷ fs) n (record g { local = l })) o
        local None = refl
        local (Some l) = ap Some (sym (put_top g fs n (record g { local = l }) h))

        tested : (b : Bool) → (if b then option_map (λ l. record g { local = l } ∷ fs) (go g.local) else None) ≡ option_and_then (answer (g ∷ fs) n go) (if b then Some g else None)
        tested true = local (go g.local)
        tested false = refl

    past : length fs < n → in_frame (g ∷ fs) n m go ≡ option_and_then (answer (g ∷ fs) n go) (frame_at (g ∷ fs) n m)
    past h =
        let k : length (g ∷ fs) ≤ n = omega arith in
        change_past (g ∷ fs) n m go k ∙ sym (ap (option_and_then (answer (g ∷ fs) n go)) (frame_at_past (g ∷ fs) n m k))

pub no_change : (fs : List Frame) (n m : ℕ) (go : Local → Option Local) → None ≡ frame_at fs n m → None ≡ in_frame fs n m go
no_change fs n m go e = ap (option_and_then (answer fs n go)) e ∙ sym (change_is fs n m go)

pub unchanged : (fs : List Frame) (n m : ℕ) (go : Local → Option Local) (f : Frame) → Some f ≡ frame_at fs n m → None ≡ go f.local → None ≡ in_frame fs n m go
unchanged fs n m go f e h = ap (option_map (λ l. put fs n (record f { local = l }))) h ∙ ap (option_and_then (answer fs n go)) e ∙ sym (change_is fs n m go)

pub changed_to : (fs gs : List Frame) (n m : ℕ) (go : Local → Option Local) (f : Frame) (l : Local) → Some f ≡ frame_at fs n m → Some l ≡ go f.local → reverse gs ≡ slice_set (reverse fs) n (record f { local = l }) → Some gs ≡ in_frame fs n m go
changed_to fs gs n m go f l e h k =
    ap Some (sym (reverse-reverse gs) ∙ ap reverse k)
    ∙ ap (option_map (λ l. put fs n (record f { local = l }))) h
    ∙ ap (option_and_then (answer fs n go)) e
    ∙ sym (change_is fs n m go)
