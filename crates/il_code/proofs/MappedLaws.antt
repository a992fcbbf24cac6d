-- What a function gives of each element, one element after another.
use Rattle.std.proofs.Common.{◌≡◌, ℕ, zero, suc, ◌+◌, ◌<◌, true, false, List, [], ◌∷◌, ◌++◌, length, get_or, drop, take, Option, Some, None, refl, sym, ap, ◌∙◌, arith, append_assoc, add-one, drop-cons, lt-ltb, le-ltb, set, length-set}
use Rattle.std.specs.Prelude.{is_none, position, MatchOption}
use Rattle.std.proofs.lemmas.List.{drop-set-lt, get_or-drop, take_more_set}
use Rattle.std.proofs.lemmas.List.Sums.{position_or_len_is}
use Rattle.cil_model.specs.BodyOf.{map_all, and_all}

-- what is done, and what is given of the rest
abbrev pub after : {Y : Type 0} → List Y → Option (List Y) → Option (List Y)
after ys None = None
after ys (Some zs) = Some (ys ++ zs)

after-and_all : {Y : Type 0} (ys : List Y) (y : Y) (o : Option (List Y)) → after ys (and_all (Some y) o) ≡ after (ys ++ y ∷ []) o
after-and_all ys y None = refl
after-and_all ys y (Some zs) = ap Some (sym (append_assoc ys (y ∷ []) zs))

pub after-nothing : {Y : Type 0} (o : Option (List Y)) → after [] o ≡ o
after-nothing None = refl
after-nothing (Some zs) = refl

pub one_more : {X Y : Type 0} (f : X → Option Y) (xs : List X) (k : ℕ) (x d : X) (y : Y) (ys : List Y) → k < length xs → get_or xs k d ≡ x → f x ≡ Some y → after ys (map_all f (drop k xs)) ≡ after (ys ++ y ∷ []) (map_all f (drop (k + 1) xs))
one_more f xs k x d y ys h is e =
    rw (add-one, drop-cons xs k d, is, e) (after-and_all ys y (map_all f (drop (suc k) xs)))

pub none_of : {X Y : Type 0} (f : X → Option Y) (xs : List X) (k : ℕ) (x d : X) (ys : List Y) → k < length xs → get_or xs k d ≡ x → f x ≡ None → after ys (map_all f (drop k xs)) ≡ None
none_of f xs k x d ys h is e = rw (drop-cons xs k d, is, e) refl

pub first_none : {X Y : Type 0} (f : X → Option Y) (xs : List X) (k : ℕ) (d : X) → k < length xs → f (get_or xs k d) ≡ None → ((j : ℕ) → j < k → is_none (f (get_or xs j d)) ≡ false) → position (λ x. is_none (f x)) xs ≡ Some k
first_none f xs k d h e before =
    let p = position_or_len_is (λ x. is_none (f x)) xs k d (omega arith) before (λ below. ap is_none e) in
    rw (p, lt-ltb k (length xs) h) refl

-- where two lists go on alike, their elements there are the same
pub same_at : {X : Type 0} (xs ys : List X) (k : ℕ) (d : X) → drop k xs ≡ drop k ys → get_or xs k d ≡ get_or ys k d
same_at xs ys k d e =
    let z : k + 0 ≡ k = omega arith in
    ap (λ (n : ℕ). get_or xs n d) (sym z) ∙ sym (get_or-drop k xs 0 d) ∙ ap (λ l. get_or l 0 d) e ∙ get_or-drop k ys 0 d ∙ ap (λ (n : ℕ). get_or ys n d) z

drop_more : {X : Type 0} (xs ys : List X) (k : ℕ) (d : X) → k < length xs → k < length ys → drop k xs ≡ drop k ys → drop (k + 1) xs ≡ drop (k + 1) ys
drop_more xs ys k d h g e =
    let p : get_or xs k d ∷ drop (suc k) xs ≡ get_or ys k d ∷ drop (suc k) ys = sym (drop-cons xs k d h) ∙ e ∙ drop-cons ys k d g in
    rw (add-one) (cc)

pub put_one : {X : Type 0} (f : X → Option X) (old xs : List X) (k : ℕ) (d y : X) → k < length old → length xs ≡ length old → drop k xs ≡ drop k old → after (take k xs) (map_all f (drop k old)) ≡ map_all f old → f (get_or xs k d) ≡ Some y → (length (set xs k y) ≡ length old) × (drop (k + 1) (set xs k y) ≡ drop (k + 1) old) × (after (take (k + 1) (set xs k y)) (map_all f (drop (k + 1) old)) ≡ map_all f old)
put_one f old xs k d y h len rest all e =
    let inside : k < length xs = omega arith in (
      length-set xs k y ∙ len,
      drop-set-lt (k + 1) xs k y (omega arith) ∙ drop_more xs old k d inside h rest,
      rw (take_more_set xs k y inside) (sym (one_more f old k (get_or xs k d) d y (take k xs) h (sym (same_at xs old k d rest)) e) ∙ all),
    )

pub put_none : {X : Type 0} (f : X → Option X) (old xs : List X) (k : ℕ) (d : X) → k < length old → drop k xs ≡ drop k old → after (take k xs) (map_all f (drop k old)) ≡ map_all f old → f (get_or xs k d) ≡ None → map_all f old ≡ None
put_none f old xs k d h rest all e = sym all ∙ none_of f old k (get_or xs k d) d (take k xs) h (sym (same_at xs old k d rest)) e

pub refused : {X : Type 0} (o : Option X) (z : X) → MatchOption o (false ≡ false) (λ y. (false ≡ true) × (z ≡ y)) → o ≡ None
refused None z h = refl
refused (Some y) z h = absurd (impossible h.0)
  where
    impossible : false ≡ true → ⊥
    impossible e = cc

split_each : {X Y : Type 0} (f : X → Option Y) (x : X) (xs : List X) (d : X) (o : Option Y) (p : Option (List Y)) (ys : List Y) → f x ≡ o → map_all f xs ≡ p → and_all o p ≡ Some ys → ((zs : List Y) → map_all f xs ≡ Some zs → (k : ℕ) → k < length xs → is_none (f (get_or xs k d)) ≡ false) → (j : ℕ) → j < length (x ∷ xs) → is_none (f (get_or (x ∷ xs) j d)) ≡ false
split_each f x xs d None p ys e r w more j inside = cc
split_each f x xs d (Some y) None ys e r w more j inside = cc
split_each f x xs d (Some y) (Some zs) ys e r w more zero inside = ap is_none e
split_each f x xs d (Some y) (Some zs) ys e r w more (suc j) inside = more zs r j (omega arith)

some_each : {X Y : Type 0} (f : X → Option Y) (xs : List X) (ys : List Y) → map_all f xs ≡ Some ys → (j : ℕ) (d : X) → j < length xs → is_none (f (get_or xs j d)) ≡ false
some_each f [] ys h j d inside = absurd (omega arith)
some_each f (x ∷ xs) ys h j d inside = split_each f x xs d (f x) (map_all f xs) ys refl refl h (λ zs r k lt. some_each f xs zs r k d lt) j inside

pub none_missing : {X Y : Type 0} (f : X → Option Y) (xs : List X) (ys : List Y) → map_all f xs ≡ Some ys → position (λ x. is_none (f x)) xs ≡ None
none_missing f [] ys h = refl
none_missing f (x ∷ xs) ys h =
    let p = position_or_len_is (λ x. is_none (f x)) (x ∷ xs) (length (x ∷ xs)) x (omega arith) (λ k lt. some_each f (x ∷ xs) ys h k x lt) (λ lt. absurd (omega arith)) in
    rw (p, le-ltb (length (x ∷ xs)) (length (x ∷ xs)) (omega arith)) refl
