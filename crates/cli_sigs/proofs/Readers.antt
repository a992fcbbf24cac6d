-- A reader reads a grammar: what it finds is in the grammar, all of the grammar is found, and it stops at the first byte
-- that no text of the grammar has there.
use Rattle.std.proofs.Common.{◌≡◌, ◌==◌, ℕ, zero, suc, ◌+◌, Bool, true, false, cond, List, [], ◌∷◌, ◌++◌, length, Option, Some, None, Ok, Err, refl, sym, ap, subst, ◌∙◌, append_assoc, arith, inl, inr, ◌⊎◌, append-nil}
use Rattle.std.proofs.lemmas.Bool.{eqb-true, eq-eqb}
use Rattle.cli_sigs.specs.Grammar.{Each}
use Rattle.cli_sigs.specs.Read.{Outcome, Reader, and_then, ◌>>=◌, pure, maps, byte_given, byte_as, byte_where, many, marked}

pub record IsReader {A : Type 0} (G : List ℕ → A → Type 0) (r : Reader A) : Type 0 where
  pub found : (bs rest : List ℕ) (a : A) → r bs ≡ Ok (a, rest) → (front : List ℕ) × (bs ≡ front ++ rest) × G front a
  pub again : (front rest : List ℕ) (a : A) → G front a → r (front ++ rest) ≡ Ok (a, rest)
  pub short : (bs : List ℕ) → r bs ≡ Err 0 → (more : List ℕ) × (a : A) × G (bs ++ more) a
  pub bad : (bs : List ℕ) (m : ℕ) → r bs ≡ Err (suc m) → (front : List ℕ) × (c : ℕ) × (cs : List ℕ) × (bs ≡ front ++ c ∷ cs) × (length cs ≡ m) × (r front ≡ Err 0) × ((more : List ℕ) → r (front ++ c ∷ more) ≡ Err (suc (length more)))

-- what a reader gives, one way or the other
pub gave : {A : Type 0} (o : Outcome A) → ((a : A) × (rest : List ℕ) × (o ≡ Ok (a, rest))) ⊎ ((n : ℕ) × (o ≡ Err n))
gave (Ok p) = inl (p.0, p.1, refl)
gave (Err n) = inr (n, refl)

pub then_ok : {A B : Type 0} (o : Outcome A) (f : A → Reader B) (b : B) (rest : List ℕ) → and_then o f ≡ Ok (b, rest) → (a : A) × (mid : List ℕ) × (o ≡ Ok (a, mid)) × (f a mid ≡ Ok (b, rest))
then_ok (Ok p) f b rest e = (p.0, p.1, refl, e)
then_ok (Err n) f b rest e = absurd cc

pub then_err : {A B : Type 0} (o : Outcome A) (f : A → Reader B) (n : ℕ) → and_then o f ≡ Err n → (o ≡ Err n) ⊎ ((a : A) × (mid : List ℕ) × (o ≡ Ok (a, mid)) × (f a mid ≡ Err n))
then_err (Ok p) f n e = inr (p.0, p.1, refl, e)
then_err (Err m) f n e = inl (cc)

abbrev read_ok : {A : Type 0} → A → List ℕ → Outcome A
read_ok a rest = Ok (a, rest)

abbrev stop_at : {A : Type 0} → ℕ → Outcome A
stop_at n = Err n

pub ok_is : {A : Type 0} (a b : A) (xs ys : List ℕ) → read_ok a xs ≡ read_ok b ys → (a ≡ b) × (xs ≡ ys)
ok_is {A = A} a b xs ys e =
    let get_value : Outcome A → A = elim [ Ok p ↦ p.0 | Err n ↦ a ] in
    let get_rest : Outcome A → List ℕ = elim [ Ok p ↦ p.1 | Err n ↦ xs ] in
    (ap get_value e, ap get_rest e)

pub not_empty : (front cs : List ℕ) (c : ℕ) → [] ≡ front ++ c ∷ cs → ⊥
not_empty [] cs c e = cc
not_empty (x ∷ front) cs c e = cc

-- something is in the grammar
pub inhabited : {A : Type 0} (G : List ℕ → A → Type 0) (r : Reader A) → IsReader G r → (more : List ℕ) × (a : A) × G more a
inhabited {A = A} G r h = go (gave (r []))
  where
    go : ((a : A) × (rest : List ℕ) × (r [] ≡ Ok (a, rest))) ⊎ ((n : ℕ) × (r [] ≡ Err n)) → (more : List ℕ) × (a : A) × G more a
    go (inl p) = let f = h.found [] p.1 p.0 p.2 in (f.0, p.0, f.2)
    go (inr (zero, e)) = h.short [] e
    go (inr (suc m, e)) = let b = h.bad [] m e in absurd (not_empty b.0 b.2 b.1 b.3)

-- ---- one after another

abbrev pub Then : {A B : Type 0} → (List ℕ → A → Type 0) → (A → List ℕ → B → Type 0) → List ℕ → B → Type 0
Then {A} G H bs b = (front : List ℕ) × (back : List ℕ) × (a : A) × (bs ≡ front ++ back) × G front a × H a back b

module _ {A B : Type 0} (G : List ℕ → A → Type 0) (H : A → List ℕ → B → Type 0) (r : Reader A) (f : A → Reader B) (h : IsReader G r) (k : (a : A) (front : List ℕ) → G front a → IsReader (H a) (f a)) where
  bind_found : (bs rest : List ℕ) (b : B) → (r >>= f) bs ≡ Ok (b, rest) → (front : List ℕ) × (bs ≡ front ++ rest) × Then G H front b
  bind_found bs rest b e =
      let t = then_ok (r bs) f b rest e in
      let x = h.found bs t.1 t.0 t.2 in
      let y = (k t.0 x.0 x.2).found t.1 rest b t.3 in
      (x.0 ++ y.0, x.1 ∙ ap (λ (l : List ℕ). x.0 ++ l) y.1 ∙ sym (append_assoc x.0 y.0 rest), (x.0, y.0, t.0, refl, x.2, y.2))

  bind_again : (front rest : List ℕ) (b : B) → Then G H front b → (r >>= f) (front ++ rest) ≡ Ok (b, rest)
  bind_again front rest b g =
      let one : r (front ++ rest) ≡ Ok (g.2, g.1 ++ rest) = ap r (ap (λ (l : List ℕ). l ++ rest) g.3 ∙ append_assoc g.0 g.1 rest) ∙ h.again g.0 (g.1 ++ rest) g.2 g.4 in
      ap (λ (o : Outcome A). and_then o f) one ∙ (k g.2 g.0 g.4).again g.1 rest b g.5

  bind_short : (bs : List ℕ) → (r >>= f) bs ≡ Err 0 → (more : List ℕ) × (b : B) × Then G H (bs ++ more) b
  bind_short bs e = go (then_err (r bs) f 0 e)
    where
      go : (r bs ≡ Err 0) ⊎ ((a : A) × (mid : List ℕ) × (r bs ≡ Ok (a, mid)) × (f a mid ≡ Err 0)) → (more : List ℕ) × (b : B) × Then G H (bs ++ more) b
      go (inl s) =
          let x = h.short bs s in
          let y = inhabited (H x.1) (f x.1) (k x.1 (bs ++ x.0) x.2) in
          (x.0 ++ y.0, y.1, (bs ++ x.0, y.0, x.1, sym (append_assoc bs x.0 y.0), x.2, y.2))
      go (inr t) =
          let x = h.found bs t.1 t.0 t.2 in
          let y = (k t.0 x.0 x.2).short t.1 t.3 in
          (y.0, y.1, (x.0, t.1 ++ y.0, t.0, ap (λ (l : List ℕ). l ++ y.0) x.1 ∙ append_assoc x.0 t.1 y.0, x.2, y.2))

  bind_bad : (bs : List ℕ) (m : ℕ) → (r >>= f) bs ≡ Err (suc m) → (front : List ℕ) × (c : ℕ) × (cs : List ℕ) × (bs ≡ front ++ c ∷ cs) × (length cs ≡ m) × ((r >>= f) front ≡ Err 0) × ((more : List ℕ) → (r >>= f) (front ++ c ∷ more) ≡ Err (suc (length more)))
  bind_bad bs m e = go (then_err (r bs) f (suc m) e)
    where
      go : (r bs ≡ Err (suc m)) ⊎ ((a : A) × (mid : List ℕ) × (r bs ≡ Ok (a, mid)) × (f a mid ≡ Err (suc m))) → (front : List ℕ) × (c : ℕ) × (cs : List ℕ) × (bs ≡ front ++ c ∷ cs) × (length cs ≡ m) × ((r >>= f) front ≡ Err 0) × ((more : List ℕ) → (r >>= f) (front ++ c ∷ more) ≡ Err (suc (length more)))
      go (inl s) =
          let x = h.bad bs m s in
          (x.0, x.1, x.2, x.3, x.4, ap (λ (o : Outcome A). and_then o f) x.5, λ more. ap (λ (o : Outcome A). and_then o f) (x.6 more))
      go (inr t) =
          let x = h.found bs t.1 t.0 t.2 in
          let y = (k t.0 x.0 x.2).bad t.1 m t.3 in
          (x.0 ++ y.0, y.1, y.2, x.1 ∙ ap (λ (l : List ℕ). x.0 ++ l) y.3 ∙ sym (append_assoc x.0 y.0 (y.1 ∷ y.2)), y.4, ap (λ (o : Outcome A). and_then o f) (h.again x.0 y.0 t.0 x.2) ∙ y.5, λ more. ap (λ (o : Outcome A). and_then o f) (ap r (append_assoc x.0 y.0 (y.1 ∷ more)) ∙ h.again x.0 (y.0 ++ y.1 ∷ more) t.0 x.2) ∙ y.6 more)

  pub reads-bind : IsReader (Then G H) (r >>= f)
  reads-bind = record { found = bind_found; again = bind_again; short = bind_short; bad = bind_bad }

-- ---- nothing

abbrev pub Nothing : {A : Type 0} → A → List ℕ → A → Type 0
Nothing a bs b = (bs ≡ []) × (a ≡ b)

pub reads-pure : {A : Type 0} (a : A) → IsReader (Nothing a) (pure a)
reads-pure {A = A} a = record {
  found = λ bs rest b e. let p = ok_is a b bs rest e in ([], p.1, (refl, p.0));
  again = λ front rest b g. ap (λ (l : List ℕ). let o : Outcome A = Ok (a, l ++ rest) in o) g.0 ∙ ap (λ (x : A). let o : Outcome A = Ok (x, rest) in o) g.1;
  short = λ bs e. absurd cc;
  bad = λ bs m e. absurd cc;
}

-- ---- another way to say the grammar

pub same_grammar : {A : Type 0} (G H : List ℕ → A → Type 0) (r : Reader A) → IsReader G r → ((bs : List ℕ) (a : A) → G bs a → H bs a) → ((bs : List ℕ) (a : A) → H bs a → G bs a) → IsReader H r
same_grammar G H r h to from = record {
  found = λ bs rest a e. let x = h.found bs rest a e in (x.0, x.1, to x.0 a x.2);
  again = λ front rest a g. h.again front rest a (from front a g);
  short = λ bs e. let x = h.short bs e in (x.0, x.1, to (bs ++ x.0) x.1 x.2);
  bad = h.bad;
}

-- ---- a byte

abbrev pub IsByteAs : {A : Type 0} → (ℕ → Option A) → List ℕ → A → Type 0
IsByteAs f bs a = (b : ℕ) × (bs ≡ b ∷ []) × (f b ≡ Some a)

given_ok : {A : Type 0} (f : ℕ → Option A) (b : ℕ) (o : Option A) (bytes rest : List ℕ) (a : A) → f b ≡ o → byte_given o bytes ≡ read_ok a rest → (front : List ℕ) × (b ∷ bytes ≡ front ++ rest) × IsByteAs f front a
given_ok f b (Some x) bytes rest a q e =
    let p = ok_is x a bytes rest e in
    (b ∷ [], ap (λ (l : List ℕ). b ∷ l) p.1, (b, refl, q ∙ ap Some p.0))
given_ok f b None bytes rest a q e = absurd cc

given_stop : {A : Type 0} (o : Option A) (bytes : List ℕ) (n : ℕ) → byte_given o bytes ≡ stop_at n → (o ≡ None) × (length bytes + 1 ≡ n)
given_stop (Some x) bytes n e = absurd cc
given_stop None bytes n e = (refl, cc)

byte_found : {A : Type 0} (f : ℕ → Option A) (bs rest : List ℕ) (a : A) → byte_as f bs ≡ Ok (a, rest) → (front : List ℕ) × (bs ≡ front ++ rest) × IsByteAs f front a
byte_found f [] rest a e = absurd cc
byte_found f (b ∷ bytes) rest a e = given_ok f b (f b) bytes rest a refl e

byte_again : {A : Type 0} (f : ℕ → Option A) (front rest : List ℕ) (a : A) → IsByteAs f front a → byte_as f (front ++ rest) ≡ Ok (a, rest)
byte_again {A = A} f front rest a (b, e, q) = ap (λ (l : List ℕ). byte_as f (l ++ rest)) e ∙ ap (λ (o : Option A). byte_given o rest) q

byte_short : {A : Type 0} (f : ℕ → Option A) (w : ℕ) (v : A) → f w ≡ Some v → (bs : List ℕ) → byte_as f bs ≡ Err 0 → (more : List ℕ) × (a : A) × IsByteAs f (bs ++ more) a
byte_short f w v q [] e = (w ∷ [], v, (w, refl, q))
byte_short f w v q (b ∷ bytes) e = let s = given_stop (f b) bytes 0 e in absurd (omega (arith, s.1))

byte_bad : {A : Type 0} (f : ℕ → Option A) (bs : List ℕ) (m : ℕ) → byte_as f bs ≡ Err (suc m) → (front : List ℕ) × (c : ℕ) × (cs : List ℕ) × (bs ≡ front ++ c ∷ cs) × (length cs ≡ m) × (byte_as f front ≡ Err 0) × ((more : List ℕ) → byte_as f (front ++ c ∷ more) ≡ Err (suc (length more)))
byte_bad f [] m e = absurd cc
byte_bad {A = A} f (b ∷ bytes) m e =
    let s = given_stop (f b) bytes (suc m) e in
    ([], b, bytes, refl, omega (arith, s.1), refl, λ more. ap (λ (o : Option A). byte_given o more) s.0 ∙ ap Err (omega arith))

-- w is such a byte, and means v
pub reads-as : {A : Type 0} (f : ℕ → Option A) (w : ℕ) (v : A) → f w ≡ Some v → IsReader (IsByteAs f) (byte_as f)
reads-as f w v q = record { found = byte_found f; again = byte_again f; short = byte_short f w v q; bad = byte_bad f }

abbrev pub IsByte : (ℕ → Bool) → List ℕ → ℕ → Type 0
IsByte p bs b = (bs ≡ b ∷ []) × (p b ≡ true)

abbrev only : (ℕ → Bool) → ℕ → Option ℕ
only p b = cond (p b) (Some b) None

only_is : (p : ℕ → Bool) (b a : ℕ) (t : Bool) → p b ≡ t → cond t (Some b) None ≡ Some a → (b ≡ a) × (p b ≡ true)
only_is p b a true q e = (cc, q)
only_is p b a false q e = absurd cc

to_byte : (p : ℕ → Bool) (bs : List ℕ) (a : ℕ) → IsByteAs (only p) bs a → IsByte p bs a
to_byte p bs a (b, e, q) = let o = only_is p b a (p b) refl q in (e ∙ ap (λ (n : ℕ). n ∷ []) o.0, ap p (sym o.0) ∙ o.1)

from_byte : (p : ℕ → Bool) (bs : List ℕ) (a : ℕ) → IsByte p bs a → IsByteAs (only p) bs a
from_byte p bs a (e, q) = (a, e, ap (λ (t : Bool). cond t (Some a) None) q)

-- w is such a byte
pub reads-byte : (p : ℕ → Bool) (w : ℕ) → p w ≡ true → IsReader (IsByte p) (byte_where p)
reads-byte p w q = same_grammar (IsByteAs (only p)) (IsByte p) (byte_as (only p)) (reads-as (only p) w w (ap (λ (t : Bool). cond t (Some w) None) q)) (to_byte p) (from_byte p)

-- ---- the value seen by a function

abbrev pub Image : {A B : Type 0} → (A → B) → (List ℕ → A → Type 0) → List ℕ → B → Type 0
Image {A} f G bs b = (a : A) × G bs a × (f a ≡ b)

to_image : {A B : Type 0} (f : A → B) (G : List ℕ → A → Type 0) (bs : List ℕ) (b : B) → Then G (λ a. Nothing (f a)) bs b → Image f G bs b
to_image f G bs b (front, back, a, e, g, (none, is)) =
    let all : front ≡ bs = sym (append-nil front) ∙ ap (λ (l : List ℕ). front ++ l) (sym none) ∙ sym e in
    (a, subst (λ (l : List ℕ). G l a) all g, is)

from_image : {A B : Type 0} (f : A → B) (G : List ℕ → A → Type 0) (bs : List ℕ) (b : B) → Image f G bs b → Then G (λ a. Nothing (f a)) bs b
from_image f G bs b (a, g, is) = (bs, [], a, sym (append-nil bs), g, (refl, is))

pub reads-maps : {A B : Type 0} (f : A → B) (G : List ℕ → A → Type 0) (r : Reader A) → IsReader G r → IsReader (Image f G) (maps f r)
reads-maps f G r h = same_grammar _ _ _ (reads-bind G (λ a. Nothing (f a)) r (λ a. pure (f a)) h (λ a front g. reads-pure (f a))) (to_image f G) (from_image f G)

-- ---- one grammar or the other, by a test

abbrev pub Choice : {A : Type 0} → Bool → (List ℕ → A → Type 0) → (List ℕ → A → Type 0) → List ℕ → A → Type 0
Choice t G H bs a = ((t ≡ true) × G bs a) ⊎ ((t ≡ false) × H bs a)

pub reads-choice : {A : Type 0} (t : Bool) (G H : List ℕ → A → Type 0) (r s : Reader A) → IsReader G r → IsReader H s → IsReader (Choice t G H) (cond t r s)
reads-choice true G H r s g h = same_grammar G (Choice true G H) r g (λ bs a x. inl (refl, x)) (λ bs a. elim [ inl p ↦ p.1 | inr p ↦ absurd cc ])
reads-choice false G H r s g h = same_grammar H (Choice false G H) s h (λ bs a x. inr (refl, x)) (λ bs a. elim [ inl p ↦ absurd cc | inr p ↦ p.1 ])

-- ---- so many

abbrev pub Many : {A : Type 0} → (List ℕ → A → Type 0) → ℕ → List ℕ → List A → Type 0
Many G n bs vs = (length vs ≡ n) × Each G bs vs

module _ {A : Type 0} (G : List ℕ → A → Type 0) (r : Reader A) (h : IsReader G r) where
  abbrev More : ℕ → List ℕ → List A → Type 0
  More n = Then G (λ v. Image (λ (vs : List A). v ∷ vs) (Many G n))

  to_more : (n : ℕ) (bs : List ℕ) (vs : List A) → More n bs vs → Many G (suc n) bs vs
  to_more n bs vs (f, b, v, e, g, (us, (len, gs), same)) = subst (λ (l : List A). Many G (suc n) bs l) same (ap suc len, (f, b, e, g, gs))

  from_more : (n : ℕ) (bs : List ℕ) (vs : List A) → Many G (suc n) bs vs → More n bs vs
  from_more n bs [] m = absurd cc
  from_more n bs (v ∷ vs) (len, (f, b, e, g, gs)) = (f, b, v, e, g, (vs, (cc, gs), refl))

  to_none : (bs : List ℕ) (vs : List A) → Nothing [] bs vs → Many G 0 bs vs
  to_none bs vs p = subst (λ (l : List A). Many G 0 bs l) p.1 (refl, p.0)

  from_none : (bs : List ℕ) (vs : List A) → Many G 0 bs vs → Nothing [] bs vs
  from_none bs [] m = (m.1, refl)
  from_none bs (v ∷ vs) m = absurd cc

  pub reads-many : (n : ℕ) → IsReader (Many G n) (many n r)
  reads-many zero = same_grammar (Nothing []) (Many G 0) (pure []) (reads-pure []) to_none from_none
  reads-many (suc n) = same_grammar (More n) (Many G (suc n)) (many (suc n) r) (reads-bind _ _ _ _ h (λ v f g. reads-maps (λ (vs : List A). v ∷ vs) (Many G n) (many n r) (reads-many n))) (to_more n) (from_more n)

-- ---- behind a mark, or without it

-- the reader refuses the mark at once
pub record Avoids {A : Type 0} (mark : ℕ) (r : Reader A) : Type 0 where
  pub empty : r [] ≡ Err 0
  pub refuses : (rest : List ℕ) → r (mark ∷ rest) ≡ Err (suc (length rest))

abbrev pub Marked : {A : Type 0} → ℕ → (List ℕ → A → Type 0) → (List ℕ → A → Type 0) → List ℕ → A → Type 0
Marked mark G H bs a = ((rest : List ℕ) × (bs ≡ mark ∷ rest) × G rest a) ⊎ H bs a

module _ {A : Type 0} (mark : ℕ) (G H : List ℕ → A → Type 0) (r s : Reader A) (g : IsReader G r) (h : IsReader H s) (avoids : Avoids mark s) where
  -- the second reader or the first, by whether the byte is the mark
  abbrev by_test : Bool → ℕ → List ℕ → Outcome A
  by_test t b rest = elim (cond t (Some rest) None) [ Some left ↦ r left | None ↦ s (b ∷ rest) ]

  at_mark : (rest : List ℕ) → marked mark r s (mark ∷ rest) ≡ r rest
  at_mark rest = ap (λ (t : Bool). by_test t mark rest) (eq-eqb mark mark refl)

  off_mark : (b : ℕ) (rest : List ℕ) → (b == mark) ≡ false → marked mark r s (b ∷ rest) ≡ s (b ∷ rest)
  off_mark b rest e = ap (λ (t : Bool). by_test t b rest) e

  -- what the second reader reads does not begin with the mark
  no_mark : (b : ℕ) (t : Bool) (rest left : List ℕ) (a : A) → (b == mark) ≡ t → s (b ∷ rest) ≡ Ok (a, left) → (b == mark) ≡ false
  no_mark b false rest left a q e = q
  no_mark b true rest left a q e =
      let same : s (b ∷ rest) ≡ Err (suc (length rest)) = ap (λ (k : ℕ). s (k ∷ rest)) (eqb-true b mark q) ∙ avoids.refuses rest in
      absurd cc

  found_by : (b : ℕ) (t : Bool) (bytes rest : List ℕ) (a : A) → (b == mark) ≡ t → by_test t b bytes ≡ Ok (a, rest) → (front : List ℕ) × (b ∷ bytes ≡ front ++ rest) × Marked mark G H front a
  found_by b true bytes rest a q e =
      let x = g.found bytes rest a e in
      (b ∷ x.0, ap (λ (l : List ℕ). b ∷ l) x.1, inl (x.0, ap (λ (k : ℕ). k ∷ x.0) (eqb-true b mark q), x.2))
  found_by b false bytes rest a q e = let x = h.found (b ∷ bytes) rest a e in (x.0, x.1, inr x.2)

  marked_found : (bs rest : List ℕ) (a : A) → marked mark r s bs ≡ Ok (a, rest) → (front : List ℕ) × (bs ≡ front ++ rest) × Marked mark G H front a
  marked_found [] rest a e = let x = h.found [] rest a e in (x.0, x.1, inr x.2)
  marked_found (b ∷ bytes) rest a e = found_by b (b == mark) bytes rest a refl e

  again_off : (front rest : List ℕ) (a : A) → H front a → marked mark r s (front ++ rest) ≡ Ok (a, rest)
  again_off [] rest a x = let y = h.again [] [] a x in let z = avoids.empty in absurd cc
  again_off (b ∷ front) rest a x =
      let y = h.again (b ∷ front) rest a x in
      off_mark b (front ++ rest) (no_mark b (b == mark) (front ++ rest) rest a refl y) ∙ y

  marked_again : (front rest : List ℕ) (a : A) → Marked mark G H front a → marked mark r s (front ++ rest) ≡ Ok (a, rest)
  marked_again front rest a (inl (body, e, x)) =
      ap (λ (l : List ℕ). marked mark r s (l ++ rest)) e ∙ at_mark (body ++ rest) ∙ g.again body rest a x
  marked_again front rest a (inr x) = again_off front rest a x

  short_by : (b : ℕ) (t : Bool) (bytes : List ℕ) → (b == mark) ≡ t → by_test t b bytes ≡ Err 0 → (more : List ℕ) × (a : A) × Marked mark G H ((b ∷ bytes) ++ more) a
  short_by b true bytes q e =
      let x = g.short bytes e in
      (x.0, x.1, inl (bytes ++ x.0, ap (λ (k : ℕ). k ∷ (bytes ++ x.0)) (eqb-true b mark q), x.2))
  short_by b false bytes q e = let x = h.short (b ∷ bytes) e in (x.0, x.1, inr x.2)

  marked_short : (bs : List ℕ) → marked mark r s bs ≡ Err 0 → (more : List ℕ) × (a : A) × Marked mark G H (bs ++ more) a
  marked_short [] e = let x = h.short [] e in (x.0, x.1, inr x.2)
  marked_short (b ∷ bytes) e = short_by b (b == mark) bytes refl e

  front_off : (front bytes cs : List ℕ) (b c : ℕ) → (b == mark) ≡ false → b ∷ bytes ≡ front ++ c ∷ cs → marked mark r s front ≡ s front
  front_off [] bytes cs b c q e = refl
  front_off (k ∷ front) bytes cs b c q e = let same : b ≡ k = cc in off_mark k front (ap (λ (n : ℕ). n == mark) (sym same) ∙ q)

  past_off : (front bytes cs more : List ℕ) (b c : ℕ) → (b == mark) ≡ false → b ∷ bytes ≡ front ++ c ∷ cs → marked mark r s (front ++ c ∷ more) ≡ s (front ++ c ∷ more)
  past_off [] bytes cs more b c q e = let same : b ≡ c = cc in off_mark c more (ap (λ (n : ℕ). n == mark) (sym same) ∙ q)
  past_off (k ∷ front) bytes cs more b c q e = let same : b ≡ k = cc in off_mark k (front ++ c ∷ more) (ap (λ (n : ℕ). n == mark) (sym same) ∙ q)

  bad_by : (b : ℕ) (t : Bool) (bytes : List ℕ) (m : ℕ) → (b == mark) ≡ t → by_test t b bytes ≡ Err (suc m) → (front : List ℕ) × (c : ℕ) × (cs : List ℕ) × (b ∷ bytes ≡ front ++ c ∷ cs) × (length cs ≡ m) × (marked mark r s front ≡ Err 0) × ((more : List ℕ) → marked mark r s (front ++ c ∷ more) ≡ Err (suc (length more)))
  bad_by b true bytes m q e =
      let x = g.bad bytes m e in
      let on = λ (rest : List ℕ). ap (λ (t : Bool). by_test t b rest) q in
      (b ∷ x.0, x.1, x.2, ap (λ (l : List ℕ). b ∷ l) x.3, x.4, on x.0 ∙ x.5, λ more. on (x.0 ++ x.1 ∷ more) ∙ x.6 more)
  bad_by b false bytes m q e =
      let x = h.bad (b ∷ bytes) m e in
      (x.0, x.1, x.2, x.3, x.4, front_off x.0 bytes x.2 b x.1 q x.3 ∙ x.5, λ more. past_off x.0 bytes x.2 more b x.1 q x.3 ∙ x.6 more)

  marked_bad : (bs : List ℕ) (m : ℕ) → marked mark r s bs ≡ Err (suc m) → (front : List ℕ) × (c : ℕ) × (cs : List ℕ) × (bs ≡ front ++ c ∷ cs) × (length cs ≡ m) × (marked mark r s front ≡ Err 0) × ((more : List ℕ) → marked mark r s (front ++ c ∷ more) ≡ Err (suc (length more)))
  marked_bad [] m e = let z = avoids.empty in absurd cc
  marked_bad (b ∷ bytes) m e = bad_by b (b == mark) bytes m refl e

  pub reads-marked : IsReader (Marked mark G H) (marked mark r s)
  reads-marked = record { found = marked_found; again = marked_again; short = marked_short; bad = marked_bad }
