-- What is read in a heap is read there still when bytes are added behind it; an entry is read where it was added.
use Rattle.std.proofs.Common.{◌≡◌, ℕ, suc, ◌+◌, ◌-◌, ◌*◌, ◌/◌, ◌%◌, ◌^◌, ◌≤◌, ◌<◌, ltb, leb, eqb, not, Bool, true, false, cond, ◌||◌, List, [], ◌∷◌, ◌++◌, length, take, drop, Option, Some, None, IfSome, refl, sym, ap, ◌∙◌, arith, option_map, append_assoc, length-append, length-drop}
use Rattle.std.specs.List.{list_any, position_or_len}
use Rattle.std.proofs.Math.Seq.{drop-append_seam}
use Rattle.std.proofs.lemmas.Bool.{ltb-true, lt-ltb, le-ltb, leb-true, le-leb, leb-false, ne_eqb}
use Rattle.std.proofs.lemmas.List.{drop-append-le, take-append-le, drop_all}
use Rattle.cil_base.specs.Packed.{packed_front, packed_two, packed_four, packed_at, packed_spelling}
use Rattle.cli_heaps.specs.Root.{is_zero}
use Rattle.cli_heaps.specs.Entries.{until_zero, string_at, bytes_at, counted_at, blob_at, guid_at}

pub if_some : {T : Type 0} (o : Option T) (P : T → Type 0) → ((x : T) → o ≡ Some x → P x) → IfSome o P
if_some None P h = tt
if_some (Some x) P h = h x refl

-- ---- strings

-- a byte in front that is no zero byte
until_cons : (x : ℕ) (xs : List ℕ) → until_zero (x ∷ xs) ≡ cond (eqb x 0) (Some []) (option_map (λ (l : List ℕ). x ∷ l) (until_zero xs))
until_cons x xs = go (eqb x 0) (ltb (position_or_len is_zero xs) (length xs)) refl
  where
    more : (a b : ℕ) → ltb (1 + a) (suc b) ≡ ltb a b
    more a b = grind arith

    one : (n : ℕ) → take (1 + n) (x ∷ xs) ≡ x ∷ take n xs
    one n = let e : 1 + n ≡ suc n = omega arith in ap (λ (k : ℕ). take k (x ∷ xs)) e

    go : (b c : Bool) → ltb (position_or_len is_zero xs) (length xs) ≡ c
        → option_map (λ (n : ℕ). take n (x ∷ xs)) (cond (ltb (cond (not b) (1 + position_or_len is_zero xs) 0) (suc (length xs))) (Some (cond (not b) (1 + position_or_len is_zero xs) 0)) None)
        ≡ cond b (Some []) (option_map (λ (l : List ℕ). x ∷ l) (option_map (λ (n : ℕ). take n xs) (cond c (Some (position_or_len is_zero xs)) None)))
    go true c e = ap (λ (d : Bool). option_map (λ (n : ℕ). take n (x ∷ xs)) (cond d (Some 0) None)) (lt-ltb 0 (suc (length xs)) (omega arith))
    go false true e = ap (λ (d : Bool). option_map (λ (n : ℕ). take n (x ∷ xs)) (cond d (Some (1 + position_or_len is_zero xs)) None)) (more (position_or_len is_zero xs) (length xs) ∙ e) ∙ ap Some (one (position_or_len is_zero xs))
    go false false e = ap (λ (d : Bool). option_map (λ (n : ℕ). take n (x ∷ xs)) (cond d (Some (1 + position_or_len is_zero xs)) None)) (more (position_or_len is_zero xs) (length xs) ∙ e)

pub until-append : (xs ys s : List ℕ) → until_zero xs ≡ Some s → until_zero (xs ++ ys) ≡ Some s
until-append [] ys s e = absurd cc
until-append (x ∷ xs) ys s e = until_cons x (xs ++ ys) ∙ go (λ t f. until-append xs ys t f) (eqb x 0) (until_zero xs) refl (sym (until_cons x xs) ∙ e)
  where
    go : ((t : List ℕ) → until_zero xs ≡ Some t → until_zero (xs ++ ys) ≡ Some t) → (b : Bool) (o : Option (List ℕ)) → until_zero xs ≡ o → cond b (Some []) (option_map (λ (l : List ℕ). x ∷ l) o) ≡ Some s → cond b (Some []) (option_map (λ (l : List ℕ). x ∷ l) (until_zero (xs ++ ys))) ≡ Some s
    go rest true o f h = h
    go rest false None f h = absurd cc
    go rest false (Some t) f h = ap (option_map (λ (l : List ℕ). x ∷ l)) (rest t f) ∙ h

pub until_entry : (s : List ℕ) → list_any is_zero s ≡ false → until_zero (s ++ 0 ∷ []) ≡ Some s
until_entry [] h = refl
until_entry (x ∷ xs) h = until_cons x (xs ++ 0 ∷ []) ∙ go (λ k. until_entry xs k) (eqb x 0) h
  where
    go : (list_any is_zero xs ≡ false → until_zero (xs ++ 0 ∷ []) ≡ Some xs) → (b : Bool) → (b || list_any is_zero xs) ≡ false → cond b (Some []) (option_map (λ (l : List ℕ). x ∷ l) (until_zero (xs ++ 0 ∷ []))) ≡ Some (x ∷ xs)
    go rest true k = absurd cc
    go rest false k = ap (option_map (λ (l : List ℕ). x ∷ l)) (rest k)

-- a place past the end has nothing behind it
pub string_kept : (heap more : List ℕ) (at : ℕ) (s : List ℕ) → string_at heap at ≡ Some s → string_at (heap ++ more) at ≡ Some s
string_kept heap more at s e = first (eqb at 0) e
  where
    rest : (b : Bool) → leb at (length heap) ≡ b → until_zero (drop at heap) ≡ Some s → until_zero (drop at (heap ++ more)) ≡ Some s
    rest true t h = ap until_zero (drop-append-le at heap more (leb-true at (length heap) t)) ∙ until-append (drop at heap) more s h
    rest false t h = absurd (none (sym (ap until_zero (drop_all at heap (past (leb-false at (length heap) t)))) ∙ h))
      where
        past : length heap < at → length heap ≤ at
        past l = omega arith

        none : None ≡ Some s → ⊥
        none k = cc

    first : (b : Bool) → cond b (Some []) (until_zero (drop at heap)) ≡ Some s → cond b (Some []) (until_zero (drop at (heap ++ more))) ≡ Some s
    first true h = h
    first false h = rest (leb at (length heap)) refl h

-- an entry at the end
pub string_added : (heap s : List ℕ) → 0 < length heap → list_any is_zero s ≡ false → string_at (heap ++ (s ++ 0 ∷ [])) (length heap) ≡ Some s
string_added heap s pos h =
    let later : eqb (length heap) 0 ≡ false = ne_eqb (length heap) 0 (omega arith) in
    ap (λ (b : Bool). cond b (Some []) (until_zero (drop (length heap) (heap ++ (s ++ 0 ∷ []))))) later ∙ ap until_zero (drop-append_seam heap (s ++ 0 ∷ [])) ∙ until_entry s h

-- ---- blobs

two_kept : (a : ℕ) (xs ys : List ℕ) (p : ℕ × ℕ) → packed_two a xs ≡ Some p → packed_two a (xs ++ ys) ≡ Some p
two_kept a [] ys p e = absurd cc
two_kept a (b ∷ xs) ys p e = e

four_kept : (a : ℕ) (xs ys : List ℕ) (p : ℕ × ℕ) → packed_four a xs ≡ Some p → packed_four a (xs ++ ys) ≡ Some p
four_kept a [] ys p e = absurd cc
four_kept a (b ∷ []) ys p e = absurd cc
four_kept a (b ∷ (c ∷ [])) ys p e = absurd cc
four_kept a (b ∷ (c ∷ (d ∷ xs))) ys p e = e

pub packed_kept : (xs ys : List ℕ) (p : ℕ × ℕ) → packed_front xs ≡ Some p → packed_front (xs ++ ys) ≡ Some p
packed_kept [] ys p e = absurd cc
packed_kept (a ∷ xs) ys p e = go (ltb a 0x80) (ltb a 0xC0) (ltb a 0xE0) e
  where
    go : (x y z : Bool) → cond x (Some (a, 1)) (cond y (packed_two a xs) (cond z (packed_four a xs) None)) ≡ Some p → cond x (Some (a, 1)) (cond y (packed_two a (xs ++ ys)) (cond z (packed_four a (xs ++ ys)) None)) ≡ Some p
    go true y z h = h
    go false true z h = two_kept a xs ys p h
    go false false true h = four_kept a xs ys p h
    go false false false h = absurd cc

bytes_kept : (heap more : List ℕ) (at n : ℕ) (s : List ℕ) → bytes_at heap at n ≡ Some s → bytes_at (heap ++ more) at n ≡ Some s
bytes_kept heap more at n s e = go (leb (at + n) (length heap)) refl e
  where
    go : (b : Bool) → leb (at + n) (length heap) ≡ b → cond b (Some (take n (drop at heap))) None ≡ Some s → bytes_at (heap ++ more) at n ≡ Some s
    go false t h = absurd cc
    go true t h =
        let le : at + n ≤ length heap = leb-true (at + n) (length heap) t in
        let longer : leb (at + n) (length (heap ++ more)) ≡ true = le-leb (at + n) (length (heap ++ more)) (omega (arith, length-append heap more, le)) in
        let same : take n (drop at (heap ++ more)) ≡ take n (drop at heap) = ap (take n) (drop-append-le at heap more (omega (arith, le))) ∙ take-append-le n (drop at heap) more (omega (arith, length-drop at heap, le)) in
        ap (λ (b : Bool). cond b (Some (take n (drop at (heap ++ more)))) None) longer ∙ ap Some same ∙ h

pub guid_kept : (heap more : List ℕ) (index : ℕ) (s : List ℕ) → guid_at heap index ≡ Some s → guid_at (heap ++ more) index ≡ Some s
guid_kept heap more index s e = go (eqb index 0) e
  where
    go : (b : Bool) → cond b None (bytes_at heap (16 * (index - 1)) 16) ≡ Some s → cond b None (bytes_at (heap ++ more) (16 * (index - 1)) 16) ≡ Some s
    go true h = h
    go false h = bytes_kept heap more (16 * (index - 1)) 16 s h

pub blob_kept : (heap more : List ℕ) (at : ℕ) (s : List ℕ) → blob_at heap at ≡ Some s → blob_at (heap ++ more) at ≡ Some s
blob_kept heap more at s e = first (eqb at 0) e
  where
    counted : (o : Option (ℕ × ℕ)) → packed_front (drop at heap) ≡ o → at ≤ length heap → counted_at heap at o ≡ Some s → counted_at (heap ++ more) at (packed_front (drop at (heap ++ more))) ≡ Some s
    counted None f le h = absurd cc
    counted (Some (n, width)) f le h =
        let again : packed_front (drop at (heap ++ more)) ≡ Some (n, width) = ap packed_front (drop-append-le at heap more le) ∙ packed_kept (drop at heap) more (n, width) f in
        ap (counted_at (heap ++ more) at) again ∙ bytes_kept heap more (at + width) n s h

    rest : (b : Bool) → leb at (length heap) ≡ b → counted_at heap at (packed_front (drop at heap)) ≡ Some s → counted_at (heap ++ more) at (packed_front (drop at (heap ++ more))) ≡ Some s
    rest true t h = counted (packed_front (drop at heap)) refl (leb-true at (length heap) t) h
    rest false t h = absurd (none (sym (ap (λ (l : List ℕ). counted_at heap at (packed_front l)) (drop_all at heap (past (leb-false at (length heap) t)))) ∙ h))
      where
        past : length heap < at → length heap ≤ at
        past l = omega arith

        none : None ≡ Some s → ⊥
        none k = cc

    first : (b : Bool) → cond b (Some []) (counted_at heap at (packed_front (drop at heap))) ≡ Some s → cond b (Some []) (counted_at (heap ++ more) at (packed_front (drop at (heap ++ more)))) ≡ Some s
    first true h = h
    first false h = rest (leb at (length heap)) refl h

-- the length that stands in front of an entry is read, whatever follows
pub spelling_read : (n : ℕ) (rest : List ℕ) → n < 2 ^ 29 → packed_front (packed_spelling n ++ rest) ≡ Some (n, length (packed_spelling n))
spelling_read n rest small = go (ltb n 0x80) (ltb n 0x4000) refl refl
  where
    pair : (a b w : ℕ) → a ≡ b → ◌≡◌ {A = Option (ℕ × ℕ)} (Some (a, w)) (Some (b, w))
    pair a b w e = let some : ℕ → Option (ℕ × ℕ) = λ k. Some (k, w) in ap some e

    go : (x y : Bool) → ltb n 0x80 ≡ x → ltb n 0x4000 ≡ y
        → packed_front (cond x (n ∷ []) (cond y ((0x80 + n / 2 ^ 8) ∷ (n % 2 ^ 8) ∷ []) ((0xC0 + n / 2 ^ 24) ∷ (n / 2 ^ 16 % 2 ^ 8) ∷ (n / 2 ^ 8 % 2 ^ 8) ∷ (n % 2 ^ 8) ∷ [])) ++ rest)
        ≡ Some (n, length (cond x (n ∷ []) (cond y ((0x80 + n / 2 ^ 8) ∷ (n % 2 ^ 8) ∷ []) ((0xC0 + n / 2 ^ 24) ∷ (n / 2 ^ 16 % 2 ^ 8) ∷ (n / 2 ^ 8 % 2 ^ 8) ∷ (n % 2 ^ 8) ∷ []))))
    go true y e f = ap (λ (b : Bool). cond {A = Option (ℕ × ℕ)} b (Some (n, 1)) (cond (ltb n 0xC0) (packed_two n rest) (cond (ltb n 0xE0) (packed_four n rest) None))) e
    go false true e f =
        let big : ltb (0x80 + n / 2 ^ 8) 0x80 ≡ false = le-ltb (0x80 + n / 2 ^ 8) 0x80 (omega arith) in
        let less : n < 0x4000 = ltb-true n 0x4000 f in
        let two : ltb (0x80 + n / 2 ^ 8) 0xC0 ≡ true = lt-ltb (0x80 + n / 2 ^ 8) 0xC0 (omega arith) in
        rw (big, two) (pair (2 ^ 8 * (0x80 + n / 2 ^ 8 - 0x80) + n % 2 ^ 8) n 2 (omega arith))
    go false false e f =
        let big : ltb (0xC0 + n / 2 ^ 24) 0x80 ≡ false = le-ltb (0xC0 + n / 2 ^ 24) 0x80 (omega arith) in
        let big₂ : ltb (0xC0 + n / 2 ^ 24) 0xC0 ≡ false = le-ltb (0xC0 + n / 2 ^ 24) 0xC0 (omega arith) in
        let four : ltb (0xC0 + n / 2 ^ 24) 0xE0 ≡ true = lt-ltb (0xC0 + n / 2 ^ 24) 0xE0 (omega arith) in
        rw (big, big₂, four) (pair (2 ^ 24 * (0xC0 + n / 2 ^ 24 - 0xC0) + 2 ^ 16 * (n / 2 ^ 16 % 2 ^ 8) + 2 ^ 8 * (n / 2 ^ 8 % 2 ^ 8) + n % 2 ^ 8) n 4 (omega arith))

pub blob_added : (heap b : List ℕ) → 0 < length heap → length b < 2 ^ 29 → blob_at (heap ++ (packed_spelling (length b) ++ b)) (length heap) ≡ Some b
blob_added heap b pos small =
    let width = length (packed_spelling (length b)) in
    let entry = packed_spelling (length b) ++ b in
    let later : eqb (length heap) 0 ≡ false = ne_eqb (length heap) 0 (omega arith) in
    let read : packed_at (heap ++ entry) (length heap) ≡ Some (length b, width) = ap packed_front (drop-append_seam heap entry) ∙ spelling_read (length b) b small in
    let behind : drop (length heap + width) (heap ++ entry) ≡ b = ap₂-drop heap (packed_spelling (length b)) b in
    let whole : leb (length heap + width + length b) (length (heap ++ entry)) ≡ true = le-leb (length heap + width + length b) (length (heap ++ entry)) (omega (arith, length-append heap entry, length-append (packed_spelling (length b)) b)) in
    ap (λ (c : Bool). cond c (Some []) (counted_at (heap ++ entry) (length heap) (packed_at (heap ++ entry) (length heap)))) later
    ∙ ap (counted_at (heap ++ entry) (length heap)) read
    ∙ ap (λ (c : Bool). cond c (Some (take (length b) (drop (length heap + width) (heap ++ entry)))) None) whole
    ∙ ap (λ (l : List ℕ). Some (take (length b) l)) behind ∙ ap Some (take_whole b)
  where
    ap₂-drop : (xs ys zs : List ℕ) → drop (length xs + length ys) (xs ++ (ys ++ zs)) ≡ zs
    ap₂-drop xs ys zs = ap (λ (l : List ℕ). drop (length xs + length ys) l) (sym (append_assoc xs ys zs)) ∙ ap (λ (k : ℕ). drop k ((xs ++ ys) ++ zs)) (sym (length-append xs ys)) ∙ drop-append_seam (xs ++ ys) zs

    take_whole : (l : List ℕ) → take (length l) l ≡ l
    take_whole [] = refl
    take_whole (x ∷ xs) = ap (λ (k : List ℕ). x ∷ k) (take_whole xs)
