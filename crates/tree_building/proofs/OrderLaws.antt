-- Elements of lists, and which of two comes first.
use Rattle.std.proofs.Common.{◌≡◌, List, [], ◌∷◌, ◌++◌, ◌⊎◌, inl, inr, All, refl, sym, subst, ap}
use Rattle.std.specs.Prelude.{IsPermutation}
use Rattle.std.proofs.lemmas.List.Elements.{All-cons, All-head, All-nil, All-tail, All-weaker}
use Rattle.std.proofs.lemmas.List.Sorted.{All-permutation, IsPermutation-sym}
use Rattle.cil_model.specs.declared.body.Region.{Region}
use Rattle.region_tree.specs.Trees.{Before}
use Rattle.tree_building.specs.Building.{Has}
use Rattle.tree_building.specs.Building.Has.{first, next}

pub has_left : {X : Type 0} {xs : List X} {x : X} (ys : List X) → Has xs x → Has (xs ++ ys) x
has_left ys (first x xs) = first x (xs ++ ys)
has_left ys (next y x xs h) = next y x (xs ++ ys) (has_left ys h)

pub has_right : {X : Type 0} {ys : List X} {x : X} (xs : List X) → Has ys x → Has (xs ++ ys) x
has_right [] h = h
has_right {X} {ys} {x} (y ∷ xs) h = next y x (xs ++ ys) (has_right xs h)

pub has_cases : {X : Type 0} (xs ys : List X) (x : X) → Has (xs ++ ys) x → Has xs x ⊎ Has ys x
has_cases [] ys x h = inr h
has_cases {X} (y ∷ xs) ys x (first _ _) = inl (first y xs)
has_cases {X} (y ∷ xs) ys x (next _ _ _ h) = go (has_cases xs ys x h)
  where
    go : Has xs x ⊎ Has ys x → Has (y ∷ xs) x ⊎ Has ys x
    go (inl k) = inl (next y x xs k)
    go (inr k) = inr k

pub same_one : {X : Type 0} (x y : X) → Has (x ∷ []) y → y ≡ x
same_one x _ (first _ _) = refl
same_one x y (next _ _ _ h) = elim h [ ]

pub all_has : {X : Type 0} (P : X → Type 0) {xs : List X} {x : X} → All P xs → Has xs x → P x
all_has P all (first x xs) = All-head P x xs all
all_has P all (next y x xs h) = all_has P (All-tail P y xs all) h

pub each_has : {X : Type 0} (xs : List X) → All (Has xs) xs
each_has {X} [] = All-nil (Has [])
each_has {X} (x ∷ xs) = All-cons (Has (x ∷ xs)) x xs (first x xs) (All-weaker (Has xs) (Has (x ∷ xs)) (λ y h. next x y xs h) xs (each_has xs))

pub all_of : {X : Type 0} (P : X → Type 0) (xs : List X) → ((x : X) → Has xs x → P x) → All P xs
all_of P xs f = All-weaker (Has xs) P f xs (each_has xs)

pub has_permuted : (xs ys : List Region) (r : Region) → IsPermutation xs ys → Has xs r → Has ys r
has_permuted xs ys r p h = all_has (Has ys) (All-permutation (Has ys) ys xs (IsPermutation-sym xs ys p) (each_has ys)) h

-- ---- one before the other

pub record Split (xs : List Region) (r : Region) : Type 0 where
  pub front : List Region
  pub back : List Region
  pub is : xs ≡ front ++ r ∷ back

pub split_at : {xs : List Region} {r : Region} → Has xs r → Split xs r
split_at (first x xs) = record { front = []; back = xs; is = refl }
split_at (next y x xs h) =
    let s = split_at h in
    record { front = y ∷ s.front; back = s.back; is = ap (λ (l : List Region). y ∷ l) s.is }

pub has_split : (xs front back : List Region) (r : Region) → xs ≡ front ++ r ∷ back → Has xs r
has_split xs front back r e = subst (λ (l : List Region). Has l r) (sym e) (has_right front (first r back))

pub before_first : (r s : Region) (xs : List Region) → Has xs s → Before (r ∷ xs) r s
before_first r s xs h =
    let p = split_at h in
    Before.here p.front p.back r s p.is

pub before_left : {xs : List Region} {r s : Region} (ys : List Region) → Before xs r s → Before (xs ++ ys) r s
before_left ys (Before.here {xs} front back r s e) = before_first r s (xs ++ ys) (has_left ys (has_split xs front back s e))
before_left ys (Before.later {xs} {x} {r} {s} b) = Before.later (before_left ys b)

pub before_right : {ys : List Region} {r s : Region} (xs : List Region) → Before ys r s → Before (xs ++ ys) r s
before_right [] b = b
before_right (x ∷ xs) b = Before.later (before_right xs b)

pub before_across : {xs ys : List Region} {r s : Region} → Has xs r → Has ys s → Before (xs ++ ys) r s
before_across {xs} {ys} {r} {s} (first _ rest) k = before_first r s (rest ++ ys) (has_right rest k)
before_across {xs} {ys} {r} {s} (next y _ rest h) k = Before.later (before_across h k)

pub none_before : (xs : List Region) (r s : Region) → xs ≡ [] → Before xs r s → ⊥
none_before xs r s e (Before.here front back _ _ _) = absurd cc
none_before xs r s e (Before.later b) = absurd cc

-- where the two stand in joined lists
pub data Stand (xs ys : List Region) (r s : Region) : Type 0 where
  in_left : Before xs r s → Stand xs ys r s
  across : Has xs r → Has ys s → Stand xs ys r s
  in_right : Before ys r s → Stand xs ys r s

pub stand : (xs ys : List Region) (r s : Region) → Before (xs ++ ys) r s → Stand xs ys r s
stand [] ys r s b = Stand.in_right b
stand (x ∷ xs) ys r s (Before.here front back _ _ e) = go (has_cases xs ys s (has_split (xs ++ ys) front back s e))
  where
    go : Has xs s ⊎ Has ys s → Stand (x ∷ xs) ys x s
    go (inl h) = Stand.in_left (before_first x s xs h)
    go (inr h) = Stand.across (first x xs) h
stand (x ∷ xs) ys r s (Before.later b) = go (stand xs ys r s b)
  where
    go : Stand xs ys r s → Stand (x ∷ xs) ys r s
    go (Stand.in_left c) = Stand.in_left (Before.later c)
    go (Stand.across h k) = Stand.across (next x r xs h) k
    go (Stand.in_right c) = Stand.in_right c

pub record BothHad (xs : List Region) (r s : Region) : Type 0 where
  pub earlier : Has xs r
  pub later : Has xs s

pub both_had : {xs : List Region} {r s : Region} → Before xs r s → BothHad xs r s
both_had (Before.here {xs} front back r s e) = record { earlier = first r xs; later = next r s xs (has_split xs front back s e) }
both_had (Before.later {xs} {x} {r} {s} b) =
    let h = both_had b in
    record { earlier = next x r xs h.earlier; later = next x s xs h.later }

-- ---- one list in place of another

-- the two clauses stand in the new list as they stood in the old one
pub record Keeps (old new : List Region) (r s : Region) : Type 0 where
  pub earlier : Has old r → Has new r
  pub later : Has old s → Has new s
  pub order : Before old r s → Before new r s

pub keeps_left : (xs old new : List Region) (r s : Region) → Keeps old new r s → Keeps (xs ++ old) (xs ++ new) r s
keeps_left xs old new r s k = record { earlier = λ h. in_each r k.earlier h; later = λ h. in_each s k.later h; order = λ b. moved (stand xs old r s b) }
  where
    in_each : (x : Region) → (Has old x → Has new x) → Has (xs ++ old) x → Has (xs ++ new) x
    in_each x f h = go (has_cases xs old x h)
      where
        go : Has xs x ⊎ Has old x → Has (xs ++ new) x
        go (inl a) = has_left new a
        go (inr a) = has_right xs (f a)

    moved : Stand xs old r s → Before (xs ++ new) r s
    moved (Stand.in_left b) = before_left new b
    moved (Stand.across h i) = before_across h (k.later i)
    moved (Stand.in_right b) = before_right xs (k.order b)

pub keeps_right : (ys old new : List Region) (r s : Region) → Keeps old new r s → Keeps (old ++ ys) (new ++ ys) r s
keeps_right ys old new r s k = record { earlier = λ h. in_each r k.earlier h; later = λ h. in_each s k.later h; order = λ b. moved (stand old ys r s b) }
  where
    in_each : (x : Region) → (Has old x → Has new x) → Has (old ++ ys) x → Has (new ++ ys) x
    in_each x f h = go (has_cases old ys x h)
      where
        go : Has old x ⊎ Has ys x → Has (new ++ ys) x
        go (inl a) = has_left ys (f a)
        go (inr a) = has_right new a

    moved : Stand old ys r s → Before (new ++ ys) r s
    moved (Stand.in_left b) = before_left ys (k.order b)
    moved (Stand.across h i) = before_across (k.earlier h) i
    moved (Stand.in_right b) = before_right new b

-- two lists change places, and one more comes behind
pub keeps_swapped : (xs ys zs : List Region) (r s : Region) → (Has xs r → Has ys s → ⊥) → Keeps (xs ++ ys) (ys ++ (xs ++ zs)) r s
keeps_swapped xs ys zs r s apart = record { earlier = λ h. in_each r (has_cases xs ys r h); later = λ h. in_each s (has_cases xs ys s h); order = λ b. moved (stand xs ys r s b) }
  where
    in_each : (x : Region) → Has xs x ⊎ Has ys x → Has (ys ++ (xs ++ zs)) x
    in_each x (inl h) = has_right ys (has_left zs h)
    in_each x (inr h) = has_left (xs ++ zs) h

    moved : Stand xs ys r s → Before (ys ++ (xs ++ zs)) r s
    moved (Stand.in_left b) = before_right ys (before_left zs b)
    moved (Stand.across h k) = absurd (apart h k)
    moved (Stand.in_right b) = before_left (xs ++ zs) b
