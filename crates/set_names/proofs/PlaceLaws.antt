-- Where names stand in a list, and lists to which one is added.
use Rattle.std.proofs.Common.{◌≡◌, ◌∙◌, sym, ◌++◌, ◌∷◌, [], ℕ, ◌+◌, List, ap, refl, eqb, Bool, true, false, ◌||◌}
use Rattle.std.specs.Prelude.{Vec, Option, Some, None, cond, is_some, if◌then◌else◌, map, position, bytes_eq}
use Rattle.std.specs.List.{list_any, position_from}
use Rattle.std.specs.Cmp.Lexicographic.{pointwise}
use Rattle.std.specs.declared.alloc.Global.{Global}
use Rattle.std.proofs.lemmas.List.{map-append}
use Rattle.std.proofs.lemmas.Iterator.Adapters.{position_from-zero}
use Rattle.set_names.specs.Names.{Name}
use Rattle.set_names.specs.Distinct.{among, added, place_of, names_of}

abbrev is_key : Name → Vec ℕ Global → Bool
is_key name key = pointwise eqb name key.items

place_from : (name : Name) (i : ℕ) (keys : List (Vec ℕ Global)) → position_from (is_key name) i keys ≡ position_from (bytes_eq name) i (names_of keys)
place_from name i [] = refl
place_from name i (key ∷ keys) = ap (cond (is_key name key) (Some i)) (place_from name (i + 1) keys)

pub place_found : (name : Name) (keys : List (Vec ℕ Global)) → position (λ key. pointwise eqb name key.items) keys ≡ place_of (names_of keys) name
place_found name keys = position_from-zero (is_key name) keys ∙ place_from name 0 keys

-- ---- a name that is added

any_among : (name : Name) (keys : List (Vec ℕ Global)) → list_any (is_key name) keys ≡ among name (names_of keys)
any_among name [] = refl
any_among name (key ∷ keys) = ap (λ (b : Bool). is_key name key || b) (any_among name keys)

pub keys_added : (keys : List (Vec ℕ Global)) (key : Vec ℕ Global) → names_of (if list_any (λ other. pointwise eqb key.items other.items) keys then keys else keys ++ key ∷ []) ≡ added (names_of keys) key.items
keys_added keys key =
    go (list_any (is_key key.items) keys) ∙ ap (λ (b : Bool). if b then names_of keys else names_of keys ++ key.items ∷ []) (any_among key.items keys)
  where
    go : (b : Bool) → names_of (if b then keys else keys ++ key ∷ []) ≡ (if b then names_of keys else names_of keys ++ key.items ∷ [])
    go true = refl
    go false = map-append (λ (k : Vec ℕ Global). k.items) keys (key ∷ [])

pub among_place : (names : List Name) (name : Name) (i : ℕ) → is_some (position_from (bytes_eq name) i names) ≡ among name names
among_place [] name i = refl
among_place (other ∷ others) name i = go (bytes_eq name other) (among_place others name (i + 1))
  where
    go : (b : Bool) → is_some (position_from (bytes_eq name) (i + 1) others) ≡ among name others
        → is_some (cond b (Some i) (position_from (bytes_eq name) (i + 1) others)) ≡ (b || among name others)
    go true h = refl
    go false h = h

-- a name that has its place isn't added
pub added_again : (names : List Name) (name : Name) → is_some (place_of names name) ≡ true → names ≡ added names name
added_again names name e = ap (λ (b : Bool). if b then names else names ++ name ∷ []) (sym e ∙ among_place names name 0)
