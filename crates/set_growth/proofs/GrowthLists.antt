-- Lists of names, each once, as names are added.
use Rattle.std.proofs.Common.{◌≡◌, ◌∙◌, sym, ap, refl, rules, append_assoc, List, [], ◌∷◌, ◌++◌, Bool, true, false}
use Rattle.std.specs.Prelude.{if◌then◌else◌, Some}
use Rattle.std.proofs.lemmas.List.{append-nil}
use Rattle.set_names.specs.Names.{Name, is_name}
use Rattle.set_names.specs.Distinct.{among, added, distinct}

pub distinct_split : (names l m : List Name) → distinct names (l ++ m) ≡ distinct (distinct names l) m
distinct_split names [] m = refl
distinct_split names (name ∷ l) m = distinct_split (added names name) l m

pub record Grows (names : List Name) (all : List Name) : Type 0 where
  pub more : List Name
  pub is : all ≡ names ++ more

grows_on : (names more all : List Name) → Grows (names ++ more) all → Grows names all
grows_on names more all g = record { more = more ++ g.more; is = g.is ∙ append_assoc names more g.more }

added_grows : (names : List Name) (name : Name) → Grows names (added names name)
added_grows names name = go (among name names)
  where
    go : (b : Bool) → Grows names (if b then names else names ++ name ∷ [])
    go true = record { more = []; is = sym (append-nil names) }
    go false = record { more = name ∷ []; is = refl }

grows_both : (a b c : List Name) → Grows a b → Grows b c → Grows a c
grows_both a b c g h = record { more = g.more ++ h.more; is = h.is ∙ ap (λ (l : List Name). l ++ h.more) g.is ∙ append_assoc a g.more h.more }

pub distinct_grows : (names l : List Name) → Grows names (distinct names l)
distinct_grows names [] = record { more = []; is = sym (append-nil names) }
distinct_grows names (name ∷ l) = grows_both names (added names name) (distinct (added names name) l) (added_grows names name) (distinct_grows (added names name) l)

pub name_itself : (name : Name) → is_name name (Some name) ≡ true
name_itself name = search rules

-- ---- what holds of each element

abbrev pub Each : {A : Type 0} → (A → Type 0) → List A → Type 0
Each P [] = Unit {0}
Each P (x ∷ xs) = P x × Each P xs

pub each_append : {A : Type 0} (P : A → Type 0) (xs ys : List A) → Each P xs → Each P ys → Each P (xs ++ ys)
each_append P [] ys h k = k
each_append P (x ∷ xs) ys h k = (h.0, each_append P xs ys h.1 k)

pub each_on : {A : Type 0} (P Q : A → Type 0) (xs : List A) → ((x : A) → P x → Q x) → Each P xs → Each Q xs
each_on P Q [] f h = h
each_on P Q (x ∷ xs) f h = (f x h.0, each_on P Q xs f h.1)

pub each_all : {A : Type 0} (P : A → Type 0) (xs : List A) → ((x : A) → P x) → Each P xs
each_all P [] f = tt
each_all P (x ∷ xs) f = (f x, each_all P xs f)
