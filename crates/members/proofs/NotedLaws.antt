-- What a key that is noted leads to.
use Rattle.std.proofs.Common.{◌≡◌, ◌∙◌, sym, ap, refl, rules, ℕ, [], ◌∷◌, ◌++◌, Bool, true, false}
use Rattle.std.specs.Prelude.{cond, bytes_eq, is_some, Option, Some, None, if◌then◌else◌}
use Rattle.std.specs.Option.{option_or}
use Rattle.std.specs.Map.{lookup}
use Rattle.set_names.specs.Names.{Name}
use Rattle.set_names.specs.Names.{Noted, number_under, noted}

same_bytes : (a b : Name) → bytes_eq a b ≡ true → a ≡ b
same_bytes a b e = search (rules, e)

lookup_append : (test : Name → Bool) (es : Noted) (name : Name) (n : ℕ) → lookup test (es ++ (name, n) ∷ []) ≡ option_or (lookup test es) (if test name then Some n else None)
lookup_append test [] name n = refl
lookup_append test (x ∷ es) name n = go (test x.0) (lookup_append test es name n)
  where
    go : (b : Bool) → lookup test (es ++ (name, n) ∷ []) ≡ option_or (lookup test es) (if test name then Some n else None)
        → cond b (Some x.1) (lookup test (es ++ (name, n) ∷ [])) ≡ option_or (cond b (Some x.1) (lookup test es)) (if test name then Some n else None)
    go true h = refl
    go false h = h

-- what a name that is noted leads to
pub number_noted : (es : Noted) (name q : Name) (n : ℕ) → number_under (noted es name n) q ≡ option_or (number_under es q) (if bytes_eq q name then Some n else None)
number_noted es name q n = go (is_some (number_under es name)) refl
  where
    known : (o : Option ℕ) (b : Bool) → number_under es q ≡ o → bytes_eq q name ≡ b → is_some (number_under es name) ≡ true → o ≡ option_or o (if b then Some n else None)
    known (Some k) b e f there = refl
    known None false e f there = refl
    known None true e f there =
        let same : q ≡ name = same_bytes q name f in
        let wrong : false ≡ true = ap is_some (sym e ∙ ap (number_under es) same) ∙ there in
        absurd cc

    go : (b : Bool) → is_some (number_under es name) ≡ b → number_under (if b then es else es ++ (name, n) ∷ []) q ≡ option_or (number_under es q) (if bytes_eq q name then Some n else None)
    go false e = lookup_append (λ other. bytes_eq q other) es name n
    go true e = known (number_under es q) (bytes_eq q name) refl refl e
