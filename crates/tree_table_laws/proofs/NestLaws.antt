-- What the rule on nesting says of a table that doesn't break it.
use Rattle.std.proofs.Common.{◌≡◌, ◌+◌, ◌≤◌, ℕ, false, not, ◌||◌, inl, inr, List, [], ◌∷◌, ◌++◌, length, take, map, refl, sym, subst, ap, ◌∙◌, append_assoc, length-append}
use Rattle.std.specs.Prelude.{◌==◌, nat_lt, slice_index}
use Rattle.std.specs.List.{list_any, enumerate_from}
use Rattle.std.proofs.lemmas.Bool.{false_from_ne_true, ltb-false, not-false, or_parts}
use Rattle.cil_base.specs.declared.refusal.Place.{Place}
use Rattle.cil_base.specs.Refusals.{Fails, NoneBroken}
use Rattle.cil_model.specs.declared.body.Body.{Body}
use Rattle.cil_model.specs.declared.body.Region.{Region}
use Rattle.region_tree.specs.Nesting.{are_apart, breaks_nesting, depths_of, handler_start, has_parts, is_misplaced, is_nested}
use Rattle.region_tree.specs.Rules.{nesting_test}
use Rattle.tree_table_laws.proofs.Lists.{Each, any_none, each_right, each_weaker}
use Rattle.tree_table_laws.proofs.HeightLaws.{deep}
use Rattle.tree_table_laws.proofs.OrderLaws.{HasCode}
use Rattle.tree_table_laws.proofs.TableLaws.{depth_at, take_front}

-- no later clause is nested in an earlier one
abbrev pub Behind : (earlier rs : List Region) → Type 0
Behind es [] = Unit {0}
Behind es (r ∷ rs) = Each (λ e. is_nested r e ≡ false) es × Behind (es ++ r ∷ []) rs

abbrev pub Ordered : List Region → Type 0
Ordered [] = Unit {0}
Ordered (r ∷ rs) = Each (λ s. is_nested s r ≡ false) rs × Ordered rs

pub record Nests (es rs : List Region) : Type 0 where
  pub code : Each HasCode rs
  pub depth : Each (λ d. d ≤ 1000) (depths_of rs)
  pub behind : Behind es rs

one_nests : (es : List Region) (r : Region) (depth : ℕ) → breaks_nesting es r depth ≡ false → HasCode r × (depth ≤ 1000) × Each (λ e. is_nested r e ≡ false) es
one_nests es r depth e =
    let a = or_parts (list_any (λ (d : Region). is_misplaced d r) es) (not (r.handler_from == handler_start es r) || (nat_lt 1000 depth || not (has_parts r))) e in
    let b = or_parts (not (r.handler_from == handler_start es r)) (nat_lt 1000 depth || not (has_parts r)) a.1 in
    let c = or_parts (nat_lt 1000 depth) (not (has_parts r)) b.1 in
    (not-false (has_parts r) c.1, ltb-false 1000 depth c.0, each_weaker (λ d. is_misplaced d r ≡ false) (λ d. is_nested r d ≡ false) (λ d f. (or_parts (is_nested r d) (not (is_nested d r || are_apart d r)) f).0) es (any_none (λ d. is_misplaced d r) es a.0))

pub all_nest : (place : Place) (b : Body) (es rs : List Region) → b.regions ≡ es ++ rs → NoneBroken (Fails (map (nesting_test place b) (enumerate_from (length es) rs))) → Nests es rs
all_nest place b es [] e none = record { code = tt; depth = tt; behind = tt }
all_nest place b es (r ∷ rs) e none =
    let test : breaks_nesting (take (length es) b.regions) r (slice_index (depths_of b.regions) (length es)) ≡ false = false_from_ne_true (nesting_test place b (length es, r)).fails (λ t. none (nesting_test place b (length es, r)).refusal (inl (t, refl))) in
    let same : breaks_nesting (take (length es) b.regions) r (slice_index (depths_of b.regions) (length es)) ≡ breaks_nesting es r (deep r rs + 1)
    = ap (λ (l : List Region). breaks_nesting (take (length es) l) r (slice_index (depths_of l) (length es))) e
    ∙ ap (λ (l : List Region). breaks_nesting l r (slice_index (depths_of (es ++ r ∷ rs)) (length es))) (take_front es (r ∷ rs))
    ∙ ap (λ (n : ℕ). breaks_nesting es r n) (depth_at es r rs) in
    let one = one_nests es r (deep r rs + 1) (sym same ∙ test) in
    let rest = all_nest place b (es ++ r ∷ []) rs (e ∙ sym (append_assoc es (r ∷ []) rs)) (λ s f. none s (inr (subst (λ (n : ℕ). Fails (map (nesting_test place b) (enumerate_from n rs)) s) (length-append es (r ∷ [])) f))) in
    record { code = (one.0, rest.code); depth = (one.1, rest.depth); behind = (one.2, rest.behind) }

behind_one : (es fs rs : List Region) (x : Region) → Behind (es ++ x ∷ fs) rs → Each (λ s. is_nested s x ≡ false) rs
behind_one es fs [] x b = tt
behind_one es fs (r ∷ rs) x b =
    ((each_right (λ e. is_nested r e ≡ false) es (x ∷ fs) b.0).0, behind_one es (fs ++ r ∷ []) rs x (subst (λ (l : List Region). Behind l rs) (append_assoc es (x ∷ fs) (r ∷ [])) b.1))

pub ordered : (es rs : List Region) → Behind es rs → Ordered rs
ordered es [] b = tt
ordered es (r ∷ rs) b = (behind_one es [] rs r b.1, ordered (es ++ r ∷ []) rs b.1)
