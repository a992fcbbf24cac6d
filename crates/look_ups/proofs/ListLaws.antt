-- Lists by places.
use Rattle.std.proofs.Common.{◌≡◌, ◌∙◌, ap, ℕ, List, get_or}
use Rattle.std.specs.Prelude.{None, slice_get, unwrap_or}
use Rattle.std.proofs.lemmas.Option.{unwrap_or-slice_get}

pub past : {X : Type 0} (xs : List X) (k : ℕ) (d : X) → None ≡ slice_get xs k → d ≡ get_or xs k d
past xs k d e = ap (λ o. unwrap_or o d) e ∙ unwrap_or-slice_get xs k d
