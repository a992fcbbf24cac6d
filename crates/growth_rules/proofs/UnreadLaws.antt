-- A blob that isn't read is refused.
use Rattle.std.proofs.Common.{◌≡◌, refl, ℕ, ◌-◌, List, [], ◌∷◌, length, Ok, Err, true}
use Rattle.std.specs.Prelude.{Option, Some, None, is_some}
use Rattle.cli_sigs.specs.Read.{Reader, Outcome}
use Rattle.cli_sigs.specs.Reading.{ended}
use Rattle.cli_sigs.specs.Grammar.{IsLongest}
use Rattle.cli_sigs.proofs.Readers.{IsReader}
use Rattle.cli_sigs.proofs.Longest.{none_at_stop, none_before_rest, longest_at_stop, longest_before_rest}

-- in no grammar, with a longest front that begins one
abbrev pub IsUnread : {A : Type 0} → (List ℕ → A → Type 0) → List ℕ → Type 0
IsUnread {A} G bytes = ((v : A) → G bytes v → ⊥) × ((at : ℕ) × IsLongest G bytes at)

pub unread_is : {A : Type 0} (G : List ℕ → A → Type 0) (r : Reader A) → IsReader G r → (bytes : List ℕ) → ended (r bytes) ≡ None → IsUnread G bytes
unread_is {A} G r reader bytes e = go (r bytes) refl e
  where
    go : (o : Outcome A) → r bytes ≡ o → ended o ≡ None → IsUnread G bytes
    go (Err n) f g = (λ v is. none_at_stop G r reader bytes n v f is, (length bytes - n, longest_at_stop G r reader bytes n f))
    go (Ok (v, [])) f g = absurd cc
    go (Ok (v, b ∷ rest)) f g = (λ w is. none_before_rest G r reader bytes rest b v w f is, (length bytes - length (b ∷ rest), longest_before_rest G r reader bytes rest b v f))

-- what isn't unread is read
pub read_unless : {A : Type 0} (G : List ℕ → A → Type 0) (r : Reader A) → IsReader G r → (bytes : List ℕ) → (IsUnread G bytes → ⊥) → is_some (ended (r bytes)) ≡ true
read_unless {A} G r reader bytes never = go (ended (r bytes)) refl
  where
    go : (o : Option A) → ended (r bytes) ≡ o → is_some o ≡ true
    go None e = absurd (never (unread_is G r reader bytes e))
    go (Some v) e = refl
