-- The readers of each kind of blob read its grammar.
use Rattle.std.proofs.Common.{◌≡◌, ◌==◌, ℕ, List, [], ◌∷◌, ◌++◌, Bool, refl, ap, ◌∙◌}
use Rattle.std.proofs.lemmas.Bool.{eqb-true, eq-eqb}
use Rattle.cli_sigs.specs.declared.elements.Slot.{Slot}
use Rattle.cli_sigs.specs.declared.elements.Slot.TheVariants.{Plain}
use Rattle.cli_sigs.specs.declared.elements.MethodKind.{MethodKind}
use Rattle.cli_sigs.specs.Read.{Reader, ◌>>=◌}
use Rattle.cli_sigs.specs.Grammar.{Behind, Counted, IsMethod, IsType, IsFieldSig}
use Rattle.cli_sigs.specs.Reading.{this_byte, counted, type_at, method_at, field_at, list_at}
use Rattle.cli_sigs.proofs.Readers.{IsReader, Then, IsByte, reads-bind, reads-byte, same_grammar}
use Rattle.cli_sigs.proofs.Packed.{reads-counted}
use Rattle.cli_sigs.proofs.TypeLaws.{reads-method}
use Rattle.cli_sigs.proofs.LeafLaws.{reads-type, avoids}

module _ {A : Type 0} (c : ℕ) (G : List ℕ → A → Type 0) (r : Reader A) (h : IsReader G r) where
  abbrev is_it : ℕ → Bool
  is_it b = b == c

  to_behind : (bs : List ℕ) (v : A) → Then (IsByte is_it) (λ b. G) bs v → Behind c G bs v
  to_behind bs v (front, back, b, e, (fe, hb), g) =
      let same : b ≡ c = eqb-true b c hb in
      (back, e ∙ ap (λ (l : List ℕ). l ++ back) fe ∙ ap (λ (n : ℕ). n ∷ back) same, g)

  from_behind : (bs : List ℕ) (v : A) → Behind c G bs v → Then (IsByte is_it) (λ b. G) bs v
  from_behind bs v (rest, e, g) = (c ∷ [], rest, c, e, (refl, eq-eqb c c refl), g)

  pub reads-behind : IsReader (Behind c G) (this_byte c >>= (λ b. r))
  reads-behind = same_grammar (Then (IsByte is_it) (λ b. G)) (Behind c G) _ (reads-bind _ _ _ _ (reads-byte is_it c (eq-eqb c c refl)) (λ b f g. h)) to_behind from_behind

pub reads-methods : (kind : MethodKind) → IsReader (IsMethod (IsType 1000) kind) (method_at kind (type_at 999))
reads-methods kind = reads-method (IsType 1000) (type_at 999) (λ slot. reads-type 999 slot) (avoids 999) kind

pub reads-spec : (slot : Slot) → IsReader (IsType 1000 slot) (type_at 999 slot)
reads-spec slot = reads-type 999 slot

pub reads-field : IsReader IsFieldSig (field_at 999)
unfolding field_at
reads-field = reads-behind 0x06 (IsType 1000 Plain) (type_at 999 Plain) (reads-type 999 Plain)

pub reads-list : (first : ℕ) (slot : Slot) → IsReader (Behind first (Counted (IsType 1000 slot))) (list_at first 999 slot)
unfolding list_at
reads-list first slot = reads-behind first (Counted (IsType 1000 slot)) (counted (type_at 999 slot)) (reads-counted (IsType 1000 slot) (type_at 999 slot) (reads-type 999 slot))
