-- Which refusals of the files of a command are named.
use Rattle.std.proofs.Common.{◌≡◌, ◌⊎◌, ℕ, List, [], ◌∷◌, length, sym, ◌∙◌, inl, inr}
use Rattle.cil_base.specs.declared.refusal.Refusal.{Refusal}
use Rattle.cil_base.specs.Refusals.{InLayers}
use Rattle.cil_base.proofs.OrderLaws.{first_is_one}
use Rattle.cil_base.proofs.LayerLaws.{layers_are_one}
use Rattle.command_line.specs.declared.words.Command.{Command}
use Rattle.command_line.specs.declared.words.Command.TheVariants as commands
use Rattle.body_splice.specs.Rewrite as body
use Rattle.set_list.specs.Lists as listing
use Rattle.set_check.specs.Sets.{bytes_at}
use Rattle.set_list.proofs.ListLaws as lists
use Rattle.set_rewrite.specs.Sets as rewriting
use Rattle.set_rewrite.proofs.RewriteLaws.{names_broken, names_one}
use Rattle.program.specs.Layers.{InSome, IsInnerRefusal, IsInnerEither}
use Rattle.program.specs.Reading.{Reading, Whole, Missing, Passes}
use Rattle.program.specs.Program.{IsRefusal, IsEither}

-- in layers one refusal is named, or one of two that a layer may name both
module _ {L : Type 0} (Broken Named : L → Refusal → Type 0) (Either : L → Refusal → Refusal → Type 0) (broken : (l : L) (r : Refusal) → Named l r → Broken l r) (one : (l : L) (r s : Refusal) → Named l r → Named l s → (s ≡ r) ⊎ Either l s r) where
  one_of : (ls : List L) (r s : Refusal) → InLayers Broken Named ls r → InLayers Broken Named ls s → (s ≡ r) ⊎ InSome Either ls s r
  one_of [] r s h k = absurd h
  one_of (l ∷ ls) r s (inl h) (inl k) = in_first (one l r s h k)
    where
      in_first : (s ≡ r) ⊎ Either l s r → (s ≡ r) ⊎ InSome Either (l ∷ ls) s r
      in_first (inl e) = inl e
      in_first (inr e) = inr (inl e)
  one_of (l ∷ ls) r s (inl h) (inr k) = absurd (k.0 r (broken l r h))
  one_of (l ∷ ls) r s (inr h) (inl k) = absurd (h.0 s (broken l s k))
  one_of (l ∷ ls) r s (inr h) (inr k) = in_later (one_of ls r s h.1 k.1)
    where
      in_later : (s ≡ r) ⊎ InSome Either ls s r → (s ≡ r) ⊎ InSome Either (l ∷ ls) s r
      in_later (inl e) = inl e
      in_later (inr e) = inr (inr e)

pub one_inner : (command : Command) (set : List (List ℕ)) (r s : Refusal) → IsInnerRefusal command set r → IsInnerRefusal command set s → (s ≡ r) ⊎ IsInnerEither command set s r
one_inner commands.Body set r s h k =
    let b = bytes_at set 0 in
    layers_are_one (body.Breaks b) (body.Names b) (λ x y. ⊥) body.layers (λ l x y. y.broken) (λ l x y p q. inl (first_is_one (body.Breaks b l) x y p q)) r s h k
one_inner (commands.Rewrite settings) set r s h k =
    one_of (rewriting.Breaks set) (rewriting.Names set) (rewriting.MayBoth set) (names_broken set) (names_one set) (rewriting.layers (length set)) r s h k
one_inner commands.List set r s h k =
    layers_are_one (listing.Breaks set) (listing.Names set) (λ x y. ⊥) (listing.layers (length set)) (lists.names_broken set) (λ l x y p q. inl (lists.names_one set l x y p q)) r s h k

-- The files are refused by one refusal, but for a second limit.
pub one_refusal : (command : Command) (files : Reading) (r s : Refusal) → IsRefusal command files r → IsRefusal command files s → (s ≡ r) ⊎ IsEither command files s r
one_refusal command (Whole set) r s h k = one_inner command set r s h k
one_refusal command (Missing name) r s h k = absurd h
one_refusal command (Passes limit) r s h k = inl (k ∙ sym h)
