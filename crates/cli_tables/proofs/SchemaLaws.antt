-- A static list of borrowed lists, read at a place.
use Rattle.std.proofs.Common.{◌≡◌, ℕ, ◌<◌, List, length, map, get_or, Bor, sym, ap, ◌∙◌}
use Rattle.std.proofs.lemmas.List.{get_or-map}

pub borrowed_at : {X : Type 0} (bs : List (Bor X)) (ts : List X) (i : ℕ) (d : Bor X) (e : X) → map (λ (b : Bor X). b.now) bs ≡ ts → i < length bs → (get_or bs i d).now ≡ get_or ts i e
borrowed_at {X} bs ts i d e same lt =
    sym (get_or-map (λ (b : Bor X). b.now) bs i d e lt) ∙ ap (λ (l : List X). get_or l i e) same
