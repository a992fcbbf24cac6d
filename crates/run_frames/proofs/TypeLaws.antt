-- Types of old values, one clause after another.
use Rattle.std.proofs.Common.{◌≡◌, ◌∙◌, ap, refl, List, [], ◌∷◌, ◌++◌, map}
use Rattle.cil_model.specs.declared.contract.Old.{Old}
use Rattle.cil_model.specs.declared.contract.TyRef.{TyRef}
use Rattle.cil_semantics.specs.Contracted.{Piece, olds_of}
use Rattle.run_frames.specs.Begun.{old_types, types_of_olds}

types_on : (os : List Old) (ps : List Old) → map (λ (o : Old). o.ty) (os ++ ps) ≡ types_of_olds os ++ map (λ (o : Old). o.ty) ps
types_on [] ps = refl
types_on (o ∷ os) ps = ap (λ (rs : List TyRef). o.ty ∷ rs) (types_on os ps)

pub types_of_all : (xs : List Piece) → map (λ (o : Old). o.ty) (olds_of xs) ≡ old_types xs
types_of_all [] = refl
types_of_all (x ∷ xs) = types_on x.clause.olds (olds_of xs) ∙ ap (λ (rs : List TyRef). types_of_olds x.clause.olds ++ rs) (types_of_all xs)
