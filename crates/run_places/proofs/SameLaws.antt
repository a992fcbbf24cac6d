-- Two types are the same in either order.
use Rattle.std.proofs.Common.{◌≡◌, ◌∙◌, sym, ap, refl, arith, ℕ, Bool, true, ◌==◌, List, [], ◌∷◌}
use Rattle.std.specs.Prelude.{◌&&◌, bytes_eq}
use Rattle.std.proofs.lemmas.Bool.Decides.{nat_tests}
use Rattle.cil_model.specs.declared.ty.Ty.{Ty, out-Ty, Prim, Known, Outside, Array', ByRef', Var, MVar, Opaque, Inst', Row_of-Ty, end_of-Ty, more_of-Ty}
use Rattle.cil_model.specs.declared.ty.Ty as types
use Rattle.cil_semantics.specs.Types.{same_ty, same_parts}
use Rattle.look_ups.proofs.TypeLaws.{items_of}

eq_turned : (a b : ℕ) → (a == b) ≡ (b == a)
eq_turned a b = grind (arith, nat_tests)

both : {a b c d : Bool} → a ≡ b → c ≡ d → (a && c) ≡ (b && d)
both {a} {b} {c} {d} e h = ap (λ x. x && c) e ∙ ap (λ x. b && x) h

bytes_turned : (a b : List ℕ) → bytes_eq a b ≡ bytes_eq b a
bytes_turned [] [] = refl
bytes_turned [] (y ∷ ys) = refl
bytes_turned (x ∷ xs) [] = refl
bytes_turned (x ∷ xs) (y ∷ ys) = both (eq_turned x y) (bytes_turned xs ys)

mutual
  unfolding types.out-Ty denote.Hole.Carrier.out denote.Hole.Carrier.shown Rattle.cil_model.specs.declared.ty.Ty.TheBlock.shown-the_row-Ty-0

  pub turned : (t u : Ty) → same_ty t u ≡ same_ty u t
  turned (Prim a) (Prim b) = eq_turned a b
  turned (Prim a) (Known b) = refl
  turned (Prim a) (Outside b bv) = refl
  turned (Prim a) (Array' b (more_of-Ty bi end_of-Ty)) = refl
  turned (Prim a) (ByRef' b (more_of-Ty bi end_of-Ty)) = refl
  turned (Prim a) (Var b) = refl
  turned (Prim a) (MVar b) = refl
  turned (Prim a) Opaque = refl
  turned (Prim a) (Inst' b bsh br) = refl
  turned (Known a) (Prim b) = refl
  turned (Known a) (Known b) = eq_turned a b
  turned (Known a) (Outside b bv) = refl
  turned (Known a) (Array' b (more_of-Ty bi end_of-Ty)) = refl
  turned (Known a) (ByRef' b (more_of-Ty bi end_of-Ty)) = refl
  turned (Known a) (Var b) = refl
  turned (Known a) (MVar b) = refl
  turned (Known a) Opaque = refl
  turned (Known a) (Inst' b bsh br) = refl
  turned (Outside a av) (Prim b) = refl
  turned (Outside a av) (Known b) = refl
  turned (Outside a av) (Outside b bv) = bytes_turned a b
  turned (Outside a av) (Array' b (more_of-Ty bi end_of-Ty)) = refl
  turned (Outside a av) (ByRef' b (more_of-Ty bi end_of-Ty)) = refl
  turned (Outside a av) (Var b) = refl
  turned (Outside a av) (MVar b) = refl
  turned (Outside a av) Opaque = refl
  turned (Outside a av) (Inst' b bsh br) = refl
  turned (Array' a (more_of-Ty ai end_of-Ty)) (Prim b) = refl
  turned (Array' a (more_of-Ty ai end_of-Ty)) (Known b) = refl
  turned (Array' a (more_of-Ty ai end_of-Ty)) (Outside b bv) = refl
  turned (Array' a (more_of-Ty ai end_of-Ty)) (Array' b (more_of-Ty bi end_of-Ty)) = ap (λ x. x && true) (turned ai bi)
  turned (Array' a (more_of-Ty ai end_of-Ty)) (ByRef' b (more_of-Ty bi end_of-Ty)) = refl
  turned (Array' a (more_of-Ty ai end_of-Ty)) (Var b) = refl
  turned (Array' a (more_of-Ty ai end_of-Ty)) (MVar b) = refl
  turned (Array' a (more_of-Ty ai end_of-Ty)) Opaque = refl
  turned (Array' a (more_of-Ty ai end_of-Ty)) (Inst' b bsh br) = refl
  turned (ByRef' a (more_of-Ty ai end_of-Ty)) (Prim b) = refl
  turned (ByRef' a (more_of-Ty ai end_of-Ty)) (Known b) = refl
  turned (ByRef' a (more_of-Ty ai end_of-Ty)) (Outside b bv) = refl
  turned (ByRef' a (more_of-Ty ai end_of-Ty)) (Array' b (more_of-Ty bi end_of-Ty)) = refl
  turned (ByRef' a (more_of-Ty ai end_of-Ty)) (ByRef' b (more_of-Ty bi end_of-Ty)) = ap (λ x. x && true) (turned ai bi)
  turned (ByRef' a (more_of-Ty ai end_of-Ty)) (Var b) = refl
  turned (ByRef' a (more_of-Ty ai end_of-Ty)) (MVar b) = refl
  turned (ByRef' a (more_of-Ty ai end_of-Ty)) Opaque = refl
  turned (ByRef' a (more_of-Ty ai end_of-Ty)) (Inst' b bsh br) = refl
  turned (Var a) (Prim b) = refl
  turned (Var a) (Known b) = refl
  turned (Var a) (Outside b bv) = refl
  turned (Var a) (Array' b (more_of-Ty bi end_of-Ty)) = refl
  turned (Var a) (ByRef' b (more_of-Ty bi end_of-Ty)) = refl
  turned (Var a) (Var b) = eq_turned a b
  turned (Var a) (MVar b) = refl
  turned (Var a) Opaque = refl
  turned (Var a) (Inst' b bsh br) = refl
  turned (MVar a) (Prim b) = refl
  turned (MVar a) (Known b) = refl
  turned (MVar a) (Outside b bv) = refl
  turned (MVar a) (Array' b (more_of-Ty bi end_of-Ty)) = refl
  turned (MVar a) (ByRef' b (more_of-Ty bi end_of-Ty)) = refl
  turned (MVar a) (Var b) = refl
  turned (MVar a) (MVar b) = eq_turned a b
  turned (MVar a) Opaque = refl
  turned (MVar a) (Inst' b bsh br) = refl
  turned Opaque (Prim b) = refl
  turned Opaque (Known b) = refl
  turned Opaque (Outside b bv) = refl
  turned Opaque (Array' b (more_of-Ty bi end_of-Ty)) = refl
  turned Opaque (ByRef' b (more_of-Ty bi end_of-Ty)) = refl
  turned Opaque (Var b) = refl
  turned Opaque (MVar b) = refl
  turned Opaque Opaque = refl
  turned Opaque (Inst' b bsh br) = refl
  turned (Inst' a ash ar) (Prim b) = refl
  turned (Inst' a ash ar) (Known b) = refl
  turned (Inst' a ash ar) (Outside b bv) = refl
  turned (Inst' a ash ar) (Array' b (more_of-Ty bi end_of-Ty)) = refl
  turned (Inst' a ash ar) (ByRef' b (more_of-Ty bi end_of-Ty)) = refl
  turned (Inst' a ash ar) (Var b) = refl
  turned (Inst' a ash ar) (MVar b) = refl
  turned (Inst' a ash ar) Opaque = refl
  turned (Inst' a ash ar) (Inst' b bsh br) = both (eq_turned a b) (ap (same_parts ar) (types.items_shown-the_row-Ty-1 bsh br) ∙ rows_turned ar br ∙ ap (same_parts br) (sym (types.items_shown-the_row-Ty-1 ash ar)))

  rows_turned : {m n : _} (ps : Row_of-Ty m) (qs : Row_of-Ty n) → same_parts ps (items_of qs) ≡ same_parts qs (items_of ps)
  rows_turned end_of-Ty end_of-Ty = refl
  rows_turned end_of-Ty (more_of-Ty u qs) = refl
  rows_turned (more_of-Ty t ps) end_of-Ty = refl
  rows_turned (more_of-Ty t ps) (more_of-Ty u qs) = both (turned t u) (rows_turned ps qs)
