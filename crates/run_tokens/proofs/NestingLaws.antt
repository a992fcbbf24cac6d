-- How deep types nest, one level at a time.
use Rattle.std.proofs.Common.{◌≡◌, ◌∙◌, sym, ap, refl, ℕ, zero, suc, ◌+◌, ◌-◌, ◌≤◌, List, [], ◌∷◌, true, false, arith, max}
use Rattle.std.proofs.Math.Nat.{max-zero}
use Rattle.std.proofs.lemmas.Bool.Decides.{nat_tests}
use Rattle.std.specs.Prelude.{◌&&◌, nat_le}
use Rattle.cil_model.specs.declared.ty.Ty.{Ty, out-Ty, Prim, Known, Outside, Array', ByRef', Var, MVar, Opaque, Inst', Row_of-Ty, end_of-Ty, more_of-Ty}
use Rattle.cil_model.specs.declared.ty.Ty as types
use Rattle.cil_model.specs.declared.ty.Ty.TheVariants as ty
use Rattle.cil_model.specs.declared.ty.Ty.TheOpen.{Ty-F}
use Rattle.cil_semantics.specs.Words.{all}
use Rattle.cil_semantics.specs.Types.{Layer, nesting, parts_nesting}
use Rattle.look_ups.proofs.TypeLaws.{array_out, reference_out, instance_out}

-- the deepest of some types
deepest : List Ty → ℕ
deepest [] = 0
deepest (t ∷ ts) = max (nesting t) (deepest ts)

deepest_items : {m : _} (row : Row_of-Ty m) → parts_nesting row ≡ deepest (types.items-the_row-Ty m row)
unfolding deepest
deepest_items end_of-Ty = refl
deepest_items (more_of-Ty t rest) = ap (max (nesting t)) (deepest_items rest)

layer_nesting : Layer → ℕ
layer_nesting (Ty-F.Array i) = nesting i + 1
layer_nesting (Ty-F.ByRef i) = nesting i + 1
layer_nesting (Ty-F.Inst k ts) = deepest ts + 1
layer_nesting _ = 1

nesting_by : (t : Ty) → nesting t ≡ layer_nesting (out-Ty t)
unfolding types.out-Ty denote.Hole.Carrier.out denote.Hole.Carrier.shown Rattle.cil_model.specs.declared.ty.Ty.TheBlock.shown-the_row-Ty-0 layer_nesting
nesting_by (Prim b) = refl
nesting_by (Known k) = refl
nesting_by (Outside name value) = refl
nesting_by (Array' p (more_of-Ty i end_of-Ty)) = ap (λ n. n + 1) (max-zero (nesting i))
nesting_by (ByRef' p (more_of-Ty i end_of-Ty)) = ap (λ n. n + 1) (max-zero (nesting i))
nesting_by (Var k) = refl
nesting_by (MVar k) = refl
nesting_by Opaque = refl
nesting_by (Inst' k shape parts) = ap (λ n. n + 1) (deepest_items parts ∙ ap deepest (sym (types.items_shown-the_row-Ty-1 shape parts)))

one_more : (n d : ℕ) → nat_le (n + 1) (suc d) ≡ nat_le n d
one_more n d = grind (arith, nat_tests)

max_within : (a b d : ℕ) → nat_le (max a b) d ≡ (nat_le a d && nat_le b d)
max_within a b d = grind (arith, nat_tests)

least : (d : ℕ) → nat_le 0 d ≡ true
least d = grind (arith, nat_tests)

deepest_within : (ts : List Ty) (d : ℕ) → nat_le (deepest ts) d ≡ all (λ t. nat_le (nesting t) d) ts
unfolding deepest
deepest_within [] d = least d
deepest_within (t ∷ ts) d = max_within (nesting t) (deepest ts) d ∙ ap (λ b. nat_le (nesting t) d && b) (deepest_within ts d)

positive : (l : Layer) → 1 ≤ layer_nesting l
unfolding layer_nesting
positive (Ty-F.Array i) = omega arith
positive (Ty-F.ByRef i) = omega arith
positive (Ty-F.Inst k ts) = omega arith
positive (Ty-F.Prim b) = omega arith
positive (Ty-F.Known k) = omega arith
positive (Ty-F.Outside name value) = omega arith
positive (Ty-F.Var k) = omega arith
positive (Ty-F.MVar k) = omega arith
positive Ty-F.Opaque = omega arith

above : (n d : ℕ) → 1 ≤ n → d ≡ 0 → false ≡ nat_le n d
above n d h e = grind (arith, nat_tests)

-- each type nests at least one deep
pub too_deep : (t : Ty) (d : ℕ) → d ≡ 0 → false ≡ nat_le (nesting t) d
too_deep t d e = above (nesting t) d (rw (nesting_by t) (positive (out-Ty t))) e

pub array_within : (t i : Ty) (d : ℕ) → t ≡ ty.Array i → nat_le (nesting t) (suc d) ≡ nat_le (nesting i) d
unfolding layer_nesting
array_within t i d e = ap (λ n. nat_le n (suc d)) (nesting_by t ∙ ap layer_nesting (ap out-Ty e ∙ array_out i)) ∙ one_more (nesting i) d

pub reference_within : (t i : Ty) (d : ℕ) → t ≡ ty.ByRef i → nat_le (nesting t) (suc d) ≡ nat_le (nesting i) d
unfolding layer_nesting
reference_within t i d e = ap (λ n. nat_le n (suc d)) (nesting_by t ∙ ap layer_nesting (ap out-Ty e ∙ reference_out i)) ∙ one_more (nesting i) d

pub instance_within : (t : Ty) (k : ℕ) (ts : List Ty) (d : ℕ) → t ≡ ty.Inst k ts → nat_le (nesting t) (suc d) ≡ all (λ u. nat_le (nesting u) d) ts
unfolding layer_nesting
instance_within t k ts d e = ap (λ n. nat_le n (suc d)) (nesting_by t ∙ ap layer_nesting (ap out-Ty e ∙ instance_out k ts)) ∙ one_more (deepest ts) d ∙ deepest_within ts d

-- the same, where the depth isn't 0
less : (d : ℕ) → suc d - 1 ≡ d
less d = omega arith

pub array_fits : (t i : Ty) (d : ℕ) → (d ≡ 0 → ⊥) → t ≡ ty.Array i → nat_le (nesting i) (d - 1) ≡ nat_le (nesting t) d
array_fits t i zero h e = absurd (h refl)
array_fits t i (suc d) h e = ap (nat_le (nesting i)) (less d) ∙ sym (array_within t i d e)

pub reference_fits : (t i : Ty) (d : ℕ) → (d ≡ 0 → ⊥) → t ≡ ty.ByRef i → nat_le (nesting i) (d - 1) ≡ nat_le (nesting t) d
reference_fits t i zero h e = absurd (h refl)
reference_fits t i (suc d) h e = ap (nat_le (nesting i)) (less d) ∙ sym (reference_within t i d e)

pub instance_fits : (t : Ty) (k : ℕ) (ts : List Ty) (d : ℕ) → (d ≡ 0 → ⊥) → t ≡ ty.Inst k ts → all (λ u. nat_le (nesting u) (d - 1)) ts ≡ nat_le (nesting t) d
instance_fits t k ts zero h e = absurd (h refl)
instance_fits t k ts (suc d) h e = ap (λ n. all (λ u. nat_le (nesting u) n) ts) (less d) ∙ sym (instance_within t k ts d e)
