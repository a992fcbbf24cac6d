-- What is spelled with the shortest numbers is spelled.
use Rattle.std.proofs.Common.{ℕ, zero, suc, List, [], ◌∷◌, Bool, true, false, Option}
use Rattle.std.specs.Prelude.{ℤ}
use Rattle.cli_sigs.specs.declared.elements.Slot.{Slot}
use Rattle.cli_sigs.specs.declared.elements.MethodKind.{MethodKind}
use Rattle.cli_sigs.specs.declared.elements.Slot.TheVariants.{Plain, Param}
use Rattle.cli_sigs.specs.declared.elements.MethodKind.TheVariants.{Pointer}
use Rattle.cli_sigs.specs.declared.types.SigTy.{SigTy}
use Rattle.cli_sigs.specs.declared.types.MethodSig.{MethodSig}
use Rattle.cli_sigs.specs.Numbers.{Shortest, IsNumber, IsSignedNumber, IsPacked, IsSigned, IsCoded, IsCodedBy}
use Rattle.cli_sigs.specs.Grammar.{Each, Behind, Counted, CountedBy, IsGenerics, IsGenericsBy, IsParams, all_fixed, some_extra, IsMethod, IsMethodBy, method, Layer, LayerBy, prim, ptr, by_ref, named, var, mvar, array, inst, func, sz_array, modified, pinned, IsType, IsTypeBy}

number : (bs : List ℕ) (n : ℕ) → IsNumber Shortest bs n → IsPacked bs n
number bs n h = h.spelled

signed : (bs : List ℕ) (z : ℤ) → IsSignedNumber Shortest bs z → IsSigned bs z
signed bs z h = h.spelled

coded : (bs : List ℕ) (n : ℕ) → IsCodedBy Shortest bs n → IsCoded bs n
coded bs n h = (h.0.spelled, h.1)

module _ {A : Type 0} (G H : List ℕ → A → Type 0) (f : (bs : List ℕ) (v : A) → G bs v → H bs v) where
  each : (bs : List ℕ) (vs : List A) → Each G bs vs → Each H bs vs
  each bs [] g = g
  each bs (v ∷ vs) (front, back, e, g, gs) = (front, back, e, f front v g, each back vs gs)

  pub counted : (bs : List ℕ) (vs : List A) → CountedBy Shortest G bs vs → Counted H bs vs
  counted bs vs (count, texts, e, n, gs) = (count, texts, e, n.spelled, each texts vs gs)

pub behind_any : {A : Type 0} (b : ℕ) (G H : List ℕ → A → Type 0) → ((bs : List ℕ) (v : A) → G bs v → H bs v) → (bs : List ℕ) (v : A) → Behind b G bs v → Behind b H bs v
behind_any b G H f bs v (rest, e, g) = (rest, e, f rest v g)

generics : (generic : Bool) (bs : List ℕ) (n : ℕ) → IsGenericsBy Shortest generic bs n → IsGenerics generic bs n
generics true bs n h = h.spelled
generics false bs n h = h

module _ (I J : Slot → List ℕ → SigTy → Type 0) (f : (slot : Slot) (bs : List ℕ) (t : SigTy) → I slot bs t → J slot bs t) where
  params : (vararg : Bool) (bs : List ℕ) (ts : List SigTy) (s : Option ℕ) → IsParams (I Param) vararg bs ts s → IsParams (J Param) vararg bs ts s
  params vararg bs ts s (all_fixed e) = all_fixed (each (I Param) (J Param) (f Param) bs ts e)
  params vararg bs ts s (some_extra front back fixed extra v ef eb n) = some_extra front back fixed extra v (each (I Param) (J Param) (f Param) front fixed ef) (each (I Param) (J Param) (f Param) back extra eb) n

  pub method_any : (kind : MethodKind) (bs : List ℕ) (m : MethodSig) → IsMethodBy Shortest I kind bs m → IsMethod J kind bs m
  method_any kind bs m (method {flags = fl} {generics = g} {result = t} {params = ts} {sentinel = s} gs ns rs ps fh gg pn it pp) =
      method gs ns rs ps fh (generics _ gs g gg) pn.spelled (f _ rs t it) (params _ ps ts s pp)

  layer : (slot : Slot) (bs : List ℕ) (t : SigTy) → LayerBy Shortest I slot bs t → Layer J slot bs t
  layer slot bs t (prim p a) = prim p a
  layer slot bs t (ptr {bytes = x} {t = u} g) = ptr (f _ x u g)
  layer slot bs t (by_ref {bytes = x} {t = u} a g) = by_ref a (f Plain x u g)
  layer slot bs t (named {bytes = x} {coded = c} value p) = named value (coded x c p)
  layer slot bs t (var p) = var p.spelled
  layer slot bs t (mvar p) = mvar p.spelled
  layer slot bs t (array {t = u} {rank = r} sizes lows is rs ss ls g pr cs cl) =
      array sizes lows is rs ss ls (f Plain is u g) pr.spelled (counted (IsNumber Shortest) IsPacked number ss sizes cs) (counted (IsSignedNumber Shortest) IsSigned signed ls lows cl)
  layer slot bs t (inst {coded = c} value args cs ts p g) = inst value args cs ts (coded cs c p) (counted (I Plain) (J Plain) (f Plain) ts args g)
  layer slot bs t (func {bytes = x} {m = m} g) = func (method_any Pointer x m g)
  layer slot bs t (sz_array {bytes = x} {t = u} g) = sz_array (f Plain x u g)
  layer slot bs t (modified {coded = c} {t = u} required cs ts p g) = modified required cs ts (coded cs c p) (f _ ts u g)
  layer slot bs t (pinned {bytes = x} {t = u} a g) = pinned a (f _ x u g)

pub type_any : (d : ℕ) (slot : Slot) (bs : List ℕ) (t : SigTy) → IsTypeBy Shortest d slot bs t → IsType d slot bs t
unfolding IsTypeBy
type_any zero slot bs t g = absurd g
type_any (suc d) slot bs t g = layer (IsTypeBy Shortest d) (IsType d) (type_any d) slot bs t g
