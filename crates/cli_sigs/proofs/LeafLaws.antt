-- A type with none inside, and types of every depth.
use Rattle.std.proofs.Common.{◌≡◌, ℕ, zero, suc, Bool, true, false, cond, List, [], ◌∷◌, ◌++◌, Option, Some, None, Err, refl, sym, ap, subst, ◌∙◌, append-nil, arith}
use Rattle.cli_sigs.specs.declared.elements.Element.{Element}
use Rattle.cli_sigs.specs.declared.elements.Element.TheVariants as e
use Rattle.cli_sigs.specs.declared.elements.Slot.{Slot}
use Rattle.cli_sigs.specs.declared.elements.Slot.TheVariants.{Plain, Param}
use Rattle.cli_sigs.specs.declared.types.SigTy.{SigTy}
use Rattle.cli_sigs.specs.declared.types.SigTy.TheVariants as ty
use Rattle.cli_sigs.specs.Elements.{is_prim, element_of, may_stand, element_in, is_leaf}
use Rattle.cli_sigs.specs.Numbers.{IsPacked, IsCoded}
use Rattle.cli_sigs.specs.Grammar.{Counted, method, named_byte, Layer, prim, ptr, by_ref, named, var, mvar, array, inst, func, sz_array, modified, pinned, IsType, IsTypeBy}
use Rattle.cli_sigs.specs.Read.{◌>>=◌, byte_as}
use Rattle.cli_sigs.specs.Reading.{keep_leaf, leaf_in, bare_inst, leaf_after, type_at}
use Rattle.cli_sigs.proofs.Readers.{IsReader, Avoids, Then, Nothing, IsByteAs, Image, reads-bind, reads-pure, reads-as, reads-maps, same_grammar}
use Rattle.cli_sigs.proofs.Packed.{reads-packed, reads-coded}
use Rattle.cli_sigs.proofs.Zeros.{IsZero, reads-zero}
use Rattle.cli_sigs.proofs.TypeLaws.{Begins_with, begins, is_primitive, Named_byte, named_front, named_back, reads-named, may, reads-layer}

-- nothing may stand inside
abbrev No : Slot → List ℕ → SigTy → Type 0
No slot bytes t = ⊥

abbrev Bare : List ℕ → SigTy → Type 0
Bare = Then Named_byte (λ value. Then IsCoded (λ c. Image (λ (n : ℕ). ty.Inst value c []) IsZero))

reads-bare : IsReader Bare bare_inst
unfolding bare_inst
reads-bare = reads-bind _ _ _ _ reads-named (λ value x y. reads-bind _ _ _ _ reads-coded (λ c x y. reads-maps (λ (n : ℕ). ty.Inst value c []) _ _ reads-zero))

Leaf : Element → List ℕ → SigTy → Type 0
Leaf (e.Prim b) = Nothing (ty.Prim b)
Leaf (e.Named value) = Image (λ c. ty.Named value c) IsCoded
Leaf e.Var = Image ty.Var IsPacked
Leaf e.MVar = Image ty.MVar IsPacked
Leaf _ = Bare

reads-leaf : (k : Element) → IsReader (Leaf k) (leaf_after k)
unfolding Leaf leaf_after
reads-leaf (e.Prim b) = reads-pure (ty.Prim b)
reads-leaf (e.Named value) = reads-maps (λ c. ty.Named value c) _ _ reads-coded
reads-leaf e.Var = reads-maps ty.Var _ _ reads-packed
reads-leaf e.MVar = reads-maps ty.MVar _ _ reads-packed
reads-leaf e.Ptr = reads-bare
reads-leaf e.ByRef = reads-bare
reads-leaf e.Array = reads-bare
reads-leaf e.Inst = reads-bare
reads-leaf e.Func = reads-bare
reads-leaf e.SzArray = reads-bare
reads-leaf (e.Modified required) = reads-bare
reads-leaf e.Pinned = reads-bare

kept_leaf : (o : Option Element) (k : Element) → keep_leaf o ≡ Some k → (o ≡ Some k) × (is_leaf k ≡ true)
kept_leaf None k h = absurd cc
kept_leaf (Some x) k h = go (is_leaf x) refl h
  where
    go : (t : Bool) → is_leaf x ≡ t → cond t (Some x) None ≡ Some k → (Some x ≡ Some k) × (is_leaf k ≡ true)
    go true p q = let same : x ≡ k = cc in (q, ap is_leaf (sym same) ∙ p)
    go false p q = absurd cc

module _ (slot : Slot) where
  retyped : (bs cs : List ℕ) (v w : SigTy) → Layer No slot bs v → bs ≡ cs → v ≡ w → Layer No slot cs w
  retyped bs cs v w x e f = subst (λ (l : List ℕ). Layer No slot l w) e (subst (λ (t : SigTy). Layer No slot bs t) f x)

  leaf_of : (k : Element) (b : ℕ) (back : List ℕ) (v : SigTy) → is_leaf k ≡ true → Begins_with slot b k → Leaf k back v → Layer No slot (b ∷ back) v
  unfolding Leaf
  leaf_of (e.Prim c) b back v l w (none, is) =
      retyped (b ∷ []) (b ∷ back) (ty.Prim b) v (prim (is_primitive b c w.known) w.allowed) (ap (λ (l : List ℕ). b ∷ l) (sym none)) (ap ty.Prim (sym w.fits) ∙ is)
  leaf_of (e.Named value) b back v l w (c, pc, is) = retyped _ _ _ _ (named value pc) (ap (λ (n : ℕ). n ∷ back) w.fits) is
  leaf_of e.Var b back v l w (n, pn, is) = retyped _ _ _ _ (var pn) (ap (λ (n : ℕ). n ∷ back) w.fits) is
  leaf_of e.MVar b back v l w (n, pn, is) = retyped _ _ _ _ (mvar pn) (ap (λ (n : ℕ). n ∷ back) w.fits) is
  leaf_of e.Inst b back v l w (vf, vb, value, e1, nb, (cs, ts, c, e2, pc, (n, (pn, zero_is), is))) =
      let first = named_front vf value nb in
      let all : 0x15 ∷ named_byte value ∷ cs ++ ts ≡ b ∷ back = cc (w.fits, e1, e2, first) in
      let none : IsPacked ts 0 = subst (λ (k : ℕ). IsPacked ts k) zero_is pn in
      retyped _ _ _ _ (inst value [] cs ts pc (ts, [], sym (append-nil ts), none, refl)) all is
  leaf_of e.Ptr b back v l w g = absurd cc
  leaf_of e.ByRef b back v l w g = absurd cc
  leaf_of e.Array b back v l w g = absurd cc
  leaf_of e.Func b back v l w g = absurd cc
  leaf_of e.SzArray b back v l w g = absurd cc
  leaf_of (e.Modified required) b back v l w g = absurd cc
  leaf_of e.Pinned b back v l w g = absurd cc

  abbrev Whole : List ℕ → SigTy → Type 0
  Whole = Then (IsByteAs (leaf_in slot)) Leaf

  to_leaf : (bs : List ℕ) (v : SigTy) → Whole bs v → Layer No slot bs v
  to_leaf bs v (front, back, k, e, (b, fe, hb), g) =
      let p = kept_leaf (element_in slot b) k hb in
      let all : b ∷ back ≡ bs = sym (e ∙ ap (λ (l : List ℕ). l ++ back) fe) in
      retyped (b ∷ back) bs v v (leaf_of k b back v p.1 (begins slot b k p.0) g) all refl

  prim_at : (b : ℕ) (t : Bool) (o : Option Element) → t ≡ true → cond t (Some (e.Prim b)) o ≡ Some (e.Prim b)
  prim_at b true o h = refl
  prim_at b false o h = absurd cc

  named_leaf : (value : Bool) → leaf_in slot (named_byte value) ≡ Some (e.Named value)
  named_leaf true = refl
  named_leaf false = refl

  none_inside : (args : List SigTy) (ts : List ℕ) → Counted (No Plain) ts args → (args ≡ []) × IsPacked ts 0
  none_inside [] ts (count, texts, e, pn, each) =
      let all : count ≡ ts = sym (append-nil count) ∙ ap (λ (l : List ℕ). count ++ l) (sym each) ∙ sym e in
      (refl, subst (λ (l : List ℕ). IsPacked l 0) all pn)
  none_inside (x ∷ xs) ts (count, texts, e, pn, (f, b, e2, g, gs)) = absurd g

  from_leaf : (bs : List ℕ) (v : SigTy) → Layer No slot bs v → Whole bs v
  unfolding Leaf
  from_leaf bs v (prim {b = b} p a) =
      (b ∷ [], [], e.Prim b, refl, (b, refl, ap keep_leaf (may (may_stand slot b) (element_of b) (e.Prim b) a (prim_at b (is_prim b) _ p))), (refl, refl))
  from_leaf bs v (named {bytes = back} {coded = c} value pc) = (named_byte value ∷ [], back, e.Named value, refl, (named_byte value, refl, named_leaf value), (c, pc, refl))
  from_leaf bs v (var {bytes = back} {n = n} pn) = (0x13 ∷ [], back, e.Var, refl, (0x13, refl, refl), (n, pn, refl))
  from_leaf bs v (mvar {bytes = back} {n = n} pn) = (0x1E ∷ [], back, e.MVar, refl, (0x1E, refl, refl), (n, pn, refl))
  from_leaf bs v (inst {coded = c} value args cs ts pc ca) =
      let n = none_inside args ts ca in
      (0x15 ∷ [], named_byte value ∷ cs ++ ts, e.Inst, refl, (0x15, refl, refl), (named_byte value ∷ [], cs ++ ts, value, refl, named_back value, (cs, ts, c, refl, pc, (0, (n.1, refl), ap (λ (l : List SigTy). ty.Inst value c l) (sym n.0)))))
  from_leaf bs v (ptr it) = absurd it
  from_leaf bs v (by_ref a it) = absurd it
  from_leaf bs v (array sizes lows ts rs ss ls it pr cs cl) = absurd it
  from_leaf bs v (func (method gs ns rs ps fh gg pn it pp)) = absurd it
  from_leaf bs v (sz_array it) = absurd it
  from_leaf bs v (modified required cs ts pc it) = absurd it
  from_leaf bs v (pinned a it) = absurd it

  reads-leaves : IsReader (Layer No slot) (byte_as (leaf_in slot) >>= leaf_after)
  reads-leaves = same_grammar Whole (Layer No slot) _ (reads-bind _ _ _ _ (reads-as (leaf_in slot) 2 (e.Prim 2) refl) (λ k f g. reads-leaf k)) to_leaf from_leaf

-- ---- every depth

-- SENTINEL begins no parameter
pub avoids : (d : ℕ) → Avoids 0x41 (type_at d Param)
unfolding type_at
avoids zero = record { empty = refl; refuses = λ rest. ap Err (omega arith) }
avoids (suc d) = record { empty = refl; refuses = λ rest. ap Err (omega arith) }

pub reads-type : (d : ℕ) (slot : Slot) → IsReader (IsType (suc d) slot) (type_at d slot)
unfolding IsTypeBy type_at
reads-type zero slot = reads-leaves slot
reads-type (suc d) slot = reads-layer (IsType (suc d)) (type_at d) (λ s. reads-type d s) (avoids d) slot
