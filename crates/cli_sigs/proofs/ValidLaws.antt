-- A value that has a spelling is valid.
use Rattle.std.proofs.Common.{◌≡◌, ◌==◌, ℕ, zero, suc, ◌*◌, ◌/◌, ◌%◌, ◌<◌, ◌≤◌, Bool, true, false, cond, List, [], ◌∷◌, length, Option, sym, ap, subst, ◌∙◌, arith, length-append}
use Rattle.std.proofs.lemmas.Int.{ints}
use Rattle.std.proofs.lemmas.List.Elements.{All-nil, All-cons, All-append}
use Rattle.std.specs.List.{All}
use Rattle.std.specs.Prelude.{ℤ, pos, ◌-ℤ◌, Result, Ok, Err, IfOk}
use Rattle.cil_base.specs.declared.refusal.Fault.{Fault}
use Rattle.cli_sigs.specs.declared.elements.Slot.{Slot}
use Rattle.cli_sigs.specs.declared.elements.Slot.TheVariants.{Plain, Param}
use Rattle.cli_sigs.specs.declared.elements.MethodKind.{MethodKind}
use Rattle.cli_sigs.specs.declared.elements.MethodKind.TheVariants.{Pointer}
use Rattle.cli_sigs.specs.declared.types.SigTy.{SigTy, out-SigTy, roll-SigTy, out-roll-SigTy}
use Rattle.cli_sigs.specs.declared.types.SigTy.TheOpen.{SigTy-F}
use Rattle.cli_sigs.specs.declared.types.SigTy.TheVariants as ty
use Rattle.cli_sigs.specs.declared.types.MethodSig.{MethodSig, out-roll-MethodSig}
use Rattle.cli_sigs.specs.declared.types.MethodSig.{MethodSig-F}
use Rattle.cli_sigs.specs.Methods.{result_slot, is_generic, is_vararg}
use Rattle.cli_sigs.specs.Numbers.{IsPacked, IsSigned, unrotated, half_of}
use Rattle.cli_sigs.specs.Grammar.{Each, Counted, IsGenerics, IsParams, all_fixed, some_extra, IsMethod, method, Layer, prim, ptr, by_ref, named, var, mvar, array, inst, func, sz_array, modified, pinned, IsType, IsTypeBy}
use Rattle.cli_sigs.specs.Valid.{IsShort, IsShortSigned, AllCounted, AreGenerics, StandsBefore, IsValidOpenMethod, IsValidMethod, IsValidForm, IsValidType}

-- ---- numbers and lists

short : (bs : List ℕ) (n : ℕ) → IsPacked bs n → IsShort n
short [] n h = absurd h
short (a ∷ []) n h = omega (arith, h.0, h.1)
short (a ∷ b ∷ []) n h = omega (arith, h.1, h.2, h.3)
short (a ∷ b ∷ c ∷ []) n h = absurd h
short (a ∷ b ∷ c ∷ d ∷ []) n h = omega (arith, h.1, h.2, h.3, h.4, h.5)
short (a ∷ b ∷ c ∷ d ∷ e ∷ bs) n h = absurd h

by_parity : (half m : ℕ) (even : Bool) → half ≤ 0x10000000 → m < half → IsShortSigned (cond even (pos m) (pos m -ℤ pos half))
by_parity half m true small lt = (omega (arith, ints), omega (arith, ints))
by_parity half m false small lt = (omega (arith, ints), omega (arith, ints))

short_unrotated : (half u : ℕ) → half ≤ 0x10000000 → u < 2 * half → IsShortSigned (unrotated half u)
short_unrotated half u small lt = by_parity half (u / 2) (u % 2 == 0) small (omega arith)

short_signed : (bs : List ℕ) (z : ℤ) → IsSigned bs z → IsShortSigned z
short_signed bs z (u, p, e) = subst IsShortSigned (sym e) (by_length bs u p)
  where
    by_length : (bs : List ℕ) (u : ℕ) → IsPacked bs u → IsShortSigned (unrotated (half_of (length bs)) u)
    by_length [] u h = absurd h
    by_length (a ∷ []) u h = short_unrotated 0x40 u (omega arith) (omega (arith, h.0, h.1))
    by_length (a ∷ b ∷ []) u h = short_unrotated 0x2000 u (omega arith) (omega (arith, h.1, h.2, h.3))
    by_length (a ∷ b ∷ c ∷ []) u h = absurd h
    by_length (a ∷ b ∷ c ∷ d ∷ []) u h = short_unrotated 0x10000000 u (omega arith) (omega (arith, h.1, h.2, h.3, h.4, h.5))
    by_length (a ∷ b ∷ c ∷ d ∷ e ∷ bs) u h = absurd h

module _ {A : Type 0} (G : List ℕ → A → Type 0) (P : A → Type 0) (h : (bs : List ℕ) (v : A) → G bs v → P v) where
  all_valid : (bs : List ℕ) (vs : List A) → Each G bs vs → All P vs
  all_valid bs [] e = All-nil P
  all_valid bs (v ∷ vs) (front, back, e, g, gs) = All-cons P v vs (h front v g) (all_valid back vs gs)

  pub counted_valid : (bs : List ℕ) (vs : List A) → Counted G bs vs → AllCounted P vs
  counted_valid bs vs (count, texts, e, n, gs) = (short count (length vs) n, all_valid texts vs gs)

-- ---- methods and types

generics_valid : (generic : Bool) (bs : List ℕ) (n : ℕ) → IsGenerics generic bs n → AreGenerics generic n
generics_valid true bs n h = short bs n h
generics_valid false bs n h = h.1

pub form_is : (slot : Slot) (Inner : Slot → SigTy → Type 0) (t : SigTy) (form : SigTy-F SigTy MethodSig) → roll-SigTy form ≡ t → IsValidForm Inner slot form → IsValidForm Inner slot (out-SigTy t)
form_is slot Inner t form rolls h = subst (λ (x : SigTy-F SigTy MethodSig). IsValidForm Inner slot x) (sym (out-roll-SigTy form) ∙ ap out-SigTy rolls) h

module _ (Inner : Slot → List ℕ → SigTy → Type 0) (Valid : Slot → SigTy → Type 0) (h : (slot : Slot) (bs : List ℕ) (t : SigTy) → Inner slot bs t → Valid slot t) where
  params_valid : (vararg : Bool) (bs : List ℕ) (ts : List SigTy) (s : Option ℕ) → IsParams (Inner Param) vararg bs ts s → All (Valid Param) ts × StandsBefore vararg (length ts) s
  params_valid vararg bs ts s (all_fixed e) = (all_valid (Inner Param) (Valid Param) (h Param) bs ts e, tt)
  params_valid vararg bs ts s (some_extra front back fixed extra v ef eb n) =
      (All-append (Valid Param) fixed extra (all_valid (Inner Param) (Valid Param) (h Param) front fixed ef) (all_valid (Inner Param) (Valid Param) (h Param) back extra eb), (v, grind (arith, length-append)))

  pub method_valid : (kind : MethodKind) (bs : List ℕ) (sig : MethodSig) → IsMethod Inner kind bs sig → IsValidMethod Valid kind sig
  method_valid kind bs sig (method {flags = f} {generics = g} {result = t} {params = ts} {sentinel = s} gs ns rs ps fh gg pn it pp) =
      let m : MethodSig-F SigTy MethodSig = record { flags = f; generics = g; result = t; params = ts; sentinel = s } in
      let all = params_valid (is_vararg f) ps ts s pp in
      subst (λ (x : MethodSig-F SigTy MethodSig). IsValidOpenMethod Valid kind x) (sym (out-roll-MethodSig m))
      (record { begins = fh; generics = generics_valid (is_generic f) gs g gg; result = h (result_slot kind) rs t it; params = (short ns (length ts) pn, all.0); sentinel = all.1 })

  layer_valid : (slot : Slot) (bs : List ℕ) (t : SigTy) → Layer Inner slot bs t → IsValidForm Valid slot (out-SigTy t)
  layer_valid slot bs t (prim {b = b} p a) = form_is slot Valid (ty.Prim b) (SigTy-F.Prim b) (ty.rolls-Prim b) (p, a)
  layer_valid slot bs t (ptr {bytes = x} {t = u} g) = form_is slot Valid (ty.Ptr u) (SigTy-F.Ptr u) (ty.rolls-Ptr u) (h _ x u g)
  layer_valid slot bs t (by_ref {bytes = x} {t = u} a g) = form_is slot Valid (ty.ByRef u) (SigTy-F.ByRef u) (ty.rolls-ByRef u) (a, h Plain x u g)
  layer_valid slot bs t (named {bytes = x} {coded = c} value p) = form_is slot Valid (ty.Named value c) (SigTy-F.Named value c) (ty.rolls-Named value c) (short x c p.0, p.1)
  layer_valid slot bs t (var {bytes = x} {n = n} p) = form_is slot Valid (ty.Var n) (SigTy-F.Var n) (ty.rolls-Var n) (short x n p)
  layer_valid slot bs t (mvar {bytes = x} {n = n} p) = form_is slot Valid (ty.MVar n) (SigTy-F.MVar n) (ty.rolls-MVar n) (short x n p)
  layer_valid slot bs t (array {t = u} {rank = r} sizes lows is rs ss ls g pr cs cl) =
      form_is slot Valid (ty.Array u r sizes lows) (SigTy-F.Array u r sizes lows) (ty.rolls-Array u r sizes lows)
      (h Plain is u g, short rs r pr, counted_valid IsPacked IsShort short ss sizes cs, counted_valid IsSigned IsShortSigned short_signed ls lows cl)
  layer_valid slot bs t (inst {coded = c} value args cs ts p g) =
      form_is slot Valid (ty.Inst value c args) (SigTy-F.Inst value c args) (ty.rolls-Inst value c args) ((short cs c p.0, p.1), counted_valid (Inner Plain) (Valid Plain) (h Plain) ts args g)
  layer_valid slot bs t (func {bytes = x} {m = m} g) = form_is slot Valid (ty.Func m) (SigTy-F.Func m) (ty.rolls-Func m) (method_valid Pointer x m g)
  layer_valid slot bs t (sz_array {bytes = x} {t = u} g) = form_is slot Valid (ty.SzArray u) (SigTy-F.SzArray u) (ty.rolls-SzArray u) (h Plain x u g)
  layer_valid slot bs t (modified {coded = c} {t = u} required cs ts p g) =
      form_is slot Valid (ty.Modified required c u) (SigTy-F.Modified required c u) (ty.rolls-Modified required c u) ((short cs c p.0, p.1), h _ ts u g)
  layer_valid slot bs t (pinned {bytes = x} {t = u} a g) = form_is slot Valid (ty.Pinned u) (SigTy-F.Pinned u) (ty.rolls-Pinned u) (a, h _ x u g)

pub type_valid : (d : ℕ) (slot : Slot) (bs : List ℕ) (t : SigTy) → IsType d slot bs t → IsValidType d slot t
unfolding IsTypeBy IsValidType
type_valid zero slot bs t g = absurd g
type_valid (suc d) slot bs t g = layer_valid (IsType d) (IsValidType d) (type_valid d) slot bs t g

-- ---- answers

pub read_valid : {A : Type 0} (G : List ℕ → A → Type 0) (P : A → Type 0) (bs : List ℕ) (result : Result A Fault) → ((v : A) → G bs v → P v) → IfOk result (G bs) → IfOk result P
read_valid G P bs (Ok v) f g = f v g
read_valid G P bs (Err e) f g = g
