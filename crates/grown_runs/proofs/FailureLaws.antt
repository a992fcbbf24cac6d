-- What is looked up on the class of failures, which is a number past the input's types.
use Rattle.std.proofs.Common.{◌≡◌, ℕ, zero, suc, List, [], ◌∷◌, ◌++◌, Option, Some, None, refl, sym, ap, ◌∙◌, arith}
use Rattle.std.specs.Prelude.{Bool, true, false, cond, ◌&&◌, ◌||◌, ◌==◌, not, map, filter, find, reverse, option_and_then, is_none, if◌then◌else◌}
use Rattle.cil_model.specs.declared.ty.Ty.{Ty, Known}
use Rattle.cil_model.specs.declared.ty.Ty as types
use Rattle.cil_model.specs.declared.program.Impl.{Impl}
use Rattle.cil_model.specs.declared.program.Program.{Program}
use Rattle.cil_semantics.specs.Words.{any, maybe, or_else, first_some}
use Rattle.cil_semantics.specs.Types.{same_ty}
use Rattle.cil_semantics.specs.Core.{object_ty, exception_ty, core_classes, leaf_base, outside_base}
use Rattle.cil_semantics.specs.Lookups.{method_of, base_of, interfaces_of, most_bases, chain_on, chain_within, chain}
use Rattle.cil_semantics.specs.Dispatch.{Seen, same_seen, is_virtual, takes_new_slot, same_shape, methods_of, impls_of, row_names, by_rows, bases, hidden_by, overrides, overrides_outside, implementing, public_like, is_interface, interface_slot, slot_of, overriders, nearest, body_for}
use Rattle.machine_laws.specs.Answers.{Each}
use Rattle.machine_laws.specs.Growth.{Ranked}
use Rattle.machine_laws.proofs.RankLaws.{far_enough}
use Rattle.machine_laws.proofs.FindLaws.{each_reverse}

-- ---- bases

base_exception : (q : Program) → base_of q exception_ty ≡ Some object_ty
unfolding base_of outside_base core_classes leaf_base types.out-Ty denote.Hole.Carrier.out
base_exception q = refl

base_object : (q : Program) → base_of q object_ty ≡ None
unfolding base_of types.out-Ty denote.Hole.Carrier.out
base_object q = refl

chain_step : (q : Program) (n : ℕ) (t u : Ty) → base_of q t ≡ Some u → chain_within (suc n) q t ≡ t ∷ chain_within n q u
unfolding chain_within
chain_step q n t u e = ap (λ (o : Option Ty). t ∷ chain_on (chain_within n q) o) e

chain_end : (q : Program) (n : ℕ) (t : Ty) → base_of q t ≡ None → chain_within n q t ≡ t ∷ []
unfolding chain_within
chain_end q zero t e = refl
chain_end q (suc n) t e = ap (λ (o : Option Ty). t ∷ chain_on (chain_within n q) o) e

-- ---- a class that is an exception, names no interface and overrides nothing

pub record IsQuiet (q : Program) (t : Ty) : Type 0 where
  pub interfaces : interfaces_of q t ≡ []
  pub rows : impls_of q t ≡ []
  pub methods : Each (λ m. is_virtual (method_of q m) ≡ false) (methods_of q t)

exception_quiet : (q : Program) → IsQuiet q exception_ty
unfolding interfaces_of types.out-Ty denote.Hole.Carrier.out
exception_quiet q = record { interfaces = refl; rows = refl; methods = tt }

object_quiet : (q : Program) → IsQuiet q object_ty
unfolding interfaces_of types.out-Ty denote.Hole.Carrier.out
object_quiet q = record { interfaces = refl; rows = refl; methods = tt }

-- a type whose base is System.Exception, above which stands System.Object alone
pub record IsException (q : Program) (t : Ty) : Type 0 where
  pub ranked : Ranked q
  pub base : base_of q t ≡ Some exception_ty
  pub quiet : IsQuiet q t

abbrev pub exceptions : Ty → List Ty
exceptions t = t ∷ exception_ty ∷ object_ty ∷ []

and_false : (b : Bool) → (b && false) ≡ false
and_false true = refl
and_false false = refl

-- ---- slots on a type that names no interface, nor does one above it

module _ (q : Program) (t : Ty) (us : List Ty) (c : chain q t ≡ us) (all : Each (IsQuiet q) us) where
  none_names : (s : Seen) (us : List Ty) → Each (IsQuiet q) us → find (λ u. any (same_ty s.0) (interfaces_of q u)) us ≡ None
  none_names s [] h = refl
  none_names s (u ∷ us) h =
      ap (λ (is : List Ty). cond (any (same_ty s.0) is) (Some u) (find (λ v. any (same_ty s.0) (interfaces_of q v)) us)) h.0.interfaces ∙ none_names s us h.1

  no_slot : (n : ℕ) (s : Seen) → interface_slot n q s t ≡ None
  unfolding interface_slot
  no_slot zero s = refl
  no_slot (suc n) s =
      ap (option_and_then (λ u. or_else (implementing q s u) (or_else (option_and_then (interface_slot n q s) (base_of q u)) (first_some (public_like q s) (bases q u)))))
      (ap (find (λ u. any (same_ty s.0) (interfaces_of q u))) c ∙ none_names s us all)

  quiet_slot : (s : Seen) → slot_of q t s ≡ (if is_interface q s.0 then None else Some s)
  unfolding slot_of
  quiet_slot s = ap (λ (o : Option Seen). if is_interface q s.0 then o else Some s) (no_slot (most_bases q) s)

pub object_slot : (q : Program) (s : Seen) → slot_of q object_ty s ≡ (if is_interface q s.0 then None else Some s)
object_slot q s = quiet_slot q object_ty (object_ty ∷ []) (chain_end q (most_bases q) object_ty (base_object q)) (object_quiet q, tt) s

module _ (q : Program) (t : Ty) (x : IsException q t) where
  pub chain_is : chain q t ≡ exceptions t
  chain_is =
      let n : ℕ = most_bases q in
      sym ((far_enough q x.ranked).chains (suc (suc n)) t (omega arith))
      ∙ chain_step q (suc n) t exception_ty x.base
      ∙ ap (λ (us : List Ty). t ∷ us) (chain_step q n exception_ty object_ty (base_exception q) ∙ ap (λ (us : List Ty). exception_ty ∷ us) (chain_end q n object_ty (base_object q)))

  all_quiet : Each (IsQuiet q) (exceptions t)
  all_quiet = (x.quiet, (exception_quiet q, (object_quiet q, tt)))

  pub slot_is : (s : Seen) → slot_of q t s ≡ (if is_interface q s.0 then None else Some s)
  slot_is s = quiet_slot q t (exceptions t) chain_is all_quiet s

  -- ---- nothing overrides

  no_rows : (u : Ty) (s : Seen) → IsQuiet q u → by_rows q u s ≡ []
  unfolding by_rows
  no_rows u s h = ap (λ (is : List Impl). map (λ (i : Impl). i.body) (filter (row_names q u s) is)) h.rows

  no_override : (u : Ty) (m : ℕ) (slot : Seen) → IsQuiet q u → is_virtual (method_of q m) ≡ false → overrides q (u, m) slot ≡ false
  unfolding overrides
  no_override u m slot h v =
      ap (λ (ms : List ℕ). if any (λ b. b == m) ms then any (same_ty slot.0) (bases q u) else (is_virtual (method_of q m) && not (takes_new_slot (method_of q m))) && maybe false (same_seen slot) (hidden_by q (u, m))) (no_rows u slot h)
      ∙ ap (λ (b : Bool). (b && not (takes_new_slot (method_of q m))) && maybe false (same_seen slot) (hidden_by q (u, m))) v

  none_outside : (u : Ty) (m : ℕ) (slot : Seen) → is_virtual (method_of q m) ≡ false → overrides_outside q (u, m) slot ≡ false
  unfolding overrides_outside
  none_outside u m slot v =
      ap (λ (b : Bool). (method_of q slot.1).outside && ((b && not (takes_new_slot (method_of q m))) && (is_none (hidden_by q (u, m)) && (any (same_ty slot.0) (bases q u) && same_shape q (u, m) slot)))) v
      ∙ and_false (method_of q slot.1).outside

  abbrev adds : Seen → Seen → Bool
  adds slot y = any (λ s. overrides q y s || overrides_outside q y s) (slot ∷ [])

  none_added : (slot : Seen) (u : Ty) (ms : List ℕ) → IsQuiet q u → Each (λ m. is_virtual (method_of q m) ≡ false) ms → filter (adds slot) (map {B = Seen} (λ m. (u, m)) ms) ≡ []
  none_added slot u [] h v = refl
  none_added slot u (m ∷ ms) h v =
      ap (λ (b : Bool). cond b ((u, m) ∷ filter (adds slot) (map {B = Seen} (λ k. (u, k)) ms)) (filter (adds slot) (map {B = Seen} (λ k. (u, k)) ms)))
      (ap (λ (b : Bool). (b || overrides_outside q (u, m) slot) || false) (no_override u m slot h v.0) ∙ ap (λ (b : Bool). b || false) (none_outside u m slot v.0))
      ∙ none_added slot u ms h v.1

  no_overriders : (us : List Ty) (slot : Seen) → Each (IsQuiet q) us → overriders q us (slot ∷ []) ≡ slot ∷ []
  unfolding overriders
  no_overriders [] slot h = refl
  no_overriders (u ∷ us) slot h = ap (λ (added : List Seen). overriders q us ((slot ∷ []) ++ added)) (none_added slot u (methods_of q u) h.0 h.0.methods) ∙ no_overriders us slot h.1

  -- so the body is the slot's own, in the first type of the chain that is the slot's
  pub body_is : (s : Seen) → body_for q t s ≡ option_and_then (λ slot. nearest q slot (slot ∷ []) (exceptions t)) (slot_of q t s)
  unfolding body_for
  body_is s =
      ap (λ (us : List Ty). option_and_then (λ slot. nearest q slot (overriders q (reverse us) (slot ∷ [])) us) (slot_of q t s)) chain_is ∙ go (slot_of q t s)
    where
      go : (o : Option Seen) → option_and_then (λ slot. nearest q slot (overriders q (reverse (exceptions t)) (slot ∷ [])) (exceptions t)) o ≡ option_and_then (λ slot. nearest q slot (slot ∷ []) (exceptions t)) o
      go None = refl
      go (Some slot) = ap (λ (seen : List Seen). nearest q slot seen (exceptions t)) (no_overriders (reverse (exceptions t)) slot (each_reverse (IsQuiet q) (exceptions t) all_quiet))
