-- No type argument is void: of the types of values, of bases, and so of the type of a body that is found for one.
use Rattle.std.proofs.Common.{◌≡◌, ℕ, zero, suc, Bool, true, false, List, [], ◌∷◌, Option, Some, None, refl, subst}
use Rattle.std.specs.Prelude.{◌==◌, slice_get, if◌then◌else◌, option_and_then, option_map}
use Rattle.cil_model.specs.declared.ty.Ty.{Ty, out-Ty}
use Rattle.cil_model.specs.declared.value.Value.{Value, out-Value}
use Rattle.cil_model.specs.declared.value.Value.TheOpen.{Value-F}
use Rattle.cil_model.specs.declared.contract.Contracts.{Contracts}
use Rattle.cil_model.specs.declared.program.Program.{Program}
use Rattle.cil_model.specs.declared.program.MethodDesc.{MethodDesc}
use Rattle.cil_semantics.specs.Words.{maybe}
use Rattle.cil_semantics.specs.Core.{string_ty}
use Rattle.cil_semantics.specs.Lookups.{method_of, in_set, args_of, base_of, chain_on, chain_within, chain, most_bases}
use Rattle.cil_semantics.specs.Dispatch.{Seen, owner_among, seen_in, body_for}
use Rattle.cil_semantics.specs.Acts.{dynamic_at, dynamic_type}
use Rattle.cil_semantics.specs.Calls.{body_seen}
use Rattle.cil_semantics.specs.Checks.{AddedNumbers}
use Rattle.cil_semantics.specs.declared.state.Object.{Object}
use Rattle.cil_semantics.specs.declared.state.World.{World}
use Rattle.cil_semantics.specs.State.{object_at}
use Rattle.splice_facts.specs.WellFormed.{NoneVoid, WellFormedObjects}
use Rattle.splice_facts.specs.Related.{Rewritten, bounds}

module _ (p : Program) (k : Contracts) (ms : List MethodDesc) (g : AddedNumbers) (r : Rewritten p k ms g) where
  -- a type without void among its arguments
  abbrev pub Whole : Ty → Type 0
  Whole t = NoneVoid p (args_of t)

  abbrev AllWhole : List Ty → Type 0
  AllWhole [] = Unit {0}
  AllWhole (t ∷ ts) = Whole t × AllWhole ts

  chain_whole : (n : ℕ) (t : Ty) → Whole t → AllWhole (chain_within n p t)
  unfolding chain_within
  chain_whole zero t h = (h, tt)
  chain_whole (suc n) t h = (h, by_base (λ u w. chain_whole n u w) (base_of p t) refl)
    where
      by_base : ((u : Ty) → Whole u → AllWhole (chain_within n p u)) → (o : Option Ty) → base_of p t ≡ o → AllWhole (chain_on (chain_within n p) o)
      by_base again None e = tt
      by_base again (Some u) e = again u (r.bases t u h e)

  owner_whole : (m : ℕ) (ts : List Ty) (u : Ty) → AllWhole ts → owner_among p m ts ≡ Some u → Whole u
  owner_whole m [] u h e = absurd (cc e)
  owner_whole m (t ∷ ts) u h e = by_test (owner_whole m ts u h.1) (maybe false (λ (d : ℕ × List Ty). d.0 == (method_of p m).owner) (in_set (out-Ty t))) e
    where
      by_test : (owner_among p m ts ≡ Some u → Whole u) → (b : Bool) → (if b then Some t else owner_among p m ts) ≡ Some u → Whole u
      by_test again true q = let z : t ≡ u = cc q in subst Whole z h.0
      by_test again false q = again q

  seen_whole : (t : Ty) (m : ℕ) (x : Seen) → Whole t → seen_in p t m ≡ Some x → Whole x.0
  seen_whole t m x h e = by_owner (owner_among p m (chain p t)) (λ u q. owner_whole m (chain p t) u (chain_whole (most_bases p) t h) q) e
    where
      by_owner : (o : Option Ty) → ((u : Ty) → o ≡ Some u → Whole u) → option_map {U = Seen} (λ u. (u, m)) o ≡ Some x → Whole x.0
      by_owner None w q = absurd (cc q)
      by_owner (Some u) w q = let z : (u, m) ≡ x = cc q in subst (λ (y : Seen). Whole y.0) z (w u refl)

  pub found_whole : (t : Ty) (s x : Seen) → Whole t → body_seen p t s ≡ Some x → Whole x.0
  found_whole t s x h e = by_body (body_for p t s) e
    where
      by_body : (o : Option Seen) → option_and_then (λ (y : Seen). seen_in p t y.1) o ≡ Some x → Whole x.0
      by_body None q = absurd (cc q)
      by_body (Some y) q = seen_whole t y.1 x h q

  -- ---- of values

  string_whole : Whole string_ty
  unfolding out-Ty denote.Hole.Carrier.out
  string_whole = tt

  object_whole : (os : List Object) (i : ℕ) (o : Object) → WellFormedObjects (bounds p k ms g r) os → slice_get os i ≡ Some o → Whole o.ty
  object_whole [] i o h e = absurd (cc e)
  object_whole (x ∷ os) zero o h e = let q : x ≡ o = cc e in subst (λ (y : Object). Whole y.ty) q h.0.0
  object_whole (x ∷ os) (suc i) o h e = object_whole os i o h.1 e

  there_whole : (w : World) (j : ℕ) (o : Object) → WellFormedObjects (bounds p k ms g r) w.heap → object_at w j ≡ Some o → Whole o.ty
  there_whole w zero o h e = absurd (cc e)
  there_whole w (suc j) o h e = object_whole w.heap j o h e

  pub value_whole : (w : World) (v : Value) (t : Ty) → WellFormedObjects (bounds p k ms g r) w.heap → dynamic_type w v ≡ Some t → Whole t
  value_whole w v t h e = by_out (out-Value v) e
    where
      by_out : (o : Value-F Value) → dynamic_at w o ≡ Some t → Whole t
      by_out (Value-F.Obj j) q = by_object (object_at w j) refl q
        where
          by_object : (o : Option Object) → object_at w j ≡ o → option_map (λ (x : Object). x.ty) o ≡ Some t → Whole t
          by_object None s z = absurd (cc z)
          by_object (Some x) s z = let y : x.ty ≡ t = cc z in subst Whole y (there_whole w j x h s)
      by_out (Value-F.Text units) q = let y : string_ty ≡ t = cc q in subst Whole y string_whole
      by_out _ q = absurd (cc q)
