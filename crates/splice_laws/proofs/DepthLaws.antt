-- The depth in the statics of the plain run: a store in it changes nothing else.
use Rattle.std.proofs.Common.{◌≡◌, ◌≢◌, ℕ, ◌≤◌, true, List, [], ◌∷◌, Option, Some, None, refl, sym, subst}
use Rattle.cil_model.specs.declared.ty.Ty.{Known}
use Rattle.cil_semantics.specs.Words.{maybe}
use Rattle.cil_semantics.specs.Types.{same_ty}
use Rattle.cil_semantics.specs.declared.state.World.{World}
use Rattle.cil_semantics.specs.declared.state.Statics.{Statics}
use Rattle.cil_semantics.specs.Unwind.{find_statics}
use Rattle.splice_facts.specs.Layout.{HasDepth, depth_cell}
use Rattle.splice_facts.proofs.StaticLaws.{find_apart, input, find_set, set_own, itself, found_owner}
use Rattle.splice_laws.specs.HelperRuns.{with_depth}

module _ (c : ℕ) where
  -- what a store in it leaves
  abbrev stored_so : ℕ → Option Statics → Statics
  stored_so e o = maybe (record { owner = Known c; init = None; cells = depth_cell e ∷ [] }) (λ (s : Statics). record s { cells = depth_cell e ∷ [] }) o

  owner_so : (e : ℕ) (ss : List Statics) (o : Option Statics) → find_statics (Known c) ss ≡ o → same_ty (stored_so e o).owner (Known c) ≡ true
  owner_so e ss None q = itself 0 c
  owner_so e ss (Some s) q = found_owner 0 (Known c) ss s q

  has_so : (d e : ℕ) (o : Option Statics) → HasDepth d o → HasDepth e (Some (stored_so e o))
  has_so d e None h = (refl, refl)
  has_so d e (Some s) h = (h.0, refl)

  pub depth_set : (d e : ℕ) (w : World) → HasDepth d (find_statics (Known c) w.statics) → HasDepth e (find_statics (Known c) (with_depth c e w).statics)
  depth_set d e w h = subst (HasDepth e) (sym (find_set 0 c (stored_so e (find_statics (Known c) w.statics)) w.statics (owner_so e w.statics (find_statics (Known c) w.statics) refl))) (has_so d e (find_statics (Known c) w.statics) h)

  pub others_set : (n e : ℕ) (w : World) → n ≤ c → input n (with_depth c e w).statics ≡ input n w.statics
  others_set n e w le = set_own n c le (stored_so e (find_statics (Known c) w.statics)) w.statics (owner_so e w.statics (find_statics (Known c) w.statics) refl)

  pub apart_set : (x e : ℕ) (w : World) → c ≢ x → find_statics (Known x) (with_depth c e w).statics ≡ find_statics (Known x) w.statics
  apart_set x e w d = find_apart 0 c x d (stored_so e (find_statics (Known c) w.statics)) w.statics (owner_so e w.statics (find_statics (Known c) w.statics) refl)
