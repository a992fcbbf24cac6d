-- A program whose types name no interface, and bases outside alone, has no type above itself.
use Rattle.std.proofs.Common.{◌≡◌, ◌∙◌, sym, ap, refl, subst, arith, ℕ, ◌<◌, ◌≤◌, List, [], length}
use Rattle.std.specs.Prelude.{Option, Some, None, Contains}
use Rattle.cil_model.specs.declared.ty.Ty.{Ty, out-Ty}
use Rattle.cil_model.specs.declared.program.Program.{Program}
use Rattle.cil_semantics.specs.Types.{Layer, under, all_under}
use Rattle.cil_semantics.specs.Words.{maybe}
use Rattle.cil_semantics.specs.Core.{object_ty}
use Rattle.cil_semantics.specs.Lookups.{type_of, in_set, base_from, base_of, interfaces_from, interfaces_of, most_bases}
use Rattle.machine_laws.specs.Growth.{Ranked}
use Rattle.growth_rules.proofs.OutsideRankLaws.{layer_rank, IsLow, built_in_low, layer_few}

pub record IsFlat (p : Program) : Type 0 where
  pub bases : (k : ℕ) (args : List Ty) → IsLow (maybe object_ty (under args []) (type_of p k).base) 7
  pub interfaces : (k : ℕ) → (type_of p k).interfaces ≡ []

-- types of the program stand above those outside
abbrev rank_by : Option (ℕ × List Ty) → Layer → ℕ
rank_by None l = layer_rank l
rank_by (Some d) l = 7

abbrev rank : Ty → ℕ
rank t = rank_by (in_set (out-Ty t)) (out-Ty t)

low_rank : (t : Ty) (n : ℕ) → IsLow t n → rank t < n
low_rank t n low = subst (λ (k : ℕ). k < n) (sym (ap (λ (o : Option (ℕ × List Ty)). rank_by o (out-Ty t)) low.apart)) low.low

no_element : (u : Ty) → Contains [] u → ⊥
no_element u c = absurd (omega (arith, c.1))

rank_few : (o : Option (ℕ × List Ty)) (l : Layer) → rank_by o l ≤ 7
rank_few None l = let few : layer_rank l ≤ 6 = layer_few l in omega (arith, few)
rank_few (Some d) l = omega arith

module _ (p : Program) (flat : IsFlat p) where
  base_low : (t u : Ty) → base_of p t ≡ Some u → rank u < rank t
  unfolding base_of
  base_low t u e = by_number (in_set (out-Ty t)) e
    where
      by_number : (o : Option (ℕ × List Ty)) → base_from p o (out-Ty t) ≡ Some u → rank u < rank_by o (out-Ty t)
      by_number None f = low_rank u (layer_rank (out-Ty t)) (built_in_low (out-Ty t) u f)
      by_number (Some d) f = let is : maybe object_ty (under d.1 []) (type_of p d.0).base ≡ u = cc f in low_rank u 7 (subst (λ v. IsLow v 7) is (flat.bases d.0 d.1))

  none_named : (t u : Ty) → Contains (interfaces_of p t) u → ⊥
  unfolding interfaces_of
  none_named t u c = by_number (in_set (out-Ty t)) c
    where
      by_number : (o : Option (ℕ × List Ty)) → Contains (interfaces_from p o) u → ⊥
      by_number None d = no_element u d
      by_number (Some k) d = no_element u (subst (λ is. Contains is u) (ap (all_under k.1 []) (flat.interfaces k.0)) d)

  pub flat_ranked : Ranked p
  flat_ranked =
      record {
        rank = rank;
        within = λ t. let few : rank t ≤ 7 = rank_few (in_set (out-Ty t)) (out-Ty t) in omega (arith, few);
        base = base_low;
        interfaces = λ t u c. absurd (none_named t u c);
      }
