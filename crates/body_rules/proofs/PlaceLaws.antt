-- What a body breaks is at the place of its method.
use Rattle.std.proofs.Common.{◌≡◌, ◌∙◌, sym, subst, ap, refl, arith, inl, inr, ℕ, List, [], ◌∷◌}
use Rattle.std.specs.List.{enumerate_from}
use Rattle.cil_base.specs.declared.rule.Rule.{Rule}
use Rattle.cil_base.specs.declared.rule.Rule.TheVariants.{I6, X1, X2, X3, X4}
use Rattle.cil_base.specs.declared.refusal.Place.{Place}
use Rattle.cil_base.specs.declared.refusal.Refusal.{Refusal}
use Rattle.cil_base.specs.Refusals.{refusal, Test, Fails}
use Rattle.cil_base.specs.Rules.{rule_number}
use Rattle.cil_model.specs.declared.body.Body.{Body}
use Rattle.cil_model.specs.declared.program.Program.{Program}
use Rattle.cil_model.specs.declared.program.MethodDesc.{MethodDesc}
use Rattle.il_flow.specs.Meanings.{meaning_tests}
use Rattle.il_flow.proofs.LowestLaws.{InOrder, mapped, mapped_last}
use Rattle.region_tree.specs.Rules.{the_tests}
use Rattle.method_bodies.proofs.RowLaws.{IsNamed, named}
use Rattle.body_rules.specs.Faults.{CodeFault, MethodFault}

-- the refusal is of the place
pub record IsAt (place : Place) (r : Refusal) : Type 0 where
  pub assembly : r.assembly ≡ place.assembly
  pub table : r.table ≡ place.table
  pub row : r.row ≡ place.row

at_test : (place : Place) (n : ℕ) (ts : List Test) (r : Refusal) → InOrder place n ts → Fails ts r → IsAt place r
at_test place n [] r order f = absurd f
at_test place n (t ∷ ts) r order (inl f) =
    subst (IsAt place) f.1 (record { assembly = order.0.assembly; table = order.0.table; row = order.0.row })
at_test place n (t ∷ ts) r order (inr f) = at_test place (rule_number t.refusal.rule) ts r order.1 f

at_name : (place : Place) (r : Refusal) → IsNamed place r → IsAt place r
at_name place r (rule, at, e) = subst (IsAt place) (sym e) (record { assembly = refl; table = refl; row = refl })

meanings : (p : Program) (own : MethodDesc) (place : Place) (b : Body) → InOrder place 0 (meaning_tests p own place b)
meanings p own place b =
    (record { assembly = refl; table = refl; row = refl; number = omega arith }, mapped_last place I6 _ _ (rule_number I6) (enumerate_from 0 b.instrs) (omega arith))

controls : (place : Place) (b : Body) → InOrder place 0 (the_tests place b)
controls place b =
    mapped place X1 _ _ 0 b.regions _ (omega arith) (mapped place X2 _ _ (rule_number X1) (enumerate_from 0 b.regions) _ (omega arith) (mapped place X3 _ _ (rule_number X2) (enumerate_from 0 b.instrs) _ (omega arith) (mapped_last place X4 _ _ (rule_number X3) (enumerate_from 0 b.instrs) (omega arith))))

module _ (p : Program) (own : MethodDesc) (place : Place) (b : Body) where
  code_at : (r : Refusal) → CodeFault p own place b r → IsAt place r
  code_at r (inl f) = at_test place 0 (meaning_tests p own place b) r (meanings p own place b) f.broken
  code_at r (inr (n, inl f)) = subst (IsAt place) (sym f.broken.2) (record { assembly = refl; table = refl; row = refl })
  code_at r (inr (n, inr (m, f))) = at_test place 0 (the_tests place b) r (controls place b) f.broken

pub fault_at : (image : List ℕ) (place : Place) (rva : ℕ) (p : Program) (own : MethodDesc) (r : Refusal) → MethodFault image place rva p own r → IsAt place r
fault_at image place rva p own r (inl f) = at_name place r (named image place rva r f.broken)
fault_at image place rva p own r (inr (n, f)) = code_at p own place f.0 r f.2
