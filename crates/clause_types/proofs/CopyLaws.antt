-- A clause under nothing is as it is.
use Rattle.std.proofs.Common.{◌≡◌, ◌∙◌, refl, ap, List, [], ◌∷◌}
use Rattle.std.specs.Prelude.{map, Option, Some, None, option_map}
use Rattle.cil_model.specs.declared.body.Instr.{Instr}
use Rattle.cil_model.specs.declared.contract.Clause.{Clause}
use Rattle.cil_model.specs.declared.contract.Old.{Old}
use Rattle.cil_model.specs.declared.contract.TyRef.{TyRef}
use Rattle.clause_types.specs.ClauseTypes.{clause_under, instr_under, old_under, ref_under}

instrs_as_they_are : (is : List Instr) → map (instr_under None) is ≡ is
instrs_as_they_are [] = refl
instrs_as_they_are (i ∷ is) = ap (λ (js : List Instr). i ∷ js) (instrs_as_they_are is)

types_as_they_are : (ts : List TyRef) → map (ref_under None) ts ≡ ts
types_as_they_are [] = refl
types_as_they_are (t ∷ ts) = ap (λ (us : List TyRef). t ∷ us) (types_as_they_are ts)

olds_as_they_are : (os : List Old) → map (old_under None) os ≡ os
olds_as_they_are [] = refl
olds_as_they_are (o ∷ os) = ap (λ (ps : List Old). o ∷ ps) (olds_as_they_are os)

exception_as_it_is : (t : Option TyRef) → option_map (ref_under None) t ≡ t
exception_as_it_is None = refl
exception_as_it_is (Some t) = refl

pub clause_as_it_is : (x : Clause) → clause_under None x ≡ x
clause_as_it_is x =
    ap (λ (is : List Instr). record x { instrs = is; locals = map (ref_under None) x.locals; olds = map (old_under None) x.olds; exception = option_map (ref_under None) x.exception }) (instrs_as_they_are x.instrs)
    ∙ ap (λ (ts : List TyRef). record x { locals = ts; olds = map (old_under None) x.olds; exception = option_map (ref_under None) x.exception }) (types_as_they_are x.locals)
    ∙ ap (λ (os : List Old). record x { olds = os; exception = option_map (ref_under None) x.exception }) (olds_as_they_are x.olds)
    ∙ ap (λ (t : Option TyRef). record x { exception = t }) (exception_as_it_is x.exception)
