-- The first token or index without its meaning.
use Rattle.std.proofs.Common.{◌≡◌, ℕ, Bool, ◌&&◌, List, [], ◌∷◌, None, refl, ap, arith}
use Rattle.std.specs.Prelude.{MatchOption, IfOk, Result, Ok, Err, map}
use Rattle.std.specs.List.{enumerate_from, list_all}
use Rattle.std.proofs.Common.{inr}
use Rattle.cil_base.specs.declared.rule.Rule.TheVariants.{I6}
use Rattle.cil_base.specs.declared.refusal.Place.{Place}
use Rattle.cil_base.specs.Rules.{rule_number}
use Rattle.cil_base.specs.declared.refusal.Refusal.{Refusal}
use Rattle.cil_base.specs.declared.refusal.Fault.{Fault}
use Rattle.cil_base.specs.declared.refusal.Fault.TheVariants.{Refused, Memory}
use Rattle.cil_base.specs.Refusals.{First, NoneBroken, InTurn, OnRefused}
use Rattle.cil_model.specs.declared.ty.Ty.{Ty, out-Ty}
use Rattle.cil_model.specs.declared.ty.Ty.TheOpen.{Ty-F}
use Rattle.cil_model.specs.declared.ty.Ty.TheFolds.{fold_out-Ty}
use Rattle.cil_model.specs.declared.body.Body.{Body}
use Rattle.cil_model.specs.declared.program.Program.{Program}
use Rattle.cil_model.specs.declared.program.MethodDesc.{MethodDesc}
use Rattle.il_flow.specs.Lowest.{lowest}
use Rattle.il_flow.specs.Meanings.{BreaksMeaning, meaning_tests, layer_stands, stands}
use Rattle.il_flow.specs.Effects.{effect_of}
use Rattle.il_flow.specs.declared.answer.Heights.{Heights}
use Rattle.il_flow.specs.Heights.{HeightsAnswer, IsTold}
use Rattle.il_flow.specs.Methods.{HasHeights}
use Rattle.il_flow.proofs.LowestLaws.{InOrder, lowest_is_first, mapped_last}

in_order : (p : Program) (own : MethodDesc) (place : Place) (b : Body) → InOrder place 0 (meaning_tests p own place b)
in_order p own place b =
    (record { assembly = refl; table = refl; row = refl; number = omega arith }, mapped_last place I6 _ _ (rule_number I6) (enumerate_from 0 b.instrs) (omega arith))

pub first_meaning : (p : Program) (own : MethodDesc) (place : Place) (b : Body) → MatchOption (lowest None (meaning_tests p own place b)) (NoneBroken (BreaksMeaning p own place b)) (First (BreaksMeaning p own place b))
first_meaning p own place b = lowest_is_first place (meaning_tests p own place b) (in_order p own place b)

all_mapped : (f : Ty → Bool) (ts : List Ty) → list_all (λ (b : Bool). b) (map f ts) ≡ list_all f ts
all_mapped f [] = refl
all_mapped f (t ∷ ts) = ap (λ (b : Bool). f t && b) (all_mapped f ts)

-- in an instance each argument stands
pub instance_stands : (types methods : ℕ) (t : Ty) (k : ℕ) (args : List Ty) → out-Ty t ≡ Ty-F.Inst k args → stands types methods t ≡ list_all (stands types methods) args
instance_stands types methods t k args e = rw (fold_out-Ty Bool (layer_stands types methods) t, e) (all_mapped (stands types methods) args)

pub has_heights : (p : Program) (own : MethodDesc) (place : Place) (b : Body) (r : Result Heights Fault) → NoneBroken (BreaksMeaning p own place b) → IfOk r (λ found. HeightsAnswer (effect_of p own) b (Ok found)) → IfOk r (IsTold b) → IfOk r (HasHeights p own place b)
has_heights p own place b (Ok found) none h told = record { meant = none; heights = h; told = told }
has_heights p own place b (Err e) none h told = tt

-- where nothing of the first rule is broken, what is refused is of the later one
pub in_turn : {T : Type 0} (r : Result T Fault) (B L : Refusal → Type 0) → NoneBroken B → OnRefused r L → OnRefused r (InTurn B L)
in_turn (Ok x) B L none h = tt
in_turn (Err (Refused r)) B L none h = inr (none, h)
in_turn (Err (Memory e)) B L none h = tt
