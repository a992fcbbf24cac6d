use Rattle.std.proofs.Common.{refl, sym, subst}
use Rattle.cli_sigs.specs.declared.elements.Slot.TheVariants.{Plain}
use Rattle.cli_sigs.specs.declared.types.SigTy.{SigTy}
use Rattle.cli_sigs.specs.declared.types.SigTy.TheOpen.{SigTy-F}
use Rattle.cli_sigs.specs.declared.types.SigTy.TheVariants as ty
use Rattle.cli_sigs.specs.Valid.{IsValidType}
use Rattle.cli_sigs.proofs.ValidLaws.{form_is}
use Rattle.signature_tests.proofs.printing.prints_a_list.Goals as goal

text : IsValidType 999 Plain (ty.Prim 0x0E)
unfolding IsValidType
text = form_is Plain (IsValidType 998) (ty.Prim 0x0E) (SigTy-F.Prim 0x0E) (ty.rolls-Prim 0x0E) (refl, refl)

array : (t : SigTy) → IsValidType 999 Plain t → IsValidType 1000 Plain (ty.SzArray t)
unfolding IsValidType
array t h = form_is Plain (IsValidType 999) (ty.SzArray t) (SigTy-F.SzArray t) (ty.rolls-SzArray t) h

pub print_type-requires : goal.print_type-requires
print_type-requires c = array c.in_ok-item.item (subst (λ (t : SigTy). IsValidType 999 Plain t) (sym c.in_ok-item.ensures) text)
