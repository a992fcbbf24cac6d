-- One type after another, towards the bases.
use Rattle.std.proofs.Common.{◌≡◌, ◌∙◌, sym, ap, refl, arith, ℕ, suc, ◌+◌, ◌<◌, List, [], ◌∷◌, ◌++◌, length, get_or, drop, append_assoc, drop-cons}
use Rattle.std.specs.Prelude.{Option, Some, None, slice_get, option_map}
use Rattle.std.proofs.lemmas.List.{append-nil}
use Rattle.cli_sigs.specs.declared.types.SigTy.{SigTy}
use Rattle.set_types.specs.SignatureTypes.{Coded}
use Rattle.set_signatures.specs.Spelling.{spelled}
use Rattle.set_signatures.specs.declared.shape.Shape.{Shape}
use Rattle.members.specs.declared.assembly_members.AssemblyMembers.{AssemblyMembers}
use Rattle.members.specs.declared.set_type.SetType.{SetType}
use Rattle.members.specs.Bases.{in_front, arguments, base_arguments, declares, with_arguments, onwards, here_or, by_type, in_bases}

module _ (assemblies : List AssemblyMembers) (types : List SetType) (x : Shape) (whole : Option (ℕ × ℕ)) (n : ℕ) (args : List (List ℕ)) (k : ℕ) where
  pub type_missing : slice_get types k ≡ None → in_bases assemblies types x (suc n) args k ≡ whole → None ≡ whole
  unfolding in_bases
  type_missing e h = sym (ap (by_type (in_bases assemblies types x n) assemblies args x k) e) ∙ h

  at_type : (t : SetType) (row : Option ℕ) → slice_get types k ≡ Some t → row ≡ declares assemblies args x t → in_bases assemblies types x (suc n) args k ≡ whole
      → here_or k (onwards (in_bases assemblies types x n) (base_arguments assemblies args t) t.base) row ≡ whole
  unfolding in_bases
  at_type t row e d h = ap (here_or k (onwards (in_bases assemblies types x n) (base_arguments assemblies args t) t.base)) d ∙ sym (ap (by_type (in_bases assemblies types x n) assemblies args x k) e) ∙ h

  pub type_hit : (t : SetType) (row : ℕ) → slice_get types k ≡ Some t → Some row ≡ declares assemblies args x t → in_bases assemblies types x (suc n) args k ≡ whole → Some (k, row) ≡ whole
  type_hit t row e d h = at_type t (Some row) e d h

  pub type_ends : (t : SetType) → slice_get types k ≡ Some t → None ≡ declares assemblies args x t → t.base ≡ None → in_bases assemblies types x (suc n) args k ≡ whole → None ≡ whole
  type_ends t e d b h = sym (ap (onwards (in_bases assemblies types x n) (base_arguments assemblies args t)) b) ∙ at_type t None e d h

  onwards_is : (t : SetType) (base : ℕ) (next : Option (List (List ℕ))) → slice_get types k ≡ Some t → None ≡ declares assemblies args x t → t.base ≡ Some base → next ≡ base_arguments assemblies args t → in_bases assemblies types x (suc n) args k ≡ whole
      → with_arguments (in_bases assemblies types x n) base next ≡ whole
  onwards_is t base next e d b a h =
      ap (with_arguments (in_bases assemblies types x n) base) a ∙ sym (ap (onwards (in_bases assemblies types x n) (base_arguments assemblies args t)) b) ∙ at_type t None e d h

  pub type_stops : (t : SetType) (base : ℕ) → slice_get types k ≡ Some t → None ≡ declares assemblies args x t → t.base ≡ Some base → None ≡ base_arguments assemblies args t → in_bases assemblies types x (suc n) args k ≡ whole → None ≡ whole
  type_stops t base e d b a h = onwards_is t base None e d b a h

  pub type_goes : (t : SetType) (base : ℕ) (next : List (List ℕ)) → slice_get types k ≡ Some t → None ≡ declares assemblies args x t → t.base ≡ Some base → Some next ≡ base_arguments assemblies args t → in_bases assemblies types x (suc n) args k ≡ whole
      → in_bases assemblies types x n next base ≡ whole
  type_goes t base next e d b a h = onwards_is t base (Some next) e d b a h

pub types_over : (assemblies : List AssemblyMembers) (types : List SetType) (x : Shape) (whole : Option (ℕ × ℕ)) (args : List (List ℕ)) (k : ℕ) → in_bases assemblies types x 0 args k ≡ whole → None ≡ whole
unfolding in_bases
types_over assemblies types x whole args k h = h

-- ---- the arguments of a base, one after another

module _ (c : Coded) (args front : List (List ℕ)) (whole : Option (List (List ℕ))) (t : SigTy) (ts : List SigTy) where
  in_turn : (numbers : Option (List ℕ)) → numbers ≡ spelled c args t → option_map (λ rest. front ++ rest) (arguments c args (t ∷ ts)) ≡ whole → option_map (λ rest. front ++ rest) (in_front numbers (arguments c args ts)) ≡ whole
  in_turn numbers e h = ap (λ (o : Option (List ℕ)). option_map (λ rest. front ++ rest) (in_front o (arguments c args ts))) e ∙ h

  pub argument_missing : None ≡ spelled c args t → option_map (λ rest. front ++ rest) (arguments c args (t ∷ ts)) ≡ whole → None ≡ whole
  argument_missing e h = in_turn None e h

  regroup : (numbers : List ℕ) (o : Option (List (List ℕ))) → option_map (λ rest. (front ++ numbers ∷ []) ++ rest) o ≡ option_map (λ rest. front ++ rest) (option_map (λ l. numbers ∷ l) o)
  regroup numbers None = refl
  regroup numbers (Some l) = ap (λ (r : List (List ℕ)). Some r) (append_assoc front (numbers ∷ []) l)

  pub argument_goes : (numbers : List ℕ) → Some numbers ≡ spelled c args t → option_map (λ rest. front ++ rest) (arguments c args (t ∷ ts)) ≡ whole → option_map (λ rest. (front ++ numbers ∷ []) ++ rest) (arguments c args ts) ≡ whole
  argument_goes numbers e h = regroup numbers (arguments c args ts) ∙ in_turn (Some numbers) e h

pub arguments_over : (c : Coded) (args front : List (List ℕ)) (whole : Option (List (List ℕ))) (ts : List SigTy) → ts ≡ [] → option_map (λ rest. front ++ rest) (arguments c args ts) ≡ whole → Some front ≡ whole
arguments_over c args front whole [] e h = ap (λ (r : List (List ℕ)). Some r) (sym (append-nil front)) ∙ h
arguments_over c args front whole (t ∷ ts) e h = absurd cc

-- the next item is the first of what is left
pub left_from : {A : Type 0} (xs : List A) (i : ℕ) (x : A) → i < length xs → x ≡ get_or xs i x → drop i xs ≡ x ∷ drop (i + 1) xs
left_from {A} xs i x h e =
    let next : suc i ≡ i + 1 = omega arith in
    drop-cons xs i x h ∙ ap (λ (y : A). y ∷ drop (suc i) xs) (sym e) ∙ ap (λ (j : ℕ). x ∷ drop j xs) next
