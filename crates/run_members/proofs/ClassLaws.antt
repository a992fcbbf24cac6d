-- Names of core classes, and the table of these.
use Rattle.std.proofs.Common.{◌≡◌, ap, refl, List, [], ◌∷◌}
use Rattle.std.specs.Prelude.{Bool, ◌||◌, bytes_eq, map}
use Rattle.cil_model.specs.declared.ty.Ty.{Ty}
use Rattle.cil_semantics.specs.Calls.{is_named}
use Rattle.cil_semantics.specs.Core.{Name, core_classes}
use Rattle.cil_semantics.specs.Words.{any}
use Rattle.run_members.specs.Told.{class_names}

any_map : {A B : Type 0} (test : B → Bool) (f : A → B) (xs : List A) → any test (map f xs) ≡ any (λ x. test (f x)) xs
any_map test f [] = refl
any_map test f (x ∷ xs) = ap (λ (b : Bool). test (f x) || b) (any_map test f xs)

pub among_classes : (name : Name) → any (λ (it : Name). bytes_eq it name) class_names ≡ any (λ (row : Name × Ty). is_named row.0 name) core_classes
unfolding class_names
among_classes name = any_map (λ (it : Name). bytes_eq it name) (λ (c : Name × Ty). c.0) core_classes
