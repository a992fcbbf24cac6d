-- A list of methods after one of them got a body.
use Rattle.std.proofs.Common.{◌≡◌, ℕ, zero, suc, ◌<◌, List, [], ◌∷◌, length, sym, ap, slice_set, slice_index_or, arith}
use Rattle.std.specs.Prelude.{Some}
use Rattle.cil_model.specs.declared.body.Body.{Body}
use Rattle.cil_model.specs.declared.program.MethodDesc.{MethodDesc}
use Rattle.cil_model.specs.MethodLists.{with_body_at}

pub set-with_body : (ds : List MethodDesc) (m : ℕ) (d : MethodDesc) (body : Body) → m < length ds → slice_index_or ds m d ≡ d
    → slice_set ds m (record d { body = Some body }) ≡ with_body_at ds m body
set-with_body [] m d body h e = absurd (omega arith)
set-with_body (x ∷ ds) zero d body h e = ap {A = MethodDesc} (λ z. record z { body = Some body } ∷ ds) (sym e)
set-with_body (x ∷ ds) (suc m) d body h e = let l : m < length ds = omega arith in ap (λ r. x ∷ r) (set-with_body ds m d body l e)
