-- Look-ups past the end of a program's lists.
use Rattle.std.proofs.Common.{◌≡◌, ℕ, ap}
use Rattle.std.specs.Prelude.{Option, None, slice_get, unwrap_or}
use Rattle.cil_model.specs.declared.program.Program.{Program}
use Rattle.cil_model.specs.declared.program.MethodDesc.{MethodDesc}
use Rattle.cil_model.specs.declared.program.TypeDesc.{TypeDesc}
use Rattle.cil_semantics.specs.Lookups.{type_of, method_of, no_method, contract_exception}

pub method_past : (p : Program) (m : ℕ) → slice_get p.methods m ≡ None → method_of p m ≡ no_method
method_past p m h = ap (λ (o : Option MethodDesc). unwrap_or o no_method) h

pub type_past : (p : Program) (k : ℕ) → slice_get p.types k ≡ None → type_of p k ≡ contract_exception
type_past p k h = ap (λ (o : Option TypeDesc). unwrap_or o contract_exception) h
