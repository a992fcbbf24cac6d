use Rattle.std.proofs.Common.{◌≡◌, ◌-◌}
use Rattle.cil_model.specs.declared.ty.Ty.{Ty}
use Rattle.cil_semantics.specs.Lookups.{is_sub, is_sub_within, most_bases}
use Rattle.cil_semantics.specs.Words.{any}
use Rattle.look_ups.proofs.subtype.is_subtype.Given as goal

abbrev pub invariant-loop-k : goal.invariant-loop-k
invariant-loop-k l = any (λ (t : Ty). is_sub_within (most_bases l.program - l.k) l.program t l.b) l.level ≡ is_sub l.program l.a l.b
