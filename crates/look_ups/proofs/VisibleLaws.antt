-- A type and those around it.
use Rattle.std.proofs.Common.{◌≡◌, ◌∙◌, sym, ap, arith, ℕ, suc, ◌<◌, ◌+◌, ◌-◌, Bool, true}
use Rattle.std.specs.Prelude.{Some, ◌&&◌}
use Rattle.cil_model.specs.declared.program.Program.{Program}
use Rattle.cil_semantics.specs.Contracted.{are_seen_within, is_seen_type}
use Rattle.cil_semantics.specs.Lookups.{type_of}
use Rattle.cil_semantics.specs.Words.{maybe}

pub seen_on : (p : Program) (at outer n k : ℕ) (whole : Bool) → k < n → is_seen_type (type_of p at).flags ≡ true → (type_of p at).enclosing ≡ Some outer
    → are_seen_within (n - k) p at ≡ whole → are_seen_within (n - (k + 1)) p outer ≡ whole
seen_on p at outer n k whole below seen around h =
    let m : n - k ≡ suc (n - (k + 1)) = omega (arith, below) in
    sym
    (ap (λ (i : ℕ). are_seen_within i p at) m
    ∙ ap (λ (b : Bool). b && maybe true (are_seen_within (n - (k + 1)) p) (type_of p at).enclosing) seen
    ∙ ap (maybe true (are_seen_within (n - (k + 1)) p)) around)
    ∙ h
