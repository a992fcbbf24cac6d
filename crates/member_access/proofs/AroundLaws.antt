-- A type and those around it.
use Rattle.std.proofs.Common.{◌≡◌, ◌∙◌, sym, ap, arith, ℕ, suc, ◌<◌, ◌+◌, ◌-◌, Bool, true, false}
use Rattle.std.specs.Prelude.{Some, ◌&&◌, ◌||◌}
use Rattle.cil_model.specs.declared.program.Program.{Program}
use Rattle.cil_semantics.specs.Lookups.{type_of}
use Rattle.cil_semantics.specs.Words.{maybe}
use Rattle.member_access.specs.declared.reader.Reader.{Reader}
use Rattle.member_access.specs.Access.{is_near, is_open_type, names_within}

pub named_on : (p : Program) (r : Reader) (at outer n k : ℕ) (whole : Bool) → k < n → is_near r (type_of p at) ≡ false → is_open_type (type_of p at).flags ≡ true
    → (type_of p at).enclosing ≡ Some outer → names_within (n - k) p r at ≡ whole → names_within (n - (k + 1)) p r outer ≡ whole
named_on p r at outer n k whole below far seen around h =
    let m : n - k ≡ suc (n - (k + 1)) = omega (arith, below) in
    sym
    (ap (λ (i : ℕ). names_within i p r at) m
    ∙ ap (λ (b : Bool). b || (is_open_type (type_of p at).flags && maybe true (names_within (n - (k + 1)) p r) (type_of p at).enclosing)) far
    ∙ ap (λ (b : Bool). b && maybe true (names_within (n - (k + 1)) p r) (type_of p at).enclosing) seen
    ∙ ap (maybe true (names_within (n - (k + 1)) p r)) around)
    ∙ h
