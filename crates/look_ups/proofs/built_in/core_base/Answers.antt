use Rattle.std.proofs.Common.{ℕ, List, Bor}
use Rattle.look_ups.proofs.CoreLaws.{core_found}
use Rattle.look_ups.proofs.built_in.core_base.Goals as goal

pub returns : goal.returns
returns c =
    core_found (λ (row : Bor (List ℕ) × Bor (List ℕ)). row.0.now) (λ (row : Bor (List ℕ) × Bor (List ℕ)). row.1.now) (λ (s : Bor (List ℕ)). s.now)
    c.core_bases.result.now c.args.name.now c.base_among.result c.base_among.ensures c.core_bases.ensures
