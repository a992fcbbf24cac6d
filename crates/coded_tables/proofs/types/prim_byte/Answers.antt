use Rattle.std.proofs.Common.{ℕ, List, Bor}
use Rattle.coded_tables.proofs.PrimLaws.{prim_found}
use Rattle.coded_tables.proofs.types.prim_byte.Goals as goal

pub returns : goal.returns
returns c =
    prim_found (λ (row : ℕ × Bor (List ℕ)). row.0) (λ (row : ℕ × Bor (List ℕ)). row.1.now) c.prim_names.result.now c.args.name.now c.byte_among.result c.byte_among.ensures c.prim_names.ensures
