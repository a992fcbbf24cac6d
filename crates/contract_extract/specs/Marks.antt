-- What one pass over a body tells of its places and its locals (this project's own).
use Rattle.std.specs.Prelude.{◌≡◌, length}
use Rattle.contract_parts.specs.Flow.{Code}
use Rattle.contract_extract.specs.declared.locals.Use.TheVariants as how
use Rattle.contract_extract.specs.declared.part_locals.PartLocals.{PartLocals}
use Rattle.contract_extract.specs.declared.reach.Reach.{Reach}
use Rattle.contract_extract.specs.Locals.{locals_used, locals_outside, lead_code, block_code}
use Rattle.contract_extract.specs.Reach.{all_crossed, all_parts, all_farthest}

-- the locals that the parts of the body store
abbrev pub AreLocals : Code → PartLocals → Type 0
AreLocals c p =
    (p.lead_written ≡ locals_used how.Writes (lead_code c)) × (p.block_written ≡ locals_used how.Writes (block_code c)) × (p.stored_outside ≡ locals_outside c)

-- how far the body's branches and regions reach
abbrev pub IsReach : Code → Reach → Type 0
IsReach c r =
    (r.crossed.items ≡ all_farthest (length c.body.instrs) (all_crossed c.body.instrs)) × (r.regions.items ≡ all_farthest (length c.body.instrs) (all_parts c.body.regions))
