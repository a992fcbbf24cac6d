-- The locals that instructions use (ECMA-335, III.3.43, III.3.44 and III.3.63).
use Rattle.std.specs.Prelude.{ℕ, List, [], length, Option}
use Rattle.std.specs.List.{filter_map, slice_range}
use Rattle.cil_model.specs.declared.body.Instr.{Instr}
use Rattle.contract_parts.specs.Flow.{Code}
use Rattle.contract_parts.specs.Parts.{named, stored, written, lead_end, rest_from}
use Rattle.contract_extract.specs.declared.locals.Use.{Use}
use Rattle.contract_extract.specs.declared.locals.Use.TheVariants as how
use Rattle.contract_extract.specs.Clauses.{distinct_behind}

-- the local that an instruction names, that it stores, and that it stores or whose address it takes
abbrev pub used : Use → Instr → Option ℕ
used how.Names = named
used how.Stores = stored
used how.Writes = written

-- the locals that instructions use so, each once
abbrev pub locals_used : Use → List Instr → List ℕ
locals_used u is = distinct_behind [] (filter_map (used u) is)

-- the instructions of the lead-in, of the contract block and of the rest
abbrev pub lead_code : Code → List Instr
lead_code c = slice_range c.body.instrs 0 (lead_end c)

abbrev pub block_code : Code → List Instr
block_code c = slice_range c.body.instrs (lead_end c) (rest_from c)

abbrev pub rest_code : Code → List Instr
rest_code c = slice_range c.body.instrs (rest_from c) (length c.body.instrs)

-- the locals that the lead-in or the rest stores
abbrev pub locals_outside : Code → List ℕ
locals_outside c = distinct_behind (locals_used how.Stores (lead_code c)) (filter_map (used how.Stores) (rest_code c))
