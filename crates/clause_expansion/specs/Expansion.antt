-- An abbreviator's clause at a call of it: each argument's instructions stand where the clause loads the parameter (Code Contracts User Manual, section 2; locals and branches are this project's own).
use Rattle.std.specs.Prelude.{ℕ, ◌+◌, ◌-◌, min, ◌==◌, List, [], ◌∷◌, ◌++◌, map, length, get_or, slice_get, Option, Some, None, option_and_then, option_map}
use Rattle.std.specs.List.{enumerate_from, flat_map}
use Rattle.cil_model.specs.declared.body.Instr.{Instr}
use Rattle.cil_model.specs.declared.body.Operand.{Operand}
use Rattle.cil_model.specs.declared.body.Operand.TheVariants.{Index, Target, Targets}
use Rattle.cil_model.specs.declared.contract.Clause.{Clause}
use Rattle.cil_model.specs.declared.contract.Old.{Old}
use Rattle.cil_semantics.specs.Words.{maybe}
use Rattle.contract_parts.specs.Parts.{index_if, named}
use Rattle.contract_extract.specs.Clauses.{in_32_bits}
use Rattle.clause_types.specs.ClauseTypes.{instr_under, ref_under}
use Rattle.clause_expansion.specs.declared.site.Site.{Site}

-- ---- places

-- the parameter that an instruction loads (ECMA-335, III.3.38)
abbrev pub parameter : Instr → Option ℕ
parameter i = index_if (i.op == 0xFE09) i.operand

-- the argument that stands in the place of an instruction
abbrev pub argument_for : List (List Instr) → Instr → Option (List Instr)
argument_for args i = option_and_then (slice_get args) (parameter i)

-- how many instructions stand in the place of one
abbrev pub width : List (List Instr) → Instr → ℕ
width args i = maybe 1 length (argument_for args i)

-- where what stands for each instruction begins, and where the last one's ends
abbrev pub starts_from : ℕ → List (List Instr) → List Instr → List ℕ
starts_from n args [] = n ∷ []
starts_from n args (i ∷ is) = n ∷ starts_from (in_32_bits (n + width args i)) args is

-- the same behind the instructions before the arguments
abbrev pub starts : Site → List Instr → List ℕ
starts s is = starts_from (in_32_bits (length s.lead)) s.args is

-- where a place lies now; one past the end lies at the end
abbrev pub place_in : List ℕ → ℕ → ℕ
place_in ks q = get_or ks (min q (length ks - 1)) 0

-- ---- instructions

abbrev pub retargeted : (ℕ → ℕ) → Operand → Operand
retargeted f (Target t) = Target (f t)
retargeted f (Targets ts) = Targets (map f ts)
retargeted f x = x

abbrev pub behind : ℕ → ℕ → ℕ
behind n k = in_32_bits (k + n)

abbrev pub copied_operand : ℕ → ℕ → Option ℕ → Operand → Operand
copied_operand at locals None x = retargeted (behind at) x
copied_operand at locals (Some k) x = Index (behind locals k)

-- a caller's instruction in a copy that begins at a place, with the caller's locals behind so many of the abbreviator's
abbrev pub copied : ℕ → ℕ → Instr → Instr
copied at locals i = record i { operand = copied_operand at locals (named i) i.operand }

-- an abbreviator's instruction
abbrev pub kept : Site → List ℕ → Instr → Instr
kept s ks i = instr_under s.under (record i { operand = retargeted (place_in ks) i.operand })

abbrev pub part_from : Site → List ℕ → ℕ → ℕ × Instr → Option (List Instr) → List Instr
part_from s ks locals x None = kept s ks x.1 ∷ []
part_from s ks locals x (Some arg) = map (copied (place_in ks x.0) locals) arg

-- what stands for the instruction at a place
abbrev pub part : Site → List ℕ → ℕ → ℕ × Instr → List Instr
part s ks locals x = part_from s ks locals x (argument_for s.args x.1)

-- the instructions before the arguments, and what stands for the clause's
abbrev pub expanded_instrs : Site → Clause → List Instr
expanded_instrs s x =
    let ks : List ℕ = starts s x.instrs in
    map (copied 0 (length x.locals)) s.lead ++ flat_map (part s ks (length x.locals)) (enumerate_from 0 x.instrs)

-- ---- clauses

abbrev pub expanded_old : Site → List ℕ → Old → Old
expanded_old s ks o = record { from = place_in ks o.from; to = place_in ks o.to; ty = ref_under s.under o.ty }

-- The clause that a call of its abbreviator stands for, with the abbreviator's labels.
unfoldable pub expanded : Site → Clause → Clause
expanded s x =
    record x {
      instrs = expanded_instrs s x;
      locals = map (ref_under s.under) x.locals ++ s.locals;
      olds = map (expanded_old s (starts s x.instrs)) x.olds;
      exception = option_map (ref_under s.under) x.exception;
    }
