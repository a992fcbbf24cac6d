use Rattle.std.proofs.Common.{◌∙◌, ap, sym, ℕ, List, ◌++◌, ◌+◌, ◌-◌}
use Rattle.std.specs.List.{flat_map, range_with_len}
use Rattle.set_types.specs.CodedTypes.{coded_of}
use Rattle.struct_fields.specs.StructFields.{field_row_structs}
use Rattle.struct_fields.proofs.OwnedLaws.{owned_range}
use Rattle.struct_fields.proofs.within.within_row.Goals as goal

pub returns : goal.returns
returns c =
    let f : ℕ → List ℕ = field_row_structs c.args.structs.now c.args.rows.now (coded_of c.args.coded.now) in
    let from : ℕ = c.saturating_sub-from.result in
    let to : ℕ = c.fields_end-to.result in
    c.in_ok-push_fields.ensures
    ∙ ap (λ (l : List ℕ). l ++ flat_map f (range_with_len (from + 1) (to - from))) c.new-out.ensures
    ∙ sym (ap (flat_map f) (owned_range c.args.rows.now c.args.row from to (c.saturating_sub-from.ensures ∙ ap (λ (n : ℕ). n - 1) c.cell.ensures) c.fields_end-to.ensures))
