use Rattle.std.proofs.Common.{◌≡◌, ℕ, List, Some, get_or, inr, sym, ap, ◌∙◌}
use Rattle.std.specs.Prelude.{is_none, position}
use Rattle.cil_base.specs.declared.rule.Rule.TheVariants.{I3}
use Rattle.cil_base.specs.Refusals.{refusal}
use Rattle.cil_model.specs.declared.body.Instr.{Instr}
use Rattle.cil_model.specs.BodyOf.{map_all, with_indexes, region_of}
use Rattle.il_code.proofs.BodyLaws.{branch_fault}
use Rattle.il_code.proofs.decode.decode_code.Goals as goal

pub returns-in-Some-put_all-clause-broken : goal.returns-in-Some-put_all-clause-broken
returns-in-Some-put_all-clause-broken c =
    let layout = c.args.layout in
    let size = layout.header.code_size in
    let code = c.args.code.now in
    let offsets = c.in_ok-instrs.offsets in
    let raw = c.in_ok-instrs.instrs.items in
    let k = c.in-Some-put_all.k in
    let clauses : c.as_slice.result.now ≡ layout.clauses = c.as_slice.ensures in
    let regions : map_all (region_of offsets size) layout.clauses ≡ Some c.in-Some.regions =
    sym (rw (c.as_slice-starts.ensures, clauses) at c.in_ok-regions.ensures) ∙ c.in-Some.is in
    let at : position (λ (i : Instr). is_none (with_indexes offsets i)) raw ≡ Some k = rw c.as_slice-starts.ensures at c.in-Some-put_all.ensures.all in
    let first = branch_fault c.args.place offsets size layout.clauses raw c.in-Some.regions k regions at in
    inr (record {
      raw = raw;
      offsets = offsets;
      reads = rw (← c.requires.size) c.in_ok-instrs.ensures.read;
      first = first ∙ ap Some (ap (λ (l : List ℕ). refusal I3 c.args.place (get_or l k 0)) (sym c.as_slice-starts.ensures) ∙ sym c.refusal-in-Some-put_all.ensures);
    })
