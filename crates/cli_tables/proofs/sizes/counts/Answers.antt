use Rattle.std.proofs.Common.{◌≡◌, ℕ, ◌/◌, ◌%◌, ◌^◌, ◌<◌, ◌≢◌, length, refl, ap, ◌∙◌, sym, arith, Bool, cond, below_more, get_or-set_other, get_or-set_same}
use Rattle.std.specs.Prelude.{eqb}
use Rattle.std.proofs.lemmas.List.{length-set}
use Rattle.std.proofs.lemmas.Bool.{eq-eqb, ne_eqb}
use Rattle.cil_base.specs.Numbers.{num}
use Rattle.cli_tables.specs.Stream.{tables_below, has_table, row_count}
use Rattle.cli_tables.proofs.StreamLaws.{count_fits, counts_all, tables_below_small, place_yes, place_no}
use Rattle.cli_tables.proofs.sizes.counts.Goals as goal
use Rattle.cli_tables.proofs.sizes.counts.Goals.{then-is_there, else-is_there}

pub loop-table-init : goal.loop-table-init
unfolding tables_below
loop-table-init c = record {
  place = refl;
  filled = λ k h. absurd (omega arith);
  many = refl;
}

pub number_if-requires : goal.number_if-requires
number_if-requires c h =
    count_fits c.args.stream.now c.loop-table.table c.loop-table.at (omega arith) c.loop-table.invariant.place c.requires
    (ap (λ (v : ℕ). eqb (v / 2 ^ c.loop-table.table % 2) 1) (sym c.valid_of-valid.ensures) ∙ h)

pub overflow_add-at : goal.overflow_add-at
overflow_add-at c = omega (arith, tables_below_small c.args.stream.now c.loop-table.table, c.loop-table.invariant.place)

pub loop-table-preserved : goal.loop-table-preserved
loop-table-preserved c =
    let t = c.loop-table.table in
    let same : has_table c.args.stream.now t ≡ eqb (c.valid_of-valid.result / 2 ^ t % 2) 1 = ap (λ (v : ℕ). eqb (v / 2 ^ t % 2) 1) (sym c.valid_of-valid.ensures) in
    let lt : t < length c.loop-table.counts = omega arith in
    let number : c.number_if.result ≡ row_count c.args.stream.now t = c.number_if.ensures ∙ ap (λ (b : Bool). cond b (num c.args.stream.now c.loop-table.at 4) 0) (sym same) ∙ ap (λ (k : ℕ). cond (has_table c.args.stream.now t) (num c.args.stream.now k 4) 0) c.loop-table.invariant.place in
    record {
      place = elim c.if-is_there.branch [
        | then-is_there w ↦ place_yes c.args.stream.now t c.loop-table.at c.if-is_there.at c.loop-table.invariant.place (same ∙ eq-eqb _ 1 w.if-is_there.true) w.at-is
        | else-is_there w ↦ place_no c.args.stream.now t c.loop-table.at c.if-is_there.at c.loop-table.invariant.place (same ∙ ne_eqb _ 1 w.if-is_there.false) w.at-is
      ];
      filled = below_more _ _
          (λ k h. let ne : k ≢ t = omega arith in rw get_or-set_other (c.loop-table.invariant.filled k h))
          (rw get_or-set_same number);
      many = length-set c.loop-table.counts t c.number_if.result ∙ c.loop-table.invariant.many;
    }

pub returns : goal.returns
returns c =
    let e : c.loop-table.table ≡ 64 = omega arith in
    counts_all c.args.stream.now c.loop-table.counts c.loop-table.invariant.many (λ k h. c.loop-table.invariant.filled k (omega arith))
