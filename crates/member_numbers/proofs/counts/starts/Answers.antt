use Rattle.std.proofs.Common.{◌≡◌, ◌∙◌, sym, ap, arith, ◌+◌, ◌-◌, ◌≤◌, ℕ, length}
use Rattle.std.specs.Prelude.{map}
use Rattle.std.specs.List.{range_with_len}
use Rattle.std.proofs.lemmas.List.{get_or_default}
use Rattle.set_rows.specs.Sets.{Assembly, Assemblies, no_assembly, assembly_at, count_in}
use Rattle.member_numbers.specs.Kept.{rows_before}
use Rattle.type_table.proofs.RowLaws.{row_more}
use Rattle.member_numbers.proofs.NumberingLaws.{before_first, before_next}
use Rattle.member_numbers.proofs.counts.starts.Goals as goal

pub loop-a-init : goal.loop-a-init
loop-a-init c = (omega arith, c.new-starts.ensures.items, sym (before_first c.args.set.now c.args.table))

pub loop-a-preserved : goal.loop-a-preserved
loop-a-preserved c =
    let s : Assemblies = c.args.set.now in
    let a : ℕ = c.loop-a.a in
    let low : 1 ≤ a = c.loop-a.invariant.0 in
    let here : (a - 1) + 1 ≡ a = omega (arith, low) in
    let next : a ≡ a + 1 - 1 = omega arith in
    let there : assembly_at s a ≡ c.index-set-a.result = get_or_default s a no_assembly c.index-set-a.result c.loop-a-test.true ∙ sym c.index-set-a.is in (
      omega (arith, low),
      row_more (rows_before s c.args.table) (a - 1) c.loop-a.starts.items c.push.new.self.items c.loop-a.total c.in_ok-push.ensures.items (c.loop-a.invariant.2 ∙ ap (rows_before s c.args.table) (sym here)) c.loop-a.invariant.1
          ∙ ap (λ (n : ℕ). map (rows_before s c.args.table) (range_with_len 1 n)) (here ∙ next),
      c.in_ok-total.ensures.is ∙ ap (λ (n : ℕ). n + c.count.result) c.loop-a.invariant.2
          ∙ ap (λ (n : ℕ). rows_before s c.args.table a + n) (c.count.ensures ∙ ap (λ (x : Assembly). count_in x c.args.table) (sym there))
          ∙ sym (before_next s c.args.table a low),
    )

pub returns : goal.returns
returns c =
    let s : Assemblies = c.args.set.now in
    let a : ℕ = c.loop-a.a in
    let low : 1 ≤ a = c.loop-a.invariant.0 in
    let here : (a - 1) + 1 ≡ a = omega (arith, low) in
    let all : a ≡ length s = omega (arith, c.loop-a-test.false, c.loop-a.auto.a-end c.requires) in
    row_more (rows_before s c.args.table) (a - 1) c.loop-a.starts.items c.push-2.new.self.items c.loop-a.total c.in_ok-push-2.ensures.items (c.loop-a.invariant.2 ∙ ap (rows_before s c.args.table) (sym here)) c.loop-a.invariant.1
    ∙ ap (λ (n : ℕ). map (rows_before s c.args.table) (range_with_len 1 n)) (here ∙ all)
