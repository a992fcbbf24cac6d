use Rattle.std.proofs.Common.{◌≡◌, ◌∙◌, sym, subst, arith, ℕ, ◌++◌, map}
use Rattle.std.specs.List.{range_with_len}
use Rattle.std.proofs.lemmas.List.{append-nil}
use Rattle.member_table.specs.Environments.{environment_in}
use Rattle.member_table.specs.Numbers.{outside_in}
use Rattle.member_numbers.specs.Noted.{AreNoted}
use Rattle.member_numbers.proofs.NotedLaws.{row_noted}
use Rattle.member_numbers.proofs.noting.note_assembly.Goals as goal

pub loop-k-init : goal.loop-k-init
loop-k-init c = λ cells h. subst (λ l. AreNoted (outside_in (environment_in c.args.assemblies.now c.args.types.now) c.args.is_field) l c.args.start.outside c.args.start.rows.items) (sym (append-nil cells)) h

pub loop-k-preserved : goal.loop-k-preserved
loop-k-preserved c = λ cells h.
    row_noted (outside_in (environment_in c.args.assemblies.now c.args.types.now) c.args.is_field) c.args.a c.loop-k.k cells c.in_ok-noted.noted.outside c.in_ok-noted.noted.rows.items
    (c.in_ok-noted.ensures (cells ++ map (λ (row : ℕ). (c.args.a, row)) (range_with_len 1 c.loop-k.k)) (c.loop-k.invariant cells h))

pub returns : goal.returns
returns c = λ cells h.
    let all : c.loop-k.k ≡ c.reference_count-count.result = omega (arith, c.loop-k-test.false, c.loop-k.auto.k-end) in
    subst (λ n. AreNoted (outside_in (environment_in c.args.assemblies.now c.args.types.now) c.args.is_field) (cells ++ map (λ (row : ℕ). (c.args.a, row)) (range_with_len 1 n)) c.loop-k.noted.outside c.loop-k.noted.rows.items)
    (all ∙ c.reference_count-count.ensures) (c.loop-k.invariant cells h)
