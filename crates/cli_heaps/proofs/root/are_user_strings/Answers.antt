use Rattle.std.proofs.Common.{◌≡◌, ◌∙◌, sym, ap, refl, ◌+◌, arith, length, Some, Bool, true, false, leb, ◌&&◌}
use Rattle.std.proofs.lemmas.Bool.{lt-leb}
use Rattle.cil_base.specs.Packed.{packed_at}
use Rattle.cli_heaps.specs.RootRules.{is_user_string_length}
use Rattle.cli_heaps.proofs.UserStringLaws.{user_strings_refused, user_strings_go_on, user_strings_cut}
use Rattle.cli_heaps.proofs.root.are_user_strings.Goals as goal
use Rattle.cli_heaps.proofs.root.are_user_strings.Goals.{then-not-is_user_string_length-via-then-not-is_user_string_length, then-not-is_user_string_length-via-else-not-is_user_string_length+then-next-bytes}

pub returns-in-None : goal.returns-in-None
returns-in-None c = sym (sym c.loop-at.invariant.rest ∙ user_strings_cut c.args.bytes.now c.loop-at.at (omega arith) (sym c.in-None.ensures))

no_second : (a b : Bool) → b ≡ false → (a && b) ≡ false
no_second true b e = e
no_second false b e = refl

no_first : (a b : Bool) → a ≡ false → (a && b) ≡ false
no_first a b e = ap (λ (x : Bool). x && b) e

pub returns-then-not-is_user_string_length : goal.returns-then-not-is_user_string_length
returns-then-not-is_user_string_length c =
    let e : packed_at c.args.bytes.now c.loop-at.at ≡ Some (c.in-Some.n, c.in-Some.width) = sym c.in-Some.ensures in
    let end = c.loop-at.at + c.in-Some.n + c.in-Some.width in
    sym (sym c.loop-at.invariant.rest ∙ user_strings_refused c.args.bytes.now c.loop-at.at c.in-Some.n c.in-Some.width (omega arith) e (elim c.then-not-is_user_string_length.branch [
      | then-not-is_user_string_length-via-then-not-is_user_string_length w ↦ no_first (is_user_string_length c.in-Some.n) (leb end (length c.args.bytes.now)) (sym c.is_user_string_length.ensures ∙ w.if-not-is_user_string_length.true)
      | then-not-is_user_string_length-via-else-not-is_user_string_length+then-next-bytes w ↦ no_second (is_user_string_length c.in-Some.n) (leb end (length c.args.bytes.now)) (lt-leb end (length c.args.bytes.now) w.if-next-bytes.true)
    ]))

pub loop-at-preserved : goal.loop-at-preserved
loop-at-preserved c = record {
  within = c.if-next-bytes.false;
  rest = user_strings_go_on c.args.bytes.now c.loop-at.at c.in-Some.n c.in-Some.width (omega arith) (sym c.in-Some.ensures) (sym c.is_user_string_length.ensures ∙ c.if-not-is_user_string_length.false) c.if-next-bytes.false ∙ c.loop-at.invariant.rest;
}
