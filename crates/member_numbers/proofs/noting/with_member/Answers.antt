use Rattle.member_numbers.proofs.noting.with_member.Goals.{then-before-len+in_ok-push, else-before-len}
use Rattle.std.proofs.Common.{◌≡◌, ◌∙◌, ap, arith, length, [], ◌∷◌, ◌++◌}
use Rattle.std.specs.Prelude.{is_some}
use Rattle.set_program.specs.Numbering.{Cell}
use Rattle.members.specs.OutsideMembers.{member_place}
use Rattle.member_numbers.specs.Noted.{added_row}
use Rattle.member_numbers.proofs.NotedLaws.{row_pushed, row_kept}
use Rattle.member_numbers.proofs.noting.with_member.Goals as goal

pub returns-clause-rows : goal.returns-clause-rows
returns-clause-rows c =
    elim c.if-before-len.branch [
      | then-before-len+in_ok-push w ↦
          let place : Cell = (c.args.a, c.args.row) in
          let e : c.args.noted.rows.items ++ place ∷ [] ≡ added_row c.args.noted.outside c.args.member c.args.noted.rows.items place =
          row_pushed c.args.member c.args.noted.outside c.args.noted.rows.items place c.len-before.result c.len.result c.len-before.ensures (is_some (member_place c.args.noted.outside c.args.member)) (c.len.ensures ∙ ap length c.in_ok-outside.ensures) w.if-before-len.true in
          cc (w.rows-is, w.in_ok-push.ensures.items)
      | else-before-len w ↦
          let place : Cell = (c.args.a, c.args.row) in
          let e : c.args.noted.rows.items ≡ added_row c.args.noted.outside c.args.member c.args.noted.rows.items place =
          row_kept c.args.member c.args.noted.outside c.args.noted.rows.items place c.len-before.result c.len.result c.len-before.ensures (is_some (member_place c.args.noted.outside c.args.member)) (c.len.ensures ∙ ap length c.in_ok-outside.ensures) (λ h. absurd (omega (arith, w.if-before-len.false, h))) in
          cc (w.rows-is)
    ]
