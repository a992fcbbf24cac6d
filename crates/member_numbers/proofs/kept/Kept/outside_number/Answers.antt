use Rattle.std.proofs.Common.{◌≡◌, ◌∙◌, sym, ap, arith, ◌+◌, ◌≤◌, ℕ, length}
use Rattle.std.specs.Prelude.{option_map}
use Rattle.members.specs.MemberRows.{member_table}
use Rattle.member_numbers.specs.Kept.{rows_before}
use Rattle.member_numbers.proofs.KeptLaws.{outside_fits, outside_is}
use Rattle.member_numbers.proofs.kept.Kept.outside_number.Goals as goal

pub returns-in-Some : goal.returns-in-Some
returns-in-Some c =
    ap (option_map (λ k. (c.before-before.result + c.args.self.now.old) + k)) (sym c.in-Some.is ∙ c.in_ok-place.ensures)
    ∙ outside_is c.args.set.now c.args.is_field c.args.self.now.starts.items c.args.self.now.old c.args.self.now.all c.args.self.now.outside c.args.self.now.rows.items c.requires c.args.member.now c.before-before.result c.before-before.ensures

pub returns-in-None : goal.returns-in-None
returns-in-None c =
    let n : ℕ = rows_before c.args.set.now (member_table c.args.is_field) (length c.args.set.now) in
    ap (option_map (λ k. (n + c.args.self.now.old) + k)) (sym c.in-None.is ∙ c.in_ok-place.ensures)
    ∙ outside_is c.args.set.now c.args.is_field c.args.self.now.starts.items c.args.self.now.old c.args.self.now.all c.args.self.now.outside c.args.self.now.rows.items c.requires c.args.member.now n Rattle.std.proofs.Common.refl

pub overflow_add-result-in-Some : goal.overflow_add-result-in-Some
overflow_add-result-in-Some c =
    let fit : c.before-before.result + c.args.self.now.old + c.in-Some.k ≤ c.args.self.now.all =
    outside_fits c.args.set.now c.args.is_field c.args.self.now.starts.items c.args.self.now.old c.args.self.now.all c.args.self.now.outside c.args.self.now.rows.items c.requires c.args.member.now c.before-before.result c.in-Some.k c.before-before.ensures (sym c.in_ok-place.ensures ∙ c.in-Some.is) in
    omega (arith, fit, c.requires.fits)
