use Rattle.std.proofs.Common.{◌∙◌, ap, ◌-◌, ℕ, List, get_or}
use Rattle.members.specs.MemberRows.{member_table}
use Rattle.member_numbers.proofs.NumberingLaws.{start_is}
use Rattle.member_numbers.proofs.kept.Kept.before.Goals as goal

pub returns : goal.returns
returns c =
    c.start_at.ensures ∙ ap (λ (l : List ℕ). get_or l (c.args.a - 1) 0) c.as_slice.ensures.value
    ∙ start_is c.args.set.now (member_table c.args.is_field) c.args.self.now.starts.items c.args.a c.requires.are.starts_are c.requires.low c.requires.high
