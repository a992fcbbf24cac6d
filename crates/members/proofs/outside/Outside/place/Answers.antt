use Rattle.std.proofs.Common.{◌∙◌, ap, List}
use Rattle.set_names.specs.Names.{number_under}
use Rattle.members.specs.declared.outside_member.OutsideMember.{OutsideMember}
use Rattle.members.specs.OutsideMembers.{member_place}
use Rattle.members.proofs.OutsideLaws.{place_found}
use Rattle.members.proofs.outside.Outside.place.Goals as goal

pub returns : goal.returns
returns c =
    c.number.ensures ∙ ap (number_under c.self.inside.keys) (c.as_slice.ensures ∙ c.in_ok-key.ensures)
    ∙ place_found c.self.inside.keys c.self.inside.members.items c.args.member.now c.self.invariant
    ∙ ap (λ (ms : List OutsideMember). member_place ms c.args.member.now) c.self.view_is
