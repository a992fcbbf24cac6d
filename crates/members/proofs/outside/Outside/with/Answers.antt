use Rattle.std.proofs.Common.{◌≡◌, ◌∙◌, sym, ap, arith, length, ℕ, List, [], ◌∷◌, ◌++◌, Bool}
use Rattle.std.specs.Prelude.{is_some, bytes_eq, if◌then◌else◌}
use Rattle.std.specs.List.{position_from}
use Rattle.set_names.specs.Names.{Noted, number_under, noted}
use Rattle.members.specs.declared.outside_member.OutsideMember.{OutsideMember}
use Rattle.members.specs.OutsideMembers.{member_place, outside_key}
use Rattle.members.proofs.OutsideLaws.{place_found, keyed_more}
use Rattle.members.proofs.outside.Outside.with.Goals as goal

pub returns-then-is_some : goal.returns-then-is_some
returns-then-is_some c =
    let place : c.number.result ≡ member_place c.args.self c.args.member =
    c.number.ensures ∙ ap (number_under c.self.inside.keys) (c.as_slice.ensures ∙ c.in_ok-key.ensures)
    ∙ place_found c.self.inside.keys c.self.inside.members.items c.args.member c.self.invariant
    ∙ ap (λ (ms : List OutsideMember). member_place ms c.args.member) c.self.view_is in
    sym (ap (λ (b : Bool). if b then c.args.self else c.args.self ++ c.args.member ∷ []) (ap is_some (sym place) ∙ sym c.is_some.ensures ∙ c.if-is_some.true))

pub invariant_of-result : goal.invariant_of-result
invariant_of-result c = λ key.
    let es : Noted = c.self.inside.keys in
    let ms : List OutsideMember = c.self.inside.members.items in
    let m : OutsideMember = c.args.member in
    let n : c.len.result ≡ length ms = omega (arith, c.len.ensures, c.self.inside.members.ok.0) in
    ap (λ (e : Noted). number_under e key)
    (c.in_ok-note.ensures.ok ∙ ap (λ (l : List ℕ). noted es l c.len.result) (c.as_slice-2.ensures ∙ c.in_ok-key.ensures) ∙ ap (noted es (outside_key m)) n)
    ∙ keyed_more es ms m c.self.invariant key
    ∙ ap (λ (l : List OutsideMember). position_from (λ n. bytes_eq key (outside_key n)) 0 l) (sym c.in_ok-push.ensures.items)

pub returns : goal.returns
returns c =
    let place : c.number.result ≡ member_place c.args.self c.args.member =
    c.number.ensures ∙ ap (number_under c.self.inside.keys) (c.as_slice.ensures ∙ c.in_ok-key.ensures)
    ∙ place_found c.self.inside.keys c.self.inside.members.items c.args.member c.self.invariant
    ∙ ap (λ (ms : List OutsideMember). member_place ms c.args.member) c.self.view_is in
    c.in_ok-push.ensures.items
    ∙ ap (λ (ms : List OutsideMember). ms ++ c.args.member ∷ []) c.self.view_is
    ∙ sym (ap (λ (b : Bool). if b then c.args.self else c.args.self ++ c.args.member ∷ []) (ap is_some (sym place) ∙ sym c.is_some.ensures ∙ c.if-is_some.false))
