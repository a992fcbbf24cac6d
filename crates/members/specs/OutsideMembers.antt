-- Members that are in no assembly of the set, each once (ECMA-335, II.22.25).
use Rattle.std.specs.Prelude.{◌≡◌, ℕ, ◌&&◌, bytes_eq, is_some, Bool, if◌then◌else◌, List, [], ◌∷◌, ◌++◌, Option}
use Rattle.std.specs.List.{position_from}
use Rattle.set_signatures.specs.Shapes.{is_same}
use Rattle.set_names.specs.Names.{Noted, number_under}
use Rattle.members.specs.Keys.{ended_list, member_key}
use Rattle.members.specs.declared.outside_member.OutsideMember.{OutsideMember}

abbrev pub same_member : OutsideMember → OutsideMember → Bool
same_member m n = bytes_eq m.owner n.owner && is_same m.shape n.shape

abbrev pub member_place : List OutsideMember → OutsideMember → Option ℕ
member_place ms m = position_from (same_member m) 0 ms

-- an earlier one stays
abbrev pub added_member : List OutsideMember → OutsideMember → List OutsideMember
added_member ms m = if is_some (member_place ms m) then ms else ms ++ m ∷ []

abbrev pub outside_key : OutsideMember → List ℕ
outside_key m = ended_list m.owner ++ member_key 0 m.shape

-- each key has the first place of its member
abbrev pub AreKeyed : Noted → List OutsideMember → Type 0
AreKeyed es ms = (key : List ℕ) → number_under es key ≡ position_from (λ m. bytes_eq key (outside_key m)) 0 ms
