-- Outside members by key.
use Rattle.std.proofs.Common.{◌≡◌, ◌∙◌, sym, ap, refl, arith, ℕ, suc, ◌+◌, List, [], ◌∷◌, ◌++◌, length, Bool, true, false}
use Rattle.std.specs.Prelude.{cond, ◌&&◌, bytes_eq, Option, Some, None, if◌then◌else◌}
use Rattle.std.specs.List.{position_from}
use Rattle.std.specs.Option.{option_or}
use Rattle.set_names.specs.Names.{Noted, number_under, noted}
use Rattle.members.proofs.ListLaws.{fun_same}
use Rattle.members.specs.declared.outside_member.OutsideMember.{OutsideMember}
use Rattle.members.specs.Keys.{member_key}
use Rattle.members.specs.OutsideMembers.{same_member, member_place, outside_key, AreKeyed}
use Rattle.members.proofs.KeyLaws.{key_same, ended_same}
use Rattle.members.proofs.NotedLaws.{number_noted}

same_outside : (m n : OutsideMember) → bytes_eq (outside_key m) (outside_key n) ≡ same_member m n
same_outside m n = ended_same m.owner n.owner (member_key 0 m.shape) (member_key 0 n.shape) ∙ ap (λ (b : Bool). bytes_eq m.owner n.owner && b) (key_same 0 0 m.shape n.shape)

pub place_found : (es : Noted) (ms : List OutsideMember) (m : OutsideMember) → AreKeyed es ms → number_under es (outside_key m) ≡ member_place ms m
place_found es ms m h =
    h (outside_key m) ∙ ap (λ (test : OutsideMember → Bool). position_from test 0 ms) (fun_same (λ n. bytes_eq (outside_key m) (outside_key n)) (same_member m) (same_outside m))

position_more : (test : OutsideMember → Bool) (i : ℕ) (ms : List OutsideMember) (m : OutsideMember) → position_from test i (ms ++ m ∷ []) ≡ option_or (position_from test i ms) (if test m then Some (i + length ms) else None)
position_more test i [] m = let e : i ≡ i + 0 = omega arith in ap (λ (k : ℕ). if test m then Some k else None) e
position_more test i (n ∷ ms) m = go (test n) (position_more test (i + 1) ms m ∙ ap (λ (k : ℕ). option_or (position_from test (i + 1) ms) (if test m then Some k else None)) shift)
  where
    shift : (i + 1) + length ms ≡ i + suc (length ms)
    shift = omega arith

    go : (b : Bool) → position_from test (i + 1) (ms ++ m ∷ []) ≡ option_or (position_from test (i + 1) ms) (if test m then Some (i + suc (length ms)) else None)
        → cond b (Some i) (position_from test (i + 1) (ms ++ m ∷ [])) ≡ option_or (cond b (Some i) (position_from test (i + 1) ms)) (if test m then Some (i + suc (length ms)) else None)
    go true h = refl
    go false h = h

pub keyed_more : (es : Noted) (ms : List OutsideMember) (m : OutsideMember) → AreKeyed es ms → AreKeyed (noted es (outside_key m) (length ms)) (ms ++ m ∷ [])
keyed_more es ms m h = λ key.
    number_noted es (outside_key m) key (length ms)
    ∙ ap (λ (o : Option ℕ). option_or o (if bytes_eq key (outside_key m) then Some (length ms) else None)) (h key)
    ∙ sym (position_more (λ n. bytes_eq key (outside_key n)) 0 ms m ∙ ap (λ (k : ℕ). option_or (position_from (λ n. bytes_eq key (outside_key n)) 0 ms) (if bytes_eq key (outside_key m) then Some k else None)) zero_plus)
  where
    zero_plus : 0 + length ms ≡ length ms
    zero_plus = omega arith
