-- Keys of members: equal just where the type, the kind, the name and the signature are (own).
use Rattle.std.specs.Prelude.{ℕ, suc, Bool, true, false, List, [], ◌∷◌, ◌++◌}
use Rattle.set_signatures.specs.declared.shape.Shape.{Shape}

abbrev pub number_of_bool : Bool → ℕ
number_of_bool true = 1
number_of_bool false = 0

-- each number as one more, and a 0 behind all
abbrev pub ended_list : List ℕ → List ℕ
ended_list [] = 0 ∷ []
ended_list (n ∷ ns) = suc n ∷ ended_list ns

abbrev pub member_key : ℕ → Shape → List ℕ
member_key owner x = owner ∷ number_of_bool x.is_field ∷ ended_list x.name ++ x.signature
