-- Segments and calls in the order of their places: those before a place, and those from it on (this project's own).
use Rattle.std.specs.Prelude.{ℕ, Bool, nat_lt, nat_le, List, take, drop}
use Rattle.std.specs.List.{prefix_len}
use Rattle.contract_parts.specs.declared.segment.Segment.{Segment}
use Rattle.contract_extract.specs.declared.numbers.Counted.{Counted}

-- a segment ends before a place
abbrev pub ends_before : ℕ → Segment → Bool
ends_before q s = nat_lt s.at q

-- a call stands before a place, or up to it
abbrev pub stands_before : ℕ → Counted → Bool
stands_before q x = nat_lt x.segment.at q

abbrev pub stands_by : ℕ → Counted → Bool
stands_by q x = nat_le x.segment.at q

abbrev pub calls_from : ℕ → List Counted → List Counted
calls_from q xs = drop (prefix_len (stands_before q) xs) xs

abbrev pub calls_up_to : ℕ → List Counted → List Counted
calls_up_to q xs = take (prefix_len (stands_by q) xs) xs

-- from the beginning of a segment on up to its end
abbrev pub calls_in : Segment → List Counted → List Counted
calls_in s xs = calls_up_to s.at (calls_from s.from xs)
