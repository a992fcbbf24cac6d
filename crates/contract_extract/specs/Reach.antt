-- Ranges of places, told by how far those reach that begin at a place or before it: what branches cross, and the parts of regions (Code Contracts User Manual, section 2; ECMA-335, II.25.4.6 and III.1.7).
use Rattle.std.specs.Prelude.{ℕ, ◌+◌, ◌≡◌, ◌<◌, max, Bool, nat_le, nat_lt, List, [], ◌∷◌, length, map, take, if◌then◌else◌}
use Rattle.std.specs.List.{flat_map, enumerate_from, range_with_len}
use Rattle.cil_model.specs.declared.body.Body.{Body}
use Rattle.cil_model.specs.declared.body.Instr.{Instr}
use Rattle.cil_model.specs.declared.body.Region.{Region}
use Rattle.il_flow.specs.Boundaries.{Places}
use Rattle.il_flow.specs.Reach.{max_of}
use Rattle.il_flow.specs.Successors.{targets}

-- the calls that a branch crosses: those between it and its target, and the target's own where it leads back
abbrev pub crossed_over : ℕ → ℕ → Places
crossed_over k t = if nat_lt k t then (k + 1, t) else (t, k)

abbrev pub crossed_ranges : ℕ × Instr → List Places
crossed_ranges x = map (crossed_over x.0) (targets x.1.operand)

abbrev pub all_crossed : List Instr → List Places
all_crossed is = flat_map crossed_ranges (enumerate_from 0 is)

abbrev pub region_parts : Region → List Places
region_parts r = (r.try_from, r.try_to) ∷ (r.handler_from, r.handler_to) ∷ []

abbrev pub all_parts : List Region → List Places
all_parts rs = flat_map region_parts rs

-- where the last of the ranges ends that begin at a place or before it
abbrev pub farthest : List Places → ℕ → ℕ
farthest [] q = 0
farthest (r ∷ rs) q = max (if nat_le r.0 q then r.1 else 0) (farthest rs q)

-- the same of each place
abbrev pub all_farthest : ℕ → List Places → List ℕ
all_farthest n rs = map (farthest rs) (range_with_len 0 n)

-- how far they reach, where the last end of those is told that begin at each place
abbrev pub reach_at : List ℕ → ℕ → ℕ
reach_at ends q = max_of (take (q + 1) ends)

abbrev pub ends_up_to : List ℕ → ℕ → List ℕ
ends_up_to ends n = map (reach_at ends) (range_with_len 0 n)

-- Besides the old ends, by the places where ranges begin, the new ones tell of these ranges.
pub record TellsMore (old new : List ℕ) (more : List Places) : Type 0 where
  pub size : length new ≡ length old
  pub each : (q : ℕ) → q < length old → reach_at new q ≡ max (reach_at old q) (farthest more q)
