-- Outside members that are noted row by row, and assembly by assembly.
use Rattle.std.proofs.Common.{◌≡◌, ◌∙◌, sym, ap, arith, refl, ℕ, zero, suc, ◌+◌, ◌-◌, List, [], ◌∷◌, ◌++◌, map, length, Bool}
use Rattle.std.specs.Prelude.{flat_map, slice_get, Option, Some, None}
use Rattle.std.specs.List.{range_with_len}
use Rattle.set_rows.specs.Sets.{Assemblies, no_assembly, count_in}
use Rattle.set_program.specs.Numbering.{Cell, walk}
use Rattle.members.specs.declared.assembly_members.AssemblyMembers.{AssemblyMembers}
use Rattle.members.specs.declared.outside_member.OutsideMember.{OutsideMember}
use Rattle.members.specs.declared.set_type.SetType.{SetType}
use Rattle.member_table.specs.Environments.{Environment, environment, environment_in, rows_or, AreOf}
use Rattle.member_table.specs.Numbers.{added_if, all_noted, outside_in, references_in, reference_rows, outside_members}
use Rattle.member_table.proofs.EnvironmentLaws.{environment_same, many}

all_append : (at : Cell → Option OutsideMember) (found : List OutsideMember) (xs ys : List Cell) → all_noted at found (xs ++ ys) ≡ all_noted at (all_noted at found xs) ys
all_append at found [] ys = refl
all_append at found (c ∷ xs) ys = all_append at (added_if found (at c)) xs ys

pub noted_step : (at : Cell → Option OutsideMember) (a k n : ℕ) (old new whole : List OutsideMember) → new ≡ added_if old (at (a, k + 1)) → all_noted at old (map (λ row. (a, row)) (range_with_len (k + 1) (suc n))) ≡ whole
    → all_noted at new (map (λ row. (a, row)) (range_with_len (k + 1 + 1) n)) ≡ whole
noted_step at a k n old new whole e h = ap (λ (o : List OutsideMember). all_noted at o (map (λ row. (a, row)) (range_with_len (k + 1 + 1) n))) e ∙ h

module _ (at : Cell → Option OutsideMember) (f : ℕ → List Cell) where
  pub others_step : (k n : ℕ) (old new whole : List OutsideMember) → new ≡ all_noted at old (f (k + 1)) → all_noted at old (flat_map f (range_with_len (k + 1) (suc n))) ≡ whole
      → all_noted at new (flat_map f (range_with_len (k + 1 + 1) n)) ≡ whole
  others_step k n old new whole e h =
      ap (λ (o : List OutsideMember). all_noted at o (flat_map f (range_with_len (k + 1 + 1) n))) e
      ∙ sym (all_append at old (f (k + 1)) (flat_map f (range_with_len (k + 1 + 1) n))) ∙ h

  noted_last : (found : List OutsideMember) (xs : List ℕ) (y : ℕ) → all_noted at found (flat_map f (xs ++ y ∷ [])) ≡ all_noted at (all_noted at found (flat_map f xs)) (f y)
  noted_last found [] y = all_append at found (f y) []
  noted_last found (x ∷ xs) y =
      all_append at found (f x) (flat_map f (xs ++ y ∷ []))
      ∙ noted_last (all_noted at found (f x)) xs y
      ∙ ap (λ (o : List OutsideMember). all_noted at o (f y)) (sym (all_append at found (f x) (flat_map f xs)))

  walk_is : (n : ℕ) → (n ≡ 0 → ⊥) → walk (range_with_len 0 n) ≡ range_with_len 1 (n - 1) ++ 0 ∷ []
  walk_is zero h = absurd (h refl)
  walk_is (suc n) h = let e : suc n - 1 ≡ n = omega arith in ap (λ (m : ℕ). range_with_len 1 m ++ 0 ∷ []) (sym e)

  -- the first assembly last
  pub walked : (n : ℕ) (found : List OutsideMember) → (n ≡ 0 → ⊥) → found ≡ all_noted at [] (flat_map f (range_with_len 1 (n - 1))) → all_noted at found (f 0) ≡ all_noted at [] (flat_map f (walk (range_with_len 0 n)))
  walked n found h e =
      ap (λ (o : List OutsideMember). all_noted at o (f 0)) e
      ∙ sym (noted_last [] (range_with_len 1 (n - 1)) 0)
      ∙ ap (λ (l : List ℕ). all_noted at [] (flat_map f l)) (sym (walk_is n h))

pub none_counted : (l : List AssemblyMembers) (a table : ℕ) → slice_get l a ≡ None → 0 ≡ count_in (rows_or (slice_get l a)) table
unfolding no_assembly
none_counted l a table e = sym (ap (λ (o : Option AssemblyMembers). count_in (rows_or o) table) e)

-- in an environment of so many assemblies
abbrev pub walked_in : Bool → Environment → ℕ → List OutsideMember
walked_in is_field e n = all_noted (outside_in e is_field) [] (flat_map (references_in e) (walk (range_with_len 0 n)))

pub outside_same : (s : Assemblies) (assemblies : List AssemblyMembers) (types : List SetType) (is_field : Bool) → AreOf s assemblies types → walked_in is_field (environment_in assemblies types) (length assemblies) ≡ outside_members s is_field
unfolding outside_members reference_rows
outside_same s assemblies types is_field h =
    ap (λ (e : Environment). walked_in is_field e (length assemblies)) (environment_same s assemblies types h)
    ∙ ap (walked_in is_field (environment s)) (many s assemblies types h)
