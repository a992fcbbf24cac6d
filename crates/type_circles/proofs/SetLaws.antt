-- The lists of rows of the assemblies of a set.
use Rattle.std.proofs.Common.{◌≡◌, ◌∙◌, sym, ap, refl, arith, ℕ, zero, suc, ◌<◌, List, [], ◌∷◌, length, get_or}
use Rattle.std.specs.Prelude.{map, slice_get, Option, Some, None}
use Rattle.std.specs.List.{range_with_len}
use Rattle.std.proofs.lemmas.List.{length-map}
use Rattle.cil_base.specs.declared.tables.TheConstants.{TYPE_DEF}
use Rattle.set_rows.specs.Sets.{Assembly, Assemblies, assembly_at, no_assembly, rows_in}
use Rattle.set_types.specs.SignatureTypes.{Coded}
use Rattle.set_program.specs.Environment.{coded_in}
use Rattle.members.specs.declared.assembly_members.AssemblyMembers.{AssemblyMembers}
use Rattle.members.specs.declared.set_type.SetType.{SetType}
use Rattle.member_table.specs.Environments.{AreOf, rows_or, coded_or}
use Rattle.type_circles.proofs.ListLaws.{map_on}
use Rattle.type_circles.specs.RowGraphs.{above_row, around_row, above_in, around_in}

pub there : {A : Type 0} (xs : List A) (a : ℕ) → a < length xs → slice_get xs a ≡ None → ⊥
there [] a h e = absurd (omega (arith, h))
there (x ∷ xs) zero h e = cc
there (x ∷ xs) (suc a) h e = there xs a (omega (arith, h)) e

rows_at : (ms : List AssemblyMembers) (a : ℕ) → rows_or (slice_get ms a) ≡ get_or (map (λ (m : AssemblyMembers). m.rows) ms) a no_assembly
rows_at [] a = refl
rows_at (m ∷ ms) zero = refl
rows_at (m ∷ ms) (suc a) = rows_at ms a

module _ (s : Assemblies) (assemblies : List AssemblyMembers) (types : List SetType) (are : AreOf s assemblies types) where
  pub rows_are : (a : ℕ) → rows_or (slice_get assemblies a) ≡ assembly_at s a
  rows_are a = rows_at assemblies a ∙ ap (λ (l : List Assembly). get_or l a no_assembly) are.rows

  coded_at : (o : Option AssemblyMembers) (a : ℕ) → slice_get assemblies a ≡ o → a < length assemblies → coded_or o ≡ coded_in s a
  coded_at (Some m) a e h = are.coded a m e
  coded_at None a e h = absurd (there assemblies a h e)

  pub count_are : length assemblies ≡ length s
  count_are = sym (length-map assemblies (λ (m : AssemblyMembers). m.rows)) ∙ ap length are.rows

  abbrev pub above_of : ℕ → ℕ → List ℕ
  above_of a = above_row s a (assembly_at s a) (coded_in s a)

  abbrev pub around_of : ℕ → ℕ → List ℕ
  around_of a = around_row s a (assembly_at s a)

  pub above_all : map (above_in s assemblies) (range_with_len 0 (length assemblies)) ≡ map (λ a. map (above_of a) (rows_in (assembly_at s a) TYPE_DEF)) (range_with_len 0 (length s))
  above_all =
      map_on [] (above_in s assemblies) (λ a. map (above_of a) (rows_in (assembly_at s a) TYPE_DEF)) (length assemblies)
      (λ a h.
      ap (λ (x : Assembly). map (above_row s a x (coded_or (slice_get assemblies a))) (rows_in x TYPE_DEF)) (rows_are a)
      ∙ ap (λ (c : Coded). map (above_row s a (assembly_at s a) c) (rows_in (assembly_at s a) TYPE_DEF)) (coded_at (slice_get assemblies a) a refl h))
      ∙ ap (λ (n : ℕ). map (λ a. map (above_of a) (rows_in (assembly_at s a) TYPE_DEF)) (range_with_len 0 n)) count_are

  pub around_all : map (around_in s assemblies) (range_with_len 0 (length assemblies)) ≡ map (λ a. map (around_of a) (rows_in (assembly_at s a) TYPE_DEF)) (range_with_len 0 (length s))
  around_all =
      map_on [] (around_in s assemblies) (λ a. map (around_of a) (rows_in (assembly_at s a) TYPE_DEF)) (length assemblies)
      (λ a h. ap (λ (x : Assembly). map (around_row s a x) (rows_in x TYPE_DEF)) (rows_are a))
      ∙ ap (λ (n : ℕ). map (λ a. map (around_of a) (rows_in (assembly_at s a) TYPE_DEF)) (range_with_len 0 n)) count_are
