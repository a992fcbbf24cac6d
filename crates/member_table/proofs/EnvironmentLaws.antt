-- Assemblies and types as data, and the environment of the set that they are of.
use Rattle.std.proofs.Common.{◌≡◌, ◌∙◌, sym, ap, refl, arith, rules, ℕ, zero, suc, ◌<◌, ◌≤◌, List, [], ◌∷◌, map, length, get_or, Bool, true, false}
use Rattle.std.specs.Prelude.{◌==◌, ◌&&◌, cond, nat_lt, nat_le, is_some, Option, Some, None, slice_get, option_map, option_and_then, if◌then◌else◌}
use Rattle.cil_base.specs.declared.tables.TheConstants.{TYPE_DEF, TYPE_REF, TYPE_SPEC}
use Rattle.set_rows.specs.Sets.{Assembly, Assemblies, assembly_at, no_assembly, is_row, blob}
use Rattle.set_types.specs.CodedTypes.{coded_of}
use Rattle.set_types.specs.CodedIndexes.{tag, row_of}
use Rattle.set_types.specs.SignatureTypes.{Coded}
use Rattle.set_signatures.specs.Blobs.{spec_sig}
use Rattle.set_program.specs.declared.identity.TypeId.{TypeId}
use Rattle.set_program.specs.declared.identity.TypeId.TheVariants.{Row}
use Rattle.set_program.specs.References.{reference}
use Rattle.set_program.specs.Attributes.{named_id}
use Rattle.set_program.specs.Environment.{number_of, ty_by_id, coded_in}
use Rattle.members.specs.declared.assembly_members.AssemblyMembers.{AssemblyMembers}
use Rattle.members.specs.declared.set_type.SetType.{SetType}
use Rattle.member_table.specs.Environments.{Environment, no_coded, rows_or, coded_or, environment, environment_in, AreOf}

-- ---- past the last assembly

between : (row : ℕ) → (nat_lt 0 row && nat_le row 0) ≡ false
between row = by_first (nat_lt 0 row) (nat_le row 0) (λ e f. let low : 0 < row = search (rules, e) in let high : row ≤ 0 = search (rules, f) in omega (arith, low, high))
  where
    by_first : (a b : Bool) → (a ≡ true → b ≡ true → ⊥) → (a && b) ≡ false
    by_first false b h = refl
    by_first true false h = refl
    by_first true true h = absurd (h refl refl)

no_row : (table row : ℕ) → is_row no_assembly table row ≡ false
unfolding no_assembly
no_row table row = between row

neither : {A : Type 0} (b : Bool) (x y : Option A) → x ≡ None → y ≡ None → (if b then x else y) ≡ None
neither true x y h g = h
neither false x y h g = g

not_there : {A : Type 0} (b : Bool) (x : Option A) → b ≡ false → (if b then x else None) ≡ None
not_there true x h = absurd cc
not_there false x h = refl

-- what a TypeDefOrRef index names in these rows
abbrev named_in : Assemblies → ℕ → ℕ → Assembly → Option TypeId
named_in s a coded x =
    if tag coded == 0 then (if is_row x TYPE_DEF (row_of coded) then Some (Row a (row_of coded)) else None)
    else if tag coded == 1 then (if is_row x TYPE_REF (row_of coded) then reference s a (row_of coded) else None)
    else None

nothing_named : (s : Assemblies) (a coded : ℕ) → assembly_at s a ≡ no_assembly → named_id s a coded ≡ None
nothing_named s a coded e =
    ap (named_in s a coded) e
    ∙ neither (tag coded == 0) (if is_row no_assembly TYPE_DEF (row_of coded) then Some (Row a (row_of coded)) else None) (if tag coded == 1 then (if is_row no_assembly TYPE_REF (row_of coded) then reference s a (row_of coded) else None) else None)
    (not_there (is_row no_assembly TYPE_DEF (row_of coded)) (Some (Row a (row_of coded))) (no_row TYPE_DEF (row_of coded)))
    (neither (tag coded == 1) (if is_row no_assembly TYPE_REF (row_of coded) then reference s a (row_of coded) else None) None (not_there (is_row no_assembly TYPE_REF (row_of coded)) (reference s a (row_of coded)) (no_row TYPE_REF (row_of coded))) refl)

nothing_coded : (s : Assemblies) (a : ℕ) → assembly_at s a ≡ no_assembly → no_coded ≡ coded_in s a
nothing_coded s a e = λ i. record {
  named = λ coded. sym (ap (option_map (ty_by_id s)) (nothing_named s a coded e)) i;
  number = λ coded. sym (ap (option_and_then (number_of s)) (nothing_named s a coded e)) i;
  spec = λ row. sym (ap (λ (x : Assembly). if is_row x TYPE_SPEC row then spec_sig (blob x TYPE_SPEC row 0) else None) e ∙ not_there (is_row no_assembly TYPE_SPEC row) (spec_sig (blob no_assembly TYPE_SPEC row 0)) (no_row TYPE_SPEC row)) i;
}

-- ---- by number

inside : (l : List AssemblyMembers) (a : ℕ) (m : AssemblyMembers) → slice_get l a ≡ Some m → a < length l
inside [] a m e = absurd cc
inside (n ∷ l) zero m e = omega arith
inside (n ∷ l) (suc a) m e = let h : a < length l = inside l a m e in omega (arith, h)

past : (l : List AssemblyMembers) (a : ℕ) → slice_get l a ≡ None → length l ≤ a
past [] a e = omega arith
past (n ∷ l) zero e = absurd cc
past (n ∷ l) (suc a) e = let h : length l ≤ a = past l a e in omega (arith, h)

below : (a n : ℕ) → a < n → nat_lt a n ≡ true
below a n h = search (rules, h)

above : (a n : ℕ) → n ≤ a → nat_lt a n ≡ false
above a n h = search (rules, h)

has_same : (l : List AssemblyMembers) (a : ℕ) → is_some (slice_get l a) ≡ nat_lt a (length l)
has_same l a = by_place (slice_get l a) refl
  where
    by_place : (o : Option AssemblyMembers) → slice_get l a ≡ o → is_some o ≡ nat_lt a (length l)
    by_place None e = sym (above a (length l) (past l a e))
    by_place (Some m) e = sym (below a (length l) (inside l a m e))

rows_same : (l : List AssemblyMembers) (a : ℕ) → rows_or (slice_get l a) ≡ get_or (map (λ m. m.rows) l) a no_assembly
rows_same [] zero = refl
rows_same [] (suc a) = refl
rows_same (m ∷ l) zero = refl
rows_same (m ∷ l) (suc a) = rows_same l a

module _ (s : Assemblies) (assemblies : List AssemblyMembers) (types : List SetType) (h : AreOf s assemblies types) where
  at : (a : ℕ) → rows_or (slice_get assemblies a) ≡ assembly_at s a
  at a = rows_same assemblies a ∙ ap (λ (l : Assemblies). get_or l a no_assembly) h.rows

  coded_same : (a : ℕ) (m : Option AssemblyMembers) → slice_get assemblies a ≡ m → coded_or m ≡ coded_in s a
  coded_same a None e = nothing_coded s a (sym (at a) ∙ ap rows_or e)
  coded_same a (Some m) e = h.coded a m e

  pub many : length assemblies ≡ length s
  many = sym (length_mapped assemblies) ∙ ap length h.rows
    where
      length_mapped : (l : List AssemblyMembers) → length (map (λ m. m.rows) l) ≡ length l
      length_mapped [] = refl
      length_mapped (m ∷ l) = ap suc (length_mapped l)

  -- the environment of the set
  pub environment_same : environment_in assemblies types ≡ environment s
  environment_same = λ i. record {
    has = λ a. (has_same assemblies a ∙ ap (nat_lt a) many) i;
    assembly = λ a. at a i;
    coded = λ a. coded_same a (slice_get assemblies a) refl i;
    types = h.bases i;
  }
