-- An assembly that was read: its methods up to the runtime class are rows of its table (ECMA-335, II.22.37).
use Rattle.std.proofs.Common.{◌≡◌, ◌∙◌, sym, ap, refl, subst, inl, inr, arith, rules, ℕ, zero, suc, ◌+◌, ◌≤◌, ◌<◌, max, Bool, true, false, cond, List, [], ◌∷◌, length, get_or}
use Rattle.std.specs.Prelude.{Some, None, nat_lt, nat_le, ◌&&◌}
use Rattle.std.proofs.lemmas.List.{length-map}
use Rattle.cil_base.specs.declared.tables.TheConstants.{METHOD_DEF, TYPE_DEF}
use Rattle.cil_base.specs.Refusals.{NoneBroken}
use Rattle.pe_image.specs.Images.{File}
use Rattle.pe_image.specs.Cli.{metadata_of}
use Rattle.cli_heaps.specs.Root as root
use Rattle.cli_tables.specs.declared.schema.Column.{Column}
use Rattle.cli_tables.specs.declared.schema.Column.TheVariants.{FirstRow}
use Rattle.cli_tables.specs.Schema.{the_tables, columns_of}
use Rattle.cli_tables.specs.Stream as stream
use Rattle.cli_tables.specs.Tables.{rows_in, is_cell_in, AreIn}
use Rattle.cli_tables.specs.TableRules.{Broken, names_nothing, naming_rule}
use Rattle.assembly.specs.Assemblies.{IsReadable, tables_of}
use Rattle.set_rows.specs.Sets.{Assembly, Assemblies, no_assembly, assembly_of, assembly_at, count_in, cell, or_zero}
use Rattle.set_program.specs.Files.{assemblies_of}
use Rattle.set_program.specs.Numbering.{type_cut, cut}

-- the column of TypeDef that begins the methods of a type
kind : stream.kind_of TYPE_DEF 5 ≡ FirstRow METHOD_DEF
unfolding the_tables
kind = refl

columns : length (columns_of TYPE_DEF) ≡ 6
unfolding the_tables
columns = refl

not_less : (a b : ℕ) → nat_lt a b ≡ false → b ≤ a
not_less a b e = search (rules, e)

is_cell : (row rows column count : ℕ) → (nat_le 1 row && (nat_le row rows && nat_lt column count)) ≡ true → (1 ≤ row) × (row ≤ rows)
is_cell row rows column count e = (low row rows column count e, high row rows column count e)
  where
    low : (row rows column count : ℕ) → (nat_le 1 row && (nat_le row rows && nat_lt column count)) ≡ true → 1 ≤ row
    low row rows column count e = search (rules, e)

    high : (row rows column count : ℕ) → (nat_le 1 row && (nat_le row rows && nat_lt column count)) ≡ true → row ≤ rows
    high row rows column count e = search (rules, e)

module _ (meta bytes : List ℕ) (a : ℕ) (none : NoneBroken (Broken meta bytes a)) where
  -- no row begins its methods past the table
  listed : (row : ℕ) → 1 ≤ row → row ≤ rows_in bytes TYPE_DEF → stream.cell bytes TYPE_DEF row 5 ≤ rows_in bytes METHOD_DEF + 1
  listed row low high = go (names_nothing meta (stream.sizes_of bytes) (stream.kind_of TYPE_DEF 5) (stream.cell bytes TYPE_DEF row 5)) refl
    where
      go : (b : Bool) → names_nothing meta (stream.sizes_of bytes) (stream.kind_of TYPE_DEF 5) (stream.cell bytes TYPE_DEF row 5) ≡ b → stream.cell bytes TYPE_DEF row 5 ≤ rows_in bytes METHOD_DEF + 1
      go true e = absurd (none (record { rule = naming_rule (stream.kind_of TYPE_DEF 5); assembly = a; table = TYPE_DEF; row = row; at = 5 })
          (record { assembly_is = refl; place = (low, high, omega (arith, columns)); breaks = inr (inl (refl, e)) }))
      go false e = not_less (rows_in bytes METHOD_DEF + 1) (stream.cell bytes TYPE_DEF row 5)
          (sym (ap (λ (k : Column). names_nothing meta (stream.sizes_of bytes) k (stream.cell bytes TYPE_DEF row 5)) kind) ∙ e)

  bound : (row : ℕ) (b : Bool) → (b ≡ true → stream.cell bytes TYPE_DEF row 5 ≤ rows_in bytes METHOD_DEF + 1) → or_zero (cond b (Some (stream.cell bytes TYPE_DEF row 5)) None) ≤ rows_in bytes METHOD_DEF + 1
  bound row true h = h refl
  bound row false h = omega arith

  module _ (x : Assembly) (are : AreIn bytes x.tables) where
    within : (row : ℕ) → cell x TYPE_DEF row 5 ≤ count_in x METHOD_DEF + 1
    within row =
        let at : cell x TYPE_DEF row 5 ≡ or_zero (cond (is_cell_in bytes TYPE_DEF row 5) (Some (stream.cell bytes TYPE_DEF row 5)) None) = ap or_zero (are.cells TYPE_DEF row 5) in
        let low : or_zero (cond (is_cell_in bytes TYPE_DEF row 5) (Some (stream.cell bytes TYPE_DEF row 5)) None) ≤ rows_in bytes METHOD_DEF + 1 =
        bound row (is_cell_in bytes TYPE_DEF row 5) (λ e. let is = is_cell row (rows_in bytes TYPE_DEF) 5 (length (columns_of TYPE_DEF)) e in listed row is.0 is.1) in
        omega (arith, at, low, are.rows METHOD_DEF)

    pub cut_low_enough : cut x METHOD_DEF ≤ count_in x METHOD_DEF + 1
    cut_low_enough = go (nat_lt (count_in x TYPE_DEF) (type_cut x)) (within (type_cut x))
      where
        go : (b : Bool) → cell x TYPE_DEF (type_cut x) 5 ≤ count_in x METHOD_DEF + 1 → cond b (count_in x METHOD_DEF + 1) (max 1 (cell x TYPE_DEF (type_cut x) 5)) ≤ count_in x METHOD_DEF + 1
        go true h = omega arith
        go false h = omega (arith, h)

pub accepted_cut : (file : File) (ts : List (List (List ℕ))) → IsReadable file.bytes file.assembly → AreIn (root.tables (metadata_of file.bytes)) ts → ts ≡ tables_of file.bytes
    → cut (assembly_of file.bytes) METHOD_DEF ≤ count_in (assembly_of file.bytes) METHOD_DEF + 1
unfolding assembly_of
accepted_cut file ts readable cells e =
    cut_low_enough (metadata_of file.bytes) (root.tables (metadata_of file.bytes)) file.assembly readable.1.1.1.0 (record { bytes = file.bytes; meta = metadata_of file.bytes; tables = tables_of file.bytes })
    (subst (AreIn (root.tables (metadata_of file.bytes))) e cells)

-- ---- the assemblies of a set that were read

pub many_files : (files : List File) (s : Assemblies) → assemblies_of files ≡ s → length files ≡ length s
many_files files s e = sym (length-map files (λ (file : File). assembly_of file.bytes)) ∙ ap length e

file_in : (files : List File) (k : ℕ) (f d : File) → k < length files → f ≡ get_or files k d → assembly_of f.bytes ≡ get_or (assemblies_of files) k no_assembly
file_in [] k f d h e = absurd (omega (arith, h))
file_in (x ∷ files) zero f d h e = ap (λ (g : File). assembly_of g.bytes) e
file_in (x ∷ files) (suc k) f d h e = file_in files k f d (omega (arith, h)) e

pub file_at : (files : List File) (s : Assemblies) (k : ℕ) (f : File) → assemblies_of files ≡ s → k < length s → f ≡ get_or files k f → assembly_of f.bytes ≡ assembly_at s k
file_at files s k f e h is =
    let short : k < length files = omega (arith, h, many_files files s e) in
    file_in files k f f short is ∙ ap (λ (l : Assemblies). get_or l k no_assembly) e

pub meta_is : (file : File) (x : Assembly) → x ≡ assembly_of file.bytes → metadata_of file.bytes ≡ x.meta
unfolding assembly_of
meta_is file x e = sym (ap (λ (y : Assembly). y.meta) e)
