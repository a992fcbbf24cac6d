-- Rows that there are, and others.
use Rattle.std.proofs.Common.{◌≡◌, ◌∙◌, sym, ◌<◌, ◌≤◌, arith, rules, ℕ, zero, suc, ap, refl, Bool, true, false, length}
use Rattle.std.specs.Prelude.{Option, None, ◌&&◌, nat_lt, nat_le, option_map, option_and_then, reverse, if◌then◌else◌}
use Rattle.std.proofs.Math.ListN.{get_or-eq_default}
use Rattle.set_program.specs.declared.identity.TypeId.TheVariants.{Row}
use Rattle.set_names.specs.Names.{Name}
use Rattle.set_rows.specs.Sets.{Assembly, Assemblies, no_assembly, assembly_at, is_row, count_in}
use Rattle.set_names.specs.Paths.{path_within}
use Rattle.set_program.specs.TypeNames.{full_name, path_name, own_name, inner_name, enclosing, type_named}
use Rattle.set_program.specs.References.{inside, if_found}
use Rattle.cil_base.specs.declared.tables.TheConstants.{TYPE_DEF}

pub no_name : (x : Assembly) (row : ℕ) → is_row x TYPE_DEF row ≡ false → None ≡ full_name x row
unfolding full_name
no_name x row e = sym (ap (λ (b : Bool). if b then option_map (λ path. path_name (own_name x TYPE_DEF) (reverse path)) (path_within (enclosing x) (count_in x TYPE_DEF) row) else None) e)

pub no_row_zero : (x : Assembly) (row : ℕ) → row ≡ 0 → None ≡ full_name x row
no_row_zero x row e = no_name x row (ap (is_row x TYPE_DEF) e)

not_le : (a b : ℕ) → b < a → nat_le a b ≡ false
not_le a b h = search (rules, h)

both_false : (a b : Bool) → b ≡ false → (a && b) ≡ false
both_false true b e = e
both_false false b e = refl

pub no_row_past : (x : Assembly) (row : ℕ) → count_in x TYPE_DEF < row → None ≡ full_name x row
no_row_past x row h = no_name x row (both_false (nat_lt 0 row) (nat_le row (count_in x TYPE_DEF)) (not_le row (count_in x TYPE_DEF) h))

of_none : (row : ℕ) → is_row no_assembly TYPE_DEF row ≡ false
unfolding no_assembly
of_none zero = refl
of_none (suc row) = both_false (nat_lt 0 (suc row)) (nat_le (suc row) 0) (not_le (suc row) 0 (omega arith))

pub inside_past : (s : Assemblies) (name : Name) (a row : ℕ) → length s ≤ a → None ≡ inside s name (Row a row)
unfolding inside
inside_past s name a row h =
    ap (λ (o : Option Name). option_and_then (λ outer. if_found a (type_named (assembly_at s a) (inner_name outer name))) o)
    (no_name (assembly_at s a) row (ap (λ (x : Assembly). is_row x TYPE_DEF row) (get_or-eq_default s no_assembly h) ∙ of_none row))
