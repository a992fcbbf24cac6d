-- What was found in the columns of one table, as refusals of the stream.
use Rattle.std.proofs.Common.{◌≡◌, ◌⊎◌, ℕ, ◌+◌, ◌-◌, ◌*◌, ◌<◌, ◌≤◌, List, [], ◌∷◌, length, get_or, map, ◌++◌, false, inl, inr, refl, sym, ap, ◌∙◌, subst, arith}
use Rattle.std.specs.List.{range_with_len}
use Rattle.std.proofs.lemmas.List.{get_or_past}
use Rattle.std.proofs.lemmas.List.FromFn.{map-range_with_len_more}
use Rattle.std.proofs.lemmas.Bool.{cases_lt, cases_order}
use Rattle.cil_base.specs.Rules.{rule_number}
use Rattle.cil_base.proofs.RefusalLaws.{not_less}
use Rattle.cli_tables.specs.declared.schema.Column.{Column}
use Rattle.cil_base.specs.declared.rule.Rule.TheVariants.{M4}
use Rattle.cil_base.specs.declared.refusal.Refusal.{Refusal}
use Rattle.cil_base.specs.declared.refusal.Fault.{Fault}
use Rattle.cil_base.specs.declared.refusal.Fault.TheVariants.{Refused, Memory}
use Rattle.cil_base.specs.Refusals.{key, is_less, First, NoneBroken, IfRefused}
use Rattle.cli_tables.proofs.StreamLaws.{bytes_below_more}
use Rattle.cli_tables.specs.declared.sizes.Sizes.{Sizes}
use Rattle.cli_tables.specs.Schema.{the_tables, columns_of}
use Rattle.cli_tables.specs.Stream.{sizes_of, row_width, count_of}
use Rattle.cli_tables.specs.Layout.{table_in, table_start, row_end, whole_table}
use Rattle.cli_tables.specs.Tables.{rows_in}
use Rattle.cli_tables.specs.TableRules.{Broken, BrokenIn}
use Rattle.cli_tables.specs.CellRules.{AreClean, IsFirstIn}
use Rattle.cli_tables.proofs.CellLaws.{length_column}
use Rattle.cli_tables.proofs.BrokenLaws.{first_cell, first_cut, none_in_table}

-- the widths of the stream, where they go by another name
space : (bytes : List ℕ) (s : Sizes) (t start rows width : ℕ) → s ≡ sizes_of bytes → width ≡ row_width s t → start ≤ length bytes → rows * width ≤ length bytes - start → start + rows * row_width (sizes_of bytes) t ≤ length bytes
space bytes s t start rows width same wide near fit =
    let e : rows * width ≡ rows * row_width (sizes_of bytes) t = ap (λ (w : ℕ). rows * w) (wide ∙ ap (λ (z : Sizes). row_width z t) same) in omega arith

pub read_columns : (bytes : List ℕ) (s : Sizes) (t start rows c : ℕ) (columns : List (List ℕ)) → columns ≡ table_in bytes s start t rows → c < length (columns_of t) → length (get_or columns c []) ≡ rows
read_columns bytes s t start rows c columns read lt = ap (λ (cs : List (List ℕ)). length (get_or cs c [])) read ∙ length_column bytes s start t rows c lt

pub found : (meta bytes : List ℕ) (s : Sizes) (a t start rows width : ℕ) (columns : List (List ℕ)) (r : Refusal)
    → s ≡ sizes_of bytes → width ≡ row_width s t → start ≡ table_start bytes t → start ≤ length bytes → rows * width ≤ length bytes - start → rows ≤ count_of s t
    → columns ≡ table_in bytes s start t rows → IsFirstIn meta s a t columns rows r → First (BrokenIn meta bytes a t) r
found meta bytes s a t start rows width columns r same wide place near fit few read f =
    first_cell meta bytes a t start rows r place (space bytes s t start rows width same wide near fit) (subst (λ (z : Sizes). rows ≤ count_of z t) same few)
    (subst (λ (z : Sizes). IsFirstIn meta z a t (table_in bytes z start t rows) rows r) same (subst (λ (cs : List (List ℕ)). IsFirstIn meta s a t cs rows r) read f))

pub cut : (meta bytes : List ℕ) (s : Sizes) (a t start rows width : ℕ) (columns : List (List ℕ))
    → s ≡ sizes_of bytes → width ≡ row_width s t → start ≡ table_start bytes t → start ≤ length bytes → rows * width ≤ length bytes - start → rows < count_of s t
    → length bytes - start < (rows + 1) * width → columns ≡ table_in bytes s start t rows → AreClean meta s t columns rows → First (BrokenIn meta bytes a t) (record { rule = M4; assembly = a; table = t; row = rows + 1; at = 0 })
cut meta bytes s a t start rows width columns same wide place near fit few past read clean =
    let e : (rows + 1) * width ≡ (rows + 1) * row_width (sizes_of bytes) t = ap (λ (w : ℕ). (rows + 1) * w) (wide ∙ ap (λ (z : Sizes). row_width z t) same) in
    first_cut meta bytes a t start rows _ place (space bytes s t start rows width same wide near fit) (subst (λ (z : Sizes). rows < count_of z t) same few)
    (omega (arith, e, past)) (subst (λ (z : Sizes). AreClean meta z t (table_in bytes z start t rows) rows) same (subst (λ (cs : List (List ℕ)). AreClean meta s t cs rows) read clean)) refl

pub clean : (meta bytes : List ℕ) (s : Sizes) (a t start rows width : ℕ) (columns : List (List ℕ))
    → s ≡ sizes_of bytes → width ≡ row_width s t → start ≡ table_start bytes t → start ≤ length bytes → rows * width ≤ length bytes - start → rows ≡ count_of s t
    → columns ≡ table_in bytes s start t rows → AreClean meta s t columns rows → NoneBroken (BrokenIn meta bytes a t)
clean meta bytes s a t start rows width columns same wide place near fit all read h =
    none_in_table meta bytes a t start rows place (space bytes s t start rows width same wide near fit) (all ∙ ap (λ (z : Sizes). count_of z t) same)
    (subst (λ (z : Sizes). AreClean meta z t (table_in bytes z start t rows) rows) same (subst (λ (cs : List (List ℕ)). AreClean meta s t cs rows) read h))

-- no refusal names a table below this one
abbrev pub NoneBelow : List ℕ → List ℕ → ℕ → ℕ → Type 0
NoneBelow meta bytes a t = (q : Refusal) → Broken meta bytes a q → q.table < t → ⊥

pub none_below_more : (meta bytes : List ℕ) (a t : ℕ) → NoneBelow meta bytes a t → NoneBroken (BrokenIn meta bytes a t) → NoneBelow meta bytes a (t + 1)
none_below_more meta bytes a t below here q h lt =
    elim (cases_lt q.table t) [
      | inl less ↦ below q h less
      | inr le ↦ here q (record { table_is = omega arith; broken = h })
    ]

-- the first refusal of a table is the first one of all, where no table below has any
pub first_of_all : (meta bytes : List ℕ) (a t : ℕ) (r : Refusal) → NoneBelow meta bytes a t → First (BrokenIn meta bytes a t) r → First (Broken meta bytes a) r
first_of_all meta bytes a t r below first =
    record {
      broken = first.broken.broken;
      none_before = λ q h. go q h (cases_order q.table t);
    }
  where
    later : (q : Refusal) → Broken meta bytes a q → t < q.table → is_less (key q) (key r) ≡ false
    later q h lt =
        let qa : q.assembly ≡ a = h.assembly_is in
        let ra : r.assembly ≡ a = first.broken.broken.assembly_is in
        let rt : r.table ≡ t = first.broken.table_is in
        not_less q.assembly r.assembly (q.table ∷ q.row ∷ q.at ∷ rule_number q.rule ∷ []) (r.table ∷ r.row ∷ r.at ∷ rule_number r.rule ∷ []) (omega arith) (λ e.
        not_less q.table r.table (q.row ∷ q.at ∷ rule_number q.rule ∷ []) (r.row ∷ r.at ∷ rule_number r.rule ∷ []) (omega arith) (λ e2. absurd (omega arith)))

    go : (q : Refusal) → Broken meta bytes a q → (q.table ≡ t) ⊎ ((q.table < t) ⊎ (t < q.table)) → is_less (key q) (key r) ≡ false
    go q h (inl e) = first.none_before q (record { table_is = e; broken = h })
    go q h (inr (inl lt)) = absurd (below q h lt)
    go q h (inr (inr gt)) = later q h gt

-- no refusal names a table that isn't read
pub none_at_all : (meta bytes : List ℕ) (a t : ℕ) → 45 ≤ t → NoneBelow meta bytes a t → NoneBroken (Broken meta bytes a)
unfolding the_tables
none_at_all meta bytes a t past below q h =
    elim (cases_lt q.table t) [
      | inl lt ↦ below q h lt
      | inr le ↦
          let none : length (columns_of q.table) ≡ 0 = ap (λ (ks : List Column). length ks) (get_or_past the_tables q.table [] (omega arith)) in
          absurd (omega (arith, none, h.place.2))
    ]

pub tables_more : (bytes : List ℕ) (t : ℕ) → map (whole_table bytes) (range_with_len 0 (t + 1)) ≡ map (whole_table bytes) (range_with_len 0 t) ++ whole_table bytes t ∷ []
tables_more bytes t = map-range_with_len_more (whole_table bytes) 0 t t (omega arith)

pub tables_push : (bytes : List ℕ) (t : ℕ) (tables : List (List (List ℕ))) (table : List (List ℕ)) → tables ≡ map (whole_table bytes) (range_with_len 0 t) → table ≡ whole_table bytes t
    → tables ++ table ∷ [] ≡ map (whole_table bytes) (range_with_len 0 (t + 1))
tables_push bytes t tables table e f = ap (λ (l : List (List (List ℕ))). l ++ table ∷ []) e ∙ ap (λ (x : List (List ℕ)). map (whole_table bytes) (range_with_len 0 t) ++ x ∷ []) f ∙ sym (tables_more bytes t)

pub refused_of_all : (meta bytes : List ℕ) (a t : ℕ) (fault : Fault) → NoneBelow meta bytes a t → IfRefused fault (First (BrokenIn meta bytes a t)) → IfRefused fault (First (Broken meta bytes a))
refused_of_all meta bytes a t (Refused r) below first = first_of_all meta bytes a t r below first
refused_of_all meta bytes a t (Memory e) below first = tt

-- where the rows of the next table begin
pub next_start : (bytes : List ℕ) (s : Sizes) (t start size : ℕ) → s ≡ sizes_of bytes → start ≡ table_start bytes t → size ≡ count_of s t * row_width s t → start + size ≡ table_start bytes (t + 1)
next_start bytes s t start size same place e =
    let f : size ≡ count_of (sizes_of bytes) t * row_width (sizes_of bytes) t = e ∙ ap (λ (z : Sizes). count_of z t * row_width z t) same in
    omega (arith, f, bytes_below_more (sizes_of bytes) t)

pub next_within : (bytes : List ℕ) (s : Sizes) (t start size : ℕ) → s ≡ sizes_of bytes → start ≡ table_start bytes t → size ≡ count_of s t * row_width s t → row_end bytes t (rows_in bytes t) ≤ length bytes → start + size ≤ length bytes
next_within bytes s t start size same place e within =
    let f : size ≡ count_of (sizes_of bytes) t * row_width (sizes_of bytes) t = e ∙ ap (λ (z : Sizes). count_of z t * row_width z t) same in
    omega (arith, f, place, within)
