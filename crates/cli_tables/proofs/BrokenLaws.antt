-- From the first cell that breaks a rule to the first refusal of a table.
use Rattle.std.proofs.Common.{◌≡◌, ◌⊎◌, ℕ, zero, suc, ◌+◌, ◌-◌, ◌*◌, ◌<◌, ◌≤◌, Bool, true, false, cond, ltb, ◌&&◌, List, [], ◌∷◌, length, get_or, Option, Some, None, refl, sym, ap, ◌∙◌, subst, inl, inr, arith}
use Rattle.std.proofs.lemmas.Bool.{lt-ltb, ltb-true, ne_eqb, and_parts, cases_lt}
use Rattle.std.proofs.Math.Nat.{mul-le-mul_right}
use Rattle.cil_base.specs.declared.rule.Rule.{Rule}
use Rattle.cil_base.specs.declared.rule.Rule.TheVariants.{M4, M6}
use Rattle.cil_base.specs.declared.refusal.Refusal.{Refusal}
use Rattle.cil_base.specs.Rules.{rule_number}
use Rattle.cil_base.specs.Refusals.{key, is_less, First, NoneBroken}
use Rattle.cil_base.proofs.RefusalLaws.{not_less}
use Rattle.cli_tables.specs.declared.schema.Column.{Column}
use Rattle.cli_tables.specs.declared.schema.Column.TheVariants.{U8, U16, U32, StringIndex, GuidIndex, BlobIndex, Row, FirstRow, Coded}
use Rattle.cli_tables.specs.declared.sizes.Sizes.{Sizes}
use Rattle.cli_tables.specs.Schema.{columns_of}
use Rattle.cli_tables.specs.Stream.{kind_of, cell, sizes_of, row_width, width_of}
use Rattle.std.specs.Prelude.{sum_by}
use Rattle.std.proofs.lemmas.List.{nil_from_length}
use Rattle.cli_tables.specs.Layout.{table_in, table_start}
use Rattle.cli_tables.specs.Tables.{rows_in}
use Rattle.cli_tables.specs.TableRules.{names_nothing, naming_rule, is_list, IsCut, NamesNothing, Falls, Broken, BrokenIn}
use Rattle.cli_tables.specs.CellRules.{cell_rule, before, rule_at, AreClean, IsFirstIn}
use Rattle.cli_tables.proofs.CellLaws.{cell_read}

-- a rule, and that it doesn't come after another
record Shown (o : Option Rule) (late : Rule) : Type 0 where
  rule : Rule
  shown : o ≡ Some rule
  early : rule_number rule ≤ rule_number late

naming_early : (column : Column) → is_list column ≡ true → rule_number (naming_rule column) ≤ 11
naming_early U8 e = absurd cc
naming_early U16 e = absurd cc
naming_early U32 e = absurd cc
naming_early StringIndex e = absurd cc
naming_early GuidIndex e = absurd cc
naming_early BlobIndex e = absurd cc
naming_early (Row t) e = absurd cc
naming_early (FirstRow t) e = omega arith
naming_early (Coded k) e = absurd cc

naming_late : (column : Column) → 9 ≤ rule_number (naming_rule column)
naming_late U8 = omega arith
naming_late U16 = omega arith
naming_late U32 = omega arith
naming_late StringIndex = omega arith
naming_late GuidIndex = omega arith
naming_late BlobIndex = omega arith
naming_late (Row t) = omega arith
naming_late (FirstRow t) = omega arith
naming_late (Coded k) = omega arith

shown_naming : (meta : List ℕ) (s : Sizes) (column : Column) (b v : ℕ) (late : Rule) → names_nothing meta s column v ≡ true → late ≡ naming_rule column → Shown (cell_rule meta s column b v) late
shown_naming meta s column b v late e same = record {
  rule = naming_rule column;
  shown = ap (λ (t : Bool). cond t (Some (naming_rule column)) (cond (is_list column && ltb v b) (Some M6) None)) e;
  early = let f : rule_number late ≡ rule_number (naming_rule column) = ap rule_number same in omega arith;
}

shown_falls : (meta : List ℕ) (s : Sizes) (column : Column) (b v : ℕ) (late : Rule) → is_list column ≡ true → v < b → late ≡ M6 → Shown (cell_rule meta s column b v) late
shown_falls meta s column b v late list lt same = go (names_nothing meta s column v) refl
  where
    number : rule_number late ≡ 11
    number = ap rule_number same

    both : (is_list column && ltb v b) ≡ true
    both = ap (λ (t : Bool). t && ltb v b) list ∙ lt-ltb v b lt

    go : (t : Bool) → names_nothing meta s column v ≡ t → Shown (cell_rule meta s column b v) late
    go true e = record {
      rule = naming_rule column;
      shown = ap (λ (t : Bool). cond t (Some (naming_rule column)) (cond (is_list column && ltb v b) (Some M6) None)) e;
      early = let f = naming_early column list in omega (arith, f, number);
    }
    go false e = record {
      rule = M6;
      shown = ap (λ (t : Bool). cond t (Some (naming_rule column)) (cond (is_list column && ltb v b) (Some M6) None)) e ∙ ap (λ (t : Bool). cond t (Some M6) None) both;
      early = omega (arith, number);
    }

-- what a row breaks that lies in the stream shows in the columns that were read
shown_at : (meta bytes : List ℕ) (a start rows : ℕ) (r : Refusal) → start ≡ table_start bytes r.table → start + rows * row_width (sizes_of bytes) r.table ≤ length bytes
    → Broken meta bytes a r → r.row ≤ rows → Shown (rule_at meta (sizes_of bytes) r.table (table_in bytes (sizes_of bytes) start r.table rows) (r.row - 1) r.at) r.rule
shown_at meta bytes a start rows r place within broken row = go broken.breaks
  where
    above : 1 ≤ r.row
    above = broken.place.0

    value : get_or (get_or (table_in bytes (sizes_of bytes) start r.table rows) r.at []) (r.row - 1) 0 ≡ cell bytes r.table r.row r.at
    value = cell_read bytes start r.table rows r.at (r.row - 1) broken.place.2 (omega (arith, above)) place ∙ ap (λ (k : ℕ). cell bytes r.table k r.at) (omega (arith, above))

    early : 1 < r.row → before (get_or (table_in bytes (sizes_of bytes) start r.table rows) r.at []) (r.row - 1) ≡ cell bytes r.table (r.row - 1) r.at
    early two =
        ap (λ (t : Bool). cond t 0 (get_or (get_or (table_in bytes (sizes_of bytes) start r.table rows) r.at []) (r.row - 1 - 1) 0)) (ne_eqb (r.row - 1) 0 (λ e. absurd (omega arith)))
        ∙ cell_read bytes start r.table rows r.at (r.row - 1 - 1) broken.place.2 (omega (arith, above)) place ∙ ap (λ (k : ℕ). cell bytes r.table k r.at) (omega (arith, two))

    go : IsCut bytes r ⊎ (NamesNothing meta bytes r ⊎ Falls bytes r) → Shown (rule_at meta (sizes_of bytes) r.table (table_in bytes (sizes_of bytes) start r.table rows) (r.row - 1) r.at) r.rule
    go (inl cut) =
        let more : r.row * row_width (sizes_of bytes) r.table ≤ rows * row_width (sizes_of bytes) r.table = mul-le-mul_right (row_width (sizes_of bytes) r.table) row in
        absurd (omega (arith, more, cut.2, within, place))
    go (inr (inl names)) =
        shown_naming meta (sizes_of bytes) (kind_of r.table r.at) (before (get_or (table_in bytes (sizes_of bytes) start r.table rows) r.at []) (r.row - 1)) (get_or (get_or (table_in bytes (sizes_of bytes) start r.table rows) r.at []) (r.row - 1) 0) r.rule (ap (names_nothing meta (sizes_of bytes) (kind_of r.table r.at)) value ∙ names.1) names.0
    go (inr (inr falls)) =
        let e = early falls.2 in
        shown_falls meta (sizes_of bytes) (kind_of r.table r.at) (before (get_or (table_in bytes (sizes_of bytes) start r.table rows) r.at []) (r.row - 1)) (get_or (get_or (table_in bytes (sizes_of bytes) start r.table rows) r.at []) (r.row - 1) 0) r.rule falls.1 (omega (arith, value, e, falls.3)) falls.0

-- the same for a table by another name
shown_in : (meta bytes : List ℕ) (a start rows t : ℕ) (r : Refusal) → start ≡ table_start bytes t → start + rows * row_width (sizes_of bytes) t ≤ length bytes
    → BrokenIn meta bytes a t r → r.row ≤ rows → Shown (rule_at meta (sizes_of bytes) t (table_in bytes (sizes_of bytes) start t rows) (r.row - 1) r.at) r.rule
shown_in meta bytes a start rows t r place within h row =
    subst (λ (u : ℕ). start ≡ table_start bytes u → start + rows * row_width (sizes_of bytes) u ≤ length bytes → Shown (rule_at meta (sizes_of bytes) u (table_in bytes (sizes_of bytes) start u rows) (r.row - 1) r.at) r.rule)
    h.table_is (λ p w. shown_at meta bytes a start rows r p w h.broken row) place within

-- what the first rule of a cell says
told : (meta : List ℕ) (s : Sizes) (column : Column) (b v : ℕ) (rule : Rule) → cell_rule meta s column b v ≡ Some rule
    → ((rule ≡ naming_rule column) × (names_nothing meta s column v ≡ true)) ⊎ ((rule ≡ M6) × (is_list column ≡ true) × (v < b))
told meta s column b v rule e = go (names_nothing meta s column v) refl
  where
    later : (t : Bool) → (is_list column && ltb v b) ≡ t → cond t (Some M6) None ≡ Some rule → ((rule ≡ naming_rule column) × (names_nothing meta s column v ≡ true)) ⊎ ((rule ≡ M6) × (is_list column ≡ true) × (v < b))
    later true f g = let p = and_parts (is_list column) (ltb v b) f in inr (cc, p.0, ltb-true v b p.1)
    later false f g = absurd cc

    go : (t : Bool) → names_nothing meta s column v ≡ t → ((rule ≡ naming_rule column) × (names_nothing meta s column v ≡ true)) ⊎ ((rule ≡ M6) × (is_list column ≡ true) × (v < b))
    go true f = let g : Some (naming_rule column) ≡ Some rule = ap (λ (t : Bool). cond t (Some (naming_rule column)) (cond (is_list column && ltb v b) (Some M6) None)) (sym f) ∙ e in inl (cc, f)
    go false f = later (is_list column && ltb v b) refl (ap (λ (t : Bool). cond t (Some (naming_rule column)) (cond (is_list column && ltb v b) (Some M6) None)) (sym f) ∙ e)

-- at the first row there is none before
second : (cells : List ℕ) (k v : ℕ) → v < before cells k → 0 < k
second cells zero v lt = absurd (omega (arith, lt))
second cells (suc k) v lt = omega arith

breaks_at : (meta bytes : List ℕ) (start rows : ℕ) (r : Refusal) → start ≡ table_start bytes r.table → 1 ≤ r.row → r.row ≤ rows → r.at < length (columns_of r.table)
    → rule_at meta (sizes_of bytes) r.table (table_in bytes (sizes_of bytes) start r.table rows) (r.row - 1) r.at ≡ Some r.rule
    → IsCut bytes r ⊎ (NamesNothing meta bytes r ⊎ Falls bytes r)
breaks_at meta bytes start rows r place above row at e = go (told meta (sizes_of bytes) (kind_of r.table r.at) (before (get_or (table_in bytes (sizes_of bytes) start r.table rows) r.at []) (r.row - 1)) (get_or (get_or (table_in bytes (sizes_of bytes) start r.table rows) r.at []) (r.row - 1) 0) r.rule e)
  where
    value : get_or (get_or (table_in bytes (sizes_of bytes) start r.table rows) r.at []) (r.row - 1) 0 ≡ cell bytes r.table r.row r.at
    value = cell_read bytes start r.table rows r.at (r.row - 1) at (omega arith) place ∙ ap (λ (k : ℕ). cell bytes r.table k r.at) (omega arith)

    early : 1 < r.row → before (get_or (table_in bytes (sizes_of bytes) start r.table rows) r.at []) (r.row - 1) ≡ cell bytes r.table (r.row - 1) r.at
    early two =
        ap (λ (t : Bool). cond t 0 (get_or (get_or (table_in bytes (sizes_of bytes) start r.table rows) r.at []) (r.row - 1 - 1) 0)) (ne_eqb (r.row - 1) 0 (λ z. absurd (omega (arith, z))))
        ∙ cell_read bytes start r.table rows r.at (r.row - 1 - 1) at (omega arith) place ∙ ap (λ (k : ℕ). cell bytes r.table k r.at) (omega (arith, two))

    go : ((r.rule ≡ naming_rule (kind_of r.table r.at)) × (names_nothing meta (sizes_of bytes) (kind_of r.table r.at) (get_or (get_or (table_in bytes (sizes_of bytes) start r.table rows) r.at []) (r.row - 1) 0) ≡ true))
        ⊎ ((r.rule ≡ M6) × (is_list (kind_of r.table r.at) ≡ true) × (get_or (get_or (table_in bytes (sizes_of bytes) start r.table rows) r.at []) (r.row - 1) 0 < before (get_or (table_in bytes (sizes_of bytes) start r.table rows) r.at []) (r.row - 1)))
        → IsCut bytes r ⊎ (NamesNothing meta bytes r ⊎ Falls bytes r)
    go (inl n) = inr (inl (n.0, ap (names_nothing meta (sizes_of bytes) (kind_of r.table r.at)) (sym value) ∙ n.1))
    go (inr f) =
        let k = second (get_or (table_in bytes (sizes_of bytes) start r.table rows) r.at []) (r.row - 1) _ f.2 in
        let two : 1 < r.row = omega (arith, k) in
        let e2 = early two in
        inr (inr (f.0, f.1, two, omega (arith, f.2, value, e2)))

-- a refusal in the table is none before the one at a place where nothing before breaks a rule
not_before : (meta bytes : List ℕ) (a t : ℕ) (q r : Refusal) → BrokenIn meta bytes a t q → r.assembly ≡ a → r.table ≡ t → r.row ≤ q.row → (q.row ≡ r.row → r.at ≤ q.at) → (q.row ≡ r.row → q.at ≡ r.at → rule_number r.rule ≤ rule_number q.rule) → is_less (key q) (key r) ≡ false
not_before meta bytes a t q r h ra rt row at rule =
    let qa : q.assembly ≡ a = h.broken.assembly_is in
    let qt : q.table ≡ t = h.table_is in
    not_less q.assembly r.assembly (q.table ∷ q.row ∷ q.at ∷ rule_number q.rule ∷ []) (r.table ∷ r.row ∷ r.at ∷ rule_number r.rule ∷ []) (omega arith) (λ e1.
    not_less q.table r.table (q.row ∷ q.at ∷ rule_number q.rule ∷ []) (r.row ∷ r.at ∷ rule_number r.rule ∷ []) (omega arith) (λ e2.
    not_less q.row r.row (q.at ∷ rule_number q.rule ∷ []) (r.at ∷ rule_number r.rule ∷ []) row (λ e3.
    not_less q.at r.at (rule_number q.rule ∷ []) (rule_number r.rule ∷ []) (at e3) (λ e4.
    not_less (rule_number q.rule) (rule_number r.rule) [] [] (rule e3 e4) (λ e5. refl)))))

first_cell_at : (meta bytes : List ℕ) (a start rows : ℕ) (r : Refusal) → start ≡ table_start bytes r.table → start + rows * row_width (sizes_of bytes) r.table ≤ length bytes → rows ≤ rows_in bytes r.table
    → IsFirstIn meta (sizes_of bytes) a r.table (table_in bytes (sizes_of bytes) start r.table rows) rows r → First (BrokenIn meta bytes a r.table) r
first_cell_at meta bytes a start rows r place within many f =
    record {
      broken = record {
        table_is = refl;
        broken = record {
          assembly_is = f.assembly_is;
          place = (f.row_above, omega (arith, f.row_within), f.column_within);
          breaks = breaks_at meta bytes start rows r place f.row_above f.row_within f.column_within f.breaks;
        };
      };
      none_before = λ q h. not_before meta bytes a r.table q r h f.assembly_is refl (row q h) (at q h) (rule q h);
    }
  where
    shown : (q : Refusal) (h : BrokenIn meta bytes a r.table q) → q.row ≤ rows → Shown (rule_at meta (sizes_of bytes) r.table (table_in bytes (sizes_of bytes) start r.table rows) (q.row - 1) q.at) q.rule
    shown q h le = shown_in meta bytes a start rows r.table q place within h le

    column : (q : Refusal) (h : BrokenIn meta bytes a r.table q) → q.at < length (columns_of r.table)
    column q h = subst (λ (t : ℕ). q.at < length (columns_of t)) h.table_is h.broken.place.2

    row : (q : Refusal) (h : BrokenIn meta bytes a r.table q) → r.row ≤ q.row
    row q h = elim (cases_lt q.row r.row) [
      | inl lt ↦
          let above : 1 ≤ q.row = h.broken.place.0 in
          let yes = shown q h (omega (arith, lt, f.row_within)) in
          let no = f.before_clean (q.row - 1) (omega (arith, lt, above)) q.at (column q h) in
          let clash : None ≡ Some yes.rule = sym no ∙ yes.shown in absurd cc
      | inr le ↦ le
    ]

    same : (q : Refusal) → q.row ≡ r.row → (c : ℕ) → rule_at meta (sizes_of bytes) r.table (table_in bytes (sizes_of bytes) start r.table rows) (q.row - 1) c ≡ rule_at meta (sizes_of bytes) r.table (table_in bytes (sizes_of bytes) start r.table rows) (r.row - 1) c
    same q e c = ap (λ (k : ℕ). rule_at meta (sizes_of bytes) r.table (table_in bytes (sizes_of bytes) start r.table rows) (k - 1) c) e

    at : (q : Refusal) (h : BrokenIn meta bytes a r.table q) → q.row ≡ r.row → r.at ≤ q.at
    at q h e = elim (cases_lt q.at r.at) [
      | inl lt ↦
          let yes = shown q h (omega (arith, e, f.row_within)) in
          let no = f.row_clean q.at lt in
          let clash : None ≡ Some yes.rule = sym no ∙ sym (same q e q.at) ∙ yes.shown in absurd cc
      | inr le ↦ le
    ]

    rule : (q : Refusal) (h : BrokenIn meta bytes a r.table q) → q.row ≡ r.row → q.at ≡ r.at → rule_number r.rule ≤ rule_number q.rule
    rule q h e d =
        let yes = shown q h (omega (arith, e, f.row_within)) in
        let both : Some r.rule ≡ Some yes.rule = sym f.breaks ∙ sym (same q e r.at) ∙ ap (λ (c : ℕ). rule_at meta (sizes_of bytes) r.table (table_in bytes (sizes_of bytes) start r.table rows) (q.row - 1) c) (sym d) ∙ yes.shown in
        let one : r.rule ≡ yes.rule = cc in
        let number : rule_number r.rule ≡ rule_number yes.rule = ap rule_number one in
        omega (arith, number, yes.early)

-- the first cell that breaks a rule gives the first refusal of the table
pub first_cell : (meta bytes : List ℕ) (a t start rows : ℕ) (r : Refusal) → start ≡ table_start bytes t → start + rows * row_width (sizes_of bytes) t ≤ length bytes → rows ≤ rows_in bytes t
    → IsFirstIn meta (sizes_of bytes) a t (table_in bytes (sizes_of bytes) start t rows) rows r → First (BrokenIn meta bytes a t) r
first_cell meta bytes a t start rows r place within many f =
    subst (λ (u : ℕ). start ≡ table_start bytes u → start + rows * row_width (sizes_of bytes) u ≤ length bytes → rows ≤ rows_in bytes u → IsFirstIn meta (sizes_of bytes) a u (table_in bytes (sizes_of bytes) start u rows) rows r → First (BrokenIn meta bytes a u) r)
    f.table_is (λ p w m g. first_cell_at meta bytes a start rows r p w m g) place within many f

-- no refusal of the table, where no cell breaks a rule and all rows lie in the stream
pub none_in_table : (meta bytes : List ℕ) (a t start rows : ℕ) → start ≡ table_start bytes t → start + rows * row_width (sizes_of bytes) t ≤ length bytes → rows ≡ rows_in bytes t
    → AreClean meta (sizes_of bytes) t (table_in bytes (sizes_of bytes) start t rows) rows → NoneBroken (BrokenIn meta bytes a t)
none_in_table meta bytes a t start rows place within many clean q h =
    let above : 1 ≤ q.row = h.broken.place.0 in
    let in_rows : q.row ≤ rows_in bytes t = subst (λ (u : ℕ). q.row ≤ rows_in bytes u) h.table_is h.broken.place.1 in
    let yes = shown_in meta bytes a start rows t q place within h (omega (arith, in_rows, many)) in
    let no = clean (q.row - 1) (omega (arith, above, in_rows, many)) q.at (subst (λ (u : ℕ). q.at < length (columns_of u)) h.table_is h.broken.place.2) in
    let clash : None ≡ Some yes.rule = sym no ∙ yes.shown in absurd cc

rule_late : (meta bytes : List ℕ) (r : Refusal) → IsCut bytes r ⊎ (NamesNothing meta bytes r ⊎ Falls bytes r) → 9 ≤ rule_number r.rule
rule_late meta bytes r (inl cut) = let e : rule_number r.rule ≡ 9 = ap rule_number cut.0 in omega arith
rule_late meta bytes r (inr (inl names)) =
    let e : rule_number r.rule ≡ rule_number (naming_rule (kind_of r.table r.at)) = ap rule_number names.0 in
    let late = naming_late (kind_of r.table r.at) in omega (arith, e, late)
rule_late meta bytes r (inr (inr falls)) = let e : rule_number r.rule ≡ 11 = ap rule_number falls.0 in omega arith

no_width : (s : Sizes) (t : ℕ) → length (columns_of t) ≡ 0 → row_width s t ≡ 0
no_width s t e = ap (λ (ks : List Column). sum_by (width_of s) ks) (nil_from_length (columns_of t) e)

-- the first refusal of a table whose other rows don't lie in the stream
pub first_cut : (meta bytes : List ℕ) (a t start rows : ℕ) (r : Refusal) → start ≡ table_start bytes t → start + rows * row_width (sizes_of bytes) t ≤ length bytes → rows < rows_in bytes t
    → length bytes < start + (rows + 1) * row_width (sizes_of bytes) t → AreClean meta (sizes_of bytes) t (table_in bytes (sizes_of bytes) start t rows) rows
    → r ≡ record { rule = M4; assembly = a; table = t; row = rows + 1; at = 0 } → First (BrokenIn meta bytes a t) r
first_cut meta bytes a t start rows r place within more past clean e = subst (First (BrokenIn meta bytes a t)) (sym e) first
  where
    cut : Refusal
    cut = record { rule = M4; assembly = a; table = t; row = rows + 1; at = 0 }

    some_columns : 0 < length (columns_of t)
    some_columns = elim (cases_lt 0 (length (columns_of t))) [
      | inl lt ↦ lt
      | inr le ↦ let z : row_width (sizes_of bytes) t ≡ 0 = no_width (sizes_of bytes) t (omega arith) in
          let p : (rows + 1) * row_width (sizes_of bytes) t ≡ (rows + 1) * 0 = ap (λ (w : ℕ). (rows + 1) * w) z in
          absurd (omega (arith, p, past, within))
    ]

    row : (q : Refusal) (h : BrokenIn meta bytes a t q) → rows + 1 ≤ q.row
    row q h = elim (cases_lt q.row (rows + 1)) [
      | inl lt ↦
          let above : 1 ≤ q.row = h.broken.place.0 in
          let yes = shown_in meta bytes a start rows t q place within h (omega arith) in
          let no = clean (q.row - 1) (omega (arith, above, lt)) q.at (subst (λ (u : ℕ). q.at < length (columns_of u)) h.table_is h.broken.place.2) in
          let clash : None ≡ Some yes.rule = sym no ∙ yes.shown in absurd cc
      | inr le ↦ le
    ]

    first : First (BrokenIn meta bytes a t) (record { rule = M4; assembly = a; table = t; row = rows + 1; at = 0 })
    first = record {
      broken = record {
        table_is = refl;
        broken = record {
          assembly_is = refl;
          place = (omega arith, omega (arith, more), some_columns);
          breaks = inl (refl, refl, omega (arith, past, place));
        };
      };
      none_before = λ q h. not_before meta bytes a t q (record { rule = M4; assembly = a; table = t; row = rows + 1; at = 0 }) h refl refl (row q h) (λ _. omega arith) (λ _ _. rule_late meta bytes q h.broken.breaks);
    }
