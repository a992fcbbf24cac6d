-- The first row whose body is refused is the first refusal of an assembly; the bodies as the program of a set has them.
use Rattle.std.proofs.Common.{◌≡◌, ◌∙◌, ◌≤◌, ◌<◌, refl, sym, subst, ap, arith, rules, inl, inr, ℕ, ◌+◌, ◌-◌, Bool, true, false, List, [], ◌∷◌, ◌++◌, length, get_or, Option, Some, None, Result, Ok, Err}
use Rattle.std.specs.Prelude.{IfSome, nat_le, option_map, position, is_none, if◌then◌else◌}
use Rattle.std.proofs.lemmas.List.{length-append, get_or-append_right, get_or_append_left}
use Rattle.cil_base.specs.declared.rule.Rule.{Rule}
use Rattle.cil_base.specs.declared.rule.Rule.TheVariants.{I3, I5}
use Rattle.cil_base.specs.declared.tables.TheConstants.{METHOD_DEF}
use Rattle.cil_base.specs.declared.refusal.Place.{Place}
use Rattle.cil_base.specs.declared.refusal.Refusal.{Refusal}
use Rattle.cil_base.specs.declared.refusal.Fault.{Fault}
use Rattle.cil_base.specs.declared.refusal.Fault.TheVariants.{Refused, Memory}
use Rattle.cil_base.specs.Refusals.{refusal, key, is_less, First, IfRefused, OnRefused, NoneBroken}
use Rattle.cil_base.specs.Rules.{rule_number}
use Rattle.cil_base.proofs.RefusalLaws.{not_less, less_refl}
use Rattle.cil_model.specs.declared.body.Body.{Body}
use Rattle.cil_model.specs.declared.body.Instr.{Instr}
use Rattle.cil_model.specs.declared.layout.RawClause.{RawClause}
use Rattle.cil_model.specs.declared.layout.Layout.{Layout}
use Rattle.cil_model.specs.BodyOf.{IsFault, target_fault, map_all, region_of, with_indexes}
use Rattle.cil_model.specs.BodyLayout.{code_of}
use Rattle.cil_model.specs.ValidBody.{IsValid}
use Rattle.set_rows.specs.Sets.{Assembly, Assemblies, assembly_at, count_in}
use Rattle.method_bodies.specs.Bodies.{FaultAt, IsBodyAt}
use Rattle.method_bodies.specs.Rows.{AreBodies, HasCode, RowFault, code_in, method_place, rva_of}

-- ---- each refusal of a body is at its place

abbrev pub IsNamed : Place → Refusal → Type 0
IsNamed place r = (rule : Rule) × (at : ℕ) × (r ≡ refusal rule place at)

named_target : (place : Place) (offsets : List ℕ) (size : ℕ) (clauses : List RawClause) (raw : List Instr) (r : Refusal) → target_fault place offsets size clauses raw ≡ Some r → IsNamed place r
named_target place offsets size clauses raw r h = go (is_none (map_all (region_of offsets size) clauses)) (position (λ (i : Instr). is_none (with_indexes offsets i)) raw) h
  where
    go : (b : Bool) (o : Option ℕ) → (if b then Some (refusal I3 place 0) else option_map (λ k. refusal I3 place (get_or offsets k 0)) o) ≡ Some r → IsNamed place r
    go true o e = let q : r ≡ refusal I3 place 0 = cc in (I3, 0, q)
    go false (Some k) e = let q : r ≡ refusal I3 place (get_or offsets k 0) = cc in (I3, get_or offsets k 0, q)
    go false None e = absurd cc

named_code : (place : Place) (layout : Layout) (code : List ℕ) (r : Refusal) → IsFault place layout code r → IsNamed place r
named_code place layout code r (inl f) = (f.rule, f.at, f.is)
named_code place layout code r (inr f) = named_target place f.offsets layout.header.code_size layout.clauses f.raw r f.first

pub named : (image : List ℕ) (place : Place) (rva : ℕ) (r : Refusal) → FaultAt image place rva r → IsNamed place r
named image place rva r (some, inl f) = (I5, 0, f.1)
named image place rva r (some, inr f) = named_code place f.layout (code_of f.bytes f.layout.header) r f.fault

-- A later row's refusal doesn't come first.
later_row : (a row other : ℕ) (r s : Refusal) → IsNamed (method_place a row) r → IsNamed (method_place a other) s → row < other → is_less (key s) (key r) ≡ false
later_row a row other r s (p, m, e) (q, n, f) less =
    subst (λ (x : Refusal). is_less (key x) (key r) ≡ false) (sym f) (subst (λ (x : Refusal). is_less (key (refusal q (method_place a other) n)) (key x) ≡ false) (sym e) at_rows)
  where
    at_rows : is_less (key (refusal q (method_place a other) n)) (key (refusal p (method_place a row) m)) ≡ false
    at_rows =
        not_less a a (METHOD_DEF ∷ other ∷ n ∷ rule_number q ∷ []) (METHOD_DEF ∷ row ∷ m ∷ rule_number p ∷ []) (omega arith)
        (λ e. not_less METHOD_DEF METHOD_DEF (other ∷ n ∷ rule_number q ∷ []) (row ∷ m ∷ rule_number p ∷ []) (omega arith)
        (λ g. not_less other row (n ∷ rule_number q ∷ []) (m ∷ rule_number p ∷ []) (omega (arith, less)) (λ same. absurd (omega (arith, less, same)))))

-- ---- the rows so far

pub record SoFar (x : Assembly) (image : List ℕ) (a k : ℕ) (bodies : List (Option Body)) : Type 0 where
  pub count : length bodies ≡ k
  pub rows : (row : ℕ) → 1 ≤ row → row ≤ k → IsBodyAt image a (rva_of x row) (get_or bodies (row - 1) None)
  pub valid : (row : ℕ) → 1 ≤ row → row ≤ k → IfSome (get_or bodies (row - 1) None) (IsValid a)
  pub none : (row : ℕ) → 1 ≤ row → row ≤ k → (r : Refusal) → FaultAt image (method_place a row) (rva_of x row) r → ⊥

pub none_yet : (x : Assembly) (image : List ℕ) (a : ℕ) → SoFar x image a 0 []
none_yet x image a = record {
  count = refl;
  rows = λ row low high. absurd (omega (arith, low, high));
  valid = λ row low high. absurd (omega (arith, low, high));
  none = λ row low high. absurd (omega (arith, low, high));
}

module _ (x : Assembly) (image : List ℕ) (a k : ℕ) (bodies : List (Option Body)) (h : SoFar x image a k bodies) where
  -- the last row, or one before it
  by_row : (P : ℕ → Type 0) → P (k + 1) → ((row : ℕ) → 1 ≤ row → row ≤ k → P row) → (row : ℕ) → 1 ≤ row → row ≤ k + 1 → P row
  by_row P last before row low high = go (nat_le row k) refl
    where
      go : (b : Bool) → nat_le row k ≡ b → P row
      go true e = before row low (search (rules, e))
      go false e =
          let over : k < row = search (rules, e) in
          let same : k + 1 ≡ row = omega (arith, over, high) in
          subst P same last

  pub one_more : (bodies' : List (Option Body)) (body : Option Body) → bodies' ≡ bodies ++ body ∷ [] → IsBodyAt image a (rva_of x (k + 1)) body → IfSome body (IsValid a) → ((r : Refusal) → FaultAt image (method_place a (k + 1)) (rva_of x (k + 1)) r → ⊥) → SoFar x image a (k + 1) bodies'
  one_more bodies' body e stands valid none = record {
    count = ap length e ∙ length-append bodies (body ∷ []) ∙ ap (λ (n : ℕ). n + 1) h.count;
    rows = by_row (λ row. IsBodyAt image a (rva_of x row) (get_or bodies' (row - 1) None)) last before;
    valid = by_row (λ row. IfSome (get_or bodies' (row - 1) None) (IsValid a)) (subst (λ (o : Option Body). IfSome o (IsValid a)) (sym at_end) valid)
        (λ row low high. subst (λ (o : Option Body). IfSome o (IsValid a)) (kept row low high) (h.valid row low high));
    none = by_row (λ row. (r : Refusal) → FaultAt image (method_place a row) (rva_of x row) r → ⊥) none h.none;
  }
    where
      at_end : get_or bodies' ((k + 1) - 1) None ≡ body
      at_end =
          let here : ((k + 1) - 1) - k ≡ 0 = omega arith in
          ap (λ (l : List (Option Body)). get_or l ((k + 1) - 1) None) e ∙ get_or-append_right bodies (body ∷ []) k ((k + 1) - 1) None h.count (omega arith)
          ∙ ap (λ (j : ℕ). get_or (body ∷ []) j None) here

      last : IsBodyAt image a (rva_of x (k + 1)) (get_or bodies' ((k + 1) - 1) None)
      last = subst (IsBodyAt image a (rva_of x (k + 1))) (sym at_end) stands

      kept : (row : ℕ) → 1 ≤ row → row ≤ k → get_or bodies (row - 1) None ≡ get_or bodies' (row - 1) None
      kept row low high = let within : row - 1 < length bodies = omega (arith, low, high, h.count) in sym (ap (λ (l : List (Option Body)). get_or l (row - 1) None) e ∙ get_or_append_left bodies (body ∷ []) None (row - 1) within)

      before : (row : ℕ) → 1 ≤ row → row ≤ k → IsBodyAt image a (rva_of x row) (get_or bodies' (row - 1) None)
      before row low high = subst (IsBodyAt image a (rva_of x row)) (kept row low high) (h.rows row low high)

  pub all_rows : k ≡ count_in x METHOD_DEF → AreBodies x image a bodies
  all_rows e = record { count = h.count ∙ e; rows = λ row low high. h.rows row low (omega (arith, high, e)); valid = λ row low high. h.valid row low (omega (arith, high, e)) }

  pub none_of_rows : k ≡ count_in x METHOD_DEF → NoneBroken (RowFault x image a)
  none_of_rows e = λ r f. h.none f.row f.low (omega (arith, f.high, e)) r f.fault

  pub first_row : (r : Refusal) → k < count_in x METHOD_DEF → FaultAt image (method_place a (k + 1)) (rva_of x (k + 1)) r → ((s : Refusal) → FaultAt image (method_place a (k + 1)) (rva_of x (k + 1)) s → s ≡ r) → First (RowFault x image a) r
  first_row r within fault one = record {
    broken = record { row = k + 1; low = omega arith; high = omega (arith, within); fault = fault };
    none_before = λ s f. go s f (nat_le f.row (k + 1)) refl;
  }
    where
      at_or_before : (s : Refusal) (row : ℕ) → 1 ≤ row → row ≤ k + 1 → FaultAt image (method_place a row) (rva_of x row) s → is_less (key s) (key r) ≡ false
      at_or_before s = by_row (λ row. FaultAt image (method_place a row) (rva_of x row) s → is_less (key s) (key r) ≡ false)
          (λ g. subst (λ (y : Refusal). is_less (key y) (key r) ≡ false) (sym (one s g)) (less_refl (key r)))
          (λ row low high g. absurd (h.none row low high s g))

      go : (s : Refusal) → (f : RowFault x image a s) → (b : Bool) → nat_le f.row (k + 1) ≡ b → is_less (key s) (key r) ≡ false
      go s f true e = at_or_before s f.row f.low (search (rules, e)) f.fault
      go s f false e =
          let over : k + 1 < f.row = search (rules, e) in
          later_row a (k + 1) f.row r s (named image (method_place a (k + 1)) (rva_of x (k + 1)) r fault) (named image (method_place a f.row) (rva_of x f.row) s f.fault) over

  -- the same of what a call answers
  pub refused_row : (result : Result (Option Body) Fault) (fault : Fault) → result ≡ Err fault → k < count_in x METHOD_DEF
      → OnRefused result (FaultAt image (method_place a (k + 1)) (rva_of x (k + 1)))
      → OnRefused result (λ r. (s : Refusal) → FaultAt image (method_place a (k + 1)) (rva_of x (k + 1)) s → s ≡ r)
      → IfRefused fault (First (RowFault x image a))
  refused_row (Ok body) fault e within broken one = absurd cc
  refused_row (Err (Refused r)) (Refused r') e within broken one = let same : r ≡ r' = cc in subst (First (RowFault x image a)) same (first_row r within broken one)
  refused_row (Err (Refused r)) (Memory m) e within broken one = tt
  refused_row (Err (Memory m)) (Refused r') e within broken one = absurd cc
  refused_row (Err (Memory m)) (Memory n) e within broken one = tt

-- ---- as the program of a set has them

pub has_code : (s : Assemblies) (a rva : ℕ) (body : Option Body) → IsBodyAt (assembly_at s a).bytes a rva body → HasCode (code_in s a) a rva body
has_code s a rva None h = h
has_code s a rva (Some body) h = (h.0, (h.1.bytes, h.1.len, h.1.there, h.1.stands))
