-- The first row whose body breaks a rule is the first refusal of an assembly, and the first such assembly of a set.
use Rattle.std.proofs.Common.{◌≡◌, ◌∙◌, sym, subst, ap, refl, arith, rules, ℕ, ◌+◌, ◌-◌, ◌<◌, ◌≤◌, Bool, true, false, List, [], ◌∷◌, ◌++◌, length, get_or, Option, Some, None, Result}
use Rattle.std.specs.Prelude.{IfSome, OnOk, nat_lt, nat_le, slice_get, Vec}
use Rattle.std.specs.declared.alloc.Global.{Global}
use Rattle.std.proofs.lemmas.List.{length-append, get_or-append_right, get_or_append_left}
use Rattle.std.proofs.lemmas.Option.{slice_get_within}
use Rattle.cil_semantics.proofs.FrameLaws.{slice_get_last, slice_get_front}
use Rattle.cil_base.specs.declared.tables.TheConstants.{METHOD_DEF}
use Rattle.cil_base.specs.declared.refusal.Refusal.{Refusal}
use Rattle.cil_base.specs.declared.refusal.Fault.{Fault}
use Rattle.cil_base.specs.Refusals.{key, is_less, First, NoneBroken, OnRefused}
use Rattle.cil_base.specs.Rules.{rule_number}
use Rattle.cil_base.proofs.RefusalLaws.{not_less, OnRefused-weaker}
use Rattle.cil_base.proofs.Small.{on_ok}
use Rattle.cil_model.specs.declared.body.Body.{Body}
use Rattle.cil_model.specs.declared.program.Program.{Program}
use Rattle.cil_model.specs.declared.program.MethodDesc.{MethodDesc}
use Rattle.cil_model.specs.ValidBody.{IsValid}
use Rattle.set_rows.specs.Sets.{Assembly, Assemblies, assembly_at, assembly_of, count_in}
use Rattle.member_table.specs.declared.named.MemberId.TheVariants as id
use Rattle.descriptions.specs.Descriptions.{method_desc}
use Rattle.descriptions.specs.Programs.{program_of}
use Rattle.method_bodies.specs.Bodies.{IsBodyAt}
use Rattle.method_bodies.specs.Plain.{IsPlain}
use Rattle.method_bodies.specs.Rows.{AreBodies, method_place, rva_of}
use Rattle.body_rules.specs.Sets.{AreAllBodies, AreReadBodies, BreaksBodies, FaultInRow, InAssembly, InRow, IsSoundAt}
use Rattle.body_rules.proofs.CodeLaws.{first_of_one}
use Rattle.body_rules.proofs.MethodLaws.{fault_is_one}
use Rattle.body_rules.proofs.PlaceLaws.{IsAt, fault_at}

-- ---- one row

module _ (s : Assemblies) (a row : ℕ) (there : a < length s) (low : 1 ≤ row) (high : row ≤ count_in (assembly_at s a) METHOD_DEF) where
  one : (r q : Refusal) → FaultInRow s a row r → FaultInRow s a row q → q ≡ r
  one r q f g = fault_is_one (assembly_at s a).bytes (method_place a row) (rva_of (assembly_at s a) row) (program_of s) (method_desc s (id.Row a row)) r q f g

  in_row : (r : Refusal) → FaultInRow s a row r → InRow s a row r
  in_row r f =
      let at : IsAt (method_place a row) r = fault_at (assembly_at s a).bytes (method_place a row) (rva_of (assembly_at s a) row) (program_of s) (method_desc s (id.Row a row)) r f in
      let moved : FaultInRow s r.assembly r.row r = subst (λ (x : ℕ). FaultInRow s x r.row r) (sym at.assembly) (subst (λ (x : ℕ). FaultInRow s a x r) (sym at.row) f) in
      let within : r.row ≤ count_in (assembly_at s r.assembly) METHOD_DEF = subst (λ (x : ℕ). r.row ≤ count_in (assembly_at s x) METHOD_DEF) (sym at.assembly) (subst (λ (x : ℕ). x ≤ count_in (assembly_at s a) METHOD_DEF) (sym at.row) high) in (
        (
          record {
            assembly_there = subst (λ (x : ℕ). x < length s) (sym at.assembly) there;
            table = at.table;
            low = subst (λ (x : ℕ). 1 ≤ x) (sym at.row) low;
            high = within;
            fault = moved;
          },
          at.assembly,
        ),
        at.row,
      )

  of_row : (r : Refusal) → InRow s a row r → FaultInRow s a row r
  of_row r h = subst (λ (x : ℕ). FaultInRow s x row r) h.0.1 (subst (λ (x : ℕ). FaultInRow s r.assembly x r) h.1 h.0.0.fault)

  pub row_right : NoneBroken (FaultInRow s a row) → NoneBroken (InRow s a row)
  row_right none = λ r h. none r (of_row r h)

  pub row_wrong : (r : Refusal) → FaultInRow s a row r → First (InRow s a row) r
  row_wrong r f = first_of_one (InRow s a row) r (in_row r f) (λ q h. one r q f (of_row q h))

  -- the same of what a call answers
  pub row_accepted : (r : Result (Option Body) Fault) → OnOk r (NoneBroken (FaultInRow s a row)) → OnOk r (NoneBroken (InRow s a row))
  row_accepted r h = on_ok r row_right h

  pub row_refused : (r : Result (Option Body) Fault) → OnRefused r (FaultInRow s a row) → OnRefused r (First (InRow s a row))
  row_refused r h = OnRefused-weaker r (FaultInRow s a row) (First (InRow s a row)) row_wrong h

  -- what is said of an assembly, a program and a method that are those of the row
  pub moved : (Q : List ℕ → Assembly → Program → MethodDesc → Type 0) (image : List ℕ) (x : Assembly) (p : Program) (own : MethodDesc)
      → image ≡ (assembly_at s a).bytes → x ≡ assembly_at s a → p ≡ program_of s → own ≡ method_desc s (id.Row a row) → Q image x p own
      → Q (assembly_at s a).bytes (assembly_at s a) (program_of s) (method_desc s (id.Row a row))
  moved Q image x p own e f g h q =
      subst (λ (v : List ℕ). Q v (assembly_at s a) (program_of s) (method_desc s (id.Row a row))) e
      (subst (λ (v : Assembly). Q image v (program_of s) (method_desc s (id.Row a row))) f (subst (λ (v : Program). Q image x v (method_desc s (id.Row a row))) g (subst (Q image x p) h q)))

pub bytes_are : (bytes : List ℕ) → (assembly_of bytes).bytes ≡ bytes
unfolding assembly_of
bytes_are bytes = refl

-- ---- one after another

-- nothing is broken before a step
abbrev pub NoneBelow : (Refusal → Type 0) → (Refusal → ℕ) → ℕ → Type 0
NoneBelow Broken at k = (q : Refusal) → Broken q → at q < k → ⊥

pub none_more : (Broken : Refusal → Type 0) (at : Refusal → ℕ) (k : ℕ) → NoneBelow Broken at k → ((q : Refusal) → (Broken q × (at q ≡ k)) → ⊥) → NoneBelow Broken at (k + 1)
none_more Broken at k before none = λ q h below. go q h below (nat_lt (at q) k) refl
  where
    go : (q : Refusal) → Broken q → at q < k + 1 → (b : Bool) → nat_lt (at q) k ≡ b → ⊥
    go q h below true e = let less : at q < k = search (rules, e) in before q h less
    go q h below false e =
        let from : k ≤ at q = search (rules, e) in
        none q (h, omega (arith, from, below))

-- the first of a step, where nothing is broken before it, and what is broken behind it doesn't come first
pub first_step : (Broken : Refusal → Type 0) (at : Refusal → ℕ) (k : ℕ) (r : Refusal) → NoneBelow Broken at k → ((q : Refusal) → Broken q → k < at q → is_less (key q) (key r) ≡ false) → First (λ q. Broken q × (at q ≡ k)) r → First Broken r
first_step Broken at k r before behind f = record { broken = f.broken.0; none_before = λ q h. go q h (nat_lt (at q) k) (nat_lt k (at q)) refl refl }
  where
    go : (q : Refusal) → Broken q → (b c : Bool) → nat_lt (at q) k ≡ b → nat_lt k (at q) ≡ c → is_less (key q) (key r) ≡ false
    go q h true c e g = let less : at q < k = search (rules, e) in absurd (before q h less)
    go q h false true e g = let more : k < at q = search (rules, g) in behind q h more
    go q h false false e g =
        let from : k ≤ at q = search (rules, e) in
        let to : at q ≤ k = search (rules, g) in
        f.none_before q (h, omega (arith, from, to))

later_row : (r q : Refusal) → q.assembly ≡ r.assembly → q.table ≡ r.table → r.row < q.row → is_less (key q) (key r) ≡ false
later_row r q assembly table more =
    not_less q.assembly r.assembly (q.table ∷ q.row ∷ q.at ∷ rule_number q.rule ∷ []) (r.table ∷ r.row ∷ r.at ∷ rule_number r.rule ∷ []) (omega (arith, assembly))
    (λ e. not_less q.table r.table (q.row ∷ q.at ∷ rule_number q.rule ∷ []) (r.row ∷ r.at ∷ rule_number r.rule ∷ []) (omega (arith, table))
    (λ f. not_less q.row r.row (q.at ∷ rule_number q.rule ∷ []) (r.at ∷ rule_number r.rule ∷ []) (omega (arith, more)) (λ same. absurd (omega (arith, more, same)))))

later_assembly : (r q : Refusal) → r.assembly < q.assembly → is_less (key q) (key r) ≡ false
later_assembly r q more =
    not_less q.assembly r.assembly (q.table ∷ q.row ∷ q.at ∷ rule_number q.rule ∷ []) (r.table ∷ r.row ∷ r.at ∷ rule_number r.rule ∷ []) (omega (arith, more)) (λ same. absurd (omega (arith, more, same)))

-- ---- the rows of an assembly, and the assemblies of a set, that break nothing so far

abbrev pub RowsSoFar : Assemblies → ℕ → ℕ → Type 0
RowsSoFar s a k = NoneBelow (InAssembly s a) (λ r. r.row) (k + 1)

pub no_row_yet : (s : Assemblies) (a : ℕ) → RowsSoFar s a 0
no_row_yet s a = λ q h below. let low = h.0.low in absurd (omega (arith, low, below))

module _ (s : Assemblies) (a k : ℕ) (before : RowsSoFar s a k) where
  pub row_more : NoneBroken (InRow s a (k + 1)) → RowsSoFar s a (k + 1)
  row_more none = none_more (InAssembly s a) (λ r. r.row) (k + 1) before none

  pub no_row : k ≡ count_in (assembly_at s a) METHOD_DEF → NoneBroken (InAssembly s a)
  no_row e = λ r f.
      let high : r.row ≤ count_in (assembly_at s a) METHOD_DEF = subst (λ (x : ℕ). r.row ≤ count_in (assembly_at s x) METHOD_DEF) f.1 f.0.high in
      before r f (omega (arith, high, e))

  pub row_first : (r : Refusal) → First (InRow s a (k + 1)) r → First (InAssembly s a) r
  row_first r f = first_step (InAssembly s a) (λ q. q.row) (k + 1) r before behind f
    where
      behind : (q : Refusal) → InAssembly s a q → k + 1 < q.row → is_less (key q) (key r) ≡ false
      behind q g more =
          let at : r.row ≡ k + 1 = f.broken.1 in
          later_row r q (g.1 ∙ sym f.broken.0.1) (g.0.table ∙ sym f.broken.0.0.table) (omega (arith, more, at))

abbrev pub SetSoFar : Assemblies → ℕ → Type 0
SetSoFar s k = NoneBelow (BreaksBodies s) (λ r. r.assembly) k

pub no_assembly_yet : (s : Assemblies) → SetSoFar s 0
no_assembly_yet s = λ q h below. absurd (omega (arith, below))

module _ (s : Assemblies) (k : ℕ) (before : SetSoFar s k) where
  pub assembly_more : NoneBroken (InAssembly s k) → SetSoFar s (k + 1)
  assembly_more none = none_more (BreaksBodies s) (λ r. r.assembly) k before none

  pub no_assembly : k ≡ length s → NoneBroken (BreaksBodies s)
  no_assembly e = λ r f. let there = f.assembly_there in before r f (omega (arith, there, e))

  pub assembly_first : (r : Refusal) → First (InAssembly s k) r → First (BreaksBodies s) r
  assembly_first r f = first_step (BreaksBodies s) (λ q. q.assembly) k r before behind f
    where
      behind : (q : Refusal) → BreaksBodies s q → k < q.assembly → is_less (key q) (key r) ≡ false
      behind q g more = let at : r.assembly ≡ k = f.broken.1 in later_assembly r q (omega (arith, more, at))

-- ---- the rows of an assembly so far

pub record SoFar (s : Assemblies) (a k : ℕ) (bodies : List (Option Body)) : Type 0 where
  pub count : length bodies ≡ k
  pub rows : (row : ℕ) → 1 ≤ row → row ≤ k → IsBodyAt (assembly_at s a).bytes a (rva_of (assembly_at s a) row) (get_or bodies (row - 1) None)
  pub valid : (row : ℕ) → 1 ≤ row → row ≤ k → IfSome (get_or bodies (row - 1) None) (IsValid a)
  pub plain : (row : ℕ) → 1 ≤ row → row ≤ k → IfSome (get_or bodies (row - 1) None) IsPlain
  pub sound : (row : ℕ) → 1 ≤ row → row ≤ k → IsSoundAt s a row (get_or bodies (row - 1) None)
  pub none : RowsSoFar s a k

pub none_yet : (s : Assemblies) (a : ℕ) → SoFar s a 0 []
none_yet s a = record {
  count = refl;
  rows = λ row low high. absurd (omega (arith, low, high));
  valid = λ row low high. absurd (omega (arith, low, high));
  plain = λ row low high. absurd (omega (arith, low, high));
  sound = λ row low high. absurd (omega (arith, low, high));
  none = no_row_yet s a;
}

module _ (s : Assemblies) (a k : ℕ) (bodies : List (Option Body)) (h : SoFar s a k bodies) where
  -- the last row, or one before it
  by_row : (P : ℕ → Type 0) → P (k + 1) → ((row : ℕ) → 1 ≤ row → row ≤ k → P row) → (row : ℕ) → 1 ≤ row → row ≤ k + 1 → P row
  by_row P last before row low high = go (nat_le row k) refl
    where
      go : (b : Bool) → nat_le row k ≡ b → P row
      go true e = before row low (search (rules, e))
      go false e =
          let over : k < row = search (rules, e) in
          let same : k + 1 ≡ row = omega (arith, over, high) in
          subst P same last

  pub one_more : (bodies' : List (Option Body)) (body : Option Body) → bodies' ≡ bodies ++ body ∷ [] → IsBodyAt (assembly_at s a).bytes a (rva_of (assembly_at s a) (k + 1)) body → IfSome body (IsValid a) → IfSome body IsPlain → IsSoundAt s a (k + 1) body → NoneBroken (InRow s a (k + 1)) → SoFar s a (k + 1) bodies'
  one_more bodies' body e stands valid plain sound none = record {
    count = ap length e ∙ length-append bodies (body ∷ []) ∙ ap (λ (n : ℕ). n + 1) h.count;
    rows = by_row (λ row. IsBodyAt (assembly_at s a).bytes a (rva_of (assembly_at s a) row) (get_or bodies' (row - 1) None)) last before;
    valid = by_row (λ row. IfSome (get_or bodies' (row - 1) None) (IsValid a)) (subst (λ (o : Option Body). IfSome o (IsValid a)) (sym at_end) valid)
        (λ row low high. subst (λ (o : Option Body). IfSome o (IsValid a)) (kept row low high) (h.valid row low high));
    plain = by_row (λ row. IfSome (get_or bodies' (row - 1) None) IsPlain) (subst (λ (o : Option Body). IfSome o IsPlain) (sym at_end) plain)
        (λ row low high. subst (λ (o : Option Body). IfSome o IsPlain) (kept row low high) (h.plain row low high));
    sound = by_row (λ row. IsSoundAt s a row (get_or bodies' (row - 1) None)) (subst (IsSoundAt s a (k + 1)) (sym at_end) sound)
        (λ row low high. subst (IsSoundAt s a row) (kept row low high) (h.sound row low high));
    none = row_more s a k h.none none;
  }
    where
      at_end : get_or bodies' ((k + 1) - 1) None ≡ body
      at_end =
          let here : ((k + 1) - 1) - k ≡ 0 = omega arith in
          ap (λ (l : List (Option Body)). get_or l ((k + 1) - 1) None) e ∙ get_or-append_right bodies (body ∷ []) k ((k + 1) - 1) None h.count (omega arith)
          ∙ ap (λ (j : ℕ). get_or (body ∷ []) j None) here

      last : IsBodyAt (assembly_at s a).bytes a (rva_of (assembly_at s a) (k + 1)) (get_or bodies' ((k + 1) - 1) None)
      last = subst (IsBodyAt (assembly_at s a).bytes a (rva_of (assembly_at s a) (k + 1))) (sym at_end) stands

      kept : (row : ℕ) → 1 ≤ row → row ≤ k → get_or bodies (row - 1) None ≡ get_or bodies' (row - 1) None
      kept row low high = let within : row - 1 < length bodies = omega (arith, low, high, h.count) in sym (ap (λ (l : List (Option Body)). get_or l (row - 1) None) e ∙ get_or_append_left bodies (body ∷ []) None (row - 1) within)

      before : (row : ℕ) → 1 ≤ row → row ≤ k → IsBodyAt (assembly_at s a).bytes a (rva_of (assembly_at s a) row) (get_or bodies' (row - 1) None)
      before row low high = subst (IsBodyAt (assembly_at s a).bytes a (rva_of (assembly_at s a) row)) (kept row low high) (h.rows row low high)

  pub all_rows : k ≡ count_in (assembly_at s a) METHOD_DEF → AreReadBodies s a bodies
  all_rows e = record {
    are = record { count = h.count ∙ e; rows = λ row low high. h.rows row low (omega (arith, high, e)); valid = λ row low high. h.valid row low (omega (arith, high, e)) };
    plain = λ row low high. h.plain row low (omega (arith, high, e));
    sound = λ row low high. h.sound row low (omega (arith, high, e));
  }

  pub none_of_rows : k ≡ count_in (assembly_at s a) METHOD_DEF → NoneBroken (InAssembly s a)
  none_of_rows e = no_row s a k h.none e

  pub first_row : (r : Refusal) → First (InRow s a (k + 1)) r → First (InAssembly s a) r
  first_row r f = row_first s a k h.none r f

-- ---- the assemblies of a set so far

pub record AllSoFar (s : Assemblies) (k : ℕ) (all : List (Vec (Option Body) Global)) : Type 0 where
  pub count : length all ≡ k
  pub each : (a : ℕ) → a < k → (bodies : Vec (Option Body) Global) → slice_get all a ≡ Some bodies → AreReadBodies s a bodies.items
  pub none : SetSoFar s k

pub none_of_set : (s : Assemblies) → AllSoFar s 0 []
none_of_set s = record { count = refl; each = λ a below bodies e. absurd (omega (arith, below)); none = no_assembly_yet s }

module _ (s : Assemblies) (k : ℕ) (all : List (Vec (Option Body) Global)) (h : AllSoFar s k all) where
  some_same : (x y : Vec (Option Body) Global) (o : Option (Vec (Option Body) Global)) → o ≡ Some x → o ≡ Some y → x ≡ y
  some_same x y o e f = let g : let q : Option _ = Some x in q ≡ Some y = sym e ∙ f in cc

  pub one_assembly : (all' : List (Vec (Option Body) Global)) (bodies : Vec (Option Body) Global) → all' ≡ all ++ bodies ∷ [] → AreReadBodies s k bodies.items → NoneBroken (InAssembly s k) → AllSoFar s (k + 1) all'
  one_assembly all' bodies e are none = record {
    count = ap length e ∙ length-append all (bodies ∷ []) ∙ ap (λ (n : ℕ). n + 1) h.count;
    each = λ a below other at. go a below other at (nat_lt a k) refl;
    none = assembly_more s k h.none none;
  }
    where
      go : (a : ℕ) → a < k + 1 → (other : Vec (Option Body) Global) → slice_get all' a ≡ Some other → (b : Bool) → nat_lt a k ≡ b → AreReadBodies s a other.items
      go a below other at true t =
          let less : a < k = search (rules, t) in
          let within : a < length all = omega (arith, less, h.count) in
          h.each a less other (sym (ap (λ (l : List (Vec (Option Body) Global)). slice_get l a) e ∙ slice_get_front all bodies a within) ∙ at)
      go a below other at false t =
          let from : k ≤ a = search (rules, t) in
          let same : k ≡ a = omega (arith, from, below) in
          let here : slice_get all' k ≡ Some bodies = ap (λ (l : List (Vec (Option Body) Global)). slice_get l k) e ∙ ap (slice_get (all ++ bodies ∷ [])) (sym h.count) ∙ slice_get_last all bodies in
          let is : bodies ≡ other = some_same bodies other (slice_get all' k) here (subst (λ (x : ℕ). slice_get all' x ≡ Some other) (sym same) at) in
          subst (λ (x : ℕ). AreReadBodies s x other.items) same (subst (λ (v : Vec (Option Body) Global). AreReadBodies s k v.items) is are)

  pub all_assemblies : k ≡ length s → AreAllBodies s all
  all_assemblies e = record { count = h.count ∙ e; each = λ a bodies at. h.each a (within a bodies at) bodies at }
    where
      within : (a : ℕ) (bodies : Vec (Option Body) Global) → slice_get all a ≡ Some bodies → a < k
      within a bodies at = let inside = slice_get_within all a bodies at in omega (arith, inside, h.count)

  pub none_of_assemblies : k ≡ length s → NoneBroken (BreaksBodies s)
  none_of_assemblies e = no_assembly s k h.none e

  pub first_assembly : (r : Refusal) → First (InAssembly s k) r → First (BreaksBodies s) r
  first_assembly r f = assembly_first s k h.none r f
