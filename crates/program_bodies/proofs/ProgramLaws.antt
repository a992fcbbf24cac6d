-- The methods of the program of a set with the bodies of its rows are those of a program that holds them.
use Rattle.std.proofs.Common.{◌≡◌, ◌∙◌, sym, ap, refl, subst, arith, rules, ℕ, zero, suc, ◌-◌, ◌≤◌, ◌<◌, List, [], ◌∷◌, length, get_or, Bool, true, false}
use Rattle.std.specs.Prelude.{◌==◌, nat_lt, nat_le, map, slice_get, Option, Some, None, if◌then◌else◌}
use Rattle.cil_base.specs.declared.tables.TheConstants.{METHOD_DEF}
use Rattle.cil_model.specs.declared.body.Body.{Body}
use Rattle.cil_model.specs.declared.program.MethodDesc.{MethodDesc}
use Rattle.cil_model.specs.declared.program.Program.{Program}
use Rattle.row_descriptions.specs.RowDescriptions.{method_row}
use Rattle.set_rows.specs.Sets.{Assembly, Assemblies, no_assembly, assembly_at, count_in, or_zero}
use Rattle.member_table.specs.declared.named.MemberId.{MemberId}
use Rattle.member_table.specs.declared.named.MemberId.TheVariants as id
use Rattle.member_table.specs.Numbers.{member_ids}
use Rattle.descriptions.specs.Descriptions.{method_desc}
use Rattle.descriptions.specs.Programs.{program_of}
use Rattle.descriptions.specs.WholePrograms.{without_body, BodyAt, IsProgramOf}
use Rattle.method_bodies.specs.Rows.{HasCode, code_in, rva_of}
use Rattle.method_bodies.proofs.RowLaws.{has_code}
use Rattle.program_bodies.specs.Filled.{AreSetBodies, EachOnce, HoldsBodies, body_of_cell, body_of_id, body_of_row, filled, given, row_of}
use Rattle.program_bodies.proofs.FilledLaws.{Bodies}
use Rattle.program_bodies.proofs.TakenLaws.{nothing_past, no_bodies}
use Rattle.program_bodies.proofs.OnceLaws.{as_row, row_of_desc, rows_once}

-- ---- past the end of a list

none_past : (xs : List ℕ) (k : ℕ) → length xs ≤ k → or_zero (slice_get xs k) ≡ 0
none_past [] zero h = refl
none_past [] (suc k) h = refl
none_past (x ∷ xs) zero h = absurd (omega (arith, h))
none_past (x ∷ xs) (suc k) h = let low : length xs ≤ k = omega (arith, h) in none_past xs k low

by_row : (b : Bool) (o : Option ℕ) → or_zero o ≡ 0 → or_zero (if b then None else o) ≡ 0
by_row true o h = refl
by_row false o h = h

-- A row that isn't there has the RVA 0.
pub no_rva : (x : Assembly) (row : ℕ) → count_in x METHOD_DEF < row → rva_of x row ≡ 0
no_rva x row h =
    let past : count_in x METHOD_DEF ≤ row - 1 = omega (arith, h) in
    by_row (row == 0) (slice_get (get_or (get_or x.tables METHOD_DEF []) 0 []) (row - 1)) (none_past (get_or (get_or x.tables METHOD_DEF []) 0 []) (row - 1) past)

pub no_row : (x : Assembly) (row : ℕ) → (row == 0) ≡ true → rva_of x row ≡ 0
no_row x row e = ap (λ (b : Bool). or_zero (if b then None else slice_get (get_or (get_or x.tables METHOD_DEF []) 0 []) (row - 1))) e

pub none_without : (a : ℕ) → count_in no_assembly METHOD_DEF ≡ 0
unfolding no_assembly
none_without a = refl

-- ---- one method

coded : (s : Assemblies) (a row : ℕ) (o : Option Body) → HasCode (code_in s a) a (rva_of (assembly_at s a) row) o → BodyAt (code_in s) s (id.Row a row) o
coded s a row None h = h
coded s a row (Some body) h = h

module _ (s : Assemblies) (bs : Bodies) (are : AreSetBodies s bs) where
  body_there : (a row : ℕ) → a < length s → 1 ≤ row → row ≤ count_in (assembly_at s a) METHOD_DEF → BodyAt (code_in s) s (id.Row a row) (get_or (get_or bs a []) (row - 1) None)
  body_there a row h low high =
      coded s a row (get_or (get_or bs a []) (row - 1) None) (has_code s a (rva_of (assembly_at s a) row) (get_or (get_or bs a []) (row - 1) None) ((are.each a h).rows row low high))

  -- a row that isn't there
  nothing_there : (a row : ℕ) → get_or (get_or bs a []) (row - 1) None ≡ None → count_in (assembly_at s a) METHOD_DEF < row → BodyAt (code_in s) s (id.Row a row) (get_or (get_or bs a []) (row - 1) None)
  nothing_there a row none past = subst (BodyAt (code_in s) s (id.Row a row)) (sym none) (no_rva (assembly_at s a) row past)

  in_assembly : (a row : ℕ) → a < length s → 1 ≤ row → (b : Bool) → nat_le row (count_in (assembly_at s a) METHOD_DEF) ≡ b → BodyAt (code_in s) s (id.Row a row) (get_or (get_or bs a []) (row - 1) None)
  in_assembly a row h low true e = let high : row ≤ count_in (assembly_at s a) METHOD_DEF = search (rules, e) in body_there a row h low high
  in_assembly a row h low false e =
      let past : count_in (assembly_at s a) METHOD_DEF < row = search (rules, e) in
      let count : length (get_or bs a []) ≡ count_in (assembly_at s a) METHOD_DEF = (are.each a h).count in
      let end : length (get_or bs a []) ≤ row - 1 = omega (arith, count, past) in
      nothing_there a row (nothing_past (get_or bs a []) (row - 1) None end) past

  in_set : (a row : ℕ) → 1 ≤ row → (b : Bool) → nat_lt a (length s) ≡ b → BodyAt (code_in s) s (id.Row a row) (get_or (get_or bs a []) (row - 1) None)
  in_set a row low true e = let h : a < length s = search (rules, e) in in_assembly a row h low (nat_le row (count_in (assembly_at s a) METHOD_DEF)) refl
  in_set a row low false e =
      let past : length s ≤ a = search (rules, e) in
      let end : length bs ≤ a = omega (arith, are.count, past) in
      let none : get_or bs a [] ≡ [] = nothing_past bs a [] end in
      let nowhere : count_in (assembly_at s a) METHOD_DEF ≡ 0 = ap (λ (x : Assembly). count_in x METHOD_DEF) (nothing_past s a no_assembly past) ∙ none_without a in
      let empty : length no_bodies ≤ row - 1 = omega arith in
      nothing_there a row (ap (λ (l : List (Option Body)). get_or l (row - 1) None) none ∙ nothing_past no_bodies (row - 1) None empty) (omega (arith, nowhere, low))

  of_row : (a row : ℕ) → BodyAt (code_in s) s (id.Row a row) (body_of_row (get_or bs a []) row)
  of_row a row = go (row == 0) refl
    where
      isnt : (row == 0) ≡ false → row ≡ 0 → ⊥
      isnt e f = search (rules, e, f)

      go : (b : Bool) → (row == 0) ≡ b → BodyAt (code_in s) s (id.Row a row) (if b then None else get_or (get_or bs a []) (row - 1) None)
      go true e = no_row (assembly_at s a) row e
      go false e =
          let some : row ≡ 0 → ⊥ = isnt e in
          let low : 1 ≤ row = omega (arith, some) in
          in_set a row low (nat_lt a (length s)) refl

  -- a description gets just its body
  body_of_given : (m : MemberId) (o : Option Body) → (given (method_desc s m) o).body ≡ o
  unfolding method_row
  body_of_given (id.Row a row) None = refl
  body_of_given (id.Row a row) (Some body) = refl
  body_of_given (id.Outside m) None = refl
  body_of_given (id.Outside m) (Some body) = refl

  body_of_member : (m : MemberId) → BodyAt (code_in s) s m (body_of_cell bs (as_row m))
  body_of_member (id.Row a row) = of_row a row
  body_of_member (id.Outside m) = refl

  body_of_method : (m : MemberId) → BodyAt (code_in s) s m (given (method_desc s m) (body_of_cell bs (row_of (method_desc s m)))).body
  body_of_method m =
      let body : (given (method_desc s m) (body_of_cell bs (row_of (method_desc s m)))).body ≡ body_of_cell bs (as_row m) =
      body_of_given m (body_of_cell bs (row_of (method_desc s m))) ∙ ap (body_of_cell bs) (row_of_desc s m) in
      subst (BodyAt (code_in s) s m) (sym body) (body_of_member m)

  without_given : (m : MemberId) (o : Option Body) → without_body (given (method_desc s m) o) ≡ method_desc s m
  unfolding method_row
  without_given (id.Row a row) None = refl
  without_given (id.Row a row) (Some body) = refl
  without_given (id.Outside m) None = refl
  without_given (id.Outside m) (Some body) = refl

  -- ---- all methods

  without_all : (ids : List MemberId) → map without_body (filled bs (map (method_desc s) ids)) ≡ map (method_desc s) ids
  without_all [] = refl
  without_all (m ∷ ids) =
      ap (λ (d : MethodDesc). d ∷ map without_body (filled bs (map (method_desc s) ids))) (without_given m (body_of_cell bs (row_of (method_desc s m))))
      ∙ ap (λ (l : List MethodDesc). method_desc s m ∷ l) (without_all ids)

  bodies_all : (ids : List MemberId) (k : ℕ) (m : MemberId) (d : MethodDesc) → slice_get ids k ≡ Some m → slice_get (filled bs (map (method_desc s) ids)) k ≡ Some d → BodyAt (code_in s) s m d.body
  bodies_all [] k m d e g = absurd cc
  bodies_all (n ∷ ids) zero m d e g =
      let same : n ≡ m = cc in
      let is : given (method_desc s n) (body_of_cell bs (row_of (method_desc s n))) ≡ d = cc in
      subst (λ (f : MethodDesc). BodyAt (code_in s) s m f.body) is (subst (λ (j : MemberId). BodyAt (code_in s) s j (given (method_desc s n) (body_of_cell bs (row_of (method_desc s n)))).body) same (body_of_method n))
  bodies_all (n ∷ ids) (suc k) m d e g = bodies_all ids k m d e g

  filled_program : IsProgramOf (code_in s) s (record (program_of s) { methods = filled bs (program_of s).methods })
  unfolding program_of
  filled_program = record {
    program = ap (λ (ds : List MethodDesc). record (program_of s) { methods = ds }) (without_all (member_ids s false));
    bodies = λ k m d e g. bodies_all (member_ids s false) k m d e g;
  }

once_of : (s : Assemblies) → 0 < length s → EachOnce (map row_of (program_of s).methods)
unfolding program_of
once_of s h = rows_once s h

pub with_bodies : (s : Assemblies) (bs : Bodies) (p : Program) (ds : List MethodDesc) → 0 < length s → p ≡ program_of s → AreSetBodies s bs
    → (EachOnce (map row_of p.methods) → ds ≡ filled bs p.methods) → IsProgramOf (code_in s) s (record p { methods = ds })
with_bodies s bs p ds some is are full =
    let once : EachOnce (map row_of p.methods) = subst (λ (q : Program). EachOnce (map row_of q.methods)) (sym is) (once_of s some) in
    subst (λ (l : List MethodDesc). IsProgramOf (code_in s) s (record p { methods = l })) (sym (full once))
    (subst (λ (q : Program). IsProgramOf (code_in s) s (record q { methods = filled bs q.methods })) (sym is) (filled_program s bs are))

-- ---- which body each method has

module _ (s : Assemblies) (bs : Bodies) where
  given_body : (m : MemberId) (o : Option Body) → (given (method_desc s m) o).body ≡ o
  unfolding method_row
  given_body (id.Row a row) None = refl
  given_body (id.Row a row) (Some body) = refl
  given_body (id.Outside m) None = refl
  given_body (id.Outside m) (Some body) = refl

  by_id : (m : MemberId) → body_of_cell bs (as_row m) ≡ body_of_id bs m
  by_id (id.Row a row) = refl
  by_id (id.Outside m) = refl

  held_one : (m : MemberId) → (given (method_desc s m) (body_of_cell bs (row_of (method_desc s m)))).body ≡ body_of_id bs m
  held_one m = given_body m (body_of_cell bs (row_of (method_desc s m))) ∙ ap (body_of_cell bs) (row_of_desc s m) ∙ by_id m

  held_all : (ids : List MemberId) (k : ℕ) (m : MemberId) (d : MethodDesc) → slice_get ids k ≡ Some m → slice_get (filled bs (map (method_desc s) ids)) k ≡ Some d → d.body ≡ body_of_id bs m
  held_all [] k m d e g = absurd cc
  held_all (n ∷ ids) zero m d e g =
      let same : n ≡ m = cc in
      let is : given (method_desc s n) (body_of_cell bs (row_of (method_desc s n))) ≡ d = cc in
      sym (ap (λ (f : MethodDesc). f.body) is) ∙ held_one n ∙ ap (body_of_id bs) same
  held_all (n ∷ ids) (suc k) m d e g = held_all ids k m d e g

  held : (ds : List MethodDesc) → ds ≡ filled bs (program_of s).methods → HoldsBodies s bs (record (program_of s) { methods = ds })
  unfolding program_of
  held ds e = λ k m d there at. held_all (member_ids s false) k m d there (sym (ap (λ (l : List MethodDesc). slice_get l k) e) ∙ at)

pub held_bodies : (s : Assemblies) (bs : Bodies) (p : Program) (ds : List MethodDesc) → 0 < length s → p ≡ program_of s → (EachOnce (map row_of p.methods) → ds ≡ filled bs p.methods) → HoldsBodies s bs (record p { methods = ds })
held_bodies s bs p ds some is full =
    let once : EachOnce (map row_of p.methods) = subst (λ (q : Program). EachOnce (map row_of q.methods)) (sym is) (once_of s some) in
    subst (λ (q : Program). HoldsBodies s bs (record q { methods = ds })) (sym is) (held s bs ds (full once ∙ ap (λ (q : Program). filled bs q.methods) is))
