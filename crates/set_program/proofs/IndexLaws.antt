-- Names by row, and rows by name.
use Rattle.std.proofs.Common.{◌≡◌, ◌∙◌, sym, ap, refl, arith, rules, ℕ, zero, suc, ◌+◌, ◌-◌, ◌≤◌, ◌<◌, List, [], ◌∷◌, ◌++◌, length, get_or, Bool, true, false}
use Rattle.std.specs.Prelude.{cond, map, find, bytes_eq, is_some, option_map, reverse, ◌==◌, ◌&&◌, not, nat_lt, nat_le, Option, Some, None, if◌then◌else◌}
use Rattle.std.specs.List.{range_with_len}
use Rattle.std.specs.Option.{option_or}
use Rattle.std.specs.Map.{lookup}
use Rattle.std.proofs.lemmas.List.Folds.{find-append}
use Rattle.std.proofs.lemmas.List.FromFn.{map-range_with_len_more, get_or-map-range_with_len, length-map-range_with_len}
use Rattle.set_names.specs.Names.{Name, Noted, number_under, noted, is_name, is_under, first_under}
use Rattle.set_rows.specs.Sets.{Assembly, count_in, rows_in, is_row, cell}
use Rattle.set_types.specs.CodedIndexes.{tag, row_of}
use Rattle.set_names.specs.Paths.{path_within, next_in}
use Rattle.set_program.specs.TypeNames.{full_name, path_name, own_name, enclosing, type_named}
use Rattle.set_program.specs.References.{exported_name, exported_named}
use Rattle.set_program.specs.Nesting.{AreOuter, forwarder_name}
use Rattle.set_program.specs.Parts.{IsIndexed}
use Rattle.set_program.proofs.AppendLaws.{fun_same}
use Rattle.cil_base.specs.declared.tables.TheConstants.{EXPORTED_TYPE, TYPE_DEF}

-- ---- full names

pub full_is : (x : Assembly) (outer : List ℕ) (row : ℕ) (path : Option (List ℕ)) → AreOuter x outer → is_row x TYPE_DEF row ≡ true → path ≡ path_within (next_in outer) (length outer) row
    → option_map (λ p. path_name (own_name x TYPE_DEF) (reverse p)) path ≡ full_name x row
unfolding full_name
full_is x outer row path o there e =
    let next : next_in outer ≡ enclosing x = fun_same (next_in outer) (enclosing x) o.rows in
    ap (option_map (λ p. path_name (own_name x TYPE_DEF) (reverse p)))
    (e ∙ ap (λ (n : ℕ). path_within (next_in outer) n row) o.count ∙ ap (λ (f : ℕ → Option ℕ). path_within f (count_in x TYPE_DEF) row) next)
    ∙ ap (λ (b : Bool). if b then option_map (λ p. path_name (own_name x TYPE_DEF) (reverse p)) (path_within (enclosing x) (count_in x TYPE_DEF) row) else None) (sym there)

pub one_more : (f : ℕ → Option Name) (k : ℕ) (names names' : List (Option Name)) (name : Option Name) → names' ≡ names ++ name ∷ [] → name ≡ f (k + 1) → names ≡ map f (range_with_len 1 k) → names' ≡ map f (range_with_len 1 (k + 1))
one_more f k names names' name e n h =
    e ∙ ap (λ (l : List (Option Name)). l ++ name ∷ []) h ∙ ap (λ (o : Option Name). map f (range_with_len 1 k) ++ o ∷ []) n
    ∙ sym (map-range_with_len_more f 1 k (k + 1) (omega arith))

both : (a b : Bool) → a ≡ true → b ≡ true → (a && b) ≡ true
both true b e f = f
both false b e f = e

pub row_there : (x : Assembly) (table k n : ℕ) → n ≡ count_in x table → k < n → is_row x table (k + 1) ≡ true
row_there x table k n e h = both (nat_lt 0 (k + 1)) (nat_le (k + 1) (count_in x table)) (search (rules, h)) (let w : k + 1 ≤ count_in x table = omega (arith, e, h) in search (rules, w))

-- ---- the index of an assembly

find_on : (f g : ℕ → Bool) (a n : ℕ) → ((r : ℕ) → a ≤ r → r < a + n → f r ≡ g r) → find f (range_with_len a n) ≡ find g (range_with_len a n)
find_on f g a zero h = refl
find_on f g a (suc n) h =
    ap (λ (b : Bool). cond b (Some a) (find f (range_with_len (a + 1) n))) (h a (omega arith) (omega arith))
    ∙ ap (cond (g a) (Some a)) (find_on f g (a + 1) n (λ r low high. h r (omega (arith, low)) (omega (arith, high))))

-- the first row of a name is found by the names of all rows
first_found : (f : ℕ → Option Name) (count : ℕ) (name : Name) → first_under (map f (range_with_len 1 count)) name ≡ find (λ row. is_name name (f row)) (range_with_len 1 count)
first_found f count name =
    ap (λ (n : ℕ). find (is_under (map f (range_with_len 1 count)) name) (range_with_len 1 n)) (length-map-range_with_len f 1 count)
    ∙ find_on (is_under (map f (range_with_len 1 count)) name) (λ row. is_name name (f row)) 1 count
    (λ r low high. ap (is_name name) (get_or-map-range_with_len f 1 count (r - 1) r None (omega (arith, low, high)) (omega (arith, low))))

forwarder_test : (x : Assembly) (name : Name) (e : ℕ) → is_name name (forwarder_name x e) ≡ (bytes_eq name (exported_name x e) && (if tag (cell x EXPORTED_TYPE e 4) == 2 then row_of (cell x EXPORTED_TYPE e 4) == 0 else true))
forwarder_test x name e = go (tag (cell x EXPORTED_TYPE e 4) == 2) (row_of (cell x EXPORTED_TYPE e 4) == 0) (bytes_eq name (exported_name x e)) refl
  where
    go : (b c d : Bool) → d ≡ bytes_eq name (exported_name x e) → is_name name (if b && not c then None else Some (exported_name x e)) ≡ (d && (if b then c else true))
    go true true d h = sym h ∙ and_true d
      where
        and_true : (d : Bool) → d ≡ (d && true)
        and_true true = refl
        and_true false = refl
    go true false d h = and_false d
      where
        and_false : (d : Bool) → false ≡ (d && false)
        and_false true = refl
        and_false false = refl
    go false c d h = sym h ∙ and_true d
      where
        and_true : (d : Bool) → d ≡ (d && true)
        and_true true = refl
        and_true false = refl

pub indexed : (x : Assembly) (full keys : List (Option Name)) (types forwarders : Noted) → full ≡ map (full_name x) (rows_in x TYPE_DEF) → keys ≡ map (forwarder_name x) (rows_in x EXPORTED_TYPE)
    → ((name : Name) → number_under types name ≡ first_under full name) → ((name : Name) → number_under forwarders name ≡ first_under keys name) → IsIndexed x full types forwarders
unfolding type_named exported_named
indexed x full keys types forwarders f k t w = record {
  count = ap length f ∙ length-map-range_with_len (full_name x) 1 (count_in x TYPE_DEF);
  names = λ i low. ap (λ (l : List (Option Name)). get_or l i None) f
      ∙ get_or-map-range_with_len (full_name x) 1 (count_in x TYPE_DEF) i (i + 1) None (omega (arith, low, ap length f ∙ length-map-range_with_len (full_name x) 1 (count_in x TYPE_DEF))) (omega arith);
  types_found = λ name. t name ∙ ap (λ (l : List (Option Name)). first_under l name) f ∙ first_found (full_name x) (count_in x TYPE_DEF) name;
  forwarders_found = λ name. w name ∙ ap (λ (l : List (Option Name)). first_under l name) k ∙ first_found (forwarder_name x) (count_in x EXPORTED_TYPE) name
      ∙ ap (λ (g : ℕ → Bool). find g (range_with_len 1 (count_in x EXPORTED_TYPE))) (fun_same (λ e. is_name name (forwarder_name x e)) (λ e. bytes_eq name (exported_name x e) && (if tag (cell x EXPORTED_TYPE e 4) == 2 then row_of (cell x EXPORTED_TYPE e 4) == 0 else true)) (forwarder_test x name));
}
