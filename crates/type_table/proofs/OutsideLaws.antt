-- Names that are added one after another.
use Rattle.std.proofs.Common.{◌≡◌, ◌∙◌, sym, ap, refl, arith, rules, ℕ, zero, suc, ◌+◌, List, [], ◌∷◌, ◌++◌, length, Bool, true, false}
use Rattle.std.specs.Prelude.{filter, filter_map, flat_map, option_to_list, ◌||◌, Option, Some, None, Result, Ok, Err, OnOk, if◌then◌else◌}
use Rattle.std.specs.List.{range_with_len, cons_option}
use Rattle.std.proofs.lemmas.List.{append-nil}
use Rattle.cil_base.specs.declared.tables.TheConstants.{CUSTOM_ATTRIBUTE, TYPE_REF}
use Rattle.set_program.specs.References.{reference}
use Rattle.type_table.specs.Outside.{outside_by_attributes}
use Rattle.set_names.specs.Names.{Name, is_name}
use Rattle.set_names.specs.Distinct.{distinct}
use Rattle.set_rows.specs.Sets.{Assemblies, assembly_at, count_in}
use Rattle.set_program.specs.Numbering.{outside_name, names_outside, order}
use Rattle.set_program.specs.Attributes.{attribute_name, class_attribute, class_for_attribute, names_type, attribute_type, attribute_outside}
use Rattle.set_program.proofs.NumberLaws.{distinct_split}

-- one name, or none, before the others
pub one_added : (names names' : List Name) (o : Option Name) (more whole : List Name) → names' ≡ distinct names (option_to_list o) → distinct names (cons_option o more) ≡ whole → distinct names' more ≡ whole
one_added names names' None more whole e h = ap (λ (l : List Name). distinct l more) e ∙ h
one_added names names' (Some name) more whole e h = ap (λ (l : List Name). distinct l more) e ∙ h

-- the names of an assembly before those of the others
pub some_added : (names names' front more whole : List Name) → names' ≡ distinct names front → distinct names (front ++ more) ≡ whole → distinct names' more ≡ whole
some_added names names' front more whole e h = ap (λ (l : List Name). distinct l more) e ∙ sym (distinct_split names front more) ∙ h

module _ (f : ℕ → List Name) (whole : List Name) where
  -- the walk over assemblies, TARGET last
  pub walk_on : (names names' : List Name) (a n : ℕ) → names' ≡ distinct names (f a) → distinct names (flat_map f (range_with_len a (suc n)) ++ f 0) ≡ whole → distinct names' (flat_map f (range_with_len (a + 1) n) ++ f 0) ≡ whole
  walk_on names names' a n e h =
      some_added names names' (f a) (flat_map f (range_with_len (a + 1) n) ++ f 0) whole e
      (ap (distinct names) (sym (Rattle.std.proofs.Common.append_assoc (f a) (flat_map f (range_with_len (a + 1) n)) (f 0))) ∙ h)

pub walk_all : (f : ℕ → List Name) (s : Assemblies) (n : ℕ) → 1 + n ≡ length s → flat_map f (range_with_len 1 n) ++ f 0 ≡ flat_map f (order s)
walk_all f [] n e = absurd (omega (arith, e))
walk_all f (x ∷ xs) n e =
    let m : n ≡ length xs = omega (arith, e) in
    ap (λ (k : ℕ). flat_map f (range_with_len 1 k) ++ f 0) m
    ∙ ap (λ (l : List Name). flat_map f (range_with_len 1 (length xs)) ++ l) (sym (append-nil (f 0)))
    ∙ sym (Rattle.std.proofs.lemmas.Grind.flat_map-append f (range_with_len 1 (length xs)) (0 ∷ []))

pub references_all : (s : Assemblies) (a n : ℕ) (names : List Name) → n ≡ count_in (assembly_at s a) TYPE_REF
    → distinct names (filter_map (λ row. outside_name (reference s a row)) (range_with_len 1 n)) ≡ distinct names (names_outside s a)
unfolding names_outside
references_all s a n names e = ap (λ (m : ℕ). distinct names (filter_map (λ row. outside_name (reference s a row)) (range_with_len 1 m))) e

pub attributes_all : (s : Assemblies) (a n : ℕ) (names : List Name) → n ≡ count_in (assembly_at s a) CUSTOM_ATTRIBUTE
    → distinct names (filter_map (λ row. outside_name (attribute_type s a row)) (filter (names_type s a) (range_with_len 1 n))) ≡ distinct names (outside_by_attributes s a)
unfolding outside_by_attributes
attributes_all s a n names e = ap (λ (m : ℕ). distinct names (filter_map (λ row. outside_name (attribute_type s a row)) (filter (names_type s a) (range_with_len 1 m)))) e

-- whether a row's attribute names a type, by the name of its type
pub type_is_named : (s : Assemblies) (a k : ℕ) (o : Option Name) → o ≡ attribute_name s a k → (is_name class_attribute o || is_name class_for_attribute o) ≡ names_type s a k
type_is_named s a k o e = search (rules, e)

-- a row that names a type, or none, before the others
pub row_kept : (test : ℕ → Bool) (f : ℕ → Option Name) (k n : ℕ) (names names' whole : List Name) → test k ≡ true → names' ≡ distinct names (option_to_list (f k))
    → distinct names (filter_map f (filter test (range_with_len k (suc n)))) ≡ whole → distinct names' (filter_map f (filter test (range_with_len (k + 1) n))) ≡ whole
row_kept test f k n names names' whole t e h =
    one_added names names' (f k) (filter_map f (filter test (range_with_len (k + 1) n))) whole e
    (ap (λ (b : Bool). distinct names (filter_map f (if b then k ∷ filter test (range_with_len (k + 1) n) else filter test (range_with_len (k + 1) n)))) (sym t) ∙ h)

pub row_left : (test : ℕ → Bool) (f : ℕ → Option Name) (k n : ℕ) (names whole : List Name) → test k ≡ false
    → distinct names (filter_map f (filter test (range_with_len k (suc n)))) ≡ whole → distinct names (filter_map f (filter test (range_with_len (k + 1) n))) ≡ whole
row_left test f k n names whole t h =
    ap (λ (b : Bool). distinct names (filter_map f (if b then k ∷ filter test (range_with_len (k + 1) n) else filter test (range_with_len (k + 1) n)))) (sym t) ∙ h

pub three_added : (names a b c : List Name) → distinct (distinct (distinct names a) b) c ≡ distinct names (a ++ (b ++ c))
three_added names a b c = sym (distinct_split names a (b ++ c) ∙ distinct_split (distinct names a) b c)

pub last_added : {A E : Type 0} (r : Result A E) (names names' front whole : List Name) → OnOk r (names' ≡ distinct names front) → distinct names front ≡ whole → OnOk r (names' ≡ whole)
last_added (Ok x) names names' front whole h e = h ∙ e
last_added (Err x) names names' front whole h e = tt

pub attributes_walked : (s : Assemblies) → flat_map (outside_by_attributes s) (order s) ≡ attribute_outside s
unfolding outside_by_attributes attribute_outside
attributes_walked s = refl
