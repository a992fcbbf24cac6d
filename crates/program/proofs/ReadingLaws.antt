-- Files that are read one after another.
use Rattle.std.proofs.Common.{◌≡◌, ◌⊎◌, ℕ, zero, suc, ◌+◌, ◌<◌, ◌≤◌, Bool, List, [], ◌∷◌, ◌++◌, length, drop, get_or, Option, Some, Ok, Err, IsTrue, string_bytes, refl, sym, ap, ◌∙◌, subst, inl, inr, arith, add-one}
use Rattle.std.specs.Prelude.{String, slice_get}
use Rattle.std.specs.declared.alloc.Global.{Global}
use Rattle.std.proofs.lemmas.List.{length-append}
use Rattle.cil_base.specs.Causes.{Rose}
use Rattle.cil_base.specs.declared.limits.TheConstants.{FILE_LIMIT, SET_LIMIT}
use Rattle.cil_base.specs.declared.refusal.Refusal.{Refusal}
use Rattle.outside_core.specs.Store.{Files, SameFiles}
use Rattle.command_line.specs.Options.{texts}
use Rattle.set_check.specs.Sets.{bytes_at}
use Rattle.program.specs.Reading.{Reading, Whole, Missing, Passes, behind, of_file, read_from, FileRead, FilesRead}
use Rattle.program.specs.declared.reading.FilesFault.{FilesFault}
use Rattle.program.specs.declared.reading.FilesFault.TheVariants.{Failed, Limit, Memory}

-- with the bytes of files before
abbrev pub all_behind : List (List ℕ) → Reading → Reading
all_behind [] r = r
all_behind (bytes ∷ all) r = behind bytes (all_behind all r)

pub one_behind : (all : List (List ℕ)) (bytes : List ℕ) (r : Reading) → all_behind (all ++ bytes ∷ []) r ≡ all_behind all (behind bytes r)
one_behind [] bytes r = refl
one_behind (x ∷ all) bytes r = ap (behind x) (one_behind all bytes r)

pub whole_behind : (all : List (List ℕ)) → all_behind all (Whole []) ≡ Whole all
whole_behind [] = refl
whole_behind (x ∷ all) = ap (behind x) (whole_behind all)

pub passes_behind : (all : List (List ℕ)) (r : Refusal) → all_behind all (Passes r) ≡ Passes r
passes_behind [] r = refl
passes_behind (x ∷ all) r = ap (behind x) (passes_behind all r)

pub missing_behind : (all : List (List ℕ)) (name : List ℕ) → all_behind all (Missing name) ≡ Missing name
missing_behind [] name = refl
missing_behind (x ∷ all) name = ap (behind x) (missing_behind all name)

-- what is known once so many files were read: of the store, of their bytes, and of what is left
pub record AreSoFar (tells tells' : Bool) (old now : Files) (names : List (List ℕ)) (before count k sum : ℕ) (all : List (List ℕ)) : Type 0 where
  pub tells_same : tells' ≡ tells
  pub same : SameFiles old now
  pub count_is : count ≡ before
  pub many : length all ≡ k
  pub short : (a : ℕ) → length (bytes_at all a) ≤ FILE_LIMIT
  pub within : sum ≤ SET_LIMIT
  pub so_far : IsTrue tells → read_from old 0 0 names ≡ all_behind all (read_from old k sum (drop k names))

-- the name at a place comes first of what is left
pub name_first : (names : List (List ℕ)) (k : ℕ) (name : List ℕ) → slice_get names k ≡ Some name → drop k names ≡ name ∷ drop (suc k) names
name_first [] k name e = absurd cc
name_first (x ∷ names) zero name e = let same : x ≡ name = cc in ap (λ (n : List ℕ). n ∷ names) same
name_first (x ∷ names) (suc k) name e = name_first names k name e

-- the text of a word
pub named_at : (words : List (String Global)) (k : ℕ) (word : String Global) → k < length words → word ≡ get_or words k word → slice_get (texts words) k ≡ Some (string_bytes word)
named_at [] k word l e = absurd (omega (arith, l))
named_at (w ∷ words) zero word l e = ap (λ (x : String Global). Some (string_bytes x)) (sym e)
named_at (w ∷ words) (suc k) word l e = named_at words k word (omega (arith, l)) e

module _ (old : Files) (names : List (List ℕ)) (k sum : ℕ) (name : List ℕ) (here : slice_get names k ≡ Some name) where
  -- what is left is this file and what is behind it
  pub left : read_from old k sum (drop k names) ≡ of_file k sum name (old name) (λ n. read_from old (k + 1) n (drop (k + 1) names))
  left = ap (read_from old k sum) (name_first names k name here) ∙ ap (λ (l : List (List ℕ)). of_file k sum name (old name) (λ n. read_from old (k + 1) n l)) (ap (λ (j : ℕ). drop j names) (sym (add-one k)))

  pub one_more : (all : List (List ℕ)) (bytes : List ℕ) → read_from old 0 0 names ≡ all_behind all (read_from old k sum (drop k names)) → ((rest : ℕ → Reading) → of_file k sum name (old name) rest ≡ behind bytes (rest (sum + length bytes)))
      → read_from old 0 0 names ≡ all_behind (all ++ bytes ∷ []) (read_from old (k + 1) (sum + length bytes) (drop (k + 1) names))
  one_more all bytes e f = e ∙ ap (all_behind all) (left ∙ f (λ n. read_from old (k + 1) n (drop (k + 1) names))) ∙ sym (one_behind all bytes (read_from old (k + 1) (sum + length bytes) (drop (k + 1) names)))

  pub passed : (all : List (List ℕ)) (r : Refusal) → read_from old 0 0 names ≡ all_behind all (read_from old k sum (drop k names)) → ((rest : ℕ → Reading) → of_file k sum name (old name) rest ≡ Passes r) → read_from old 0 0 names ≡ Passes r
  passed all r e f = e ∙ ap (all_behind all) (left ∙ f (λ n. read_from old (k + 1) n (drop (k + 1) names))) ∙ passes_behind all r

  pub missed : (all : List (List ℕ)) → read_from old 0 0 names ≡ all_behind all (read_from old k sum (drop k names)) → ((rest : ℕ → Reading) → of_file k sum name (old name) rest ≡ Missing name) → read_from old 0 0 names ≡ Missing name
  missed all e f = e ∙ ap (all_behind all) (left ∙ f (λ n. read_from old (k + 1) n (drop (k + 1) names))) ∙ missing_behind all name

-- a file more is as short
pub short_more : (all : List (List ℕ)) (bytes : List ℕ) → ((a : ℕ) → length (bytes_at all a) ≤ FILE_LIMIT) → length bytes ≤ FILE_LIMIT → (a : ℕ) → length (bytes_at (all ++ bytes ∷ []) a) ≤ FILE_LIMIT
short_more [] bytes s l zero = l
short_more [] bytes s l (suc a) = omega arith
short_more (x ∷ all) bytes s l zero = s zero
short_more (x ∷ all) bytes s l (suc a) = short_more all bytes (λ b. s (suc b)) l a

-- ---- one file more, and a file that can't be had

pub more : (tells tells' tells'' : Bool) (old mid new : Files) (names : List (List ℕ)) (before count now k sum : ℕ) (all : List (List ℕ)) (name bytes : List ℕ) → AreSoFar tells tells' old mid names before count k sum all → slice_get names k ≡ Some name
    → FileRead tells' (mid name) k sum name count now (Ok bytes) → SameFiles mid new → tells'' ≡ tells' → AreSoFar tells tells'' old new names before now (k + 1) (sum + length bytes) (all ++ bytes ∷ [])
more tells tells' tells'' old mid new names before count now k sum all name bytes h here f same t = record {
  tells_same = t ∙ h.tells_same;
  same = λ n. same n ∙ h.same n;
  count_is = f.0 ∙ h.count_is;
  many = omega (arith, length-append all (bytes ∷ []), h.many);
  short = short_more all bytes h.short f.1;
  within = f.2;
  so_far = λ yes.
      one_more old names k sum name here all bytes (h.so_far yes)
      (λ rest. ap (λ (o : Option (List ℕ)). of_file k sum name o rest) (sym (h.same name)) ∙ f.3 (h.tells_same ∙ yes) rest);
}

pub fault_read : (tells tells' : Bool) (old mid : Files) (names : List (List ℕ)) (before count now k sum : ℕ) (all : List (List ℕ)) (name : List ℕ) (fault : FilesFault) → AreSoFar tells tells' old mid names before count k sum all → slice_get names k ≡ Some name
    → FileRead tells' (mid name) k sum name count now (Err fault) → FilesRead tells old names before now (Err fault)
fault_read tells tells' old mid names before count now k sum all name (Failed named) h here f =
    ((k, here ∙ ap (λ (n : List ℕ). Some n) (sym f.0)), cause f.1)
  where
    cause : Rose count now ⊎ (IsTrue tells' × ((rest : ℕ → Reading) → of_file k sum name (mid name) rest ≡ Missing name)) → Rose before now ⊎ (IsTrue tells × (read_from old 0 0 names ≡ Missing named.now))
    cause (inl rose) = inl (subst (λ (n : ℕ). Rose n now) h.count_is rose)
    cause (inr x) =
        let yes : IsTrue tells = subst IsTrue h.tells_same x.0 in
        inr (yes, missed old names k sum name here all (h.so_far yes) (λ rest. ap (λ (o : Option (List ℕ)). of_file k sum name o rest) (sym (h.same name)) ∙ x.1 rest) ∙ ap Missing (sym f.0))
fault_read tells tells' old mid names before count now k sum all name (Limit r) h here f =
    (f.0 ∙ h.count_is, λ yes. passed old names k sum name here all r (h.so_far yes) (λ rest. ap (λ (o : Option (List ℕ)). of_file k sum name o rest) (sym (h.same name)) ∙ f.1 (h.tells_same ∙ yes) rest))
fault_read tells tells' old mid names before count now k sum all name (Memory e) h here f = tt

pub all_read : (tells tells' : Bool) (old mid : Files) (names : List (List ℕ)) (before count k sum : ℕ) (all : List (List ℕ)) → k ≡ length names → AreSoFar tells tells' old mid names before count k sum all
    → (count ≡ before) × (length all ≡ length names) × ((a : ℕ) → length (bytes_at all a) ≤ FILE_LIMIT) × (IsTrue tells → read_from old 0 0 names ≡ Whole all)
all_read tells tells' old mid names before count k sum all e h =
    (h.count_is, h.many ∙ e, h.short, λ yes. h.so_far yes ∙ ap (λ (l : List (List ℕ)). all_behind all (read_from old k sum l)) (ap (λ (n : ℕ). drop n names) e ∙ none_left names) ∙ whole_behind all)
  where
    none_left : (l : List (List ℕ)) → drop (length l) l ≡ []
    none_left [] = refl
    none_left (x ∷ l) = none_left l
