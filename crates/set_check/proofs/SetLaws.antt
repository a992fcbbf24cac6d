-- Sets of assemblies: what is read of each, and the first that has contracts.
use Rattle.std.proofs.Common.{◌≡◌, ◌⊎◌, ℕ, zero, suc, ◌+◌, ◌<◌, ◌≤◌, Bool, false, List, [], ◌∷◌, ◌++◌, length, get_or, take, Option, Some, None, refl, sym, ap, ◌∙◌, subst, inl, inr, arith, add-one}
use Rattle.std.specs.Prelude.{slice_get}
use Rattle.std.proofs.lemmas.Bool.{cases_lt}
use Rattle.std.proofs.lemmas.List.{length-map, length-take-le, take_all, get_or_default}
use Rattle.cil_base.specs.declared.refusal.Refusal.{Refusal}
use Rattle.cil_base.specs.Rules.{rule_number}
use Rattle.cil_base.specs.Refusals.{First, is_less, key, NoneBroken, InLayers, NoneOf}
use Rattle.cil_base.proofs.LayerLaws.{named_before, named_behind, none_joined}
use Rattle.cil_base.proofs.OrderLaws.{first_is_one}
use Rattle.cil_base.proofs.RefusalLaws.{not_less}
use Rattle.pe_image.specs.Images.{File}
use Rattle.pe_image.specs.Cli.{metadata_of}
use Rattle.assembly.specs.Assemblies as reading
use Rattle.set_program.specs.Files as files_of_set
use Rattle.set_rows.specs.Sets.{Assemblies, assembly_of}
use Rattle.assembly_rewrite.specs.Rewrite.{IsContract}
use Rattle.name_rules.specs.NameTests.{BreaksNames}
use Rattle.body_rules.specs.Sets.{BreaksBodies}
use Rattle.set_check.specs.Sets.{bytes_at, bytes_of, files_from, reading_layers, all_reading_layers, program_layers, row_layers, later_layers, Layer, Signatures, NameRules, Bodies, Contracts, Breaks, Names, IsContractFrom, IsContractOf, IsSound, IsUnsound, assemblies_of}

-- ---- layers of reading

module _ (set : List (List ℕ)) where
  -- the assemblies from one up to another are read
  abbrev pub AreRead : ℕ → ℕ → Type 0
  AreRead from to = (j : ℕ) → from ≤ j → j < to → reading.IsReadable (bytes_at set j) j

  pub all_read : (a n : ℕ) → AreRead a (a + n) → NoneOf (Breaks set) (all_reading_layers a n)
  all_read a zero f = tt
  all_read a (suc n) f =
      none_joined (Breaks set) (Names set) (reading_layers a) (all_reading_layers (a + 1) n) (f a (omega arith) (omega arith)) (all_read (a + 1) n (λ j l m. f j (omega (arith, l)) (omega (arith, m))))

  pub unread_at : (a n k : ℕ) (r : Refusal) → k < n → AreRead a (a + k) → reading.IsUnread (bytes_at set (a + k)) (a + k) r → InLayers (Breaks set) (Names set) (all_reading_layers a n) r
  unread_at a zero k r l f h = absurd (omega (arith, l))
  unread_at a (suc n) zero r l f h =
      let here : a + 0 ≡ a = omega arith in
      named_before (Breaks set) (Names set) (reading_layers a) (all_reading_layers (a + 1) n) r (subst (λ (j : ℕ). reading.IsUnread (bytes_at set j) j r) here h)
  unread_at a (suc n) (suc k) r l f h =
      let on : a + suc k ≡ a + 1 + k = omega arith in
      named_behind (Breaks set) (Names set) (reading_layers a) (all_reading_layers (a + 1) n) r (f a (omega arith) (omega arith))
      (unread_at (a + 1) n k r (omega (arith, l)) (λ j x y. f j (omega (arith, x)) (omega (arith, y))) (subst (λ (j : ℕ). reading.IsUnread (bytes_at set j) j r) on h))

-- ---- files and their numbers

pub count_files : (a : ℕ) (all : List (List ℕ)) → length (files_from a all) ≡ length all
count_files a [] = refl
count_files a (x ∷ all) = ap suc (count_files (a + 1) all)

pub bytes_back : (a : ℕ) (all : List (List ℕ)) → bytes_of (files_from a all) ≡ all
bytes_back a [] = refl
bytes_back a (x ∷ all) = ap (λ (l : List (List ℕ)). x ∷ l) (bytes_back (a + 1) all)

pub file_there : (a : ℕ) (all : List (List ℕ)) (k : ℕ) (d : File) → k < length all → get_or (files_from a all) k d ≡ record { bytes = bytes_at all k; assembly = a + k }
file_there a [] k d l = absurd (omega (arith, l))
file_there a (x ∷ all) zero d l = let here : a ≡ a + 0 = omega arith in ap (λ (n : ℕ). record { bytes = x; assembly = n }) here
file_there a (x ∷ all) (suc k) d l =
    let on : a + 1 + k ≡ a + suc k = omega arith in
    file_there (a + 1) all k d (omega (arith, l)) ∙ ap (λ (n : ℕ). record { bytes = bytes_at all k; assembly = n }) on

pub one_more : (a : ℕ) (all : List (List ℕ)) (k : ℕ) → k < length all → files_from a (take (suc k) all) ≡ files_from a (take k all) ++ record { bytes = bytes_at all k; assembly = a + k } ∷ []
one_more a [] k l = absurd (omega (arith, l))
one_more a (x ∷ all) zero l = let here : a ≡ a + 0 = omega arith in ap (λ (n : ℕ). record { bytes = x; assembly = n } ∷ []) here
one_more a (x ∷ all) (suc k) l =
    let on : a + 1 + k ≡ a + suc k = omega arith in
    ap (λ (l : List File). record { bytes = x; assembly = a } ∷ l) (one_more (a + 1) all k (omega (arith, l)) ∙ ap (λ (n : ℕ). files_from (a + 1) (take k all) ++ record { bytes = bytes_at all k; assembly = n } ∷ []) on)

-- an assembly of a set whose numbers are places
pub element : (set : List File) (k : ℕ) (f : File) → set ≡ files_from 0 (bytes_of set) → k < length set → f ≡ get_or set k f → f ≡ record { bytes = bytes_at (bytes_of set) k; assembly = k }
element set k f numbered l e =
    let within : k < length (bytes_of set) = omega (arith, l, length-map set (λ (file : File). file.bytes)) in
    let plain : 0 + k ≡ k = omega arith in
    e ∙ ap (λ (files : List File). get_or files k f) numbered ∙ file_there 0 (bytes_of set) k f within ∙ ap (λ (n : ℕ). record { bytes = bytes_at (bytes_of set) k; assembly = n }) plain

-- the bytes at a place that is there
pub bytes_there : (all : List (List ℕ)) (k : ℕ) (x : List ℕ) → k < length all → x ≡ get_or all k x → x ≡ bytes_at all k
bytes_there all k x l e = e ∙ get_or_default all k x [] l

-- ---- an assembly more

-- what is read of the first files
pub record IsReadUpTo (all : List (List ℕ)) (k : ℕ) (set : List File) : Type 0 where
  pub read : AreRead all 0 k
  pub so_far : set ≡ files_from 0 (take k all)

pub so_many : (all : List (List ℕ)) (k : ℕ) (set : List File) → k ≤ length all → IsReadUpTo all k set → length set ≡ k
so_many all k set l h = ap length h.so_far ∙ count_files 0 (take k all) ∙ length-take-le k all l

pub read_more : (all : List (List ℕ)) (k : ℕ) (set new : List File) (bytes : List ℕ) → k < length all → IsReadUpTo all k set → bytes ≡ bytes_at all k → reading.IsReadable bytes (length set) → new ≡ set ++ record { bytes = bytes; assembly = length set } ∷ [] → IsReadUpTo all (k + 1) new
read_more all k set new bytes l h b r e = record {
  read = λ j x y. by_place j x (cases_lt j k) y;
  so_far =
      e
      ∙ ap (λ (n : ℕ). set ++ record { bytes = bytes; assembly = n } ∷ []) (many ∙ plain)
      ∙ ap (λ (l : List ℕ). set ++ record { bytes = l; assembly = 0 + k } ∷ []) b
      ∙ ap (λ (l : List File). l ++ record { bytes = bytes_at all k; assembly = 0 + k } ∷ []) h.so_far
      ∙ sym (one_more 0 all k l)
      ∙ ap (λ (n : ℕ). files_from 0 (take n all)) (sym (add-one k));
}
  where
    many : length set ≡ k
    many = so_many all k set (omega (arith, l)) h

    plain : k ≡ 0 + k
    plain = omega arith

    at_place : (j : ℕ) → length set ≡ j → reading.IsReadable (bytes_at all j) j
    at_place j same = subst (λ (n : ℕ). reading.IsReadable (bytes_at all n) n) same (subst (λ (l : List ℕ). reading.IsReadable l (length set)) (b ∙ ap (bytes_at all) (sym many)) r)

    by_place : (j : ℕ) → 0 ≤ j → (j < k) ⊎ (k ≤ j) → j < k + 1 → reading.IsReadable (bytes_at all j) j
    by_place j x (inl before) y = h.read j x before
    by_place j x (inr le) y = at_place j (omega (arith, many, le, y))

pub unread_more : (all : List (List ℕ)) (k : ℕ) (set : List File) (bytes : List ℕ) (r : Refusal) → k < length all → IsReadUpTo all k set → bytes ≡ bytes_at all k → reading.IsUnread bytes (length set) r → InLayers (Breaks all) (Names all) (all_reading_layers 0 (length all)) r
unread_more all k set bytes r l h b u =
    let many : length set ≡ 0 + k = so_many all k set (omega (arith, l)) h ∙ omega arith in
    let here : reading.IsUnread (bytes_at all (length set)) (length set) r = subst (λ (l : List ℕ). reading.IsUnread l (length set) r) (b ∙ ap (bytes_at all) (sym (so_many all k set (omega (arith, l)) h))) u in
    unread_at all 0 (length all) k r l (λ j x y. h.read j x (omega (arith, y))) (subst (λ (n : ℕ). reading.IsUnread (bytes_at all n) n r) many here)

pub read_all : (all : List (List ℕ)) (k : ℕ) (set : List File) → k ≡ length all → IsReadUpTo all k set → set ≡ files_from 0 all
read_all all k set e h = h.so_far ∙ ap (files_from 0) (ap (λ (n : ℕ). take n all) e ∙ take_all (length all) all (omega arith))

-- ---- contracts

module _ (set : List (List ℕ)) where
  abbrev pub Has : ℕ → Refusal → Type 0
  Has a = IsContract (metadata_of (bytes_at set a)) a

  -- in assemblies from one up to another
  abbrev pub NoneUpTo : ℕ → ℕ → Type 0
  NoneUpTo from n = (j : ℕ) → from ≤ j → j < n → NoneBroken (Has j)

  pub first_of_all : (from k : ℕ) (r : Refusal) → from ≤ k → k < length set → NoneUpTo from k → First (Has k) r → First (IsContractFrom from set) r
  first_of_all from k r above l none first =
      let number : k ≡ r.assembly = sym first.broken.assembly_is in
      record {
        broken = (omega (arith, above, number), (omega (arith, l, number), subst (λ (j : ℕ). Has j r) number first.broken));
        none_before = λ s x. by_assembly s x (cases_lt s.assembly k);
      }
    where
      behind : (s : Refusal) → IsContractFrom from set s → k ≤ s.assembly → (k < s.assembly) ⊎ (s.assembly ≤ k) → is_less (key s) (key r) ≡ false
      behind s x le (inl less) =
          not_less s.assembly r.assembly (s.table ∷ s.row ∷ s.at ∷ rule_number s.rule ∷ []) (r.table ∷ r.row ∷ r.at ∷ rule_number r.rule ∷ [])
          (omega (arith, le, sym first.broken.assembly_is)) (λ same. absurd (omega (arith, less, same, sym first.broken.assembly_is)))
      behind s x le (inr more) =
          let same : s.assembly ≡ k = omega (arith, le, more) in
          first.none_before s (subst (λ (j : ℕ). Has j s) same x.1.1)

      by_assembly : (s : Refusal) → IsContractFrom from set s → (s.assembly < k) ⊎ (k ≤ s.assembly) → is_less (key s) (key r) ≡ false
      by_assembly s x (inl less) = absurd (none s.assembly x.0 less s x.1.1)
      by_assembly s x (inr le) = behind s x le (cases_lt k s.assembly)

  pub none_of_all : (from : ℕ) → NoneUpTo from (length set) → NoneBroken (IsContractFrom from set)
  none_of_all from none r x = none r.assembly x.0 x.1.0 r x.1.1

  -- from the first on
  pub first_of_set : (r : Refusal) → First (IsContractFrom 0 set) r → First (IsContractOf set) r
  first_of_set r first = record { broken = first.broken.1; none_before = λ s x. first.none_before s (omega arith, x) }

  pub none_of_set : NoneBroken (IsContractFrom 0 set) → NoneBroken (IsContractOf set)
  none_of_set none r x = none r (omega arith, x)

-- ---- which refusals are named

pub names_broken : (set : List (List ℕ)) (l : Layer) (r : Refusal) → Names set l r → Breaks set l r
names_broken set l r h = h.broken

pub names_one : (set : List (List ℕ)) (l : Layer) (r s : Refusal) → Names set l r → Names set l s → s ≡ r
names_one set l r s h k = first_is_one (Breaks set l) r s h k

-- ---- the rules on rows and bodies, and behind them Z1

module _ (set : List (List ℕ)) (writes : Bool) where
  abbrev pub KeepsNames : Type 0
  KeepsNames = NoneBroken (Breaks set (NameRules writes))

  pub names_refused : (r : Refusal) → First (Breaks set (NameRules writes)) r → InLayers (Breaks set) (Names set) (program_layers writes) r
  names_refused r h = inl h

  pub bodies_refused : (r : Refusal) → KeepsNames → First (Breaks set Bodies) r → InLayers (Breaks set) (Names set) (program_layers writes) r
  bodies_refused r named h = inr (named, inl h)

  pub bodies_kept : KeepsNames → NoneBroken (Breaks set Bodies) → NoneOf (Breaks set) (program_layers writes)
  bodies_kept named h = (named, (h, tt))

  -- of a program's assemblies, which are those of the set
  pub names_refused_of : (s : Assemblies) → s ≡ assemblies_of set → (r : Refusal) → First (BreaksNames s writes) r → InLayers (Breaks set) (Names set) (program_layers writes) r
  names_refused_of s e r h = names_refused r (subst (λ (l : Assemblies). First (BreaksNames l writes) r) e h)

  pub bodies_refused_of : (s : Assemblies) → s ≡ assemblies_of set → (r : Refusal) → NoneBroken (BreaksNames s writes) → First (BreaksBodies s) r → InLayers (Breaks set) (Names set) (program_layers writes) r
  bodies_refused_of s e r named h = bodies_refused r (subst (λ (l : Assemblies). NoneBroken (BreaksNames l writes)) e named) (subst (λ (l : Assemblies). First (BreaksBodies l) r) e h)

  pub bodies_kept_of : (s : Assemblies) → s ≡ assemblies_of set → NoneBroken (BreaksNames s writes) → NoneBroken (BreaksBodies s) → NoneOf (Breaks set) (program_layers writes)
  bodies_kept_of s e named h = bodies_kept (subst (λ (l : Assemblies). NoneBroken (BreaksNames l writes)) e named) (subst (λ (l : Assemblies). NoneBroken (BreaksBodies l)) e h)

  pub blobs_refused : (r : Refusal) → First (Breaks set Signatures) r → InLayers (Breaks set) (Names set) (row_layers writes) r
  blobs_refused r h = inl h

  pub program_refused : (r : Refusal) → NoneBroken (Breaks set Signatures) → InLayers (Breaks set) (Names set) (program_layers writes) r → InLayers (Breaks set) (Names set) (row_layers writes) r
  program_refused r sound h = inr (sound, h)

  pub program_kept : NoneBroken (Breaks set Signatures) → NoneOf (Breaks set) (program_layers writes) → NoneOf (Breaks set) (row_layers writes)
  program_kept sound h = (sound, h)

  pub rows_refused : (r : Refusal) → InLayers (Breaks set) (Names set) (row_layers writes) r → InLayers (Breaks set) (Names set) (later_layers writes) r
  rows_refused r h = named_before (Breaks set) (Names set) (row_layers writes) (Contracts ∷ []) r h

  pub contract_refused : (r : Refusal) → NoneOf (Breaks set) (row_layers writes) → First (IsContractFrom 0 set) r → InLayers (Breaks set) (Names set) (later_layers writes) r
  contract_refused r sound h = named_behind (Breaks set) (Names set) (row_layers writes) (Contracts ∷ []) r sound (inl (first_of_set set r h))

  pub later_kept : NoneOf (Breaks set) (row_layers writes) → NoneBroken (IsContractFrom 0 set) → NoneOf (Breaks set) (later_layers writes)
  later_kept sound none = none_joined (Breaks set) (Names set) (row_layers writes) (Contracts ∷ []) sound (none_of_set set none, tt)

-- the bytes of what was read are those of the files
pub same_bytes : (all : List (List ℕ)) (set slice : List File) → set ≡ files_from 0 all → slice ≡ set → bytes_of slice ≡ all
same_bytes all set slice e s = ap bytes_of (s ∙ e) ∙ bytes_back 0 all

-- ---- all layers

module _ (writes : Bool) (all : List (List ℕ)) where
  pub unread_unsound : (r : Refusal) → InLayers (Breaks all) (Names all) (all_reading_layers 0 (length all)) r → IsUnsound writes all r
  unread_unsound r h = named_before (Breaks all) (Names all) (all_reading_layers 0 (length all)) (later_layers writes) r h

  pub unsound_later : (bytes : List (List ℕ)) (r : Refusal) → bytes ≡ all → NoneOf (Breaks all) (all_reading_layers 0 (length all)) → InLayers (Breaks bytes) (Names bytes) (later_layers writes) r → IsUnsound writes all r
  unsound_later bytes r e read h =
      named_behind (Breaks all) (Names all) (all_reading_layers 0 (length all)) (later_layers writes) r read
      (subst (λ (l : List (List ℕ)). InLayers (Breaks l) (Names l) (later_layers writes) r) e h)

  pub sound_joined : (bytes : List (List ℕ)) → bytes ≡ all → NoneOf (Breaks all) (all_reading_layers 0 (length all)) → NoneOf (Breaks bytes) (later_layers writes) → IsSound writes all
  sound_joined bytes e read h =
      none_joined (Breaks all) (Names all) (all_reading_layers 0 (length all)) (later_layers writes) read
      (subst (λ (l : List (List ℕ)). NoneOf (Breaks l) (later_layers writes)) e h)

-- ---- as a program's assemblies

pub same_assemblies : (files : List File) → files_of_set.assemblies_of files ≡ assemblies_of (bytes_of files)
same_assemblies [] = refl
same_assemblies (f ∷ fs) = ap (λ (l : Assemblies). assembly_of f.bytes ∷ l) (same_assemblies fs)

abbrev number_or : ℕ → Option File → ℕ
number_or n None = n
number_or n (Some f) = f.assembly

abbrev bytes_or : List ℕ → Option File → List ℕ
bytes_or none None = none
bytes_or none (Some f) = f.bytes

places_numbered : (a : ℕ) (all : List (List ℕ)) (k : ℕ) (f : File) → slice_get (files_from a all) k ≡ Some f → f.assembly ≡ a + k
places_numbered a [] k f e = absurd cc
places_numbered a (x ∷ all) zero f e =
    let here : a ≡ f.assembly = ap (number_or 0) e in
    omega (arith, here)
places_numbered a (x ∷ all) (suc k) f e =
    let on : f.assembly ≡ a + 1 + k = places_numbered (a + 1) all k f e in
    omega (arith, on)

pub are_numbered : (files : List File) → files ≡ files_from 0 (bytes_of files) → files_of_set.AreNumbered files
are_numbered files e k f h = places_numbered 0 (bytes_of files) k f (ap (λ (l : List File). slice_get l k) (sym e) ∙ h) ∙ omega arith

-- an assembly that is there has the bytes of its place
pub bytes_of_there : (files : List File) (k : ℕ) (f : File) → slice_get files k ≡ Some f → f.bytes ≡ bytes_at (bytes_of files) k
bytes_of_there [] k f e = absurd cc
bytes_of_there (x ∷ xs) zero f e = ap (bytes_or []) (sym e)
bytes_of_there (x ∷ xs) (suc k) f e = bytes_of_there xs k f e

pub count_parts : (files : List File) (parts : Assemblies) → parts ≡ assemblies_of (bytes_of files) → length parts ≡ length files
count_parts files parts e = ap length e ∙ length-map (bytes_of files) assembly_of ∙ length-map files (λ (f : File). f.bytes)
