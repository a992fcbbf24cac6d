-- The numbers of signatures of methods, where rows are appended: which are the same stays.
use Rattle.std.proofs.Common.{◌≡◌, ◌∙◌, sym, ap, refl, arith, rules, ℕ, zero, suc, ◌+◌, ◌-◌, ◌<◌, ◌≤◌, List, [], ◌∷◌, ◌++◌, length, Bool, true, false}
use Rattle.std.specs.Prelude.{cond, find, map, ◌==◌, is_some, slice_get, get_or, unwrap_or, bytes_eq, Option, Some, None}
use Rattle.std.specs.List.{range_with_len}
use Rattle.std.proofs.lemmas.List.{map-append, length-append, length-map}
use Rattle.cil_base.specs.declared.tables.TheConstants.{METHOD_DEF}
use Rattle.cil_model.specs.declared.program.MethodDesc.{MethodDesc}
use Rattle.cil_semantics.specs.Lookups.{no_method}
use Rattle.set_names.specs.Names.{is_name, is_under, first_under}
use Rattle.set_rows.specs.Sets.{Assembly, Assemblies, assembly_at, blob}
use Rattle.set_signatures.specs.Shapes.{signature_numbers}
use Rattle.set_program.specs.Environment.{coded_in}
use Rattle.member_table.specs.declared.named.MemberId.{MemberId}
use Rattle.member_table.specs.declared.named.MemberId.TheVariants as id
use Rattle.member_table.specs.Numbers.{member_ids}
use Rattle.descriptions.specs.Signatures.{place_or, signature_number}
use Rattle.descriptions.specs.Descriptions.{id_signature, all_signatures, sig_of, method_desc}
use Rattle.row_descriptions.specs.RowDescriptions.{method_row}
use Rattle.set_growth.specs.Grown.{IsGrown, SaysAlike}
use Rattle.set_growth.specs.Orderly.{IsOrderly}
use Rattle.set_growth.proofs.FindLaws.{Among, found_among, find_stays, differs}
use Rattle.program_growth.specs.Rules.{IsNamed, IsNumbered, IsMember, HasPlaces}
use Rattle.program_growth.proofs.KeptCodedLaws.{coded_stays, old_blob, numbers_same}
use Rattle.program_growth.proofs.KeptMemberLaws.{map_at, get_before, method_read}
use Rattle.program_growth.proofs.KeptNumberLaws.{member_ids_grow}
use Rattle.program_growth.proofs.ProgramLaws.{At, at_place, map_got}

abbrev Numbers : Type 0
Numbers = Option (List ℕ)

-- ---- the number of a signature in a list, and in a longer one

find_there : (f : ℕ → Bool) (a n k : ℕ) → a ≤ k → k < a + n → f k ≡ true → is_some (find f (range_with_len a n)) ≡ true
find_there f a zero k low high e = absurd (omega (arith, low, high))
find_there f a (suc n) k low high e = go (f a) refl (λ l. find_there f (a + 1) n k l (omega (arith, high)) e)
  where
    at : (a ≡ k) → f a ≡ true
    at g = ap f g ∙ e

    go : (b : Bool) → f a ≡ b → (a + 1 ≤ k → is_some (find f (range_with_len (a + 1) n)) ≡ true) → is_some (cond b (Some a) (find f (range_with_len (a + 1) n))) ≡ true
    go true g again = refl
    go false g again = again (omega (arith, low, apart (λ h. let wrong : false ≡ true = sym g ∙ at h in cc)))
      where
        apart : (a ≡ k → ⊥) → a ≡ k → ⊥
        apart h = h

get_or_before : (xs more : List Numbers) (k : ℕ) → k < length xs → get_or (xs ++ more) k None ≡ get_or xs k None
get_or_before [] more k h = absurd (omega (arith, h))
get_or_before (x ∷ xs) more zero h = refl
get_or_before (x ∷ xs) more (suc k) h = get_or_before xs more k (omega (arith, h))

get_at : (xs : List Numbers) (k : ℕ) (v : Numbers) → slice_get xs k ≡ Some v → get_or xs k None ≡ v
get_at [] k v e = absurd cc
get_at (x ∷ xs) zero v e = search (rules, e)
get_at (x ∷ xs) (suc k) v e = get_at xs k v e

within : (xs : List Numbers) (k : ℕ) (v : Numbers) → slice_get xs k ≡ Some v → k < length xs
within [] k v e = absurd cc
within (x ∷ xs) zero v e = omega arith
within (x ∷ xs) (suc k) v e = let l : k < length xs = within xs k v e in omega (arith, l)

bytes_itself : (l : List ℕ) → bytes_eq l l ≡ true
bytes_itself l = search rules

-- a signature of the list: its place is one of the list, and stays
record HasPlace (all more : List Numbers) (l : List ℕ) : Type 0 where
  pub place : signature_number all (Some l) < length all
  pub stays : signature_number (all ++ more) (Some l) ≡ signature_number all (Some l)

has_place : (all more : List Numbers) (k : ℕ) (l : List ℕ) → slice_get all k ≡ Some (Some l) → HasPlace all more l
has_place all more k l e = go (first_under all l) refl there
  where
    high : k < length all
    high = within all k (Some l) e

    passes : is_under all l (k + 1) ≡ true
    passes =
        let at : (k + 1) - 1 ≡ k = omega arith in
        ap (λ (j : ℕ). is_name l (get_or all j None)) at ∙ ap (is_name l) (get_at all k (Some l) e) ∙ bytes_itself l

    there : is_some (first_under all l) ≡ true
    there = find_there (is_under all l) 1 (length all) (k + 1) (omega arith) (omega (arith, high)) passes

    longer : length (all ++ more) ≡ length all + length more
    longer = length-append all more

    go : (o : Option ℕ) → first_under all l ≡ o → is_some o ≡ true → HasPlace all more l
    go None f g = absurd cc
    go (Some r) f g =
        let among : Among 1 (length all) r = found_among (is_under all l) 1 (length all) r f in
        let low : 1 ≤ r = among.low in
        let top : r < 1 + length all = among.high in
        let is : signature_number all (Some l) ≡ r - 1 = ap (place_or (length all)) f in
        let found : first_under (all ++ more) l ≡ Some r =
        find_stays (is_under all l) (is_under (all ++ more) l) (length all) (length (all ++ more)) r (omega (arith, longer))
        (λ q l1 h1. ap (is_name l) (get_or_before all more (q - 1) (omega (arith, l1, h1)))) f in
        record {
          place = omega (arith, is, low, top);
          stays = ap (place_or (length (all ++ more))) found ∙ sym is;
        }

-- two signatures of the list are the same in the longer one just where they are in it
same_stays : (all more : List Numbers) (i j : ℕ) (u v : Numbers) → slice_get all i ≡ Some u → slice_get all j ≡ Some v
    → (signature_number (all ++ more) u == signature_number (all ++ more) v) ≡ (signature_number all u == signature_number all v)
same_stays all more i j None None e f = itself (length (all ++ more)) ∙ sym (itself (length all))
  where
    itself : (n : ℕ) → (n == n) ≡ true
    itself n = search rules
same_stays all more i j (Some l) (Some m) e f =
    ap (λ (n : ℕ). n == signature_number (all ++ more) (Some m)) (has_place all more i l e).stays ∙ ap (λ (n : ℕ). signature_number all (Some l) == n) (has_place all more j m f).stays
same_stays all more i j (Some l) None e f =
    let h : HasPlace all more l = has_place all more i l e in
    let p : signature_number all (Some l) < length all = h.place in
    let q : length (all ++ more) ≡ length all + length more = length-append all more in
    ap (λ (n : ℕ). n == length (all ++ more)) h.stays
    ∙ differs (signature_number all (Some l)) (length (all ++ more)) (λ g. omega (arith, g, p, q))
    ∙ sym (differs (signature_number all (Some l)) (length all) (λ g. omega (arith, g, p)))
same_stays all more i j None (Some m) e f =
    let h : HasPlace all more m = has_place all more j m f in
    let p : signature_number all (Some m) < length all = h.place in
    let q : length (all ++ more) ≡ length all + length more = length-append all more in
    ap (λ (n : ℕ). length (all ++ more) == n) h.stays
    ∙ differs (length (all ++ more)) (signature_number all (Some m)) (λ g. omega (arith, g, p, q))
    ∙ sym (differs (length all) (signature_number all (Some m)) (λ g. omega (arith, g, p)))

module _ (x x' : Assembly) (xs : Assemblies) (grown : IsGrown x x') (orderly : IsOrderly x) (named : IsNamed (x ∷ xs)) (numbered : IsNumbered (x ∷ xs)) (alike : SaysAlike (x ∷ xs) (x' ∷ xs)) (placed : HasPlaces (x ∷ xs)) where
  abbrev s : Assemblies
  s = x ∷ xs

  abbrev s' : Assemblies
  s' = x' ∷ xs

  abbrev ids : List MemberId
  ids = member_ids s false

  signature_same : (m : MemberId) → IsMember s false m → id_signature s' m ≡ id_signature s m
  signature_same (id.Outside m) out = refl
  signature_same (id.Row a row) old =
      ap (signature_numbers (coded_in s' a) []) (old_blob x x' xs grown orderly named numbered alike a METHOD_DEF row 4 refl old.1)
      ∙ numbers_same (coded_in s a) (coded_in s' a) (coded_stays x x' xs grown orderly named numbered alike a) (blob (assembly_at s a) METHOD_DEF row 4) (method_read x x' xs grown orderly named numbered alike a row old.0 old.1) []

  all_grow : (more : List Numbers) × (all_signatures s' ≡ all_signatures s ++ more)
  unfolding all_signatures
  all_grow =
      let g : (more : List MemberId) × (member_ids s' false ≡ ids ++ more) = member_ids_grow x x' xs grown orderly named numbered alike false in (
        map (id_signature s') g.0,
        ap (map (id_signature s')) g.1
            ∙ map-append (id_signature s') ids g.0
            ∙ ap (λ (l : List Numbers). l ++ map (id_signature s') g.0) (map_at (id_signature s') (id_signature s) ids (λ k m e. signature_same m (placed.ids false k m e))),
      )

  listed : (k : ℕ) (m : MemberId) → slice_get ids k ≡ Some m → slice_get (all_signatures s) k ≡ Some (id_signature s m)
  unfolding all_signatures
  listed k m e = map_got (id_signature s) ids k m e

  grown_sig : (k : ℕ) (m : MemberId) → slice_get ids k ≡ Some m → sig_of s' m ≡ signature_number (all_signatures s ++ all_grow.0) (id_signature s m)
  grown_sig k m e = ap (λ (l : List Numbers). signature_number l (id_signature s' m)) all_grow.1 ∙ ap (signature_number (all_signatures s ++ all_grow.0)) (signature_same m (placed.ids false k m e))

  desc_sig : (u : Assemblies) (m : MemberId) → (method_desc u m).sig ≡ sig_of u m
  unfolding method_row
  desc_sig u (id.Row a row) = refl
  desc_sig u (id.Outside m) = refl

  pub sigs_stay : (i j : ℕ) (u v : MemberId) → slice_get ids i ≡ Some u → slice_get ids j ≡ Some v
      → ((method_desc s' u).sig == (method_desc s' v).sig) ≡ ((method_desc s u).sig == (method_desc s v).sig)
  sigs_stay i j u v e f =
      ap (λ (n : ℕ). n == (method_desc s' v).sig) (desc_sig s' u ∙ grown_sig i u e)
      ∙ ap (λ (n : ℕ). signature_number (all_signatures s ++ all_grow.0) (id_signature s u) == n) (desc_sig s' v ∙ grown_sig j v f)
      ∙ same_stays (all_signatures s) all_grow.0 i j (id_signature s u) (id_signature s v) (listed i u e) (listed j v f)
      ∙ sym (ap (λ (n : ℕ). n == (method_desc s v).sig) (desc_sig s u) ∙ ap (λ (n : ℕ). sig_of s u == n) (desc_sig s v))

  abbrev desc_at : List MethodDesc → ℕ → MethodDesc
  desc_at l k = unwrap_or (slice_get l k) no_method

  at_new : (k : ℕ) (m : MemberId) → slice_get ids k ≡ Some m → desc_at (map (method_desc s') (member_ids s' false)) k ≡ method_desc s' m
  at_new k m e =
      let g : (more : List MemberId) × (member_ids s' false ≡ ids ++ more) = member_ids_grow x x' xs grown orderly named numbered alike false in
      ap (λ (o : Option MethodDesc). unwrap_or o no_method) (map_got (method_desc s') (member_ids s' false) k m (ap (λ (l : List MemberId). slice_get l k) g.1 ∙ get_before ids g.0 k m e))

  at_old : (k : ℕ) (m : MemberId) → slice_get ids k ≡ Some m → desc_at (map (method_desc s) ids) k ≡ method_desc s m
  at_old k m e = ap (λ (o : Option MethodDesc). unwrap_or o no_method) (map_got (method_desc s) ids k m e)

  pub signatures_same : (i j : ℕ) → i < length (map (method_desc s) ids) → j < length (map (method_desc s) ids)
      → ((desc_at (map (method_desc s') (member_ids s' false)) i).sig == (desc_at (map (method_desc s') (member_ids s' false)) j).sig) ≡ ((desc_at (map (method_desc s) ids) i).sig == (desc_at (map (method_desc s) ids) j).sig)
  signatures_same i j h k =
      let n : length (map (method_desc s) ids) ≡ length ids = length-map ids (method_desc s) in
      let u : At ids i = at_place ids i (omega (arith, h, n)) in
      let v : At ids j = at_place ids j (omega (arith, k, n)) in
      ap (λ (d : MethodDesc). d.sig == (desc_at (map (method_desc s') (member_ids s' false)) j).sig) (at_new i u.value u.there)
      ∙ ap (λ (d : MethodDesc). (method_desc s' u.value).sig == d.sig) (at_new j v.value v.there)
      ∙ sigs_stay i j u.value v.value u.there v.there
      ∙ sym (ap (λ (d : MethodDesc). d.sig == (desc_at (map (method_desc s) ids) j).sig) (at_old i u.value u.there) ∙ ap (λ (d : MethodDesc). (method_desc s u.value).sig == d.sig) (at_old j v.value v.there))
