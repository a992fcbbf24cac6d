-- A heap that grows: look-ups of appended entries, and what is read.
use Rattle.std.proofs.Common.{◌≡◌, ℕ, ◌+◌, ◌^◌, ◌≤◌, ◌<◌, eqb, Bool, true, false, cond, List, [], ◌∷◌, ◌++◌, length, drop, append-nil, Option, Some, None, IfSome, refl, sym, ap, ap₂, subst, ◌∙◌, arith, append_assoc, length-append, inl, inr, ◌⊎◌}
use Rattle.std.specs.Prelude.{Vec, Result, Ok, Err, IfOk, OnErr, MatchOption}
use Rattle.std.specs.List.{list_any}
use Rattle.std.specs.Map.{lookup}
use Rattle.std.specs.Cmp.Lexicographic.{pointwise, bytes_decides}
use Rattle.std.specs.declared.alloc.Global.{Global}
use Rattle.std.proofs.lemmas.Bool.{eqb-true}
use Rattle.cil_base.specs.Packed.{packed_spelling}
use Rattle.cil_base.specs.declared.refusal.Fault.{Fault}
use Rattle.cli_heaps.specs.Root.{is_zero}
use Rattle.cli_heaps.specs.Entries.{string_at, blob_at}
use Rattle.heap_writer.specs.Growth.{HeapGrowth, no_growth, entry_offset, grown_length, front, next_offset, with_entry, Appends, ReadsAt, KeepsEntries, AllRead, string_entry, blob_entry, contents_of, KeepsUserStrings}
use Rattle.std.proofs.lemmas.List.{drop-append-le}
use Rattle.cli_heaps.specs.RootRules.{are_user_strings, is_user_string_length}
use Rattle.heap_writer.proofs.UserStringLaws.{user_strings_join, user_strings_one}
use Rattle.heap_writer.proofs.ReadLaws.{if_some, string_kept, blob_kept, string_added, blob_added}

-- ---- the map

pub contents_found : (content : List ℕ) (es : List (Vec ℕ Global × ℕ)) → lookup (λ k. pointwise eqb content k.items) es ≡ lookup (λ c. pointwise eqb content c) (contents_of es)
contents_found content [] = refl
contents_found content ((key, at) ∷ es) = ap (cond (pointwise eqb content key.items) (Some at)) (contents_found content es)

pub contents-append : (es : List (Vec ℕ Global × ℕ)) (key : Vec ℕ Global) (at : ℕ) → contents_of (es ++ (key, at) ∷ []) ≡ contents_of es ++ (key.items, at) ∷ []
contents-append [] key at = refl
contents-append ((k, n) ∷ es) key at = ap (λ (l : List (List ℕ × ℕ)). (k.items, n) ∷ l) (contents-append es key at)

-- what is found is found among the others, or it is the last
found_cases : (test : List ℕ → Bool) (es : List (List ℕ × ℕ)) (content : List ℕ) (at n : ℕ) → lookup test (es ++ (content, at) ∷ []) ≡ Some n → (lookup test es ≡ Some n) ⊎ ((test content ≡ true) × (at ≡ n))
found_cases test [] content at n e = go (test content) refl e
  where
    go : (b : Bool) → test content ≡ b → cond b (Some at) None ≡ Some n → (None ≡ Some n) ⊎ ((test content ≡ true) × (at ≡ n))
    go true t h = let same : at ≡ n = cc in inr (t, same)
    go false t h = inl h
found_cases test (x ∷ es) content at n e = go (test x.0) (λ h. found_cases test es content at n h) e
  where
    go : (b : Bool) → (lookup test (es ++ (content, at) ∷ []) ≡ Some n → (lookup test es ≡ Some n) ⊎ ((test content ≡ true) × (at ≡ n)))
        → cond b (Some x.1) (lookup test (es ++ (content, at) ∷ [])) ≡ Some n → (cond b (Some x.1) (lookup test es) ≡ Some n) ⊎ ((test content ≡ true) × (at ≡ n))
    go true rest h = inl h
    go false rest h = rest h

-- ---- the record of a grown heap

pub front_is : (g : HeapGrowth) (n : ℕ) (f : List ℕ) → n ≡ length g.added → f ≡ cond (eqb (g.base + n) 0) (0 ∷ []) [] → f ≡ front g
front_is g n f e h = h ∙ ap (λ (k : ℕ). cond (eqb (g.base + k) 0) (0 ∷ []) []) e

pub place_is : (g : HeapGrowth) (n : ℕ) (f : List ℕ) → n ≡ length g.added → f ≡ front g → g.base + n + length f ≡ next_offset g
place_is g n f e h = ap₂ (λ (k : ℕ) (l : List ℕ). g.base + k + length l) e h

pub appended_is : (g : HeapGrowth) (content entry added : List ℕ) (entries : List (List ℕ × ℕ)) → added ≡ g.added ++ (front g ++ entry) → entries ≡ g.entries ++ (content, next_offset g) ∷ [] → ◌≡◌ {A = HeapGrowth} (record { base = g.base; added = added; entries = entries }) (with_entry g content entry)
appended_is g content entry added entries e f = let make : List ℕ → List (List ℕ × ℕ) → HeapGrowth = λ a b. record { base = g.base; added = a; entries = b } in ap₂ make e f

pub last_is : (es fs : List (List ℕ × ℕ)) (k l : List ℕ) (m n : ℕ) → es ≡ fs → k ≡ l → m ≡ n → es ++ (k, m) ∷ [] ≡ fs ++ (l, n) ∷ []
last_is es fs k l m n e f h = ap (λ (x : List (List ℕ × ℕ)). x ++ (k, m) ∷ []) e ∙ ap₂ (λ (x : List ℕ) (y : ℕ). fs ++ (x, y) ∷ []) f h

pub key_absent : (content : List ℕ) (key : Vec ℕ Global) (es : List (Vec ℕ Global × ℕ)) → key.items ≡ content → lookup (λ c. pointwise eqb content c) (contents_of es) ≡ None → lookup (λ k. pointwise eqb key.items k.items) es ≡ None
key_absent content key es e none = contents_found key.items es ∙ ap (λ (l : List ℕ). lookup (λ c. pointwise eqb l c) (contents_of es)) e ∙ none

-- ---- reading

pub all_read : (read : List ℕ → ℕ → Option (List ℕ)) (g : HeapGrowth) (content entry : List ℕ) → AllRead read g → KeepsEntries read g (with_entry g content entry) → ReadsAt read (with_entry g content entry) (next_offset g) content → AllRead read (with_entry g content entry)
all_read read g content entry old kept fresh c n e = go (found_cases (λ k. pointwise eqb c k) g.entries content (next_offset g) n e)
  where
    new : HeapGrowth
    new = with_entry g content entry

    go : (lookup (λ k. pointwise eqb c k) g.entries ≡ Some n) ⊎ ((pointwise eqb c content ≡ true) × (next_offset g ≡ n)) → ReadsAt read new n c
    go (inl there) heap long = some_is (read (heap ++ g.added) n) (λ x. read (heap ++ new.added) n ≡ Some x) c (old c n there heap long) (kept heap n)
      where
        some_is : (o : Option (List ℕ)) (P : List ℕ → Type 0) (x : List ℕ) → o ≡ Some x → IfSome o P → P x
        some_is o P x f h = subst (λ (k : Option (List ℕ)). IfSome k P) f h
    go (inr (same, at)) heap long =
        let is : c ≡ content = (bytes_decides c content).0 same in
        ap (read (heap ++ new.added)) (sym at) ∙ fresh heap long ∙ ap Some (sym is)

abbrev pub Kept : (List ℕ → ℕ → Option (List ℕ)) → Type 0
Kept read = (heap more : List ℕ) (at : ℕ) (s : List ℕ) → read heap at ≡ Some s → read (heap ++ more) at ≡ Some s

pub entries_kept : (read : List ℕ → ℕ → Option (List ℕ)) → Kept read → (g : HeapGrowth) (content entry : List ℕ) → KeepsEntries read g (with_entry g content entry)
entries_kept read kept g content entry heap at =
    if_some (read (heap ++ g.added) at) (λ s. read (heap ++ (g.added ++ (front g ++ entry))) at ≡ Some s)
    (λ s e. ap (λ (l : List ℕ). read l at) (sym (append_assoc heap g.added (front g ++ entry))) ∙ kept (heap ++ g.added) (front g ++ entry) at s e)

pub entries_stay : (read : List ℕ → ℕ → Option (List ℕ)) (g : HeapGrowth) → KeepsEntries read g g
entries_stay read g heap at = if_some (read (heap ++ g.added) at) (λ s. read (heap ++ g.added) at ≡ Some s) (λ s e. e)

-- the next entry never stands at place 0
pub next_positive : (g : HeapGrowth) → 0 < next_offset g
next_positive g = go (eqb (grown_length g) 0) refl
  where
    go : (b : Bool) → eqb (grown_length g) 0 ≡ b → 0 < grown_length g + length {A = ℕ} (cond b (0 ∷ []) [])
    go true e = omega arith
    go false e = positive (grown_length g) e
      where
        positive : (n : ℕ) → eqb n 0 ≡ false → 0 < n + 0
        positive n f = grind arith

-- the whole heap in front of the entry
before : HeapGrowth → List ℕ → List ℕ
before g heap = heap ++ (g.added ++ front g)

before_length : (g : HeapGrowth) (heap : List ℕ) → length heap ≡ g.base → length (before g heap) ≡ next_offset g
unfolding before
before_length g heap long = omega (arith, length-append heap (g.added ++ front g), length-append g.added (front g), long)

before_entry : (g : HeapGrowth) (heap entry : List ℕ) → heap ++ (g.added ++ (front g ++ entry)) ≡ before g heap ++ entry
unfolding before
before_entry g heap entry = ap (λ (l : List ℕ). heap ++ l) (sym (append_assoc g.added (front g) entry)) ∙ sym (append_assoc heap (g.added ++ front g) entry)

pub fresh_string : (g : HeapGrowth) (s : List ℕ) → list_any is_zero s ≡ false → ReadsAt string_at (with_entry g s (string_entry s)) (next_offset g) s
fresh_string g s none heap long =
    let n : length (before g heap) ≡ next_offset g = before_length g heap long in
    let pos : 0 < length (before g heap) = omega (arith, n, next_positive g) in
    ap (λ (l : List ℕ). string_at l (next_offset g)) (before_entry g heap (string_entry s)) ∙ ap (string_at (before g heap ++ string_entry s)) (sym n) ∙ string_added (before g heap) s pos none

pub fresh_blob : (g : HeapGrowth) (b : List ℕ) → length b < 2 ^ 29 → ReadsAt blob_at (with_entry g b (blob_entry b)) (next_offset g) b
fresh_blob g b small heap long =
    let n : length (before g heap) ≡ next_offset g = before_length g heap long in
    let pos : 0 < length (before g heap) = omega (arith, n, next_positive g) in
    ap (λ (l : List ℕ). blob_at l (next_offset g)) (before_entry g heap (blob_entry b)) ∙ ap (blob_at (before g heap ++ blob_entry b)) (sym n) ∙ blob_added (before g heap) b pos small

pub none_read : (read : List ℕ → ℕ → Option (List ℕ)) (base : ℕ) → AllRead read (no_growth base)
none_read read base content at e = absurd cc

-- ---- after one append

pub record Reads (read : List ℕ → ℕ → Option (List ℕ)) (g new : HeapGrowth) (content : List ℕ) (r : Result ℕ Fault) : Type 0 where
  pub all : AllRead read new
  pub kept : KeepsEntries read g new
  pub back : IfOk r (λ at. ReadsAt read new at content)

pub reads_after : (read : List ℕ → ℕ → Option (List ℕ)) → Kept read → (g new : HeapGrowth) (content entry : List ℕ) (limit : ℕ) (r : Result ℕ Fault) → IfOk r (λ at. Appends g content entry limit at new) → OnErr r (new ≡ g) → AllRead read g
    → (next_offset g + length entry ≤ limit → ReadsAt read (with_entry g content entry) (next_offset g) content) → Reads read g new content r
reads_after read stays g new content entry limit (Err e) ok err old fresh =
    record { all = subst (AllRead read) (sym err) old; kept = subst (KeepsEntries read g) (sym err) (entries_stay read g); back = tt }
reads_after read stays g new content entry limit (Ok at) ok err old fresh = go (entry_offset g content) refl ok
  where
    go : (o : Option ℕ) → entry_offset g content ≡ o → MatchOption o ((at ≡ next_offset g) × (new ≡ with_entry g content entry) × (next_offset g + length entry ≤ limit)) (λ n. (at ≡ n) × (new ≡ g)) → Reads read g new content (Ok at)
    go None e m =
        let kept = entries_kept read stays g content entry in
        let here = fresh m.2 in
        record {
          all = subst (AllRead read) (sym m.1) (all_read read g content entry old kept here);
          kept = subst (KeepsEntries read g) (sym m.1) kept;
          back = subst (λ (n : ℕ). ReadsAt read new n content) (sym m.0) (subst (λ (x : HeapGrowth). ReadsAt read x (next_offset g) content) (sym m.1) here);
        }
    go (Some n) e m =
        record {
          all = subst (AllRead read) (sym m.1) old;
          kept = subst (KeepsEntries read g) (sym m.1) (entries_stay read g);
          back = subst (λ (k : ℕ). ReadsAt read new k content) (sym m.0) (subst (λ (x : HeapGrowth). ReadsAt read x n content) (sym m.1) (old content n e));
        }

pub reads_strings : (g new : HeapGrowth) (s : List ℕ) (limit : ℕ) (r : Result ℕ Fault) → list_any is_zero s ≡ false → IfOk r (λ at. Appends g s (string_entry s) limit at new) → OnErr r (new ≡ g) → AllRead string_at g → Reads string_at g new s r
reads_strings g new s limit r none ok err old = reads_after string_at string_kept g new s (string_entry s) limit r ok err old (λ le. fresh_string g s none)

pub reads_blobs : (g new : HeapGrowth) (b : List ℕ) (limit : ℕ) (r : Result ℕ Fault) → limit < 2 ^ 29 → IfOk r (λ at. Appends g b (blob_entry b) limit at new) → OnErr r (new ≡ g) → AllRead blob_at g → Reads blob_at g new b r
reads_blobs g new b limit r small ok err old = reads_after blob_at blob_kept g new b (blob_entry b) limit r ok err old (λ le. fresh_blob g b (omega (arith, length-append (packed_spelling (length b)) b, le)))

-- ---- user strings stay whole

pub no_user_strings : (base : ℕ) → KeepsUserStrings (no_growth base)
no_user_strings base heap long whole = ap (λ (l : List ℕ). are_user_strings 0 (drop 1 l)) (append-nil heap) ∙ whole

drop_join : (xs ys : List ℕ) → 1 ≤ length xs → drop 1 (xs ++ ys) ≡ drop 1 xs ++ ys
drop_join xs ys le = drop-append-le 1 xs ys le

-- the whole heap with what stands in front of the entry
before_whole : (g : HeapGrowth) (heap : List ℕ) → length heap ≡ g.base → are_user_strings 0 (drop 1 (heap ++ g.added)) ≡ true → are_user_strings 0 (drop 1 (before g heap)) ≡ true
unfolding before
before_whole g heap long whole = go (eqb (grown_length g) 0) refl
  where
    go : (b : Bool) → eqb (grown_length g) 0 ≡ b → are_user_strings 0 (drop 1 (heap ++ (g.added ++ cond b (0 ∷ []) []))) ≡ true
    go false e = ap (λ (l : List ℕ). are_user_strings 0 (drop 1 (heap ++ l))) (append-nil g.added) ∙ whole
    go true e =
        let empty : heap ++ g.added ≡ [] = nothing (heap ++ g.added) (length-append heap g.added ∙ ap (λ (k : ℕ). k + length g.added) long ∙ eqb-true (grown_length g) 0 e) in
        ap (λ (l : List ℕ). are_user_strings 0 (drop 1 l)) (sym (append_assoc heap g.added (0 ∷ []))) ∙ ap (λ (l : List ℕ). are_user_strings 0 (drop 1 (l ++ 0 ∷ []))) empty
      where
        nothing : (l : List ℕ) → length l ≡ 0 → l ≡ []
        nothing [] h = refl
        nothing (x ∷ xs) h = absurd (omega arith)

pub user_strings_appended : (g : HeapGrowth) (content : List ℕ) → KeepsUserStrings g → length content < 2 ^ 29 → is_user_string_length (length content) ≡ true → KeepsUserStrings (with_entry g content (blob_entry content))
user_strings_appended g content kept small odd heap long whole =
    let front_whole : are_user_strings 0 (drop 1 (before g heap)) ≡ true = before_whole g heap long (kept heap long whole) in
    let some : 1 ≤ length (before g heap) = omega (arith, before_length g heap long, next_positive g) in
    ap (λ (l : List ℕ). are_user_strings 0 (drop 1 l)) (before_entry g heap (blob_entry content))
    ∙ ap (are_user_strings 0) (drop_join (before g heap) (blob_entry content) some)
    ∙ user_strings_join 0 (drop 1 (before g heap)) (blob_entry content) front_whole
    ∙ user_strings_one content small odd

pub user_strings_after : (g new : HeapGrowth) (content : List ℕ) (limit : ℕ) (r : Result ℕ Fault) → limit < 2 ^ 29 → is_user_string_length (length content) ≡ true → IfOk r (λ at. Appends g content (blob_entry content) limit at new) → OnErr r (new ≡ g) → KeepsUserStrings g → KeepsUserStrings new
user_strings_after g new content limit (Err e) small odd ok err old = subst KeepsUserStrings (sym err) old
user_strings_after g new content limit (Ok at) small odd ok err old = go (entry_offset g content) ok
  where
    go : (o : Option ℕ) → MatchOption o ((at ≡ next_offset g) × (new ≡ with_entry g content (blob_entry content)) × (next_offset g + length (blob_entry content) ≤ limit)) (λ n. (at ≡ n) × (new ≡ g)) → KeepsUserStrings new
    go None m = subst KeepsUserStrings (sym m.1) (user_strings_appended g content old (omega (arith, length-append (packed_spelling (length content)) content, m.2)) odd)
    go (Some n) m = subst KeepsUserStrings (sym m.1) old
