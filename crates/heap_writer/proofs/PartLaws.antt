-- The streams that are written: their names, the rules on them, and the bytes of each.
use Rattle.std.proofs.Common.{◌≡◌, ℕ, zero, suc, ◌+◌, ◌*◌, ◌%◌, ◌≤◌, eqb, not, Bool, true, false, cond, ◌||◌, List, [], ◌∷◌, ◌++◌, append-nil, length, drop, Option, Some, None, is_some, refl, sym, ap, ap₂, subst, ◌∙◌, arith, codes}
use Rattle.std.specs.Prelude.{find, map, filter, count_ones, All}
use Rattle.std.specs.List.{list_any}
use Rattle.std.specs.Cmp.Lexicographic.{bytes_decides}
use Rattle.std.proofs.lemmas.Bool.{eqb-true}
use Rattle.std.proofs.lemmas.List.Elements.{filter-append}
use Rattle.cil_base.specs.Numbers.{num}
use Rattle.cli_heaps.specs.Root.{Stream, is_zero, header_end, is_whole_header, stream_at, streams_from, stream_bytes, is_named, bytes_of}
use Rattle.cli_heaps.specs.RootRules.{is_known, are_user_strings}
use Rattle.cil_base.specs.Bytes.{padded}
use Rattle.heap_writer.specs.Written.{Part, Known, new_bytes, old_part}
use Rattle.heap_writer.proofs.PieceLaws.{name_ends}
use Rattle.heap_writer.proofs.PlacedLaws.{ArePart, Named, content, part_same}
use Rattle.heap_writer.proofs.OnceLaws.{Each, Once, among, knows, name_of, among_append}
use Rattle.heap_writer.proofs.RuleLaws.{Passes, Fine, EachPart, each_part_append, is_called}

abbrev pub part_name : Part → List ℕ
part_name p = p.name

abbrev pub maybe : Bool → List ℕ → List ℕ → List Part
maybe b name bytes = cond b [] (record { name = name; bytes = bytes } ∷ [])

-- the heaps that were missing, those without the ones that are there or gain nothing
abbrev pub three : Bool → Bool → Bool → Known → List Part
three a b c k = maybe a (codes "#Strings") k.strings ++ maybe b (codes "#US") k.user_strings ++ maybe c (codes "#Blob") k.blobs

-- ---- names

pub names_placed : (meta : List ℕ) (ss : List Stream) (ps : List Part) → ArePart meta ss ps → map name_of ss ≡ map part_name ps
names_placed meta [] [] h = refl
names_placed meta [] (p ∷ ps) h = absurd h
names_placed meta (s ∷ ss) [] h = absurd h
names_placed meta (s ∷ ss) (p ∷ ps) h = ap₂ (λ (x : List ℕ) (l : List (List ℕ)). x ∷ l) h.0.named (names_placed meta ss ps h.1)

pub names_all : (old : List ℕ) (k : Known) (ss : List Stream) (more : List Part) → map part_name (map (old_part old k) ss ++ more) ≡ map name_of ss ++ map part_name more
names_all old k [] more = refl
names_all old k (s ∷ ss) more = ap (λ (l : List (List ℕ)). s.name ∷ l) (names_all old k ss more)

pub once_three : (seen : List (List ℕ)) (a b c : Bool) (k : Known) → (a ≡ false → among (codes "#Strings") seen ≡ false) → (b ≡ false → among (codes "#US") seen ≡ false) → (c ≡ false → among (codes "#Blob") seen ≡ false) → Once seen (map part_name (three a b c k))
once_three seen true true true k f g h = tt
once_three seen true true false k f g h = (λ known. h refl, tt)
once_three seen true false true k f g h = (λ known. g refl, tt)
once_three seen true false false k f g h = (λ known. g refl, (λ known. among_append (codes "#Blob") seen (codes "#US" ∷ []) (h refl) refl, tt))
once_three seen false true true k f g h = (λ known. f refl, tt)
once_three seen false true false k f g h = (λ known. f refl, (λ known. among_append (codes "#Blob") seen (codes "#Strings" ∷ []) (h refl) refl, tt))
once_three seen false false true k f g h = (λ known. f refl, (λ known. among_append (codes "#US") seen (codes "#Strings" ∷ []) (g refl) refl, tt))
once_three seen false false false k f g h = (
  λ known. f refl,
  (
    λ known. among_append (codes "#US") seen (codes "#Strings" ∷ []) (g refl) refl,
    (λ known. among_append (codes "#Blob") (seen ++ codes "#Strings" ∷ []) (codes "#US" ∷ []) (among_append (codes "#Blob") seen (codes "#Strings" ∷ []) (h refl) refl) refl, tt),
  ),
)

-- ---- rules

-- the tables are whole, and so are the user strings
pub record Whole (k : Known) : Type 0 where
  pub tables : 24 + 4 * count_ones (num k.tables 8 8) ≤ length k.tables
  pub user_strings : are_user_strings 0 (drop 1 k.user_strings) ≡ true

-- the bytes of a stream follow from its name
pub new_at : (old : List ℕ) (k : Known) (s : Stream) (name : List ℕ) → is_named name s ≡ true → new_bytes old k s ≡ new_bytes old k (record { header = s.header; offset = s.offset; size = s.size; name = name })
new_at old k s name e = ap (λ (n : List ℕ). new_bytes old k (record { header = s.header; offset = s.offset; size = s.size; name = n })) ((bytes_decides s.name name).0 e)

pub fine_old : (old : List ℕ) (k : Known) (ss : List Stream) → Whole k → Each (Passes old) ss → Each (λ s. list_any is_zero s.name ≡ false) ss → EachPart Fine (map (old_part old k) ss)
fine_old old k [] w all ends = tt
fine_old old k (s ∷ ss) w all ends = (
  record {
    ended = ends.0;
    plain = all.0.plain;
    tables = λ h. subst (λ (l : List ℕ). 24 + 4 * count_ones (num l 8 8) ≤ length l) (sym (new_at old k s (codes "#~") h)) w.tables;
    user_strings = λ h. subst (λ (l : List ℕ). are_user_strings 0 (drop 1 l) ≡ true) (sym (new_at old k s (codes "#US") h)) w.user_strings;
  },
  fine_old old k ss w all.1 ends.1,
)

different : false ≡ true → ⊥
different h = cc

pub fine_three : (a b c : Bool) (k : Known) → Whole k → EachPart Fine (three a b c k)
fine_three a b c k w = each_part_append Fine (maybe a (codes "#Strings") k.strings ++ maybe b (codes "#US") k.user_strings) (maybe c (codes "#Blob") k.blobs)
    (each_part_append Fine (maybe a (codes "#Strings") k.strings) (maybe b (codes "#US") k.user_strings) (strings a) (user_strings b)) (blobs c)
  where
    blobs : (x : Bool) → EachPart Fine (maybe x (codes "#Blob") k.blobs)
    blobs true = tt
    blobs false = (record { ended = refl; plain = refl; tables = λ h. absurd (different h); user_strings = λ h. absurd (different h) }, tt)

    user_strings : (x : Bool) → EachPart Fine (maybe x (codes "#US") k.user_strings)
    user_strings true = tt
    user_strings false = (record { ended = refl; plain = refl; tables = λ h. absurd (different h); user_strings = λ h. w.user_strings }, tt)

    strings : (x : Bool) → EachPart Fine (maybe x (codes "#Strings") k.strings)
    strings true = tt
    strings false = (record { ended = refl; plain = refl; tables = λ h. absurd (different h); user_strings = λ h. absurd (different h) }, tt)

pub fine_named : (ps : List Part) → EachPart Fine ps → Named ps
fine_named [] all = tt
fine_named (p ∷ ps) all = (all.0.ended, fine_named ps all.1)

pub names_end : (meta : List ℕ) (at n : ℕ) → Each (λ s. list_any is_zero s.name ≡ false) (streams_from meta at n)
names_end meta at zero = tt
names_end meta at (suc n) = go (is_whole_header meta at) (names_end meta (header_end meta at) n)
  where
    go : (b : Bool) → Each (λ s. list_any is_zero s.name ≡ false) (streams_from meta (header_end meta at) n) → Each (λ s. list_any is_zero s.name ≡ false) (cond b (stream_at meta at ∷ streams_from meta (header_end meta at) n) [])
    go true rest = (name_ends (drop (at + 8) meta), rest)
    go false rest = tt

-- ---- the bytes by name

abbrev pub part_named : List ℕ → List Part → List ℕ
part_named name [] = []
part_named name (p ∷ ps) = cond (is_called name p) p.bytes (part_named name ps)

pub heap_is : (meta name : List ℕ) (ss : List Stream) → bytes_of meta (find (is_named name) ss) ≡ part_named name (map (content meta) ss)
heap_is meta name [] = refl
heap_is meta name (s ∷ ss) = go (is_named name s) (heap_is meta name ss)
  where
    go : (b : Bool) → bytes_of meta (find (is_named name) ss) ≡ part_named name (map (content meta) ss) → bytes_of meta (cond b (Some s) (find (is_named name) ss)) ≡ cond b (stream_bytes meta s) (part_named name (map (content meta) ss))
    go true e = refl
    go false e = e

pub old_named : (old : List ℕ) (k : Known) (name v : List ℕ) (more : List Part) (ss : List Stream) → ((s : Stream) → is_named name s ≡ true → new_bytes old k s ≡ v) → (find (is_named name) ss ≡ None → part_named name more ≡ v) → part_named name (map (old_part old k) ss ++ more) ≡ v
old_named old k name v more [] there missing = missing refl
old_named old k name v more (s ∷ ss) there missing = go (is_named name s) refl (λ h. old_named old k name v more ss there h) missing
  where
    go : (b : Bool) → is_named name s ≡ b → ((find (is_named name) ss ≡ None → part_named name more ≡ v) → part_named name (map (old_part old k) ss ++ more) ≡ v) → (cond b (Some s) (find (is_named name) ss) ≡ None → part_named name more ≡ v)
        → cond b (new_bytes old k s) (part_named name (map (old_part old k) ss ++ more)) ≡ v
    go true e rest h = there s e
    go false e rest h = rest h

pub tables_three : (a b c : Bool) (k : Known) → part_named (codes "#~") (three a b c k) ≡ []
tables_three true true true k = refl
tables_three true true false k = refl
tables_three true false true k = refl
tables_three true false false k = refl
tables_three false true true k = refl
tables_three false true false k = refl
tables_three false false true k = refl
tables_three false false false k = refl

pub guids_three : (a b c : Bool) (k : Known) → part_named (codes "#GUID") (three a b c k) ≡ []
guids_three true true true k = refl
guids_three true true false k = refl
guids_three true false true k = refl
guids_three true false false k = refl
guids_three false true true k = refl
guids_three false true false k = refl
guids_three false false true k = refl
guids_three false false false k = refl

pub strings_three : (a b c : Bool) (k : Known) → part_named (codes "#Strings") (three a b c k) ≡ cond a [] k.strings
strings_three false b c k = refl
strings_three true true true k = refl
strings_three true true false k = refl
strings_three true false true k = refl
strings_three true false false k = refl

pub user_strings_three : (a b c : Bool) (k : Known) → part_named (codes "#US") (three a b c k) ≡ cond b [] k.user_strings
user_strings_three true false c k = refl
user_strings_three false false c k = refl
user_strings_three true true true k = refl
user_strings_three true true false k = refl
user_strings_three false true true k = refl
user_strings_three false true false k = refl

pub blobs_three : (a b c : Bool) (k : Known) → part_named (codes "#Blob") (three a b c k) ≡ cond c [] k.blobs
blobs_three true true true k = refl
blobs_three true true false k = refl
blobs_three true false true k = refl
blobs_three true false false k = refl
blobs_three false true true k = refl
blobs_three false true false k = refl
blobs_three false false true k = refl
blobs_three false false false k = refl

-- a heap that was missing is there with all its bytes, or has none
pub gained : (o : Option Stream) (heap added : List ℕ) → o ≡ None → heap ≡ [] → cond (is_some o || eqb (length added) 0) [] (padded 4 (heap ++ added)) ≡ padded 4 (heap ++ added)
gained o heap added none empty = ap (λ (x : Option Stream). cond (is_some x || eqb (length added) 0) [] (padded 4 (heap ++ added))) none ∙ go (eqb (length added) 0) refl
  where
    nothing : (l : List ℕ) → length l ≡ 0 → l ≡ []
    nothing [] h = refl
    nothing (x ∷ xs) h = absurd (omega (arith, h))

    go : (b : Bool) → eqb (length added) 0 ≡ b → cond b [] (padded 4 (heap ++ added)) ≡ padded 4 (heap ++ added)
    go false e = refl
    go true e = sym (ap₂ (λ (x y : List ℕ). padded 4 (x ++ y)) empty (nothing added (eqb-true (length added) 0 e)))

-- ---- the sizes of known streams

pub record Words (k : Known) : Type 0 where
  pub tables : length k.tables % 4 ≡ 0
  pub strings : length k.strings % 4 ≡ 0
  pub user_strings : length k.user_strings % 4 ≡ 0
  pub guids : length k.guids % 4 ≡ 0
  pub blobs : length k.blobs % 4 ≡ 0

abbrev pub IsWord : Part → Type 0
IsWord p = knows p.name ≡ true → length p.bytes % 4 ≡ 0

known_word : (k : Known) → Words k → (t a b c d : Bool) (z : List ℕ) → (t || (a || (b || (c || (d || false))))) ≡ true → length (cond t k.tables (cond a k.strings (cond b k.user_strings (cond c k.guids (cond d k.blobs z))))) % 4 ≡ 0
known_word k w true a b c d z h = w.tables
known_word k w false true b c d z h = w.strings
known_word k w false false true c d z h = w.user_strings
known_word k w false false false true d z h = w.guids
known_word k w false false false false true z h = w.blobs
known_word k w false false false false false z h = absurd (different h)

pub words_old : (old : List ℕ) (k : Known) (ss : List Stream) → Words k → EachPart IsWord (map (old_part old k) ss)
words_old old k [] w = tt
words_old old k (s ∷ ss) w = (
  λ h. known_word k w (is_named (codes "#~") s) (is_named (codes "#Strings") s) (is_named (codes "#US") s) (is_named (codes "#GUID") s) (is_named (codes "#Blob") s) (stream_bytes old s) h,
  words_old old k ss w,
)

maybe_word : (b : Bool) (name bytes : List ℕ) → length bytes % 4 ≡ 0 → EachPart IsWord (maybe b name bytes)
maybe_word true name bytes h = tt
maybe_word false name bytes h = (λ known. h, tt)

pub words_three : (a b c : Bool) (k : Known) → Words k → EachPart IsWord (three a b c k)
words_three a b c k w = each_part_append IsWord (maybe a (codes "#Strings") k.strings ++ maybe b (codes "#US") k.user_strings) (maybe c (codes "#Blob") k.blobs)
    (each_part_append IsWord (maybe a (codes "#Strings") k.strings) (maybe b (codes "#US") k.user_strings) (maybe_word a (codes "#Strings") k.strings w.strings) (maybe_word b (codes "#US") k.user_strings w.user_strings))
    (maybe_word c (codes "#Blob") k.blobs w.blobs)

pub words_placed : (meta : List ℕ) (ss : List Stream) (ps : List Part) → ArePart meta ss ps → EachPart IsWord ps → All (λ s. is_known s ≡ true → s.size % 4 ≡ 0) ss
words_placed meta [] ps h w = λ k d lt. absurd (omega arith)
words_placed meta (s ∷ ss) [] h w = absurd h
words_placed meta (s ∷ ss) (p ∷ ps) h w = go (words_placed meta ss ps h.1 w.1)
  where
    here : is_known s ≡ true → s.size % 4 ≡ 0
    here known = ap (λ (n : ℕ). n % 4) h.0.size_is ∙ w.0 (sym (ap knows h.0.named) ∙ known)

    go : All (λ (t : Stream). is_known t ≡ true → t.size % 4 ≡ 0) ss → All (λ (t : Stream). is_known t ≡ true → t.size % 4 ≡ 0) (s ∷ ss)
    go rest zero d lt = here
    go rest (suc k) d lt = rest k d (omega arith)

-- ---- unknown streams

abbrev pub is_plain : Part → Bool
is_plain p = not (knows p.name)

pub unknown_content : (meta : List ℕ) (ss : List Stream) → map (content meta) (filter (λ s. not (is_known s)) ss) ≡ filter is_plain (map (content meta) ss)
unknown_content meta [] = refl
unknown_content meta (s ∷ ss) = go (is_known s) (unknown_content meta ss)
  where
    go : (b : Bool) → map (content meta) (filter (λ s. not (is_known s)) ss) ≡ filter is_plain (map (content meta) ss)
        → map (content meta) (cond (not b) (s ∷ filter (λ s. not (is_known s)) ss) (filter (λ s. not (is_known s)) ss)) ≡ cond (not b) (content meta s ∷ filter is_plain (map (content meta) ss)) (filter is_plain (map (content meta) ss))
    go true e = e
    go false e = ap (λ (l : List Part). content meta s ∷ l) e

own_bytes : (t a b c d : Bool) (u v w x y z : List ℕ) → (t || (a || (b || (c || (d || false))))) ≡ false → cond t u (cond a v (cond b w (cond c x (cond d y z)))) ≡ z
own_bytes true a b c d u v w x y z h = absurd cc
own_bytes false true b c d u v w x y z h = absurd cc
own_bytes false false true c d u v w x y z h = absurd cc
own_bytes false false false true d u v w x y z h = absurd cc
own_bytes false false false false true u v w x y z h = absurd cc
own_bytes false false false false false u v w x y z h = refl

unknown_old : (old : List ℕ) (k : Known) (ss : List Stream) → filter is_plain (map (old_part old k) ss) ≡ map (content old) (filter (λ s. not (is_known s)) ss)
unknown_old old k [] = refl
unknown_old old k (s ∷ ss) = go (is_known s) refl (unknown_old old k ss)
  where
    go : (b : Bool) → is_known s ≡ b → filter is_plain (map (old_part old k) ss) ≡ map (content old) (filter (λ s. not (is_known s)) ss)
        → cond (not b) (old_part old k s ∷ filter is_plain (map (old_part old k) ss)) (filter is_plain (map (old_part old k) ss)) ≡ map (content old) (cond (not b) (s ∷ filter (λ s. not (is_known s)) ss) (filter (λ s. not (is_known s)) ss))
    go true e rest = rest
    go false e rest =
        ap₂ (λ (p : Part) (l : List Part). p ∷ l)
        (part_same s.name s.name (new_bytes old k s) (stream_bytes old s) refl
        (own_bytes (is_named (codes "#~") s) (is_named (codes "#Strings") s) (is_named (codes "#US") s) (is_named (codes "#GUID") s) (is_named (codes "#Blob") s) k.tables k.strings k.user_strings k.guids k.blobs (stream_bytes old s) e)) rest

plain_three : (a b c : Bool) (k : Known) → filter is_plain (three a b c k) ≡ []
plain_three true true true k = refl
plain_three true true false k = refl
plain_three true false true k = refl
plain_three true false false k = refl
plain_three false true true k = refl
plain_three false true false k = refl
plain_three false false true k = refl
plain_three false false false k = refl

pub unknown_kept : (old : List ℕ) (k : Known) (ss : List Stream) (a b c : Bool) → filter is_plain (map (old_part old k) ss ++ three a b c k) ≡ map (content old) (filter (λ s. not (is_known s)) ss)
unknown_kept old k ss a b c =
    filter-append is_plain (map (old_part old k) ss) (three a b c k)
    ∙ ap₂ (λ (x y : List Part). x ++ y) (unknown_old old k ss) (plain_three a b c k)
    ∙ append-nil (map (content old) (filter (λ s. not (is_known s)) ss))
