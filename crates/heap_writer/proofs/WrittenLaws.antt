-- What a written root is: it breaks no rule, and has the old streams, the heaps with what was added, and the new tables.
use Rattle.std.proofs.Common.{◌≡◌, ℕ, zero, suc, ◌+◌, ◌*◌, ◌%◌, ◌^◌, ◌≤◌, ◌<◌, eqb, ltb, not, Bool, true, false, cond, ◌||◌, ◌&&◌, List, [], ◌∷◌, ◌++◌, length, drop, Option, Some, None, is_some, refl, sym, ap, ap₂, subst, ◌∙◌, arith, append-nil, codes}
use Rattle.std.specs.Prelude.{map, filter, count_ones}
use Rattle.std.specs.Cmp.Lexicographic.{pointwise}
use Rattle.std.proofs.lemmas.Bool.{eq-eqb}
use Rattle.cil_base.specs.declared.rule.Rule.TheVariants.{M1, M2}
use Rattle.cil_base.specs.Refusals.{NoneBroken}
use Rattle.cil_base.specs.Numbers.{num}
use Rattle.cli_heaps.specs.Root.{Stream, stream_count, first_header, streams, stream_bytes, is_named, bytes_of, first_named, heap_named, strings, blobs, user_strings, guids}
use Rattle.cli_heaps.specs.RootRules.{Broken, is_signed, root_cut, root_tests, test, header_tests, lacks_tables, are_user_strings, is_repeated}
use Rattle.cli_heaps.specs.Entries.{string_at, blob_at, guid_at}
use Rattle.heap_writer.specs.Growth.{HeapGrowth, HeapGrowths, ReadsAt, AllRead, KeepsUserStrings}
use Rattle.cil_base.specs.Bytes.{zeros, padding, padded}
use Rattle.heap_writer.specs.Written.{Part, Known, grown_known, new_bytes, old_part, parts, bodies, first_body, written_root, GrewFrom, IsWritten, Keeps, EntriesRead}
use Rattle.heap_writer.proofs.ReadLaws.{if_some, string_kept, blob_kept, guid_kept}
use Rattle.heap_writer.proofs.UserStringLaws.{user_strings_join}
use Rattle.cli_heaps.proofs.AcceptedLaws.{NoneFails, behind_root, all_whole, header_within}
use Rattle.heap_writer.proofs.PieceLaws.{padded_word}
use Rattle.heap_writer.proofs.PlacedLaws.{ArePart, contents_placed, aligned_placed}
use Rattle.heap_writer.proofs.OnceLaws.{Each, Once, name_of, among, knows, each_found, each_map, found_among, once_append, once_read, not_repeated}
use Rattle.heap_writer.proofs.RuleLaws.{Passes, each_passes, none_more, none_fails, Fine, EachPart, each_part_append, fine_cut, fine_plain}
use Rattle.heap_writer.proofs.FrontLaws.{Reads, read_root}
use Rattle.heap_writer.proofs.PartLaws.{part_name, names_placed, names_all, once_three, Whole, new_at, fine_old, fine_three, fine_named, names_end, part_named, heap_is, old_named, guids_three, strings_three, user_strings_three, blobs_three, gained, Words, IsWord, words_old, words_three, words_placed, unknown_content, unknown_kept, three}

-- ---- user strings stay whole

user_strings_zeros : (n : ℕ) → are_user_strings 0 (zeros n) ≡ true
user_strings_zeros zero = refl
user_strings_zeros (suc n) = user_strings_zeros n

user_strings_filled : (heap : List ℕ) → are_user_strings 0 (drop 1 heap) ≡ true → are_user_strings 0 (drop 1 (padded 4 heap)) ≡ true
user_strings_filled [] h = refl
user_strings_filled (x ∷ xs) h = user_strings_join 0 xs (zeros (padding 4 (length (x ∷ xs)))) h ∙ user_strings_zeros (padding 4 (length (x ∷ xs)))

-- ---- rules

each_rule : (new : List ℕ) (ss : List Stream) (ps : List Part) → ArePart new ss ps → EachPart Fine ps → Each (λ s. is_repeated new s ≡ false) ss → Each (Passes new) ss
each_rule new [] [] are fine once = tt
each_rule new [] (p ∷ ps) are fine once = absurd are
each_rule new (s ∷ ss) [] are fine once = absurd are
each_rule new (s ∷ ss) (p ∷ ps) are fine once = (record { cut = fine_cut new s p are.0 fine.0; once = once.0; plain = fine_plain s p are.0.named fine.0 }, each_rule new ss ps are.1 fine.1 once.1)

pub accepted : (new : List ℕ) (a : ℕ) → is_signed new ≡ true → root_cut new ≡ None → length (streams new) ≡ stream_count new → is_some (first_named new (codes "#~")) ≡ true → Each (Passes new) (streams new) → NoneBroken (Broken new a)
unfolding Broken
accepted new a signed cut whole tables all = none_more (test M1 a 0 (not (is_signed new))) (cond (is_signed new) (root_tests new a (root_cut new)) []) (ap not signed) (rw (signed, cut) behind)
  where
    behind : NoneFails (test M2 a 0 (lacks_tables new) ∷ header_tests new a (first_header new) (stream_count new))
    behind = none_more (test M2 a 0 (lacks_tables new)) (header_tests new a (first_header new) (stream_count new)) (ap₂ (λ (x y : Bool). x && not y) refl tables ∙ no (eqb (length (streams new)) (stream_count new))) (none_fails new a (first_header new) (stream_count new) whole all)
      where
        no : (b : Bool) → (b && not true) ≡ false
        no true = refl
        no false = refl

-- what the rules say of the old user strings
pub user_strings_old : (old : List ℕ) → Each (Passes old) (streams old) → are_user_strings 0 (drop 1 (user_strings old)) ≡ true
user_strings_old old all = go (first_named old (codes "#US")) refl
  where
    third : (a b c d : Bool) → (a || b || (c && not d)) ≡ false → c ≡ true → d ≡ true
    third true b c d e f = absurd cc
    third false true c d e f = absurd cc
    third false false true true e f = refl
    third false false true false e f = absurd cc
    third false false false d e f = absurd cc

    go : (o : Option Stream) → first_named old (codes "#US") ≡ o → are_user_strings 0 (drop 1 (bytes_of old o)) ≡ true
    go None e = refl
    go (Some s) e = let found = each_found (Passes old) (is_named (codes "#US")) (streams old) s all e in third (ltb (length old) (s.offset + s.size)) (is_named (codes "#~") s && ltb (length (stream_bytes old s)) (24 + 4 * count_ones (num (stream_bytes old s) 8 8))) (is_named (codes "#US") s) (are_user_strings 0 (drop 1 (stream_bytes old s))) found.0.cut found.1

-- the tables are there
pub tables_old : (old : List ℕ) (a : ℕ) → NoneBroken (Broken old a) → is_some (first_named old (codes "#~")) ≡ true
tables_old old a none =
    let behind = behind_root old a none in
    let count : length (streams old) ≡ stream_count old = all_whole old a (first_header old) (stream_count old) (header_within old a none) behind.1 in
    go (is_some (first_named old (codes "#~"))) (sym (ap (λ (b : Bool). b && not (is_some (first_named old (codes "#~")))) (eq-eqb (length (streams old)) (stream_count old) count)) ∙ behind.0)
  where
    go : (b : Bool) → (true && not b) ≡ false → b ≡ true
    go true e = refl
    go false e = absurd cc

among_front : (name : List ℕ) (xs ys : List (List ℕ)) → among name xs ≡ true → among name (xs ++ ys) ≡ true
among_front name [] ys h = absurd cc
among_front name (x ∷ xs) ys h = go (pointwise eqb x name) (λ k. among_front name xs ys k) h
  where
    go : (b : Bool) → (among name xs ≡ true → among name (xs ++ ys) ≡ true) → (b || among name xs) ≡ true → (b || among name (xs ++ ys)) ≡ true
    go true rest k = refl
    go false rest k = rest k

or_left : (a b : Bool) → (a || b) ≡ false → a ≡ false
or_left true b e = absurd cc
or_left false b e = refl

-- whether a heap was there, or gains nothing
abbrev pub kept : List ℕ → List ℕ → List ℕ → Bool
kept old name added = is_some (first_named old name) || eqb (length added) 0

-- what is read in the new root, and that no rule is broken there
pub record Rooted (old new : List ℕ) (g : HeapGrowths) (t : List ℕ) : Type 0 where
  pub reads : Reads old new (parts old g t)
  pub passes : Each (Passes new) (streams new)
  pub tables : is_some (first_named new (codes "#~")) ≡ true

abbrev pub more : List ℕ → HeapGrowths → List ℕ → List Part
more old g t = three (kept old (codes "#Strings") g.strings.added) (kept old (codes "#US") g.user_strings.added) (kept old (codes "#Blob") g.blobs.added) (grown_known old g t)

absent : (old name added : List ℕ) → kept old name added ≡ false → among name (map name_of (streams old)) ≡ false
absent old name added h = sym (found_among name (streams old)) ∙ or_left (is_some (first_named old name)) (eqb (length added) 0) h

pub rooted : (old new : List ℕ) (g : HeapGrowths) (t : List ℕ) (a : ℕ) → NoneBroken (Broken old a) → GrewFrom old g → KeepsUserStrings g.user_strings → 24 + 4 * count_ones (num t 8 8) ≤ length t
    → new ≡ written_root old (parts old g t) → length (parts old g t) < 2 ^ 16 → first_body old (parts old g t) + length (bodies (parts old g t)) < 2 ^ 32 → Rooted old new g t
rooted old new g t a none grew keeps long e few short =
    let all : Each (Passes old) (streams old) = each_passes old a (first_header old) (stream_count old) (behind_root old a none).1 in
    let whole : Whole (grown_known old g t) = record { tables = long; user_strings = user_strings_filled (user_strings old ++ g.user_strings.added) (keeps (user_strings old) (sym grew.user_strings) (user_strings_old old all)) } in
    let fine : EachPart Fine (parts old g t) =
    each_part_append Fine (map (old_part old (grown_known old g t)) (streams old)) (more old g t)
    (fine_old old (grown_known old g t) (streams old) whole all (names_end old (first_header old) (stream_count old)))
    (fine_three (kept old (codes "#Strings") g.strings.added) (kept old (codes "#US") g.user_strings.added) (kept old (codes "#Blob") g.blobs.added) (grown_known old g t) whole) in
    let reads : Reads old new (parts old g t) = read_root old new a (parts old g t) none e few (fine_named (parts old g t) fine) short in
    let names : map name_of (streams new) ≡ map name_of (streams old) ++ map part_name (more old g t) =
    names_placed new (streams new) (parts old g t) reads.parts ∙ names_all old (grown_known old g t) (streams old) (more old g t) in
    let once_old : Once [] (map name_of (streams old)) =
    once_read old [] (first_header old) (stream_count old) refl tt (each_map (Passes old) (λ s. is_repeated old s ≡ false) (streams old) (λ s p. p.once) all) in
    let once_new : Once [] (map name_of (streams new)) =
    subst (Once []) (sym names) (once_append [] (map name_of (streams old)) (map part_name (more old g t)) once_old
    (once_three (map name_of (streams old)) (kept old (codes "#Strings") g.strings.added) (kept old (codes "#US") g.user_strings.added) (kept old (codes "#Blob") g.blobs.added) (grown_known old g t)
    (absent old (codes "#Strings") g.strings.added) (absent old (codes "#US") g.user_strings.added) (absent old (codes "#Blob") g.blobs.added))) in
    record {
      reads = reads;
      passes = each_rule new (streams new) (parts old g t) reads.parts fine (not_repeated new [] (streams new) refl once_new);
      tables = found_among (codes "#~") (streams new) ∙ ap (among (codes "#~")) names
          ∙ among_front (codes "#~") (map name_of (streams old)) (map part_name (more old g t)) (sym (found_among (codes "#~") (streams old)) ∙ tables_old old a none);
    }

-- the bytes of a known stream
named_bytes : (old new : List ℕ) (g : HeapGrowths) (t name v : List ℕ) → Rooted old new g t → ((s : Stream) → is_named name s ≡ true → new_bytes old (grown_known old g t) s ≡ v) → (first_named old name ≡ None → part_named name (more old g t) ≡ v) → heap_named new name ≡ v
named_bytes old new g t name v r there missing =
    heap_is new name (streams new)
    ∙ ap (part_named name) (contents_placed new (streams new) (parts old g t) r.reads.parts)
    ∙ old_named old (grown_known old g t) name v (more old g t) (streams old) there missing

all_words : (old : List ℕ) (g : HeapGrowths) (t : List ℕ) → length t % 4 ≡ 0 → Words (grown_known old g t)
all_words old g t word = record {
  tables = word;
  strings = padded_word (strings old ++ g.strings.added);
  user_strings = padded_word (user_strings old ++ g.user_strings.added);
  guids = padded_word (guids old);
  blobs = padded_word (blobs old ++ g.blobs.added);
}

pub is_written : (old new : List ℕ) (g : HeapGrowths) (t : List ℕ) (a : ℕ) → NoneBroken (Broken old a) → first_body old (parts old g t) + length (bodies (parts old g t)) < 2 ^ 32 → length t % 4 ≡ 0 → Rooted old new g t → IsWritten old g t new
is_written old new g t a none short word r =
    let k : Known = grown_known old g t in
    let x : Bool = kept old (codes "#Strings") g.strings.added in
    let y : Bool = kept old (codes "#US") g.user_strings.added in
    let z : Bool = kept old (codes "#Blob") g.blobs.added in
    record {
      accepted = λ b. accepted new b r.reads.signed r.reads.cut r.reads.whole r.tables r.passes;
      short = omega (arith, r.reads.long, short);
      version_is = r.reads.text;
      contents_are = contents_placed new (streams new) (parts old g t) r.reads.parts;
      aligned = aligned_placed new (streams new) (parts old g t) r.reads.parts;
      words = words_placed new (streams new) (parts old g t) r.reads.parts
          (each_part_append IsWord (map (old_part old k) (streams old)) (more old g t) (words_old old k (streams old) (all_words old g t word)) (words_three x y z k (all_words old g t word)));
      tables_are = named_bytes old new g t (codes "#~") t r (λ s h. new_at old k s (codes "#~") h) (λ h. absurd (differ (sym (ap is_some h) ∙ tables_old old a none)));
      strings_are = named_bytes old new g t (codes "#Strings") (padded 4 (strings old ++ g.strings.added)) r (λ s h. new_at old k s (codes "#Strings") h)
          (λ h. strings_three x y z k ∙ gained (first_named old (codes "#Strings")) (strings old) g.strings.added h (ap (bytes_of old) h));
      blobs_are = named_bytes old new g t (codes "#Blob") (padded 4 (blobs old ++ g.blobs.added)) r (λ s h. new_at old k s (codes "#Blob") h)
          (λ h. blobs_three x y z k ∙ gained (first_named old (codes "#Blob")) (blobs old) g.blobs.added h (ap (bytes_of old) h));
      user_strings_are = named_bytes old new g t (codes "#US") (padded 4 (user_strings old ++ g.user_strings.added)) r (λ s h. new_at old k s (codes "#US") h)
          (λ h. user_strings_three x y z k ∙ gained (first_named old (codes "#US")) (user_strings old) g.user_strings.added h (ap (bytes_of old) h));
      guids_are = named_bytes old new g t (codes "#GUID") (padded 4 (guids old)) r (λ s h. new_at old k s (codes "#GUID") h)
          (λ h. guids_three x y z k ∙ sym (ap (λ (o : Option Stream). padded 4 (bytes_of old o)) h));
      unknown_are = unknown_content new (streams new)
          ∙ ap (filter (λ (p : Part). not (knows p.name))) (contents_placed new (streams new) (parts old g t) r.reads.parts)
          ∙ unknown_kept old k (streams old) x y z;
    }
  where
    differ : false ≡ true → ⊥
    differ h = cc

-- ---- entries

keeps_entries : (read : List ℕ → ℕ → Option (List ℕ)) → ((heap more : List ℕ) (at : ℕ) (s : List ℕ) → read heap at ≡ Some s → read (heap ++ more) at ≡ Some s) → (old added new : List ℕ) → new ≡ padded 4 (old ++ added) → Keeps read old new
keeps_entries read stays old added new e at =
    if_some (read old at) (λ s. read new at ≡ Some s)
    (λ s h. ap (λ (l : List ℕ). read l at) e ∙ stays (old ++ added) (zeros (padding 4 (length (old ++ added)))) at s (stays old added at s h))

reads_entries : (read : List ℕ → ℕ → Option (List ℕ)) → ((heap more : List ℕ) (at : ℕ) (s : List ℕ) → read heap at ≡ Some s → read (heap ++ more) at ≡ Some s) → (old new : List ℕ) (g : HeapGrowth) → g.base ≡ length old → new ≡ padded 4 (old ++ g.added) → (at : ℕ) (s : List ℕ) → ReadsAt read g at s → read new at ≡ Some s
reads_entries read stays old new g base e at s there = ap (λ (l : List ℕ). read l at) e ∙ stays (old ++ g.added) (zeros (padding 4 (length (old ++ g.added)))) at s (there old (sym base))

pub entries_read : (old new : List ℕ) (g : HeapGrowths) (t : List ℕ) → GrewFrom old g → AllRead string_at g.strings → AllRead blob_at g.blobs → AllRead blob_at g.user_strings → IsWritten old g t new → EntriesRead old g new
entries_read old new g t grew ss bs us w = record {
  old_strings = keeps_entries string_at string_kept (strings old) g.strings.added (strings new) w.strings_are;
  old_blobs = keeps_entries blob_at blob_kept (blobs old) g.blobs.added (blobs new) w.blobs_are;
  old_user_strings = keeps_entries blob_at blob_kept (user_strings old) g.user_strings.added (user_strings new) w.user_strings_are;
  old_guids = keeps_entries guid_at guid_kept (guids old) [] (guids new) (w.guids_are ∙ ap (padded 4) (sym (append-nil (guids old))));
  strings_read = λ s at h. reads_entries string_at string_kept (strings old) (strings new) g.strings grew.strings w.strings_are at s (ss s at h);
  blobs_read = λ s at h. reads_entries blob_at blob_kept (blobs old) (blobs new) g.blobs grew.blobs w.blobs_are at s (bs s at h);
  user_strings_read = λ s at h. reads_entries blob_at blob_kept (user_strings old) (user_strings new) g.user_strings grew.user_strings w.user_strings_are at s (us s at h);
  new_strings = λ at s h. reads_entries string_at string_kept (strings old) (strings new) g.strings grew.strings w.strings_are at s h;
  new_blobs = λ at s h. reads_entries blob_at blob_kept (blobs old) (blobs new) g.blobs grew.blobs w.blobs_are at s h;
  new_user_strings = λ at s h. reads_entries blob_at blob_kept (user_strings old) (user_strings new) g.user_strings grew.user_strings w.user_strings_are at s h;
}
