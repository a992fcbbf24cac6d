-- The regions of a body that is read can be written.
use Rattle.std.proofs.Common.{◌≡◌, ℕ, zero, suc, ◌+◌, ◌*◌, ◌^◌, ◌<◌, ◌≤◌, Bool, true, false, cond, List, [], ◌∷◌, ◌++◌, length, drop, get_or, Option, Some, None, refl, subst, arith, length-append, ⊎_elim}
use Rattle.std.specs.Prelude.{nat_le, ◌==◌}
use Rattle.std.specs.List.{list_all}
use Rattle.std.specs.Option.{option_map}
use Rattle.std.proofs.Math.ListN.{get_or-append}
use Rattle.std.proofs.lemmas.Bool.{cases_lt}
use Rattle.std.proofs.lemmas.List.Quantifiers.{position-Some}
use Rattle.cil_base.proofs.Small.{equal}
use Rattle.cil_base.specs.Tokens.{token_of}
use Rattle.cil_model.specs.declared.body.Instr.{Instr}
use Rattle.cil_model.specs.declared.body.Region.{Region}
use Rattle.cil_model.specs.declared.body.RegionKind.{RegionKind}
use Rattle.cil_model.specs.declared.body.RegionKind.TheVariants.{Catch, Filter, Finally, Fault}
use Rattle.cil_model.specs.declared.layout.Layout.{Layout}
use Rattle.cil_model.specs.declared.layout.MethodHeader.{MethodHeader}
use Rattle.cil_model.specs.declared.layout.RawClause.{RawClause}
use Rattle.cil_model.specs.declared.layout.Section.{Section}
use Rattle.cil_model.specs.BodyLayout as layout
use Rattle.cil_model.specs.BodyLayout.{aligned, before, clause_at, clauses, clauses_of, header_of, is_kind, layout_of, section_at, sections_at, width}
use Rattle.cil_model.specs.BodyOf.{and_all, kind_of, map_all, index_of, region_of, region_with}
use Rattle.cil_model.specs.BodyCode.{Reads, instr_at}
use Rattle.il_code.specs.Answers.{Rise}
use Rattle.cil_model.specs.ValidBody.{AllValidRegions, AreBytes, IsValidKind, IsValidRegion}
use Rattle.il_body.proofs.KindLaws.{bytes_drop, small_num, small_token}
use Rattle.il_body.proofs.ReadLaws.{is_read}

-- ---- the last numbers of clauses have four bytes

abbrev AllLast : List RawClause → Type 0
AllLast [] = Unit {0}
AllLast (c ∷ cs) = (c.last < 2 ^ 32) × AllLast cs

last-append : (xs ys : List RawClause) → AllLast xs → AllLast ys → AllLast (xs ++ ys)
last-append [] ys a b = b
last-append (x ∷ xs) ys a b = (a.0, last-append xs ys a.1 b)

last_clause : (fat : Bool) (bytes : List ℕ) (at : ℕ) → AreBytes bytes → (clause_at fat bytes at).last < 2 ^ 32
last_clause true bytes at b = let s = small_num bytes (at + 20) 4 b in omega arith
last_clause false bytes at b = let s = small_num bytes (at + 8) 4 b in omega arith

last_clauses : (fat : Bool) (bytes : List ℕ) (from n : ℕ) → AreBytes bytes → AllLast (clauses fat bytes from n)
last_clauses fat bytes from zero b = tt
last_clauses fat bytes from (suc n) b =
    last-append (clauses fat bytes from n) (clause_at fat bytes (from + width fat * n) ∷ []) (last_clauses fat bytes from n b) (last_clause fat bytes (from + width fat * n) b, tt)

abbrev Answer : Type 0
Answer = Option (List RawClause × ℕ)

abbrev IsGood : Answer → Type 0
IsGood None = Unit {0}
IsGood (Some x) = AllLast x.0

good_before : (xs : List RawClause) (o : Answer) → AllLast xs → IsGood o → IsGood (before xs o)
good_before xs None a g = tt
good_before xs (Some x) a g = last-append xs x.0 a g

good_section : (more : ℕ → Answer) (bytes : List ℕ) (s : Section) → AreBytes bytes → ((at : ℕ) → IsGood (more at)) → (known next : Bool) → IsGood (cond known (cond next (before (clauses_of bytes s) (more s.end)) (Some (clauses_of bytes s, s.end))) None)
good_section more bytes s b g false next = tt
good_section more bytes s b g true true = good_before (clauses_of bytes s) (more s.end) (last_clauses s.fat bytes s.from s.count b) (g s.end)
good_section more bytes s b g true false = last_clauses s.fat bytes s.from s.count b

good_with : (more : ℕ → Answer) (bytes : List ℕ) (o : Option Section) → AreBytes bytes → ((at : ℕ) → IsGood (more at)) → IsGood (layout.with_section more bytes o)
good_with more bytes None b g = tt
good_with more bytes (Some s) b g = good_section more bytes s b g (list_all is_kind (clauses_of bytes s)) s.more

good_sections : (bytes : List ℕ) (k at : ℕ) → AreBytes bytes → IsGood (sections_at bytes k at)
unfolding sections_at
good_sections bytes zero at b = tt
good_sections bytes (suc k) at b = good_with (sections_at bytes k) bytes (section_at bytes (aligned at)) b (λ to. good_sections bytes k to b)

abbrev IsLaid : Option Layout → Type 0
IsLaid None = Unit {0}
IsLaid (Some l) = AllLast l.clauses

laid_with : (h : MethodHeader) (o : Answer) → IsGood o → IsLaid (layout.with_clauses h o)
laid_with h None g = tt
laid_with h (Some x) g = g

good_behind : (bytes : List ℕ) (h : MethodHeader) (end : ℕ) (more : Bool) → AreBytes bytes → IsGood (cond more (sections_at bytes (length bytes) end) (Some ([], end)))
good_behind bytes h end true b = good_sections bytes (length bytes) end b
good_behind bytes h end false b = tt

layout_with : (bytes : List ℕ) (h : MethodHeader) (inside : Bool) → AreBytes bytes → IsLaid (cond inside (layout.with_clauses h (layout.behind_code bytes h (h.size + h.code_size))) None)
layout_with bytes h true b = laid_with h (layout.behind_code bytes h (h.size + h.code_size)) (good_behind bytes h (h.size + h.code_size) h.more b)
layout_with bytes h false b = tt

laid_from : (bytes : List ℕ) (o : Option MethodHeader) → AreBytes bytes → IsLaid (layout.layout_with bytes o)
laid_from bytes None b = tt
laid_from bytes (Some h) b = layout_with bytes h (nat_le (h.size + h.code_size) (length bytes)) b

last_layout : (bytes : List ℕ) (l : Layout) → AreBytes bytes → layout_of bytes ≡ Some l → AllLast l.clauses
unfolding layout_of
last_layout bytes l b e = subst IsLaid e (laid_from bytes (header_of bytes) b)

-- ---- offsets rise

low_offsets : (a at : ℕ) (bytes : List ℕ) (is : List Instr) (os : List ℕ) (end : ℕ) → AreBytes bytes → Reads (instr_at a) at bytes is os end [] → (k : ℕ) → k < length os → at ≤ get_or os k 0
low_offsets a at bytes [] [] end b r k lt = absurd (omega arith)
low_offsets a at bytes [] (o ∷ os) end b r k lt = absurd r
low_offsets a at bytes (i ∷ is) [] end b r k lt = absurd r
low_offsets a at bytes (i ∷ is) (o ∷ os) end b r zero lt = let e = r.0 in omega arith
low_offsets a at bytes (i ∷ is) (o ∷ os) end b r (suc k) lt =
    let n = r.1.0 in
    let l = low_offsets a (at + n) (drop n bytes) is os end (bytes_drop n bytes b) r.1.2 k (omega arith) in omega arith

rise_offsets : (a at : ℕ) (bytes : List ℕ) (is : List Instr) (os : List ℕ) (end : ℕ) → AreBytes bytes → Reads (instr_at a) at bytes is os end [] → (j k : ℕ) → j < k → k < length os → get_or os j 0 < get_or os k 0
rise_offsets a at bytes [] [] end b r j k lt inside = absurd (omega arith)
rise_offsets a at bytes [] (o ∷ os) end b r j k lt inside = absurd r
rise_offsets a at bytes (i ∷ is) [] end b r j k lt inside = absurd r
rise_offsets a at bytes (i ∷ is) (o ∷ os) end b r j zero lt inside = absurd (omega arith)
rise_offsets a at bytes (i ∷ is) (o ∷ os) end b r zero (suc k) lt inside =
    let n = r.1.0 in
    let some = (is_read a at bytes i n b r.1.1).more in
    let l = low_offsets a (at + n) (drop n bytes) is os end (bytes_drop n bytes b) r.1.2 k (omega arith) in
    let e = r.0 in omega arith
rise_offsets a at bytes (i ∷ is) (o ∷ os) end b r (suc j) (suc k) lt inside =
    let n = r.1.0 in
    rise_offsets a (at + n) (drop n bytes) is os end (bytes_drop n bytes b) r.1.2 j k (omega arith) (omega arith)

-- ---- regions

place_at : (offsets : List ℕ) (at k : ℕ) → index_of offsets at ≡ Some k → (k < length offsets) × (get_or offsets k 0 ≡ at)
place_at offsets at k h =
    let p = position-Some (λ (o : ℕ). o == at) offsets k 0 h in (p.0, equal (get_or offsets k 0) at p.1)

in_order : (offsets : List ℕ) (size from count i j : ℕ) → Rise offsets → index_of offsets from ≡ Some i → index_of (offsets ++ size ∷ []) (from + count) ≡ Some j → (i < length offsets) × (j ≤ length offsets) × (i ≤ j)
in_order offsets size from count i j rise e f =
    let p = place_at offsets from i e in
    let q = place_at (offsets ++ size ∷ []) (from + count) j f in
    let n = length-append offsets (size ∷ []) in
    let first = p.0 in
    let second = q.0 in
    let le : i ≤ j = ⊎_elim
    (λ lt.
    let r = rise j i lt first in
    let same = get_or-append offsets (size ∷ []) 0 j (omega arith) in
    let x = p.1 in let y = q.1 in absurd (omega arith))
    (λ ge. ge)
    (cases_lt j i) in
    (first, omega arith, le)

kind_valid : (offsets : List ℕ) (c : RawClause) (kind : RegionKind) → c.last < 2 ^ 32 → kind_of offsets c ≡ Some kind → IsValidKind (length offsets) kind
kind_valid offsets c kind small h = go (c.flags == 0) (c.flags == 1) (c.flags == 2) (c.flags == 4) h
  where
    filter : (o : Option ℕ) → index_of offsets c.last ≡ o → option_map Filter o ≡ Some kind → IsValidKind (length offsets) kind
    filter None e h = absurd cc
    filter (Some k) e h = let same : Filter k ≡ kind = cc in subst (IsValidKind (length offsets)) same (place_at offsets c.last k e).0

    go : (p q r s : Bool) → cond {A = Option RegionKind} p (Some (Catch (token_of c.last))) (cond q (option_map Filter (index_of offsets c.last)) (cond r (Some Finally) (cond s (Some Fault) None))) ≡ Some kind → IsValidKind (length offsets) kind
    go true q r s h = let same : Catch (token_of c.last) ≡ kind = cc in subst (IsValidKind (length offsets)) same (small_token c.last small)
    go false true r s h = filter (index_of offsets c.last) refl h
    go false false true s h = let same : Finally ≡ kind = cc in subst (IsValidKind (length offsets)) same tt
    go false false false true h = let same : Fault ≡ kind = cc in subst (IsValidKind (length offsets)) same tt
    go false false false false h = absurd cc

-- what a region is made of
record AreParts (k : Option RegionKind) (a b c d : Option ℕ) (r : Region) : Type 0 where
  pub kind : k ≡ Some r.kind
  pub try_from : a ≡ Some r.try_from
  pub try_to : b ≡ Some r.try_to
  pub handler_from : c ≡ Some r.handler_from
  pub handler_to : d ≡ Some r.handler_to

parts : (k : Option RegionKind) (a b c d : Option ℕ) (r : Region) → region_with k a b c d ≡ Some r → AreParts k a b c d r
parts None a b c d r h = absurd cc
parts (Some k) None b c d r h = absurd cc
parts (Some k) (Some a) None c d r h = absurd cc
parts (Some k) (Some a) (Some b) None d r h = absurd cc
parts (Some k) (Some a) (Some b) (Some c) None r h = absurd cc
parts (Some k) (Some a) (Some b) (Some c) (Some d) r h =
    let x : Region = record { kind = k; try_from = a; try_to = b; handler_from = c; handler_to = d } in
    let same : x ≡ r = cc in
    subst (AreParts (Some k) (Some a) (Some b) (Some c) (Some d)) same (record { kind = refl; try_from = refl; try_to = refl; handler_from = refl; handler_to = refl })

region_valid : (offsets : List ℕ) (size : ℕ) (c : RawClause) (r : Region) → Rise offsets → c.last < 2 ^ 32 → region_of offsets size c ≡ Some r → IsValidRegion (length offsets) r
region_valid offsets size c r rise small h =
    let p = parts (kind_of offsets c) (index_of offsets c.try_from) (index_of (offsets ++ size ∷ []) (c.try_from + c.try_size)) (index_of offsets c.handler_from) (index_of (offsets ++ size ∷ []) (c.handler_from + c.handler_size)) r h in
    let x = in_order offsets size c.try_from c.try_size r.try_from r.try_to rise p.try_from p.try_to in
    let y = in_order offsets size c.handler_from c.handler_size r.handler_from r.handler_to rise p.handler_from p.handler_to in
    record { kind = kind_valid offsets c r.kind small p.kind; tried = x.0; tried_end = x.1; tried_order = x.2; handler = y.0; handler_end = y.1; handler_order = y.2 }

region_more : (offsets : List ℕ) (size : ℕ) (c : RawClause) (rs : List Region) (o : Option Region) (p : Option (List Region)) → Rise offsets → c.last < 2 ^ 32 → region_of offsets size c ≡ o → and_all o p ≡ Some rs → ((qs : List Region) → p ≡ Some qs → AllValidRegions (length offsets) qs) → AllValidRegions (length offsets) rs
region_more offsets size c rs None p rise small e h more = absurd cc
region_more offsets size c rs (Some r) None rise small e h more = absurd cc
region_more offsets size c rs (Some r) (Some qs) rise small e h more =
    let same : r ∷ qs ≡ rs = cc in
    subst (AllValidRegions (length offsets)) same (region_valid offsets size c r rise small e, more qs refl)

valid_regions : (offsets : List ℕ) (size : ℕ) (cs : List RawClause) (rs : List Region) → Rise offsets → AllLast cs → map_all (region_of offsets size) cs ≡ Some rs → AllValidRegions (length offsets) rs
valid_regions offsets size [] rs rise small h = let none : List Region = [] in let same : none ≡ rs = cc in subst (AllValidRegions (length offsets)) same tt
valid_regions offsets size (c ∷ cs) rs rise small h =
    region_more offsets size c rs (region_of offsets size c) (map_all (region_of offsets size) cs) rise small.0 refl h (λ qs e. valid_regions offsets size cs qs rise small.1 e)

pub regions_valid : (a : ℕ) (bytes code : List ℕ) (l : Layout) (is : List Instr) (offsets : List ℕ) (rs : List Region) → AreBytes bytes → AreBytes code → layout_of bytes ≡ Some l → Reads (instr_at a) 0 code is offsets l.header.code_size [] → map_all (region_of offsets l.header.code_size) l.clauses ≡ Some rs → AllValidRegions (length offsets) rs
regions_valid a bytes code l is offsets rs b c laid reads h =
    valid_regions offsets l.header.code_size l.clauses rs (rise_offsets a 0 code is offsets l.header.code_size c reads) (last_layout bytes l b laid) h
