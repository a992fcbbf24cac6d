-- Regions read back as clauses of exception sections, one section after another.
use Rattle.std.proofs.Common.{◌≡◌, ⊎_elim, ℕ, zero, suc, ◌+◌, ◌-◌, ◌*◌, ◌/◌, ◌%◌, ◌^◌, ◌<◌, ◌≤◌, Bool, true, false, cond, List, [], ◌∷◌, ◌++◌, map, length, drop, take, get_or, Option, Some, refl, sym, ap, ◌∙◌, subst, arith, append_assoc, append-nil, length-append, length-take, length-drop, take-append-drop}
use Rattle.std.specs.Prelude.{nat_le, ◌==◌, flat_map}
use Rattle.std.specs.List.{list_all}
use Rattle.std.specs.Option.{option_map}
use Rattle.std.specs.Int.{w32, to_le_bytes}
use Rattle.std.proofs.lemmas.Bool.{leb-true, cases_lt}
use Rattle.std.proofs.lemmas.Grind.{common_steps}
use Rattle.cil_base.proofs.PieceLaws.{left_behind, room_behind}
use Rattle.cil_base.specs.declared.token.Token.{Token}
use Rattle.cil_model.specs.declared.body.Region.{Region}
use Rattle.cil_model.specs.declared.body.RegionKind.{RegionKind}
use Rattle.cil_model.specs.declared.body.RegionKind.TheVariants.{Catch, Filter, Finally, Fault}
use Rattle.cil_model.specs.declared.layout.RawClause.{RawClause}
use Rattle.cil_model.specs.declared.layout.Section.{Section}
use Rattle.cil_model.specs.BodyLayout.{aligned, before, bit, clauses, clauses_of, fat_clause, if_sized, is_kind, section_at, section_of, sections_at}
use Rattle.cil_model.specs.BodyOf.{kind_of, map_all, index_of, region_of}
use Rattle.il_code.specs.Answers.{Rise}
use Rattle.il_code.proofs.SectionLaws.{last, next}
use Rattle.cil_model.specs.ValidBody.{AllValidRegions, IsValidKind, IsValidRegion}
use Rattle.il_body.specs.BodyEncoding.{clause_bytes, clause_limit, clause_of, flags_of, last_of, section_bytes, sections}
use Rattle.il_body.proofs.CodeLaws.{AreFound, found_in}
use Rattle.il_body.proofs.NumberLaws.{num_at_back, num_back, token_back}
use Rattle.il_body.proofs.OperandLaws.{AreSmall}

-- ---- regions

kind_back : (offsets all_offsets : List ℕ) (count : ℕ) (r : Region) (kind : RegionKind) → AreFound offsets all_offsets count → IsValidKind count kind → kind_of offsets (clause_of all_offsets (record r { kind = kind })) ≡ Some kind
kind_back offsets all_offsets count r (Catch token) all valid = ap (λ (t : Token). Some (Catch t)) (token_back token valid.1)
kind_back offsets all_offsets count r (Filter k) all valid = ap (option_map Filter) (all k valid)
kind_back offsets all_offsets count r Finally all valid = refl
kind_back offsets all_offsets count r Fault all valid = refl

low : (all_offsets : List ℕ) (i j : ℕ) → Rise all_offsets → i ≤ j → j < length all_offsets → get_or all_offsets i 0 ≤ get_or all_offsets j 0
low all_offsets i j rise le inside = ⊎_elim
    (λ lt. let r = rise i j lt inside in omega arith)
    (λ ge. let e : i ≡ j = omega arith in let s : get_or all_offsets i 0 ≡ get_or all_offsets j 0 = ap (λ (k : ℕ). get_or all_offsets k 0) e in omega arith)
    (cases_lt i j)

end_back : (all_offsets : List ℕ) (i j : ℕ) → Rise all_offsets → i ≤ j → j < length all_offsets → index_of all_offsets (get_or all_offsets i 0 + (get_or all_offsets j 0 - get_or all_offsets i 0)) ≡ Some j
end_back all_offsets i j rise le inside =
    let l = low all_offsets i j rise le inside in
    let e : get_or all_offsets i 0 + (get_or all_offsets j 0 - get_or all_offsets i 0) ≡ get_or all_offsets j 0 = omega arith in
    ap (index_of all_offsets) e ∙ found_in all_offsets j rise inside

region_back : (offsets : List ℕ) (size : ℕ) (r : Region) → AreFound offsets (offsets ++ size ∷ []) (length offsets) → Rise (offsets ++ size ∷ []) → IsValidRegion (length offsets) r → region_of offsets size (clause_of (offsets ++ size ∷ []) r) ≡ Some r
region_back offsets size r all rise valid =
    let all_offsets = offsets ++ size ∷ [] in
    let n = length-append offsets (size ∷ []) in
    let tried_end = valid.tried_end in
    let handler_end = valid.handler_end in
    rw (
      kind_back offsets all_offsets (length offsets) r r.kind all valid.kind,
      all r.try_from valid.tried,
      end_back all_offsets r.try_from r.try_to rise valid.tried_order (omega arith),
      all r.handler_from valid.handler,
      end_back all_offsets r.handler_from r.handler_to rise valid.handler_order (omega arith),
    ) refl

pub regions_back : (offsets : List ℕ) (size : ℕ) (rs : List Region) → AreFound offsets (offsets ++ size ∷ []) (length offsets) → Rise (offsets ++ size ∷ []) → AllValidRegions (length offsets) rs → map_all (region_of offsets size) (map (clause_of (offsets ++ size ∷ [])) rs) ≡ Some rs
regions_back offsets size [] all rise valid = refl
regions_back offsets size (r ∷ rs) all rise valid =
    rw (region_back offsets size r all rise valid.0, regions_back offsets size rs all rise valid.1) refl

-- ---- clauses

-- It has numbers of four bytes, and a known kind.
pub record IsWritable (c : RawClause) : Type 0 where
  pub flags : c.flags < 2 ^ 32
  pub try_from : c.try_from < 2 ^ 32
  pub try_size : c.try_size < 2 ^ 32
  pub handler_from : c.handler_from < 2 ^ 32
  pub handler_size : c.handler_size < 2 ^ 32
  pub last : c.last < 2 ^ 32
  pub kind : is_kind c ≡ true

abbrev pub AllWritable : List RawClause → Type 0
AllWritable [] = Unit {0}
AllWritable (c ∷ cs) = IsWritable c × AllWritable cs

writable_take : (n : ℕ) (cs : List RawClause) → AllWritable cs → AllWritable (take n cs)
writable_take zero cs w = tt
writable_take (suc n) [] w = tt
writable_take (suc n) (c ∷ cs) w = (w.0, writable_take n cs w.1)

writable_drop : (n : ℕ) (cs : List RawClause) → AllWritable cs → AllWritable (drop n cs)
writable_drop zero cs w = w
writable_drop (suc n) [] w = tt
writable_drop (suc n) (c ∷ cs) w = writable_drop n cs w.1

all_kinds : (cs : List RawClause) → AllWritable cs → list_all is_kind cs ≡ true
all_kinds [] w = refl
all_kinds (c ∷ cs) w = rw (w.0.kind, all_kinds cs w.1) refl

small_last : (count : ℕ) (all_offsets : List ℕ) (kind : RegionKind) → AreSmall all_offsets → IsValidKind count kind → last_of all_offsets kind < 2 ^ 32
small_last count all_offsets (Catch token) small valid = let t = valid.0 in let r = valid.1 in omega arith
small_last count all_offsets (Filter k) small valid = small k
small_last count all_offsets Finally small valid = omega arith
small_last count all_offsets Fault small valid = omega arith

small_flags : (kind : RegionKind) → flags_of kind < 2 ^ 32
small_flags (Catch token) = omega arith
small_flags (Filter k) = omega arith
small_flags Finally = omega arith
small_flags Fault = omega arith

known : (all_offsets : List ℕ) (r : Region) (kind : RegionKind) → is_kind (clause_of all_offsets (record r { kind = kind })) ≡ true
known all_offsets r (Catch token) = refl
known all_offsets r (Filter k) = refl
known all_offsets r Finally = refl
known all_offsets r Fault = refl

pub clauses_writable : (count : ℕ) (all_offsets : List ℕ) (rs : List Region) → AreSmall all_offsets → AllValidRegions count rs → AllWritable (map (clause_of all_offsets) rs)
clauses_writable count all_offsets [] small valid = tt
clauses_writable count all_offsets (r ∷ rs) small valid =
    let a = small r.try_from in
    let b = small r.try_to in
    let c = small r.handler_from in
    let d = small r.handler_to in (
      record {
        flags = small_flags r.kind;
        try_from = a;
        try_size = omega arith;
        handler_from = c;
        handler_size = omega arith;
        last = small_last count all_offsets r.kind small valid.0.kind;
        kind = known all_offsets r r.kind;
      },
      clauses_writable count all_offsets rs small valid.1,
    )

clause_back : (bytes : List ℕ) (at : ℕ) (c : RawClause) (rest : List ℕ) → IsWritable c → drop at bytes ≡ clause_bytes c ++ rest → fat_clause bytes at ≡ c
clause_back bytes at c rest w e =
    let x0 = to_le_bytes w32 c.flags in
    let x1 = to_le_bytes w32 c.try_from in
    let x2 = to_le_bytes w32 c.try_size in
    let x3 = to_le_bytes w32 c.handler_from in
    let x4 = to_le_bytes w32 c.handler_size in
    let x5 = to_le_bytes w32 c.last in
    let e0 : drop at bytes ≡ x0 ++ (x1 ++ (x2 ++ (x3 ++ (x4 ++ (x5 ++ rest))))) = e in
    let e1 = left_behind bytes at x0 (x1 ++ (x2 ++ (x3 ++ (x4 ++ (x5 ++ rest))))) e0 in
    let m2 : at + 4 + 4 ≡ at + 8 = omega arith in
    let e2 = subst (λ (n : ℕ). drop n bytes ≡ x2 ++ (x3 ++ (x4 ++ (x5 ++ rest)))) m2 (left_behind bytes (at + 4) x1 (x2 ++ (x3 ++ (x4 ++ (x5 ++ rest)))) e1) in
    let m3 : at + 8 + 4 ≡ at + 12 = omega arith in
    let e3 = subst (λ (n : ℕ). drop n bytes ≡ x3 ++ (x4 ++ (x5 ++ rest))) m3 (left_behind bytes (at + 8) x2 (x3 ++ (x4 ++ (x5 ++ rest))) e2) in
    let m4 : at + 12 + 4 ≡ at + 16 = omega arith in
    let e4 = subst (λ (n : ℕ). drop n bytes ≡ x4 ++ (x5 ++ rest)) m4 (left_behind bytes (at + 12) x3 (x4 ++ (x5 ++ rest)) e3) in
    let m5 : at + 16 + 4 ≡ at + 20 = omega arith in
    let e5 = subst (λ (n : ℕ). drop n bytes ≡ x5 ++ rest) m5 (left_behind bytes (at + 16) x4 (x5 ++ rest) e4) in
    rw (
      num_back 4 bytes at c.flags _ e0 w.flags,
      num_back 4 bytes (at + 4) c.try_from _ e1 w.try_from,
      num_back 4 bytes (at + 8) c.try_size _ e2 w.try_size,
      num_back 4 bytes (at + 12) c.handler_from _ e3 w.handler_from,
      num_back 4 bytes (at + 16) c.handler_size _ e4 w.handler_size,
      num_back 4 bytes (at + 20) c.last rest e5 w.last,
    ) refl

clauses_back : (bytes : List ℕ) (from n : ℕ) (cs : List RawClause) (rest : List ℕ) → AllWritable cs → drop (from + 24 * n) bytes ≡ flat_map clause_bytes cs ++ rest → clauses true bytes from (n + length cs) ≡ clauses true bytes from n ++ cs
clauses_back bytes from n [] rest w e =
    let z : n + 0 ≡ n = omega arith in ap (clauses true bytes from) z ∙ sym (append-nil (clauses true bytes from n))
clauses_back bytes from n (c ∷ cs) rest w e =
    let tail = flat_map clause_bytes cs ++ rest in
    let h : drop (from + 24 * n) bytes ≡ clause_bytes c ++ tail = e ∙ append_assoc (clause_bytes c) (flat_map clause_bytes cs) rest in
    let next : from + 24 * n + 24 ≡ from + 24 * suc n = omega arith in
    let more = clauses_back bytes from (suc n) cs rest w.1 (subst (λ (m : ℕ). drop m bytes ≡ tail) next (left_behind bytes (from + 24 * n) (clause_bytes c) tail h)) in
    let count : n + length (c ∷ cs) ≡ suc n + length cs = omega arith in
    ap (clauses true bytes from) count ∙ more ∙ rw (clause_back bytes (from + 24 * n) c tail w.0 h) (append_assoc (clauses true bytes from n) (c ∷ []) cs)

pub length_clauses : (cs : List RawClause) → length (flat_map clause_bytes cs) ≡ 24 * length cs
length_clauses [] = refl
length_clauses (c ∷ cs) = omega (arith, length-append (clause_bytes c) (flat_map clause_bytes cs), length_clauses cs)

-- ---- sections

pub limit_size : 24 * clause_limit < 2 ^ 24 - 4
unfolding clause_limit
limit_size = omega arith

pub limit_some : 0 < clause_limit
unfolding clause_limit
limit_some = omega arith

abbrev kind_byte : Bool → ℕ
kind_byte more = cond more 0xC1 0x41

abbrev section : Bool → List RawClause → ℕ → Section
section more cs at = record { fat = true; more = more; from = at + 4; count = length cs; end = at + (4 + 24 * length cs) }

pub length_section : (more : Bool) (cs : List RawClause) → length (section_bytes more cs) ≡ 4 + 24 * length cs
length_section more cs = omega (arith, length-append (to_le_bytes w32 (kind_byte more + 0x100 * (4 + 24 * length cs))) (flat_map clause_bytes cs), length_clauses cs)

sized : (more : Bool) (at n count : ℕ) → at + (4 + 24 * n) ≤ count → if_sized true (kind_byte more) (4 + 24 * n) at count ≡ Some (record { fat = true; more = more; from = at + 4; count = n; end = at + (4 + 24 * n) })
sized more at n count inside =
    let p : nat_le 4 (4 + 24 * n) ≡ true = grind (arith, common_steps) in
    let q : ((4 + 24 * n - 4) % 24 == 0) ≡ true = grind (arith, common_steps) in
    let r : nat_le (at + (4 + 24 * n)) count ≡ true = grind (arith, common_steps) in
    let d : (4 + 24 * n - 4) / 24 ≡ n = omega arith in
    go more p q r d
  where
    go : (more : Bool) → nat_le 4 (4 + 24 * n) ≡ true → ((4 + 24 * n - 4) % 24 == 0) ≡ true → nat_le (at + (4 + 24 * n)) count ≡ true → (4 + 24 * n - 4) / 24 ≡ n → if_sized true (kind_byte more) (4 + 24 * n) at count ≡ Some (record { fat = true; more = more; from = at + 4; count = n; end = at + (4 + 24 * n) })
    go true p q r d = rw (p, q, r, d) refl
    go false p q r d = rw (p, q, r, d) refl

parts : (more : Bool) (size : ℕ) → (bit 0x40 (kind_byte more + 0x100 * size) ≡ true) × ((kind_byte more + 0x100 * size) % 0x100 ≡ kind_byte more) × ((kind_byte more + 0x100 * size) / 0x100 ≡ size)
parts true size = let b : (0xC1 + 0x100 * size) / 0x40 % 2 ≡ 1 = omega arith in (rw b refl, omega arith, omega arith)
parts false size = let b : (0x41 + 0x100 * size) / 0x40 % 2 ≡ 1 = omega arith in (rw b refl, omega arith, omega arith)

section_back : (bytes : List ℕ) (at : ℕ) (more : Bool) (cs : List RawClause) (rest : List ℕ) → length cs ≤ clause_limit → drop at bytes ≡ section_bytes more cs ++ rest → section_at bytes at ≡ Some (section more cs at)
section_back bytes at more cs rest few e =
    let size = 4 + 24 * length cs in
    let v = kind_byte more + 0x100 * size in
    let tail = flat_map clause_bytes cs ++ rest in
    let h : drop at bytes ≡ to_le_bytes w32 v ++ tail = e ∙ append_assoc (to_le_bytes w32 v) (flat_map clause_bytes cs) rest in
    let small : v < 2 ^ 32 = below more in
    let n = num_at_back bytes at v tail h small in
    let p = parts more size in
    let whole = room_behind bytes at (section_bytes more cs) rest e (omega (arith, length_section more cs)) in
    ap (λ (o : Option ℕ). section_of o at (length bytes)) n ∙ rw (p.0, p.1, p.2) (sized more at (length cs) (length bytes) (omega (arith, length_section more cs)))
  where
    below : (more : Bool) → kind_byte more + 0x100 * (4 + 24 * length cs) < 2 ^ 32
    below true = omega (arith, limit_size)
    below false = omega (arith, limit_size)

section_clauses : (bytes : List ℕ) (at : ℕ) (more : Bool) (cs : List RawClause) (rest : List ℕ) → AllWritable cs → drop at bytes ≡ section_bytes more cs ++ rest → clauses_of bytes (section more cs at) ≡ cs
section_clauses bytes at more cs rest w e =
    let v = kind_byte more + 0x100 * (4 + 24 * length cs) in
    let tail = flat_map clause_bytes cs ++ rest in
    let h : drop at bytes ≡ to_le_bytes w32 v ++ tail = e ∙ append_assoc (to_le_bytes w32 v) (flat_map clause_bytes cs) rest in
    let z : at + 4 ≡ at + 4 + 24 * 0 = omega arith in
    let f = subst (λ (m : ℕ). drop m bytes ≡ tail) z (left_behind bytes at (to_le_bytes w32 v) tail h) in
    let n : 0 + length cs ≡ length cs = omega arith in
    ap (clauses true bytes (at + 4)) (sym n) ∙ clauses_back bytes (at + 4) 0 cs rest w f

last_back : (bytes : List ℕ) (k at : ℕ) (cs : List RawClause) (rest : List ℕ) → length bytes ≤ k + at → length cs ≤ clause_limit → AllWritable cs → drop (aligned at) bytes ≡ section_bytes false cs ++ rest → sections_at bytes k at ≡ Some (cs, aligned at + length (section_bytes false cs))
last_back bytes k at cs rest enough few w e =
    let s = section false cs (aligned at) in
    let c = section_clauses bytes (aligned at) false cs rest w e in
    let all : list_all is_kind (clauses_of bytes s) ≡ true = ap (list_all is_kind) c ∙ all_kinds cs w in
    last bytes k at s enough (section_back bytes (aligned at) false cs rest few e) all refl ∙ (λ i. Some (c i, aligned at + sym (length_section false cs) i))

next_back : (bytes : List ℕ) (k at : ℕ) (cs : List RawClause) (rest : List ℕ) → length bytes ≤ k + at → length cs ≤ clause_limit → AllWritable cs → drop (aligned at) bytes ≡ section_bytes true cs ++ rest → sections_at bytes k at ≡ before cs (sections_at bytes (k - 1) (aligned at + (4 + 24 * length cs)))
next_back bytes k at cs rest enough few w e =
    let s = section true cs (aligned at) in
    let c = section_clauses bytes (aligned at) true cs rest w e in
    let all : list_all is_kind (clauses_of bytes s) ≡ true = ap (list_all is_kind) c ∙ all_kinds cs w in
    next bytes k at s enough (section_back bytes (aligned at) true cs rest few e) all refl ∙ ap (λ (l : List RawClause). before l (sections_at bytes (k - 1) s.end)) c

abbrev chosen : ℕ → List RawClause → Bool → List ℕ
chosen n cs b = cond b (section_bytes false cs) (section_bytes true (take clause_limit cs) ++ sections n (drop clause_limit cs))

-- where the clauses of all sections but the first are read back
first_back : (bytes : List ℕ) (k at n : ℕ) (cs : List RawClause) (rest : List ℕ) (b : Bool) → nat_le (length cs) clause_limit ≡ b → length bytes ≤ k + at → length cs ≤ clause_limit + suc n → AllWritable cs → drop (aligned at) bytes ≡ chosen n cs b ++ rest → ((end : ℕ) → length bytes ≤ k - 1 + end → length (drop clause_limit cs) ≤ clause_limit + n → drop (aligned end) bytes ≡ sections n (drop clause_limit cs) ++ rest → sections_at bytes (k - 1) end ≡ Some (drop clause_limit cs, aligned end + length (sections n (drop clause_limit cs)))) → sections_at bytes k at ≡ Some (cs, aligned at + length (chosen n cs b))
first_back bytes k at n cs rest true t enough few w e more = last_back bytes k at cs rest enough (leb-true (length cs) clause_limit t) w e
first_back bytes k at n cs rest false t enough few w e more =
    let front = take clause_limit cs in
    let behind = drop clause_limit cs in
    let many : clause_limit < length cs = grind (arith, common_steps) in
    let size : length front ≡ clause_limit = omega (arith, length-take clause_limit cs) in
    let tail = sections n behind ++ rest in
    let h : drop (aligned at) bytes ≡ section_bytes true front ++ tail = e ∙ append_assoc (section_bytes true front) (sections n behind) rest in
    let first = next_back bytes k at front tail enough (omega arith) (writable_take clause_limit cs w) h in
    let end = aligned at + (4 + 24 * length front) in
    let same : aligned end ≡ end = omega arith in
    let there : aligned at + length (section_bytes true front) ≡ aligned end = omega (arith, length_section true front) in
    let f = subst (λ (m : ℕ). drop m bytes ≡ tail) there (left_behind bytes (aligned at) (section_bytes true front) tail h) in
    let others = more end (omega arith) (omega (arith, length-drop clause_limit cs, limit_some)) f in
    let total : aligned end + length (sections n behind) ≡ aligned at + length (section_bytes true front ++ sections n behind) = omega (arith, length-append (section_bytes true front) (sections n behind), length_section true front) in
    first ∙ ap (before front) others ∙ (λ i. Some (take-append-drop clause_limit cs i, total i))

pub sections_back : (bytes : List ℕ) (k at n : ℕ) (cs : List RawClause) (rest : List ℕ) → length bytes ≤ k + at → length cs ≤ clause_limit + n → AllWritable cs → drop (aligned at) bytes ≡ sections n cs ++ rest → sections_at bytes k at ≡ Some (cs, aligned at + length (sections n cs))
sections_back bytes k at zero cs rest enough few w e = last_back bytes k at cs rest enough (omega arith) w e
sections_back bytes k at (suc n) cs rest enough few w e =
    first_back bytes k at n cs rest (nat_le (length cs) clause_limit) refl enough few w e
    (λ end enough few e. sections_back bytes (k - 1) end n (drop clause_limit cs) rest enough few (writable_drop clause_limit cs w) e)
