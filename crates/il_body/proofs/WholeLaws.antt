-- The bytes that are written stand for the body.
use Rattle.std.proofs.Common.{is_none, ◌≡◌, ℕ, ◌+◌, ◌*◌, ◌%◌, ◌^◌, ◌<◌, ◌≤◌, Bool, true, false, not, List, [], ◌∷◌, ◌++◌, map, length, Option, Some, None, refl, sym, ap, ◌∙◌, subst, arith, append_assoc, zero-add, length-append, get_or}
use Rattle.std.specs.Prelude.{nat_lt, ◌==◌, IfSome, if◌then◌else◌}
use Rattle.std.proofs.lemmas.Grind.{common_steps}
use Rattle.cil_base.proofs.Small.{and_both, decide, equal, not_true}
use Rattle.cil_base.specs.declared.token.Token.{Token}
use Rattle.cil_model.specs.declared.body.Body.{Body}
use Rattle.cil_model.specs.declared.body.Instr.{Instr}
use Rattle.cil_model.specs.declared.body.Region.{Region}
use Rattle.cil_model.specs.declared.layout.Layout.{Layout}
use Rattle.cil_model.specs.declared.layout.MethodHeader.{MethodHeader}
use Rattle.cil_model.specs.declared.layout.RawClause.{RawClause}
use Rattle.cil_model.specs.BodyLayout.{layout_of, locals_of}
use Rattle.cil_model.specs.BodyOf.{IsBody, StandsFor, map_all, region_of}
use Rattle.cil_model.specs.BodyCode.{Reads, instr_at}
use Rattle.cil_model.specs.BodyLayout.{locals_number}
use Rattle.il_code.specs.Answers.{Rise}
use Rattle.cil_model.specs.ValidBody.{AllValidRegions, IsSmallToken, IsValid}
use Rattle.il_body.specs.BodyEncoding.{as_encoded, begins, behind_code, body_bytes, clause_of, code_bytes_of, code_from, weight, fat_header, fits_tiny, header_bytes, is_empty, starts}
use Rattle.il_body.proofs.ClauseLaws.{AllWritable, clauses_writable, regions_back}
use Rattle.il_body.proofs.CodeLaws.{AreFound, all_back, found_before, instrs_placed, length_begins, length_starts, rise_starts, small_code, small_starts, starts-begins}
use Rattle.il_body.proofs.LayoutLaws.{code_back, fat_back, laid_more, laid_plain, locals_back, tail_back, tiny_back}
use Rattle.il_body.proofs.OperandLaws.{AreSmall}
use Rattle.il_body.proofs.PrefixLaws.{read_instr}

-- ---- the code

code_table : (is : List Instr) → starts 0 is ≡ begins 0 is ++ length (code_bytes_of is) ∷ []
code_table is = starts-begins (starts 0 is) 0 is ∙ ap (λ n. begins 0 is ++ n ∷ []) (zero-add (length (code_bytes_of is)))

pub are_small : (is : List Instr) → weight is ≤ 2 ^ 22 → AreSmall (starts 0 is)
are_small is few k = let s = small_starts 0 is k in omega arith

rise_table : (a : ℕ) (body : Body) → IsValid a body → Rise (begins 0 body.instrs ++ length (code_bytes_of body.instrs) ∷ [])
rise_table a body valid = subst Rise (code_table body.instrs) (rise_starts a (length body.instrs) 0 body.instrs valid.instrs)

all_found : (a : ℕ) (body : Body) → IsValid a body → AreFound (begins 0 body.instrs) (begins 0 body.instrs ++ length (code_bytes_of body.instrs) ∷ []) (length body.instrs)
all_found a body valid k inside =
    found_before (begins 0 body.instrs) (length (code_bytes_of body.instrs)) k (rise_table a body valid) (omega (arith, length_begins 0 body.instrs))

stands : (a : ℕ) (body : Body) (l : Layout) → IsValid a body → weight body.instrs ≤ 2 ^ 22 → l.header.code_size ≡ length (code_bytes_of body.instrs) → l.clauses ≡ map (clause_of (starts 0 body.instrs)) body.regions → locals_number body.locals ≡ locals_number l.header.locals → body.max_stack ≡ l.header.max_stack → body.init ≡ l.header.init → IsBody a l (code_bytes_of body.instrs) (as_encoded body)
stands a body l valid few size clauses locals stack init =
    let is = body.instrs in
    let all_offsets = starts 0 is in
    let offsets = begins 0 is in
    let code = code_bytes_of is in
    let n = length_begins 0 is in
    let table = code_table is in
    let small = are_small is few in
    let all = all_back a (length is) all_offsets 0 is valid.instrs small (omega arith) in
    let found = subst (λ (t : List ℕ). AreFound offsets t (length is)) (sym table) (all_found a body valid) in
    let regions = regions_back offsets (length code) body.regions (subst (λ (n : ℕ). AreFound offsets (offsets ++ length code ∷ []) n) (sym n) (all_found a body valid)) (rise_table a body valid) (subst (λ (n : ℕ). AllValidRegions n body.regions) (sym n) valid.regions) in
    let regions_1 = subst (λ (t : List ℕ). map_all (region_of offsets (length code)) (map (clause_of t) body.regions) ≡ Some body.regions) (sym table) regions in
    record {
      raw = map (read_instr all_offsets) is;
      reads = subst (λ (e : ℕ). Reads (instr_at a) 0 code (map (read_instr all_offsets) is) offsets e []) (zero-add (length code) ∙ sym size) all;
      instrs = instrs_placed a offsets all_offsets (length is) is found valid.instrs;
      regions = rw (size, clauses) regions_1;
      locals = locals;
      max_stack = stack;
      init = init;
    }

-- ---- the header and the sections

made : (a : ℕ) (body : Body) (head tail : List ℕ) (h : MethodHeader) (cs : List RawClause) → let code = code_bytes_of body.instrs in body_bytes body ≡ head ++ (code ++ tail) → layout_of (head ++ (code ++ tail)) ≡ Some (record { header = h; clauses = cs; len = length (head ++ (code ++ tail)) }) → h.size ≡ length head → h.code_size ≡ length code → IsBody a (record { header = h; clauses = cs; len = length (head ++ (code ++ tail)) }) code (as_encoded body) → StandsFor a (body_bytes body) (as_encoded body) (length (body_bytes body))
made a body head tail h cs e laid size code_size is_body =
    let code = code_bytes_of body.instrs in
    let l : Layout = record { header = h; clauses = cs; len = length (head ++ (code ++ tail)) } in
    subst (λ (b : List ℕ). StandsFor a b (as_encoded body) (length b)) (sym e)
    (record { layout = l; is_laid = laid; stands = subst (λ (c : List ℕ). IsBody a l c (as_encoded body)) (code_back head code tail h size code_size) is_body; size = refl })

absent : {T : Type 0} (o : Option T) → is_none o ≡ true → o ≡ None
absent None h = refl
absent (Some t) h = absurd cc

none_left : {X : Type 0} (xs : List X) → is_empty xs ≡ true → xs ≡ []
none_left [] h = refl
none_left (x ∷ xs) h = cc

no_regions : (body : Body) (size : ℕ) → fits_tiny body size ≡ true → body.regions ≡ []
no_regions body size t =
    let x = and_both (body.max_stack == 8) _ t in
    let y = and_both (nat_lt size 64) _ x.1 in
    let z = and_both (not body.init) _ y.1 in
    none_left body.regions (and_both (is_none body.locals) (is_empty body.regions) z.1).1

tiny_stands : (a : ℕ) (body : Body) → IsValid a body → weight body.instrs ≤ 2 ^ 22 → fits_tiny body (length (code_bytes_of body.instrs)) ≡ true → StandsFor a (body_bytes body) (as_encoded body) (length (body_bytes body))
tiny_stands a body valid few t =
    let code = code_bytes_of body.instrs in
    let x = and_both (body.max_stack == 8) _ t in
    let y = and_both (nat_lt (length code) 64) _ x.1 in
    let z = and_both (not body.init) _ y.1 in
    let w = and_both (is_none body.locals) (is_empty body.regions) z.1 in
    let none = no_regions body (length code) t in
    let head : List ℕ = (4 * length code + 2) ∷ [] in
    let h : MethodHeader = record { size = 1; code_size = length code; max_stack = 8; init = false; locals = None; more = false } in
    let e : body_bytes body ≡ head ++ (code ++ []) = rw (t, none) refl in
    made a body head [] h [] e (laid_plain head code h (tiny_back (length code) (code ++ [])) refl refl refl) refl refl
    (stands a body (record { header = h; clauses = []; len = length (head ++ (code ++ [])) }) valid few refl (rw none refl) (ap locals_number (absent body.locals w.0)) (equal body.max_stack 8 x.0) (not_true body.init z.0))

small_locals : (o : Option Token) → IfSome o IsSmallToken → locals_number o < 2 ^ 32
small_locals None s = omega arith
small_locals (Some t) s = let x = s.0 in let y = s.1 in omega arith

abbrev fat : Body → MethodHeader
fat body = record { size = 12; code_size = length (code_bytes_of body.instrs); max_stack = body.max_stack; init = body.init; locals = locals_of (locals_number body.locals); more = not (is_empty body.regions) }

fat_laid : (body : Body) (rs : List Region) → body.regions ≡ rs → AllWritable (map (clause_of (starts 0 body.instrs)) rs) → body.max_stack < 2 ^ 16 → length (code_bytes_of body.instrs) < 2 ^ 32 → locals_number body.locals < 2 ^ 32 → let code = code_bytes_of body.instrs in let tail = behind_code (12 + length code) (map (clause_of (starts 0 body.instrs)) rs) in layout_of (fat_header body (length code) ++ (code ++ tail)) ≡ Some (record { header = fat body; clauses = map (clause_of (starts 0 body.instrs)) rs; len = length (fat_header body (length code) ++ (code ++ tail)) })
fat_laid body [] e w stack size locals =
    let code = code_bytes_of body.instrs in
    laid_plain (fat_header body (length code)) code (fat body) (fat_back body.init (is_empty body.regions) body.max_stack (length code) (locals_number body.locals) (code ++ []) stack size locals) refl refl (rw e refl)
fat_laid body (r ∷ rs) e w stack size locals =
    let code = code_bytes_of body.instrs in
    let c = clause_of (starts 0 body.instrs) r in
    let cs = map (clause_of (starts 0 body.instrs)) rs in
    let tail = behind_code (12 + length code) (c ∷ cs) in
    laid_more (fat_header body (length code)) code tail (fat body) (c ∷ cs) (fat_back body.init (is_empty body.regions) body.max_stack (length code) (locals_number body.locals) (code ++ tail) stack size locals) refl refl (rw e refl) (tail_back (fat_header body (length code)) code c cs refl w)

fat_stands : (a : ℕ) (body : Body) → IsValid a body → weight body.instrs ≤ 2 ^ 22 → body.max_stack < 2 ^ 16 → fits_tiny body (length (code_bytes_of body.instrs)) ≡ false → StandsFor a (body_bytes body) (as_encoded body) (length (body_bytes body))
fat_stands a body valid few stack f =
    let code = code_bytes_of body.instrs in
    let all_offsets = starts 0 body.instrs in
    let cs = map (clause_of all_offsets) body.regions in
    let tail = behind_code (12 + length code) cs in
    let head = fat_header body (length code) in
    let size = small_code all_offsets 0 body.instrs in
    let w = clauses_writable (length body.instrs) all_offsets body.regions (are_small body.instrs few) valid.regions in
    let laid = fat_laid body body.regions refl w stack (omega arith) (small_locals body.locals valid.locals) in
    let e : body_bytes body ≡ head ++ (code ++ tail) = rw f refl in
    made a body head tail (fat body) cs e laid refl refl
    (stands a body (record { header = fat body; clauses = cs; len = length (head ++ (code ++ tail)) }) valid few refl refl (sym (locals_back (locals_number body.locals))) refl refl)

pub body_back : (a : ℕ) (body : Body) → IsValid a body → weight body.instrs ≤ 2 ^ 22 → body.max_stack < 2 ^ 16 → StandsFor a (body_bytes body) (as_encoded body) (length (body_bytes body))
body_back a body valid few stack =
    decide (fits_tiny body (length (code_bytes_of body.instrs))) (tiny_stands a body valid few) (fat_stands a body valid few stack)

-- ---- the parts that are written one after another

behind_same : (body : Body) (size : ℕ) (code : List ℕ) (f : Region → RawClause) → behind_code (length (header_bytes body size ++ code)) (map f body.regions) ≡ behind_code (12 + length code) (map f body.regions)
behind_same body size code f =
    decide (fits_tiny body size)
    (λ t. rw (no_regions body size t) refl)
    (λ g.
    let n : length (fat_header body size ++ code) ≡ 12 + length code = length-append (fat_header body size) code in
    let m : length (header_bytes body size ++ code) ≡ length (fat_header body size ++ code) = rw g refl in
    ap (λ (k : ℕ). behind_code k (map f body.regions)) (m ∙ n))

pub put_together : (body : Body) (all_offsets code head front out : List ℕ) → all_offsets ≡ starts 0 body.instrs → code ≡ code_from all_offsets 0 body.instrs → head ≡ header_bytes body (length code) → front ≡ head ++ code → out ≡ front ++ behind_code (length front) (map (clause_of all_offsets) body.regions) → out ≡ body_bytes body
put_together body all_offsets code head front out p e h g o =
    let whole = code_bytes_of body.instrs in
    let header = header_bytes body (length whole) in
    let e1 : code ≡ whole = e ∙ ap (λ (t : List ℕ). code_from t 0 body.instrs) p in
    let h1 : head ≡ header = h ∙ ap (λ (c : List ℕ). header_bytes body (length c)) e1 in
    let g1 : front ≡ header ++ whole = g ∙ (λ i. h1 i ++ e1 i) in
    let f = clause_of (starts 0 body.instrs) in
    o ∙ (λ i. g1 i ++ behind_code (length (g1 i)) (map (clause_of (p i)) body.regions)) ∙ ap (λ (t : List ℕ). (header ++ whole) ++ t) (behind_same body (length whole) whole f) ∙ append_assoc header whole (behind_code (12 + length whole) (map f body.regions))

pub small_whole : (all_offsets : List ℕ) (is : List Instr) (n : ℕ) (code : List ℕ) → weight is ≤ 2 ^ 22 → code ≡ code_from all_offsets 0 is → n ≡ length code → n < 2 ^ 32
small_whole all_offsets is n code few e h =
    let m : length code ≡ length (code_from all_offsets 0 is) = ap (λ (l : List ℕ). length l) e in
    omega (arith, few, h, m, small_code all_offsets 0 is)

pub more_places : (all_offsets : List ℕ) (is : List Instr) → all_offsets ≡ starts 0 is → length is < length all_offsets
more_places all_offsets is e =
    let m : length all_offsets ≡ length (starts 0 is) = ap (λ (l : List ℕ). length l) e in
    omega (arith, m, length_starts 0 is)

-- ---- the first byte tells the headers apart

fat_first : (init plain : Bool) → ((0x3003 + (if init then 0x10 else 0) + (if plain then 0 else 8)) % 256 % 4 == 2) ≡ false
fat_first true true = refl
fat_first true false = refl
fat_first false true = refl
fat_first false false = refl

tiny_first : (size : ℕ) → ((4 * size + 2) % 4 == 2) ≡ true
tiny_first size = grind (arith, common_steps)

pub tiny_form : (body : Body) → (get_or (body_bytes body) 0 0 % 4 == 2) ≡ fits_tiny body (length (code_bytes_of body.instrs))
tiny_form body =
    let size = length (code_bytes_of body.instrs) in
    decide (fits_tiny body size) (λ t. rw t (tiny_first size)) (λ f. rw f (fat_first body.init (is_empty body.regions)))
