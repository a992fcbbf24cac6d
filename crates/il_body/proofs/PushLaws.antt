-- Lists that grow at their end, one piece after another.
use Rattle.std.proofs.Common.{◌≡◌, ℕ, zero, suc, ◌+◌, ◌*◌, ◌-◌, ◌%◌, ◌<◌, ◌≤◌, true, false, List, [], ◌∷◌, ◌++◌, map, length, get_or, take, drop, Result, refl, sym, ap, ◌∙◌, subst, arith, append_assoc, length-append, length-drop, drop-cons}
use Rattle.std.specs.Prelude.{OnOk, nat_le, ◌==◌, flat_map, replicate}
use Rattle.std.proofs.Math.Seq.{take-length}
use Rattle.std.proofs.lemmas.Grind.{common_steps}
use Rattle.cil_base.proofs.Small.{on_ok}
use Rattle.cil_model.specs.declared.body.Instr.{Instr}
use Rattle.cil_model.specs.declared.body.Region.{Region}
use Rattle.cil_model.specs.declared.body.RegionKind.TheVariants.{Catch}
use Rattle.cil_model.specs.declared.layout.RawClause.{RawClause}
use Rattle.cil_model.specs.BodyLayout.{aligned}
use Rattle.cil_model.specs.ValidBody.{AllValid, AllValidRegions}
use Rattle.il_body.specs.BodyEncoding.{behind_code, cases_in, clause_bytes, clause_limit, code_from, weight, instr_bytes, section_bytes, sections}
use Rattle.il_body.proofs.ClauseLaws.{limit_some}
use Rattle.il_body.proofs.CodeLaws.{small_size}

pub grown : (a b c x y : List ℕ) → b ≡ a ++ x → c ≡ b ++ y → c ≡ a ++ (x ++ y)
grown a b c x y e h = h ∙ ap (λ (l : List ℕ). l ++ y) e ∙ append_assoc a x y

-- the rest of a list from one of its items on
pub rest_of : {X : Type 0} (xs : List X) (k : ℕ) (x : X) → k < length xs → x ≡ get_or xs k x → drop k xs ≡ x ∷ drop (k + 1) xs
rest_of xs k x lt e =
    let z : suc k ≡ k + 1 = omega arith in
    drop-cons xs k x lt ∙ (λ i. sym e i ∷ drop (z i) xs)

-- ---- the code

pub code_more : (offsets out new : List ℕ) (is : List Instr) (k : ℕ) (i : Instr) (whole : List ℕ) → drop k is ≡ i ∷ drop (k + 1) is → new ≡ out ++ instr_bytes offsets (length out) i → out ++ code_from offsets (length out) (drop k is) ≡ whole → new ++ code_from offsets (length new) (drop (k + 1) is) ≡ whole
code_more offsets out new is k i whole next e h =
    let s = instr_bytes offsets (length out) i in
    let rest = drop (k + 1) is in
    (λ j. e j ++ code_from offsets (length (e j)) rest) ∙ ap (λ n. (out ++ s) ++ code_from offsets n rest) (length-append out s) ∙ append_assoc out s (code_from offsets (length out + length s) rest) ∙ sym (ap (λ l. out ++ code_from offsets (length out) l) next) ∙ h

pub code_room : (offsets out new : List ℕ) (is : List Instr) (k : ℕ) (i : Instr) (most : ℕ) → drop k is ≡ i ∷ drop (k + 1) is → new ≡ out ++ instr_bytes offsets (length out) i → length out + 24 * weight (drop k is) ≤ most → length new + 24 * weight (drop (k + 1) is) ≤ most
code_room offsets out new is k i most next e h =
    let n : length new ≡ length out + length (instr_bytes offsets (length out) i) = ap (λ (l : List ℕ). length l) e ∙ length-append out (instr_bytes offsets (length out) i) in
    let c : weight (drop k is) ≡ 1 + cases_in i.operand + weight (drop (k + 1) is) = ap weight next in
    omega (arith, n, c, h, small_size offsets (length out) i)

pub valid_more : (a count : ℕ) (is : List Instr) (k : ℕ) (i : Instr) → drop k is ≡ i ∷ drop (k + 1) is → AllValid a count (drop k is) → AllValid a count (drop (k + 1) is)
valid_more a count is k i next h = (subst (AllValid a count) next h).1

-- ---- clauses

abbrev no_region : Region
no_region = record { kind = Catch (record { table = 0; row = 0 }); try_from = 0; try_to = 0; handler_from = 0; handler_to = 0 }

abbrev pub region_at : List Region → ℕ → Region
region_at rs k = get_or rs k no_region

pub region_at_next : (rs : List Region) (k : ℕ) → k < length rs → drop k rs ≡ region_at rs k ∷ drop (k + 1) rs
region_at_next rs k lt =
    let z : suc k ≡ k + 1 = omega arith in
    drop-cons rs k no_region lt ∙ ap (λ (m : ℕ). region_at rs k ∷ drop m rs) z

pub clauses_more : (f : Region → RawClause) (out new : List ℕ) (rs : List Region) (k : ℕ) (r : Region) (whole : List ℕ) → drop k rs ≡ r ∷ drop (k + 1) rs → new ≡ out ++ clause_bytes (f r) → out ++ flat_map clause_bytes (map f (drop k rs)) ≡ whole → new ++ flat_map clause_bytes (map f (drop (k + 1) rs)) ≡ whole
clauses_more f out new rs k r whole next e h =
    let s = clause_bytes (f r) in
    let rest = flat_map clause_bytes (map f (drop (k + 1) rs)) in
    ap (λ l. l ++ rest) e ∙ append_assoc out s rest ∙ sym (ap (λ l. out ++ flat_map clause_bytes (map f l)) next) ∙ h

pub regions_more : (count : ℕ) (rs : List Region) (k : ℕ) (r : Region) → drop k rs ≡ r ∷ drop (k + 1) rs → AllValidRegions count (drop k rs) → AllValidRegions count (drop (k + 1) rs)
regions_more count rs k r next h = (subst (AllValidRegions count) next h).1

-- ---- sections

pub regions_take : (count n : ℕ) (rs : List Region) → AllValidRegions count rs → AllValidRegions count (take n rs)
regions_take count zero rs v = tt
regions_take count (suc n) [] v = tt
regions_take count (suc n) (r ∷ rs) v = (v.0, regions_take count n rs v.1)

pub regions_drop : (count n : ℕ) (rs : List Region) → AllValidRegions count rs → AllValidRegions count (drop n rs)
regions_drop count zero rs v = v
regions_drop count (suc n) [] v = tt
regions_drop count (suc n) (r ∷ rs) v = regions_drop count n rs v.1

map_take : (f : Region → RawClause) (n : ℕ) (rs : List Region) → map f (take n rs) ≡ take n (map f rs)
map_take f zero rs = refl
map_take f (suc n) [] = refl
map_take f (suc n) (r ∷ rs) = ap (λ l. f r ∷ l) (map_take f n rs)

map_drop : (f : Region → RawClause) (n : ℕ) (rs : List Region) → map f (drop n rs) ≡ drop n (map f rs)
map_drop f zero rs = refl
map_drop f (suc n) [] = refl
map_drop f (suc n) (r ∷ rs) = map_drop f n rs

map_size : (f : Region → RawClause) (rs : List Region) → length (map f rs) ≡ length rs
map_size f [] = refl
map_size f (r ∷ rs) = omega (arith, map_size f rs)

pub last_section : (n : ℕ) (f : Region → RawClause) (rs : List Region) → length rs ≤ clause_limit → sections n (map f rs) ≡ section_bytes false (map f rs)
last_section zero f rs h = refl
last_section (suc n) f rs h =
    let t : nat_le (length (map f rs)) clause_limit ≡ true = grind (arith, common_steps, map_size f rs) in rw t refl

pub more_sections : (n : ℕ) (f : Region → RawClause) (rs : List Region) → clause_limit < length rs → sections (suc n) (map f rs) ≡ section_bytes true (map f (take clause_limit rs)) ++ sections n (map f (drop clause_limit rs))
more_sections n f rs h =
    let t : nat_le (length (map f rs)) clause_limit ≡ false = grind (arith, common_steps, map_size f rs) in
    rw (t, map_take f clause_limit rs, map_drop f clause_limit rs) refl

-- sections that are left, with enough of them, and what is written so far
pub record AreLeft (f : Region → RawClause) (out whole : List ℕ) (rs : List Region) : Type 0 where
  pub left : ℕ
  pub enough : length rs ≤ clause_limit + left
  pub all : out ++ sections left (map f rs) ≡ whole

pub all_left : (f : Region → RawClause) (out : List ℕ) (rs : List Region) → AreLeft f out (out ++ sections (length rs) (map f rs)) rs
all_left f out rs = record { left = length rs; enough = omega arith; all = refl }

pub one_less : (f : Region → RawClause) (out new whole : List ℕ) (rs : List Region) → clause_limit < length rs → new ≡ out ++ section_bytes true (map f (take clause_limit rs)) → AreLeft f out whole rs → AreLeft f new whole (drop clause_limit rs)
one_less f out new whole rs many e l = go l.left l.enough l.all
  where
    go : (n : ℕ) → length rs ≤ clause_limit + n → out ++ sections n (map f rs) ≡ whole → AreLeft f new whole (drop clause_limit rs)
    go zero enough h = absurd (omega arith)
    go (suc n) enough h =
        let s = section_bytes true (map f (take clause_limit rs)) in
        let rest = sections n (map f (drop clause_limit rs)) in
        record { left = n; enough = omega (arith, length-drop clause_limit rs, limit_some); all = ap (λ (x : List ℕ). x ++ rest) e ∙ append_assoc out s rest ∙ sym (ap (λ (x : List ℕ). out ++ x) (more_sections n f rs many)) ∙ h }

pub none_left : (f : Region → RawClause) (out new whole : List ℕ) (rs : List Region) → length rs ≤ clause_limit → new ≡ out ++ section_bytes false (map f rs) → AreLeft f out whole rs → new ≡ whole
none_left f out new whole rs few e l = e ∙ sym (ap (λ (x : List ℕ). out ++ x) (last_section l.left f rs few)) ∙ l.all

pub slice_rest : (rs : List Region) (n : ℕ) → take (length rs - n) (drop n rs) ≡ drop n rs
slice_rest rs n = rw (← length-drop n rs) (take-length (drop n rs))

pub regions_rest : (count n : ℕ) (rs : List Region) → AllValidRegions count rs → AllValidRegions count (take (length rs - n) (drop n rs))
regions_rest count n rs v = rw (slice_rest rs n) (regions_drop count n rs v)

pub one_less_at : (f : Region → RawClause) (out new whole : List ℕ) (rs : List Region) (n : ℕ) → n ≡ clause_limit → n < length rs → new ≡ out ++ section_bytes true (map f (take n rs)) → AreLeft f out whole rs → AreLeft f new whole (take (length rs - n) (drop n rs))
one_less_at f out new whole rs n e many h l =
    rw (slice_rest rs n, e) (one_less f out new whole rs (omega arith) (subst (λ (m : ℕ). new ≡ out ++ section_bytes true (map f (take m rs))) e h) l)

-- ---- what stands behind the code

pub behind : {X E : Type 0} (r : Result X E) (f : Region → RawClause) (out zeroed new : List ℕ) (rs : List Region) (n : ℕ) → false ≡ (length rs == 0) → n ≡ (4 - length out % 4) % 4 → zeroed ≡ out ++ replicate n 0 → OnOk r (new ≡ zeroed ++ sections (length rs) (map f rs)) → OnOk r (new ≡ out ++ behind_code (length out) (map f rs))
behind r f out zeroed new [] n some size e h = cc
behind r f out zeroed new (x ∷ rs) n some size e h =
    let zeros : List ℕ = replicate n 0 in
    let s = sections (length (x ∷ rs)) (map f (x ∷ rs)) in
    let m : aligned (length out) - length out ≡ n = omega arith in
    let k : length (f x ∷ map f rs) ≡ length (x ∷ rs) = omega (arith, map_size f rs) in
    on_ok r (λ g. g ∙ ap (λ (l : List ℕ). l ++ s) e ∙ append_assoc out zeros s ∙ (λ i. out ++ (replicate (sym m i) 0 ++ sections (sym k i) (f x ∷ map f rs)))) h
