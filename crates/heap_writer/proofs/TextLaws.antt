-- The entry of a text is known without its bytes.
use Rattle.std.proofs.Common.{◌≡◌, ℕ, suc, ◌+◌, ◌*◌, ◌/◌, ◌%◌, ◌^◌, ◌<◌, eqb, Bool, true, false, cond, ◌&&◌, List, [], ◌∷◌, ◌++◌, length, get_or, drop, drop-cons, refl, sym, ap, ◌∙◌, arith, length-append}
use Rattle.std.specs.Prelude.{nat_lt, slice_get, Option, Some, Vec}
use Rattle.cil_base.specs.Packed.{packed_spelling}
use Rattle.std.specs.List.{flat_map, list_any}
use Rattle.std.specs.Map.{lookup}
use Rattle.std.specs.Cmp.Lexicographic.{pointwise, unequal}
use Rattle.std.specs.declared.alloc.Global.{Global}
use Rattle.std.proofs.lemmas.Bool.{lt-ltb}
use Rattle.std.proofs.lemmas.List.{drop_all}
use Rattle.std.proofs.lemmas.Option.{slice_get_within, get_or_from_slice_get}
use Rattle.heap_writer.specs.Growth.{blob_entry, contents_of, is_special, unit_bytes, user_string_content}

-- the units from one of them on, and the last byte
abbrev pub text_from : List ℕ → ℕ → List ℕ
text_from units k = flat_map unit_bytes (drop k units) ++ cond (list_any is_special units) 1 0 ∷ []

pub text_length : (units : List ℕ) → length (user_string_content units) ≡ 2 * length units + 1
text_length units = length-append (flat_map unit_bytes units) _ ∙ ap (λ (k : ℕ). k + 1) (twice units)
  where
    twice : (us : List ℕ) → length (flat_map unit_bytes us) ≡ 2 * length us
    twice [] = refl
    twice (u ∷ us) = let rest = twice us in omega (arith, rest)

-- so many bytes has the entry, and what stands in front of it
pub text_size : (n width : ℕ) (units : List ℕ) → width ≡ length (packed_spelling (2 * length units + 1)) → n + (width + (2 * length units + 1)) ≡ n + length (blob_entry (user_string_content units))
text_size n width units e =
    let same : length (packed_spelling (2 * length units + 1)) ≡ length (packed_spelling (length (user_string_content units))) = ap (λ (k : ℕ). length (packed_spelling k)) (sym (text_length units)) in
    omega (arith, e, same, text_length units, length-append (packed_spelling (length (user_string_content units))) (user_string_content units))

-- a text of more units than the limit has bytes passes it
pub long_text : (n : ℕ) (units : List ℕ) → 2 ^ 24 < length units → nat_lt (2 ^ 24) (n + length (blob_entry (user_string_content units))) ≡ true
long_text n units lt =
    lt-ltb (2 ^ 24) (n + length (blob_entry (user_string_content units))) (omega (arith, lt, text_length units, length-append (packed_spelling (length (user_string_content units))) (user_string_content units)))

-- contents of another length are another text's
pub other_length : (units content : List ℕ) → (length content ≡ 2 * length units + 1 → ⊥) → pointwise eqb (user_string_content units) content ≡ false
other_length units content differ = unequal eqb (user_string_content units) content (λ e. differ (sym e ∙ text_length units))

-- the rest of a list from one of its items on
pub from_item : {X : Type 0} (xs : List X) (k : ℕ) (x d : X) → k < length xs → x ≡ get_or xs k d → drop k xs ≡ x ∷ drop (k + 1) xs
from_item xs k x d lt e =
    let z : suc k ≡ k + 1 = omega arith in
    drop-cons xs k d lt ∙ (λ i. sym e i ∷ drop (z i) xs)

-- one unit more
pub unit_step : (units content : List ℕ) (k u : ℕ) → k < length units → u ≡ get_or units k 0 → length content ≡ 2 * length units + 1
    → pointwise eqb (text_from units k) (drop (2 * k) content) ≡ (eqb (u % 256) (get_or content (2 * k) 0) && (eqb (u / 256) (get_or content (2 * k + 1) 0) && pointwise eqb (text_from units (k + 1)) (drop (2 * (k + 1)) content)))
unit_step units content k u lt here long =
    let last : List ℕ = cond (list_any is_special units) 1 0 ∷ [] in
    let next : 2 * k + 1 + 1 ≡ 2 * (k + 1) = omega arith in
    let low = from_item content (2 * k) (get_or content (2 * k) 0) 0 (omega (arith, long, lt)) refl in
    let high = from_item content (2 * k + 1) (get_or content (2 * k + 1) 0) 0 (omega (arith, long, lt)) refl in
    ap (λ (us : List ℕ). pointwise eqb (flat_map unit_bytes us ++ last) (drop (2 * k) content)) (from_item units k u 0 lt here)
    ∙ ap (pointwise eqb ((u % 256) ∷ (u / 256) ∷ text_from units (k + 1))) (low ∙ ap (λ (l : List ℕ). get_or content (2 * k) 0 ∷ l) (high ∙ ap (λ (n : ℕ). get_or content (2 * k + 1) 0 ∷ drop n content) next))

-- behind the units
pub last_step : (units content : List ℕ) → length content ≡ 2 * length units + 1 → pointwise eqb (text_from units (length units)) (drop (2 * length units) content) ≡ eqb (cond (list_any is_special units) 1 0) (get_or content (2 * length units) 0)
last_step units content long =
    let n : ℕ = length units in
    let last : ℕ = cond (list_any is_special units) 1 0 in
    let none : drop n units ≡ [] = drop_all n units (omega arith) in
    let item = from_item content (2 * n) (get_or content (2 * n) 0) 0 (omega (arith, long)) refl in
    let end : drop (2 * n + 1) content ≡ [] = drop_all (2 * n + 1) content (omega (arith, long)) in
    ap (λ (us : List ℕ). pointwise eqb (flat_map unit_bytes us ++ last ∷ []) (drop (2 * n) content)) none
    ∙ ap (pointwise eqb (last ∷ [])) (item ∙ ap (λ (l : List ℕ). get_or content (2 * n) 0 ∷ l) end)
    ∙ and_true (eqb last (get_or content (2 * n) 0))
  where
    and_true : (b : Bool) → (b && true) ≡ b
    and_true true = refl
    and_true false = refl

-- one entry more
pub entry_step : (test : List ℕ → Bool) (es : List (Vec ℕ Global × ℕ)) (k : ℕ) (key : Vec ℕ Global) (at : ℕ) → slice_get es k ≡ Some (key, at) → lookup test (contents_of (drop k es)) ≡ cond (test key.items) (Some at) (lookup test (contents_of (drop (k + 1) es)))
entry_step test es k key at here =
    let lt = slice_get_within es k (key, at) here in
    ap (λ (l : List (Vec ℕ Global × ℕ)). lookup test (contents_of l)) (from_item es k (key, at) (key, at) lt (sym (get_or_from_slice_get es k (key, at) (key, at) here)))

-- the entry passes the test
pub entry_found : (test : List ℕ → Bool) (es : List (Vec ℕ Global × ℕ)) (k : ℕ) (key : Vec ℕ Global) (at : ℕ) (whole : Option ℕ) → Some (key, at) ≡ slice_get es k → true ≡ test key.items → lookup test (contents_of (drop k es)) ≡ whole → Some at ≡ whole
entry_found test es k key at whole here passes so_far =
    ap (λ (b : Bool). cond b (Some at) (lookup test (contents_of (drop (k + 1) es)))) passes ∙ sym (entry_step test es k key at (sym here)) ∙ so_far

-- or it doesn't
pub entry_other : (test : List ℕ → Bool) (es : List (Vec ℕ Global × ℕ)) (k : ℕ) (key : Vec ℕ Global) (at : ℕ) (whole : Option ℕ) → Some (key, at) ≡ slice_get es k → false ≡ test key.items → lookup test (contents_of (drop k es)) ≡ whole → lookup test (contents_of (drop (k + 1) es)) ≡ whole
entry_other test es k key at whole here fails so_far =
    ap (λ (b : Bool). cond b (Some at) (lookup test (contents_of (drop (k + 1) es)))) fails ∙ sym (entry_step test es k key at (sym here)) ∙ so_far
