-- The table of indexes gives the index of each code.
use Rattle.std.proofs.Common.{◌≡◌, ◌⊎◌, ℕ, suc, ◌+◌, ◌<◌, ◌≤◌, Bool, true, false, eqb, nat_lt, ◌||◌, ◌&&◌, List, [], ◌∷◌, length, drop, refl, sym, ap, ◌∙◌, arith, get_or}
use Rattle.std.specs.Prelude.{slice_index, slice_get, ◌==◌, find}
use Rattle.std.specs.List.{list_all, range_with_len, position_or_len}
use Rattle.std.proofs.lemmas.Bool.{eqb-true}
use Rattle.std.proofs.lemmas.Grind.{common_steps}
use Rattle.std.proofs.lemmas.List.Folds.{list_all_at, find_at}
use Rattle.std.proofs.lemmas.List.FromFn.{length-range_with_len, get_or-range_with_len}
use Rattle.il_opcodes.specs.declared.opcode.Opcode.{Opcode}
use Rattle.il_opcodes.specs.Opcodes.{the_opcodes, the_indexes, the_first_spellings, first_spelling, index_of, opcode_of, code_of_slot}

agrees : ℕ → Bool
agrees slot = eqb (slice_index the_indexes slot) (index_of (code_of_slot slot))

all_agree : list_all agrees (range_with_len 0 288) ≡ true
unfolding agrees index_of the_indexes the_opcodes
all_agree = refl

pub at : (slot : ℕ) → slot < 288 → slice_index the_indexes slot ≡ index_of (code_of_slot slot)
unfolding agrees
at slot h = go (agrees slot) refl
  where
    go : (b : Bool) → agrees slot ≡ b → slice_index the_indexes slot ≡ index_of (code_of_slot slot)
    go true e = eqb-true _ _ e
    go false e =
        let n : get_or (range_with_len 0 288) slot 0 ≡ 0 + slot = get_or-range_with_len 0 288 slot 0 h in
        let same : 0 + slot ≡ slot = omega arith in
        let wrong = list_all_at agrees (range_with_len 0 288) slot 0 (omega (arith, length-range_with_len 0 288)) (ap agrees (n ∙ same) ∙ e) in
        let bad : true ≡ false = sym all_agree ∙ wrong in absurd cc

pub found : (code : ℕ) → slice_get the_opcodes (index_of code) ≡ opcode_of code
unfolding index_of opcode_of
found code = sym (find_at (λ (o : Opcode). o.code == code) the_opcodes)

starts : ℕ → Bool
starts slot = eqb (slice_index the_first_spellings slot) (first_spelling (code_of_slot slot))

all_start : list_all starts (range_with_len 0 288) ≡ true
unfolding starts first_spelling the_first_spellings the_opcodes
all_start = refl

pub first_at : (slot : ℕ) → slot < 288 → slice_index the_first_spellings slot ≡ first_spelling (code_of_slot slot)
unfolding starts
first_at slot h = go (starts slot) refl
  where
    go : (b : Bool) → starts slot ≡ b → slice_index the_first_spellings slot ≡ first_spelling (code_of_slot slot)
    go true e = eqb-true _ _ e
    go false e =
        let n : get_or (range_with_len 0 288) slot 0 ≡ 0 + slot = get_or-range_with_len 0 288 slot 0 h in
        let same : 0 + slot ≡ slot = omega arith in
        let wrong = list_all_at starts (range_with_len 0 288) slot 0 (omega (arith, length-range_with_len 0 288)) (ap starts (n ∙ same) ∙ e) in
        let bad : true ≡ false = sym all_start ∙ wrong in absurd cc

-- A code that is neither of one byte nor of two is none.
has_slot : ℕ → Bool
has_slot code = nat_lt code 0x100 || (nat_lt 0xFDFF code && nat_lt code 0xFE20)

codes_have_slots : list_all (λ (o : Opcode). has_slot o.code) the_opcodes ≡ true
unfolding has_slot the_opcodes
codes_have_slots = refl

longs_have_slots : list_all (λ (o : Opcode). has_slot o.long) the_opcodes ≡ true
unfolding has_slot the_opcodes
longs_have_slots = refl

and_both : (b c : Bool) → (b && c) ≡ true → (b ≡ true) × (c ≡ true)
and_both true c h = (refl, h)
and_both false c h = cc

is_other : (n code : ℕ) → 0x100 ≤ code → (code < 0xFE00) ⊎ (0xFE20 ≤ code) → has_slot n ≡ true → (n == code) ≡ false
unfolding has_slot
is_other n code low apart h = grind (arith, common_steps)

none_in : (f : Opcode → ℕ) (code : ℕ) → 0x100 ≤ code → (code < 0xFE00) ⊎ (0xFE20 ≤ code) → (os : List Opcode) → list_all (λ (o : Opcode). has_slot (f o)) os ≡ true → position_or_len (λ (o : Opcode). f o == code) os ≡ length os
none_in f code low apart [] h = refl
none_in f code low apart (o ∷ os) h =
    let b = and_both (has_slot (f o)) _ h in
    rw (is_other (f o) code low apart b.0) (omega (arith, none_in f code low apart os b.1))

count : length the_opcodes ≡ 207
unfolding the_opcodes
count = refl

pub none_outside : (code : ℕ) → 0x100 ≤ code → (code < 0xFE00) ⊎ (0xFE20 ≤ code) → index_of code ≡ 207
unfolding index_of
none_outside code low apart = none_in (λ (o : Opcode). o.code) code low apart the_opcodes codes_have_slots ∙ count

pub no_spelling : (code : ℕ) → 0x100 ≤ code → (code < 0xFE00) ⊎ (0xFE20 ≤ code) → first_spelling code ≡ 207
unfolding first_spelling
no_spelling code low apart = none_in (λ (o : Opcode). o.long) code low apart the_opcodes longs_have_slots ∙ count

-- What no row before the first spelling passes is found from there on.
find_later : (p q : Opcode → Bool) (os : List Opcode) → ((o : Opcode) → q o ≡ false → p o ≡ false) → find p (drop (position_or_len q os) os) ≡ find p os
find_later p q [] none = refl
find_later p q (o ∷ os) none = go (q o) refl (find_later p q os none)
  where
    go : (b : Bool) → q o ≡ b → find p (drop (position_or_len q os) os) ≡ find p os → find p (drop (position_or_len q (o ∷ os)) (o ∷ os)) ≡ find p (o ∷ os)
    go true e more = rw e refl
    go false e more =
        let n : 1 + position_or_len q os ≡ suc (position_or_len q os) = omega arith in
        rw (e, n, none o e) more

pub found_from : (p : Opcode → Bool) (code : ℕ) → ((o : Opcode) → (o.long == code) ≡ false → p o ≡ false) → find p (drop (first_spelling code) the_opcodes) ≡ find p the_opcodes
unfolding first_spelling
found_from p code none = find_later p (λ (o : Opcode). o.long == code) the_opcodes none
