-- The method of a row is that of its number in the program of a set.
use Rattle.std.proofs.Common.{◌≡◌, ◌∙◌, sym, subst, ap, refl, arith, rules, ℕ, zero, suc, ◌+◌, ◌-◌, ◌<◌, ◌≤◌, Bool, true, false, cond, List, [], ◌∷◌, length}
use Rattle.std.specs.Prelude.{◌==◌, ◌&&◌, map, nat_lt, slice_get, option_map, Option, Some, None}
use Rattle.std.specs.List.{position_from}
use Rattle.std.proofs.lemmas.Option.{slice_get-map}
use Rattle.cil_base.specs.declared.tables.TheConstants.{METHOD_DEF}
use Rattle.cil_base.proofs.Small.{and_both, equal}
use Rattle.cil_model.specs.declared.program.Program.{Program}
use Rattle.cil_model.specs.declared.program.MethodDesc.{MethodDesc}
use Rattle.set_rows.specs.Sets.{Assembly, Assemblies, assembly_at, count_in}
use Rattle.set_program.specs.Numbering.{cut}
use Rattle.members.specs.declared.outside_member.OutsideMember.{OutsideMember}
use Rattle.member_table.specs.declared.named.MemberId.{MemberId}
use Rattle.member_table.specs.declared.named.MemberId.TheVariants as id
use Rattle.member_table.specs.Numbers.{member_ids, member_number, outside_members, same_id}
use Rattle.member_numbers.proofs.NumberingLaws.{number, ids, cut_low, old_number, new_number, other_number}
use Rattle.descriptions.specs.Descriptions.{method_desc}
use Rattle.descriptions.specs.Programs.{program_of}
use Rattle.body_rules.proofs.SearchLaws.{some_is, some_is_not}

-- ---- a place at which a test holds

pub record HoldsAt {A : Type 0} (test : A → Bool) (i : ℕ) (xs : List A) (k : ℕ) : Type 0 where
  pub low : i ≤ k
  pub value : A
  pub there : slice_get xs (k - i) ≡ Some value
  pub holds : test value ≡ true

slice_next : {A : Type 0} (x : A) (xs : List A) (n m : ℕ) → n ≡ suc m → slice_get (x ∷ xs) n ≡ slice_get xs m
slice_next x xs n m e = ap (slice_get (x ∷ xs)) e

holds_next : {A : Type 0} (test : A → Bool) (i : ℕ) (x : A) (xs : List A) (k : ℕ) (b : Bool) → test x ≡ b → cond b (Some i) (position_from test (i + 1) xs) ≡ Some k → (position_from test (i + 1) xs ≡ Some k → HoldsAt test (i + 1) xs k) → HoldsAt test i (x ∷ xs) k
holds_next test i x xs k true e f again =
    let same : i ≡ k = cc in
    let first : k - i ≡ 0 = omega (arith, same) in
    record { low = omega (arith, same); value = x; there = ap (slice_get (x ∷ xs)) first; holds = e }
holds_next test i x xs k false e f again =
    let later = again f in
    let low : i + 1 ≤ k = later.low in
    let next : k - i ≡ suc (k - (i + 1)) = omega (arith, low) in
    record { low = omega (arith, low); value = later.value; there = slice_next x xs (k - i) (k - (i + 1)) next ∙ later.there; holds = later.holds }

pub place_holds : {A : Type 0} (test : A → Bool) (i : ℕ) (xs : List A) (k : ℕ) → position_from test i xs ≡ Some k → HoldsAt test i xs k
place_holds test i [] k h = absurd cc
place_holds test i (x ∷ xs) k h = holds_next test i x xs k (test x) refl h (λ f. place_holds test (i + 1) xs k f)

-- ---- the number of a row

row_is : (a row : ℕ) (m : MemberId) → same_id (id.Row a row) m ≡ true → m ≡ id.Row a row
row_is a row (id.Row b other) h =
    let both = and_both (a == b) (row == other) h in
    ap (λ (x : ℕ). id.Row x other) (sym (equal a b both.0)) ∙ ap (λ (x : ℕ). id.Row a x) (sym (equal row other both.1))
row_is a row (id.Outside m) h = absurd cc

some_number : (o : Option ℕ) (n : ℕ) → o ≡ Some n → o ≡ None → ⊥
some_number o n h k = cc

module _ (x : Assembly) (xs : List Assembly) where
  abbrev s : Assemblies
  s = x ∷ xs

  same_number : (m : MemberId) → number s METHOD_DEF (outside_members s false) m ≡ member_number s false m
  unfolding member_ids
  same_number m = refl

  abbrev outside : List OutsideMember
  outside = outside_members s false

  low_cut : 1 ≤ cut x METHOD_DEF
  low_cut = cut_low x false

  in_target : (row : ℕ) → 1 ≤ row → row ≤ count_in x METHOD_DEF → number s METHOD_DEF outside (id.Row 0 row) ≡ None → ⊥
  in_target row low high none = go (nat_lt row (cut x METHOD_DEF)) refl
    where
      go : (b : Bool) → nat_lt row (cut x METHOD_DEF) ≡ b → ⊥
      go true e =
          let below : row < cut x METHOD_DEF = search (rules, e) in
          some_number (number s METHOD_DEF outside (id.Row 0 row)) _ (old_number x xs METHOD_DEF outside low_cut row low below) none
      go false e =
          let from : cut x METHOD_DEF ≤ row = search (rules, e) in
          some_number (number s METHOD_DEF outside (id.Row 0 row)) _ (new_number x xs METHOD_DEF outside low_cut row from high) none

  in_other : (a row : ℕ) → 1 ≤ a → a < suc (length xs) → 1 ≤ row → row ≤ count_in (assembly_at s a) METHOD_DEF → number s METHOD_DEF outside (id.Row a row) ≡ None → ⊥
  in_other a row some there low high none =
      some_number (number s METHOD_DEF outside (id.Row a row)) _ (other_number x xs METHOD_DEF outside low_cut a row some there low high) none

-- Each row has a number.
pub row_numbered : (s : Assemblies) (a row : ℕ) → a < length s → 1 ≤ row → row ≤ count_in (assembly_at s a) METHOD_DEF → member_number s false (id.Row a row) ≡ None → ⊥
row_numbered [] a row there low high none = absurd (omega (arith, there))
row_numbered (x ∷ xs) zero row there low high none = in_target x xs row low high (same_number x xs (id.Row 0 row) ∙ none)
row_numbered (x ∷ xs) (suc a) row there low high none = in_other x xs (suc a) row (omega arith) there low high (same_number x xs (id.Row (suc a) row) ∙ none)

-- The method of that number is the row's.
pub method_numbered : (s : Assemblies) (p : Program) (a row k : ℕ) → p ≡ program_of s → member_number s false (id.Row a row) ≡ Some k → slice_get p.methods k ≡ Some (method_desc s (id.Row a row))
unfolding program_of
method_numbered s p a row k e h =
    let at = place_holds (same_id (id.Row a row)) 0 (member_ids s false) k h in
    let place : k - 0 ≡ k = omega arith in
    let there : slice_get (member_ids s false) k ≡ Some (id.Row a row) = ap (slice_get (member_ids s false)) (sym place) ∙ at.there ∙ ap (λ (m : MemberId). Some m) (row_is a row at.value at.holds) in
    ap (λ (q : Program). slice_get q.methods k) e
    ∙ slice_get-map (method_desc s) (member_ids s false) k
    ∙ ap (option_map (method_desc s)) there

-- ---- the same of what calls answer, of a set that is this one

module _ (s t : Assemblies) (is : t ≡ s) (a row : ℕ) where
  told : (o : Option ℕ) → o ≡ member_number t false (id.Row a row) → member_number s false (id.Row a row) ≡ o
  told o e = sym (e ∙ ap (λ (x : Assemblies). member_number x false (id.Row a row)) is)

  pub row_found : a < length s → 1 ≤ row → row ≤ count_in (assembly_at s a) METHOD_DEF → None ≡ member_number t false (id.Row a row) → ⊥
  row_found there low high none = row_numbered s a row there low high (told None none)

  module _ (p : Program) (k : ℕ) (program : p ≡ program_of s) (number_is : Some k ≡ member_number t false (id.Row a row)) where
    found : slice_get p.methods k ≡ Some (method_desc s (id.Row a row))
    found = method_numbered s p a row k program (told (Some k) number_is)

    pub method_there : None ≡ slice_get p.methods k → ⊥
    method_there none = some_is_not (method_desc s (id.Row a row)) (slice_get p.methods k) found (sym none)

    pub method_is : (d : MethodDesc) → Some d ≡ slice_get p.methods k → d ≡ method_desc s (id.Row a row)
    method_is d e = some_is d (method_desc s (id.Row a row)) (slice_get p.methods k) (sym e) found
