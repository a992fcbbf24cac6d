-- A body that is read can be written.
use Rattle.std.proofs.Common.{◌≡◌, ℕ, zero, suc, ◌+◌, ◌%◌, ◌^◌, ◌<◌, Bool, true, false, cond, ◌&&◌, List, [], ◌∷◌, length, drop, take, Option, Some, None, refl, sym, ap, ◌∙◌, subst, arith}
use Rattle.std.specs.Prelude.{IfSome, is_some, nat_le, ◌==◌}
use Rattle.std.specs.Option.{option_map}
use Rattle.std.proofs.lemmas.List.Quantifiers.{position-Some}
use Rattle.cil_base.specs.declared.token.Token.{Token}
use Rattle.cil_base.specs.Numbers.{num}
use Rattle.cil_base.specs.Tokens.{token_of}
use Rattle.cil_model.specs.declared.body.Body.{Body}
use Rattle.cil_model.specs.declared.body.Instr.{Instr}
use Rattle.cil_model.specs.declared.body.Operand.{Operand}
use Rattle.cil_model.specs.declared.body.Operand.TheVariants.{Nothing, Int, Index, Target, Targets, Tok}
use Rattle.cil_model.specs.declared.layout.Layout.{Layout}
use Rattle.cil_model.specs.declared.layout.MethodHeader.{MethodHeader}
use Rattle.cil_model.specs.declared.layout.RawClause.{RawClause}
use Rattle.cil_model.specs.BodyCode.{Reads, instr_at}
use Rattle.cil_model.specs.BodyLayout.{locals_number}
use Rattle.cil_model.specs.BodyLayout.{are_fat_flags, behind_code, code_of, fat_header, header_of, if_fat, layout_with, layout_of, locals_of, tiny_header, with_clauses}
use Rattle.cil_model.specs.BodyOf.{StandsFor, and_all, map_all, index_of, with_indexes, operand_with_indexes}
use Rattle.cil_model.specs.ValidBody.{AllBelow, AllValid, AllValidRegions, AreBytes, IsSmallToken, IsValid, IsValidInstr, IsValidOperand, spelling_of}
use Rattle.il_body.proofs.KindLaws.{bytes_drop, small_num}
use Rattle.il_body.proofs.ReadLaws.{IsRead, IsReadOperand, is_read}
use Rattle.il_body.proofs.RegionLaws.{regions_valid}

abbrev AllRead : ℕ → List Instr → Type 0
AllRead a [] = Unit {0}
AllRead a (i ∷ is) = ((n : ℕ) × IsRead a 0 i n) × AllRead a is

all_read : (a at : ℕ) (bytes : List ℕ) (is : List Instr) (os : List ℕ) (end : ℕ) → AreBytes bytes → Reads (instr_at a) at bytes is os end [] → AllRead a is × (length is ≡ length os)
all_read a at bytes [] [] end b r = (tt, refl)
all_read a at bytes [] (o ∷ os) end b r = absurd r
all_read a at bytes (i ∷ is) [] end b r = absurd r
all_read a at bytes (i ∷ is) (o ∷ os) end b r =
    let n = r.1.0 in
    let more = all_read a (at + n) (drop n bytes) is os end (bytes_drop n bytes b) r.1.2 in
    (((n, is_read a at bytes i n b r.1.1), more.0), ap (λ (m : ℕ). suc m) more.1)

below : (offsets : List ℕ) (at k : ℕ) → index_of offsets at ≡ Some k → k < length offsets
below offsets at k h = (position-Some (λ (o : ℕ). o == at) offsets k 0 h).0

-- ---- all_offsets for offsets

-- The operand says what the one that is read does, by all_offsets.
record IsPut (a : ℕ) (offsets : List ℕ) (x y : Operand) : Type 0 where
  pub valid : IsValidOperand a (length offsets) y
  pub same : (code : ℕ) → spelling_of code y ≡ spelling_of code x

put_target : (a : ℕ) (offsets : List ℕ) (at : ℕ) (y : Operand) (o : Option ℕ) → index_of offsets at ≡ o → option_map Target o ≡ Some y → IsPut a offsets (Target at) y
put_target a offsets at y None e h = absurd cc
put_target a offsets at y (Some k) e h =
    let same : Target k ≡ y = cc in
    subst (IsPut a offsets (Target at)) same (record { valid = below offsets at k e; same = λ code. refl })

all_below : (offsets ats ks : List ℕ) (o : Option ℕ) (p : Option (List ℕ)) (at : ℕ) → index_of offsets at ≡ o → and_all o p ≡ Some ks → ((ls : List ℕ) → p ≡ Some ls → AllBelow (length offsets) ls) → AllBelow (length offsets) ks
all_below offsets ats ks None p at e h more = absurd cc
all_below offsets ats ks (Some k) None at e h more = absurd cc
all_below offsets ats ks (Some k) (Some ls) at e h more =
    let same : k ∷ ls ≡ ks = cc in subst (AllBelow (length offsets)) same (below offsets at k e, more ls refl)

cases_below : (offsets ats ks : List ℕ) → map_all (index_of offsets) ats ≡ Some ks → AllBelow (length offsets) ks
cases_below offsets [] ks h = let none : List ℕ = [] in let same : none ≡ ks = cc in subst (AllBelow (length offsets)) same tt
cases_below offsets (at ∷ ats) ks h =
    all_below offsets ats ks (index_of offsets at) (map_all (index_of offsets) ats) at refl h (λ ls e. cases_below offsets ats ls e)

put_targets : (a : ℕ) (offsets ats : List ℕ) (y : Operand) (o : Option (List ℕ)) → map_all (index_of offsets) ats ≡ o → option_map Targets o ≡ Some y → IsPut a offsets (Targets ats) y
put_targets a offsets ats y None e h = absurd cc
put_targets a offsets ats y (Some ks) e h =
    let same : Targets ks ≡ y = cc in
    subst (IsPut a offsets (Targets ats)) same (record { valid = cases_below offsets ats ks e; same = λ code. refl })

put_indexes : (a : ℕ) (offsets : List ℕ) (x y : Operand) → IsReadOperand a x → operand_with_indexes offsets x ≡ Some y → IsPut a offsets x y
put_indexes a offsets Nothing y r h = let same : Nothing ≡ y = cc in subst (IsPut a offsets Nothing) same (record { valid = tt; same = λ code. refl })
put_indexes a offsets (Int z) y r h = let same : Int z ≡ y = cc in subst (IsPut a offsets (Int z)) same (record { valid = tt; same = λ code. refl })
put_indexes a offsets (Index k) y r h = let same : Index k ≡ y = cc in subst (IsPut a offsets (Index k)) same (record { valid = tt; same = λ code. refl })
put_indexes a offsets (Target at) y r h = put_target a offsets at y (index_of offsets at) refl h
put_indexes a offsets (Targets ats) y r h = put_targets a offsets ats y (map_all (index_of offsets) ats) refl h
put_indexes a offsets (Tok assembly token) y r h = let same : Tok assembly token ≡ y = cc in subst (IsPut a offsets (Tok assembly token)) same (record { valid = r; same = λ code. refl })

valid_one : (a n : ℕ) (offsets : List ℕ) (r i : Instr) (o : Option Operand) → IsRead a 0 r n → operand_with_indexes offsets r.operand ≡ o → option_map (λ (x : Operand). record r { operand = x }) o ≡ Some i → IsValidInstr a (length offsets) i
valid_one a n offsets r i None read e h = absurd cc
valid_one a n offsets r i (Some y) read e h =
    let p = put_indexes a offsets r.operand y read.operand e in
    let j : Instr = record r { operand = y } in
    let same : j ≡ i = cc in
    let all : IsValidInstr a (length offsets) j = record { spelled = ap is_some (p.same r.op) ∙ read.spelled; operand = p.valid; constrained = read.constrained; prefixes = read.prefixes } in
    subst (IsValidInstr a (length offsets)) same all

valid_more : (a n : ℕ) (offsets : List ℕ) (r : Instr) (is : List Instr) (o : Option Instr) (p : Option (List Instr)) (count : ℕ) → IsRead a 0 r n → with_indexes offsets r ≡ o → and_all o p ≡ Some is → ((ls : List Instr) → p ≡ Some ls → AllValid a (length offsets) ls × (length ls ≡ count)) → AllValid a (length offsets) is × (length is ≡ suc count)
valid_more a n offsets r is None p count read e h more = absurd cc
valid_more a n offsets r is (Some i) None count read e h more = absurd cc
valid_more a n offsets r is (Some i) (Some ls) count read e h more =
    let same : i ∷ ls ≡ is = cc in
    let rest = more ls refl in
    subst (λ (l : List Instr). AllValid a (length offsets) l × (length l ≡ suc count)) same
    ((valid_one a n offsets r i (operand_with_indexes offsets r.operand) read refl e, rest.0), ap (λ (m : ℕ). suc m) rest.1)

valid_all : (a : ℕ) (offsets : List ℕ) (raw is : List Instr) → AllRead a raw → map_all (with_indexes offsets) raw ≡ Some is → AllValid a (length offsets) is × (length is ≡ length raw)
valid_all a offsets [] is read h = let none : List Instr = [] in let same : none ≡ is = cc in subst (λ (l : List Instr). AllValid a (length offsets) l × (length l ≡ 0)) same (tt, refl)
valid_all a offsets (r ∷ raw) is read h =
    valid_more a read.0.0 offsets r is (with_indexes offsets r) (map_all (with_indexes offsets) raw) (length raw) read.0.1 refl h (λ ls e. valid_all a offsets raw ls read.1 e)

bytes_take : (n : ℕ) (bytes : List ℕ) → AreBytes bytes → AreBytes (take n bytes)
bytes_take zero bytes b k = omega arith
bytes_take (suc n) [] b k = omega arith
bytes_take (suc n) (x ∷ bytes) b zero = b 0
bytes_take (suc n) (x ∷ bytes) b (suc k) = bytes_take n bytes (λ j. b (suc j)) k

small_header : (v : ℕ) → v < 2 ^ 32 → locals_number (locals_of v) < 2 ^ 32
small_header v h = go (v == 0)
  where
    go : (b : Bool) → locals_number (cond b None (Some (token_of v))) < 2 ^ 32
    go true = omega arith
    go false = omega arith

abbrev HasSmall : Option MethodHeader → Type 0
HasSmall None = Unit {0}
HasSmall (Some h) = locals_number h.locals < 2 ^ 32

small_fat : (bytes : List ℕ) (b : Bool) (flags : ℕ) → AreBytes bytes → HasSmall (cond b (Some (fat_header flags bytes)) None)
small_fat bytes true flags b = let s = small_num bytes 8 4 b in small_header (num bytes 8 4) (omega arith)
small_fat bytes false flags b = tt

small_of : (bytes : List ℕ) → AreBytes bytes → HasSmall (header_of bytes)
small_of [] b = tt
small_of (x ∷ rest) b = go (x % 4 == 2)
  where
    go : (t : Bool) → HasSmall (cond t (Some (tiny_header x)) (if_fat (num (x ∷ rest) 0 2) (x ∷ rest)))
    go true = omega arith
    go false = small_fat (x ∷ rest) (are_fat_flags (num (x ∷ rest) 0 2) && nat_le 12 (length (x ∷ rest))) (num (x ∷ rest) 0 2) b

header_from : (h : MethodHeader) (l : Layout) (o : Option (List RawClause × ℕ)) → with_clauses h o ≡ Some l → l.header ≡ h
header_from h l None e = absurd cc
header_from h l (Some x) e =
    let m : Layout = record { header = h; clauses = x.0; len = x.1 } in
    let same : m ≡ l = cc in sym (ap (λ (k : Layout). k.header) same)

laid_small : (bytes : List ℕ) (l : Layout) (o : Option MethodHeader) → HasSmall o → layout_with bytes o ≡ Some l → locals_number l.header.locals < 2 ^ 32
laid_small bytes l None s e = absurd cc
laid_small bytes l (Some h) s e = go (nat_le (h.size + h.code_size) (length bytes)) e
  where
    go : (b : Bool) → cond b (with_clauses h (behind_code bytes h (h.size + h.code_size))) None ≡ Some l → locals_number l.header.locals < 2 ^ 32
    go true e = subst (λ (k : MethodHeader). locals_number k.locals < 2 ^ 32) (sym (header_from h l (behind_code bytes h (h.size + h.code_size)) e)) s
    go false e = absurd cc

small_layout : (bytes : List ℕ) (l : Layout) → AreBytes bytes → layout_of bytes ≡ Some l → locals_number l.header.locals < 2 ^ 32
unfolding layout_of
small_layout bytes l b e = laid_small bytes l (header_of bytes) (small_of bytes b) e

locals_valid : (o : Option Token) (v : ℕ) → IfSome o (λ token. token.row < 2 ^ 24) → locals_number o ≡ v → v < 2 ^ 32 → IfSome o IsSmallToken
locals_valid None v r e s = tt
locals_valid (Some t) v r e s = (omega arith, r)

pub body_valid : (a : ℕ) (bytes : List ℕ) (body : Body) (len : ℕ) → AreBytes bytes → StandsFor a bytes body len → IfSome body.locals (λ token. token.row < 2 ^ 24) → IsValid a body
body_valid a bytes body len b s row =
    let h = s.layout.header in
    let code = bytes_take h.code_size (drop h.size bytes) (bytes_drop h.size bytes b) in
    let read = all_read a 0 (code_of bytes h) s.stands.raw body.offsets h.code_size code s.stands.reads in
    let valid = valid_all a body.offsets s.stands.raw body.instrs read.0 s.stands.instrs in
    let regions = regions_valid a bytes (code_of bytes h) s.layout s.stands.raw body.offsets body.regions b code s.is_laid s.stands.reads s.stands.regions in
    let n : length body.offsets ≡ length body.instrs = sym read.1 ∙ sym valid.1 in
    record {
      instrs = subst (λ (n : ℕ). AllValid a n body.instrs) n valid.0;
      regions = subst (λ (n : ℕ). AllValidRegions n body.regions) n regions;
      locals = locals_valid body.locals (locals_number h.locals) row s.stands.locals (small_layout bytes s.layout b s.is_laid);
    }
