-- The spelling of an instruction is found again by its code.
use Rattle.std.proofs.Common.{◌≡◌, ◌⊎◌, ⊎_elim, ℕ, ◌+◌, ◌%◌, ◌<◌, ◌≤◌, Bool, true, false, cond, ◌&&◌, ◌||◌, List, [], ◌∷◌, ◌++◌, length, Option, Some, Ok, refl, inl, inr, subst, arith, zero, suc, sym, ◌∙◌}
use Rattle.std.specs.Prelude.{nat_le, nat_lt, not, slice_get, ◌==◌, find}
use Rattle.std.specs.List.{list_all}
use Rattle.std.proofs.lemmas.Bool.{leb-true}
use Rattle.std.proofs.lemmas.Grind.{common_steps}
use Rattle.cil_base.proofs.Small.{and_both, decide, equal}
use Rattle.cil_model.specs.declared.body.Operand.{Operand}
use Rattle.cil_model.specs.declared.body.Operand.TheVariants.{Nothing, Int, Index, Target, Targets, Tok}
use Rattle.il_opcodes.specs.declared.opcode.Opcode.{Opcode}
use Rattle.il_opcodes.specs.declared.opcode.OperandKind.{OperandKind}
use Rattle.il_opcodes.specs.declared.opcode.OperandKind.TheVariants as op
use Rattle.il_opcodes.specs.Opcodes.{opcode_of, the_opcodes}
use Rattle.cil_model.specs.BodyCode.{opcode_at}
use Rattle.cil_model.specs.ValidBody.{spelling_of, takes}
use Rattle.il_body.specs.BodyEncoding.{AreShortest, code_bytes, spelling_room}

pub split : {X : Type 0} (b : Bool) (x o : X) (r : Option X) → cond b (Some x) r ≡ Some o → ((b ≡ true) × (x ≡ o)) ⊎ ((b ≡ false) × (r ≡ Some o))
split true x o r h = inl (refl, cc)
split false x o r h = inr (refl, h)

-- ---- the codes of a table rise

abbrev rises : ℕ → List Opcode → Bool
rises low [] = true
rises low (o ∷ os) = nat_le low o.code && rises (o.code + 1) os

the_rise : rises 0 the_opcodes ≡ true
unfolding the_opcodes
the_rise = refl

lowest : (low : ℕ) (p : Opcode → Bool) (os : List Opcode) (o : Opcode) → rises low os ≡ true → find p os ≡ Some o → low ≤ o.code
lowest low p [] o r f = cc
lowest low p (x ∷ xs) o r f =
    let b = and_both (nat_le low x.code) (rises (x.code + 1) xs) r in
    let le = leb-true low x.code b.0 in
    ⊎_elim (λ e. subst (λ (y : Opcode). low ≤ y.code) e.1 le) (λ e. let l = lowest (x.code + 1) p xs o b.1 e.1 in omega arith) (split (p x) x o (find p xs) f)

same : (n : ℕ) → (n == n) ≡ true
same n = grind (arith, common_steps)

differ : (m n : ℕ) → m < n → (m == n) ≡ false
differ m n h = grind (arith, common_steps)

at_code : (low : ℕ) (p : Opcode → Bool) (os : List Opcode) (o : Opcode) → rises low os ≡ true → find p os ≡ Some o → find (λ (x : Opcode). x.code == o.code) os ≡ Some o
at_code low p [] o r f = cc
at_code low p (x ∷ xs) o r f =
    let b = and_both (nat_le low x.code) (rises (x.code + 1) xs) r in
    ⊎_elim
    (λ e. subst (λ (y : Opcode). find (λ (z : Opcode). z.code == y.code) (x ∷ xs) ≡ Some y) e.1 (rw (same x.code) refl))
    (λ e. let l = lowest (x.code + 1) p xs o b.1 e.1 in rw (differ x.code o.code (omega arith)) (at_code (x.code + 1) p xs o b.1 e.1))
    (split (p x) x o (find p xs) f)

pub passing : (p q : Opcode → Bool) (os : List Opcode) (o : Opcode) → list_all q os ≡ true → find p os ≡ Some o → (p o ≡ true) × (q o ≡ true)
passing p q [] o all f = cc
passing p q (x ∷ xs) o all f =
    let b = and_both (q x) (list_all q xs) all in
    ⊎_elim (λ e. subst (λ (y : Opcode). (p y ≡ true) × (q y ≡ true)) e.1 (e.0, b.0)) (λ e. passing p q xs o b.1 e.1) (split (p x) x o (find p xs) f)

abbrev coded : Opcode → Bool
coded o = nat_lt o.code 0xFE || (nat_le 0xFE00 o.code && nat_lt o.code 0xFF00)

all_coded : list_all coded the_opcodes ≡ true
unfolding the_opcodes
all_coded = refl

-- What a spelling is: an instruction of the table, found by its code, that takes the operand.
pub record IsSpelling (code : ℕ) (operand : Operand) (o : Opcode) : Type 0 where
  pub found : opcode_of o.code ≡ Some o
  pub long : o.long ≡ code
  pub takes : takes o.operand operand ≡ true
  pub coded : coded o ≡ true

pub is_spelling : (code : ℕ) (operand : Operand) (o : Opcode) → spelling_of code operand ≡ Some o → IsSpelling code operand o
unfolding opcode_of
is_spelling code operand o h =
    let x = passing (λ (o : Opcode). (o.long == code) && takes o.operand operand) coded the_opcodes o all_coded h in
    let y = and_both (o.long == code) (takes o.operand operand) x.0 in
    record { found = at_code 0 (λ (o : Opcode). (o.long == code) && takes o.operand operand) the_opcodes o the_rise h; long = equal o.long code y.0; takes = y.1; coded = x.1 }

-- ---- a code is read back

one_byte : (o : Opcode) → coded o ≡ true → nat_lt o.code 0x100 ≡ true → (o.code == 0xFE) ≡ false
one_byte o c h = grind (arith, common_steps)

two_bytes : (o : Opcode) → coded o ≡ true → nat_lt o.code 0x100 ≡ false → 0xFE00 + o.code % 0x100 ≡ o.code
two_bytes o c h = grind (arith, common_steps)

pub code_back : (code : ℕ) (operand : Operand) (o : Opcode) (rest : List ℕ) → IsSpelling code operand o → opcode_at (code_bytes o.code ++ rest) ≡ Ok (o, length (code_bytes o.code))
code_back code operand o rest s =
    decide (nat_lt o.code 0x100) (λ t. rw (t, one_byte o s.coded t, s.found) refl) (λ f. rw (f, two_bytes o s.coded f, s.found) refl)

-- ---- and it is no prefix

pub no_flag : (kind : OperandKind) (operand : Operand) (bit : ℕ) → takes kind operand ≡ true → kind ≡ op.Flag bit → ⊥
no_flag kind operand bit t e = go operand (subst (λ (k : OperandKind). takes k operand ≡ true) e t)
  where
    go : (operand : Operand) → takes (op.Flag bit) operand ≡ true → ⊥
    go Nothing h = cc
    go (Int z) h = cc
    go (Index k) h = cc
    go (Target k) h = cc
    go (Targets ks) h = cc
    go (Tok a token) h = cc

pub no_type : (kind : OperandKind) (operand : Operand) → takes kind operand ≡ true → kind ≡ op.Constrained → ⊥
no_type kind operand t e = go operand (subst (λ (k : OperandKind). takes k operand ≡ true) e t)
  where
    go : (operand : Operand) → takes op.Constrained operand ≡ true → ⊥
    go Nothing h = cc
    go (Int z) h = cc
    go (Index k) h = cc
    go (Target k) h = cc
    go (Targets ks) h = cc
    go (Tok a token) h = cc

-- ---- and none is shorter

abbrev is_short_branch : OperandKind → Bool
is_short_branch op.Target8 = true
is_short_branch kind = false

abbrev no_shorter : Opcode → Opcode → Bool
no_shorter o q = not (q.long == o.long) || is_short_branch q.operand || nat_le (spelling_room o) (spelling_room q)

abbrev in_order : List Opcode → Bool
in_order [] = true
in_order (o ∷ os) = list_all (no_shorter o) os && in_order os

all_in_order : in_order the_opcodes ≡ true
unfolding the_opcodes
all_in_order = refl

all_at : (r : Opcode → Bool) (os : List Opcode) (k : ℕ) (q : Opcode) → list_all r os ≡ true → slice_get os k ≡ Some q → r q ≡ true
all_at r [] k q h e = absurd cc
all_at r (o ∷ os) zero q h e = let same : o ≡ q = cc in subst (λ (x : Opcode). r x ≡ true) same (and_both (r o) (list_all r os) h).0
all_at r (o ∷ os) (suc k) q h e = all_at r os k q (and_both (r o) (list_all r os) h).1 e

long_enough : (same short : Bool) (m n : ℕ) → (not same || short || nat_le m n) ≡ true → same ≡ true → short ≡ false → m ≤ n
long_enough true true m n h s b = absurd cc
long_enough true false m n h s b = leb-true m n h
long_enough false short m n h s b = absurd cc

no_branch : (kind : OperandKind) (operand : Operand) → takes kind operand ≡ true → is_short_branch kind ≡ false
no_branch op.Target8 Nothing h = absurd cc
no_branch op.Target8 (Int z) h = absurd cc
no_branch op.Target8 (Index k) h = absurd cc
no_branch op.Target8 (Target k) h = absurd cc
no_branch op.Target8 (Targets ks) h = absurd cc
no_branch op.Target8 (Tok a token) h = absurd cc
no_branch kind operand h = refl

first_is_shortest : (code : ℕ) (operand : Operand) (os : List Opcode) (o q : Opcode) (k : ℕ) → in_order os ≡ true → find (λ (x : Opcode). (x.long == code) && takes x.operand operand) os ≡ Some o → slice_get os k ≡ Some q → q.long ≡ code → takes q.operand operand ≡ true → spelling_room o ≤ spelling_room q
first_is_shortest code operand [] o q k ordered f e long t = absurd cc
first_is_shortest code operand (x ∷ os) o q zero ordered f e long t =
    let here : x ≡ q = cc in
    let test : ((q.long == code) && takes q.operand operand) ≡ true = rw (long, t, same code) refl in
    let first : ((x.long == code) && takes x.operand operand) ≡ true = subst (λ (y : Opcode). ((y.long == code) && takes y.operand operand) ≡ true) (sym here) test in
    ⊎_elim (λ s. subst (λ (y : Opcode). spelling_room y ≤ spelling_room q) (sym here ∙ s.1) (omega arith)) (λ s. absurd cc) (split ((x.long == code) && takes x.operand operand) x o (find (λ (x : Opcode). (x.long == code) && takes x.operand operand) os) f)
first_is_shortest code operand (x ∷ os) o q (suc k) ordered f e long t =
    let b = and_both (list_all (no_shorter x) os) (in_order os) ordered in
    ⊎_elim
    (λ s.
    let test = and_both (x.long == code) (takes x.operand operand) s.0 in
    let alike : (q.long == x.long) ≡ true = rw (long, equal x.long code test.0, same code) refl in
    let le = long_enough (q.long == x.long) (is_short_branch q.operand) (spelling_room x) (spelling_room q) (all_at (no_shorter x) os k q b.0 e) alike (no_branch q.operand operand t) in
    subst (λ (y : Opcode). spelling_room y ≤ spelling_room q) s.1 le)
    (λ s. first_is_shortest code operand os o q k b.1 s.1 e long t)
    (split ((x.long == code) && takes x.operand operand) x o (find (λ (x : Opcode). (x.long == code) && takes x.operand operand) os) f)

pub are_shortest : AreShortest
are_shortest code operand o q k f e long t = first_is_shortest code operand the_opcodes o q k all_in_order f e long t
