-- Code has no more instructions than bytes.
use Rattle.std.proofs.Common.{◌≡◌, ◌∙◌, sym, subst, ap, refl, arith, ℕ, zero, suc, ◌+◌, ◌-◌, ◌<◌, ◌≤◌, ◌^◌, Bool, true, false, List, [], ◌∷◌, length, drop, take, Option, Some, None, Result, Ok, Err}
use Rattle.std.specs.Prelude.{◌==◌, IfSome, slice_get}
use Rattle.std.proofs.lemmas.List.{length-take, length-drop}
use Rattle.cil_base.specs.declared.token.Token.{Token}
use Rattle.cil_base.specs.declared.rule.Rule.{Rule}
use Rattle.cil_base.specs.Numbers.{num_at}
use Rattle.cil_base.specs.Tokens.{token_of}
use Rattle.cil_base.proofs.Small.{decide}
use Rattle.il_opcodes.specs.declared.opcode.Opcode.{Opcode}
use Rattle.il_opcodes.specs.declared.opcode.OperandKind.{OperandKind}
use Rattle.il_opcodes.specs.declared.opcode.OperandKind.TheVariants as op
use Rattle.il_opcodes.specs.Opcodes.{opcode_of}
use Rattle.cil_model.specs.declared.body.Body.{Body}
use Rattle.cil_model.specs.declared.body.Instr.{Instr}
use Rattle.cil_model.specs.declared.body.Operand.{Operand}
use Rattle.cil_model.specs.BodyCode.{Reading, Reads, behind, behind_code, code_at, if_defined, instr_at, opcode_at, opcode_for, operand_at, prefixed, second_of, with_operand, with_type}
use Rattle.cil_model.specs.BodyLayout.{code_of}
use Rattle.cil_model.specs.BodyOf.{StandsFor, and_all, map_all, with_indexes}
use Rattle.il_code.proofs.InstrLaws.{none_read}
use Rattle.method_bodies.specs.Bodies.{IsBodyAt}
use Rattle.method_bodies.proofs.FaultLaws.{tail_short}

-- ---- an instruction takes some bytes

second_some : (o : Option ℕ) (code n : ℕ) → second_of o ≡ Some (code, n) → 0 < n
second_some None code n h = absurd cc
second_some (Some b) code n h =
    let p : ℕ × ℕ = (0xFE00 + b, 2) in
    let q : ℕ × ℕ = (code, n) in
    let e : p ≡ q = cc in
    let two : 2 ≡ n = ap (λ (x : ℕ × ℕ). x.1) e in omega (arith, two)

code_some : (bytes : List ℕ) (code n : ℕ) → code_at bytes ≡ Some (code, n) → 0 < n
code_some [] code n h = absurd cc
code_some (b ∷ rest) code n h =
    decide (b == 0xFE) (λ t. second_some (slice_get rest 0) code n (rw t at h))
    (λ f.
    let p : ℕ × ℕ = (b, 1) in
    let q : ℕ × ℕ = (code, n) in
    let g : let o : Option (ℕ × ℕ) = Some p in o ≡ Some q = rw f at h in
    let e : p ≡ q = cc in
    let one : 1 ≡ n = ap (λ (x : ℕ × ℕ). x.1) e in omega (arith, one))

opcode_some : (bytes : List ℕ) (o : Opcode) (n : ℕ) → opcode_at bytes ≡ Ok (o, n) → 0 < n
opcode_some bytes o n h = go (code_at bytes) refl h
  where
    defined : (code m : ℕ) (r : Option Opcode) → code_at bytes ≡ Some (code, m) → if_defined r m ≡ Ok (o, n) → 0 < n
    defined code m None e f = absurd cc
    defined code m (Some x) e f =
        let p : Opcode × ℕ = (x, m) in
        let q : Opcode × ℕ = (o, n) in
        let same : p ≡ q = cc in
        subst (λ (k : ℕ). 0 < k) (ap (λ (y : Opcode × ℕ). y.1) same) (code_some bytes code m e)

    go : (r : Option (ℕ × ℕ)) → code_at bytes ≡ r → opcode_for r ≡ Ok (o, n) → 0 < n
    go None e f = absurd cc
    go (Some (code, m)) e f = defined code m (opcode_of code) e f

with_more : (c : Option Token) (f before taken code : ℕ) (r : Option (Operand × ℕ)) (i : Instr) (n : ℕ) → before < taken → with_operand c f taken code r ≡ Ok (i, n) → before < n
with_more c f before taken code None i n less h = absurd cc
with_more c f before taken code (Some x) i n less h =
    let j : Instr = record { op = code; operand = x.0; constrained = c; prefixes = f; under = None } in
    let p : Instr × ℕ = (j, taken + x.1) in
    let q : Instr × ℕ = (i, n) in
    let same : p ≡ q = cc in
    let e : taken + x.1 ≡ n = ap (λ (y : Instr × ℕ). y.1) same in
    omega (arith, less, e)

abbrev Reader : Type 0
Reader = Option Token → ℕ → ℕ → Reading

abbrev TakesMore : Reader → Type 0
TakesMore more = (c : Option Token) (f taken : ℕ) (i : Instr) (n : ℕ) → more c f taken ≡ Ok (i, n) → taken < n

typed_more : (more : Reader) (f before taken : ℕ) (r : Option ℕ) (i : Instr) (n : ℕ) → TakesMore more → before < taken → with_type more f taken r ≡ Ok (i, n) → before < n
typed_more more f before taken None i n all less h = absurd cc
typed_more more f before taken (Some v) i n all less h = let later : taken + 4 < n = all (Some (token_of v)) f (taken + 4) i n h in omega (arith, less, later)

behind_more : (more : Reader) (a at : ℕ) (c : Option Token) (f before taken code : ℕ) (rest : List ℕ) (kind : OperandKind) (i : Instr) (n : ℕ) → TakesMore more → before < taken → behind more a at c f taken code rest kind ≡ Ok (i, n) → before < n
behind_more more a at c f before taken code rest (op.Flag bit) i n all less h = let later : taken < n = all c (Rattle.std.specs.Int.RustNames.bit_or f bit) taken i n h in omega (arith, less, later)
behind_more more a at c f before taken code rest op.Constrained i n all less h = typed_more more f before taken (num_at rest 0 4) i n all less h
behind_more more a at c f before taken code rest kind i n all less h = with_more c f before taken code (operand_at a (at + taken) kind rest) i n less h

prefixed_more : (a at : ℕ) (bytes : List ℕ) (k : ℕ) → TakesMore (prefixed a at bytes k)
unfolding prefixed
prefixed_more a at bytes zero = λ c f taken i n h. absurd cc
prefixed_more a at bytes (suc k) = λ c f taken i n h. go c f taken i n (prefixed_more a at bytes k) (opcode_at (drop taken bytes)) refl h
  where
    go : (c : Option Token) (f taken : ℕ) (i : Instr) (n : ℕ) → TakesMore (prefixed a at bytes k) → (r : Result (Opcode × ℕ) Rule) → opcode_at (drop taken bytes) ≡ r → behind_code (prefixed a at bytes k) a at bytes c f taken r ≡ Ok (i, n) → taken < n
    go c f taken i n all (Err rule) e h = absurd cc
    go c f taken i n all (Ok (o, m)) e h =
        let some : 0 < m = opcode_some (drop taken bytes) o m e in
        behind_more (prefixed a at bytes k) a at c f taken (taken + m) o.long (drop (taken + m) bytes) o.operand i n all (omega (arith, some)) h

takes_some : (a at : ℕ) (bytes : List ℕ) (i : Instr) (n : ℕ) → instr_at a at bytes ≡ Ok (i, n) → 0 < n
takes_some a at bytes i n h = prefixed_more a at bytes (length bytes) None 0 0 i n h

-- ---- the code of a body

count_read : (a at : ℕ) (bytes : List ℕ) (is : List Instr) (os : List ℕ) (end : ℕ) (rest : List ℕ) → Reads (instr_at a) at bytes is os end rest → length is ≤ length bytes
count_read a at bytes [] [] end rest h = omega arith
count_read a at bytes [] (o ∷ os) end rest h = absurd h
count_read a at bytes (i ∷ is) [] end rest h = absurd h
count_read a at [] (i ∷ is) (o ∷ os) end rest h = absurd (none_read a at i h.1.0 h.1.1)
count_read a at (b ∷ bytes) (i ∷ is) (o ∷ os) end rest h =
    let some : 0 < h.1.0 = takes_some a at (b ∷ bytes) i h.1.0 h.1.1 in
    let later : length is ≤ length (drop h.1.0 (b ∷ bytes)) = count_read a (at + h.1.0) (drop h.1.0 (b ∷ bytes)) is os end rest h.1.2 in
    omega (arith, some, later, length-drop h.1.0 (b ∷ bytes))

mapped_more : {X Y : Type 0} (x : X) (xs : List X) (ys : List Y) (o : Option Y) (p : Option (List Y)) → and_all o p ≡ Some ys → ((zs : List Y) → p ≡ Some zs → length xs ≡ length zs) → suc (length xs) ≡ length ys
mapped_more x xs ys None p h again = absurd cc
mapped_more x xs ys (Some y) None h again = absurd cc
mapped_more x xs ys (Some y) (Some zs) h again =
    let same : y ∷ zs ≡ ys = cc in
    ap suc (again zs refl) ∙ ap length same

count_mapped : {X Y : Type 0} (f : X → Option Y) (xs : List X) (ys : List Y) → map_all f xs ≡ Some ys → length xs ≡ length ys
count_mapped f [] [] h = refl
count_mapped f [] (y ∷ ys) h = absurd cc
count_mapped f (x ∷ xs) ys h = mapped_more x xs ys (f x) (map_all f xs) h (λ zs e. count_mapped f xs zs e)

pub stands_few : (a : ℕ) (bytes : List ℕ) (b : Body) (len : ℕ) → StandsFor a bytes b len → length b.instrs ≤ length bytes
stands_few a bytes b len s =
    let h = s.layout.header in
    let read : length s.stands.raw ≤ length (code_of bytes h) = count_read a 0 (code_of bytes h) s.stands.raw b.offsets h.code_size [] s.stands.reads in
    let same : length s.stands.raw ≡ length b.instrs = count_mapped (with_indexes b.offsets) s.stands.raw b.instrs s.stands.instrs in
    omega (arith, read, same, length-take h.code_size (drop h.size bytes), length-drop h.size bytes)

-- A body in an image has no more instructions than that has bytes.
pub few_instrs : (image : List ℕ) (a rva : ℕ) (body : Option Body) → length image < 2 ^ 32 → IsBodyAt image a rva body → IfSome body (λ b. length b.instrs < 2 ^ 32)
few_instrs image a rva None short h = tt
few_instrs image a rva (Some b) short h =
    let one : length b.instrs ≤ length h.1.bytes = stands_few a h.1.bytes b h.1.len h.1.stands in
    let two : length h.1.bytes ≤ length image = tail_short image rva h.1.bytes h.1.there in
    omega (arith, one, two, short)
