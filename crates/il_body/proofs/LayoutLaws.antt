-- A header, the code and the sections read back.
use Rattle.std.proofs.Common.{◌≡◌, ℕ, ◌+◌, ◌-◌, ◌*◌, ◌/◌, ◌%◌, ◌^◌, ◌<◌, Bool, true, false, cond, not, List, [], ◌∷◌, ◌++◌, length, drop, Some, None, refl, sym, ap, ◌∙◌, subst, arith, append-nil, length-append}
use Rattle.std.specs.Prelude.{nat_le, ◌==◌, if◌then◌else◌, replicate}
use Rattle.std.specs.Int.{w16, w32, to_le_bytes}
use Rattle.std.proofs.Math.Seq.{drop-append_seam, take-append_seam}
use Rattle.std.proofs.lemmas.Grind.{common_steps}
use Rattle.std.proofs.lemmas.List.{length-replicate}
use Rattle.cil_base.proofs.PieceLaws.{left_behind}
use Rattle.cil_base.specs.Numbers.{num}
use Rattle.cil_base.specs.Tokens.{token_of}
use Rattle.cil_model.specs.declared.layout.MethodHeader.{MethodHeader}
use Rattle.cil_model.specs.declared.layout.RawClause.{RawClause}
use Rattle.cil_model.specs.BodyLayout as layout
use Rattle.cil_model.specs.BodyLayout.{aligned, header_of, layout_of, locals_of, sections_at}
use Rattle.cil_model.specs.BodyLayout.{locals_number}
use Rattle.il_body.specs.BodyEncoding.{behind_code, sections}
use Rattle.il_body.proofs.ClauseLaws.{AllWritable, sections_back}
use Rattle.il_body.proofs.NumberLaws.{num_back}

-- ---- headers

pub tiny_back : (size : ℕ) (rest : List ℕ) → header_of ((4 * size + 2) ∷ rest) ≡ Some (record { size = 1; code_size = size; max_stack = 8; init = false; locals = None; more = false })
tiny_back size rest =
    let p : ((4 * size + 2) % 4 == 2) ≡ true = grind (arith, common_steps) in
    let q : (4 * size + 2) / 4 ≡ size = omega arith in
    rw (p, q) refl

abbrev flags : Bool → Bool → ℕ
flags init plain = 0x3003 + (if init then 0x10 else 0) + (if plain then 0 else 8)

fat_with : (init plain : Bool) (stack size locals : ℕ) (rest : List ℕ) → stack < 2 ^ 16 → size < 2 ^ 32 → locals < 2 ^ 32 → header_of (to_le_bytes w16 (flags init plain) ++ (to_le_bytes w16 stack ++ (to_le_bytes w32 size ++ (to_le_bytes w32 locals ++ rest)))) ≡ Some (record { size = 12; code_size = size; max_stack = stack; init = init; locals = locals_of locals; more = not plain })
fat_with init plain stack size locals rest s c l =
    let x3 = to_le_bytes w32 locals ++ rest in
    let x2 = to_le_bytes w32 size ++ x3 in
    let x1 = to_le_bytes w16 stack ++ x2 in
    let bytes = to_le_bytes w16 (flags init plain) ++ x1 in
    let small : flags init plain < 2 ^ 16 = below init plain in
    let n0 : num bytes 0 2 ≡ flags init plain = num_back 2 bytes 0 (flags init plain) x1 refl small in
    let n1 : num bytes 2 2 ≡ stack = num_back 2 bytes 2 stack x2 refl s in
    let n2 : num bytes 4 4 ≡ size = num_back 4 bytes 4 size x3 refl c in
    let n3 : num bytes 8 4 ≡ locals = num_back 4 bytes 8 locals rest refl l in
    let whole : nat_le 12 (length bytes) ≡ true = grind (arith, common_steps) in
    go init plain n0 n1 n2 n3 whole
  where
    below : (init plain : Bool) → flags init plain < 2 ^ 16
    below true true = omega arith
    below true false = omega arith
    below false true = omega arith
    below false false = omega arith

    go : (init plain : Bool) → num (to_le_bytes w16 (flags init plain) ++ (to_le_bytes w16 stack ++ (to_le_bytes w32 size ++ (to_le_bytes w32 locals ++ rest)))) 0 2 ≡ flags init plain → num (to_le_bytes w16 (flags init plain) ++ (to_le_bytes w16 stack ++ (to_le_bytes w32 size ++ (to_le_bytes w32 locals ++ rest)))) 2 2 ≡ stack → num (to_le_bytes w16 (flags init plain) ++ (to_le_bytes w16 stack ++ (to_le_bytes w32 size ++ (to_le_bytes w32 locals ++ rest)))) 4 4 ≡ size → num (to_le_bytes w16 (flags init plain) ++ (to_le_bytes w16 stack ++ (to_le_bytes w32 size ++ (to_le_bytes w32 locals ++ rest)))) 8 4 ≡ locals → nat_le 12 (length (to_le_bytes w16 (flags init plain) ++ (to_le_bytes w16 stack ++ (to_le_bytes w32 size ++ (to_le_bytes w32 locals ++ rest))))) ≡ true → header_of (to_le_bytes w16 (flags init plain) ++ (to_le_bytes w16 stack ++ (to_le_bytes w32 size ++ (to_le_bytes w32 locals ++ rest)))) ≡ Some (record { size = 12; code_size = size; max_stack = stack; init = init; locals = locals_of locals; more = not plain })
    go true true n0 n1 n2 n3 whole = rw (n0, n1, n2, n3, whole) refl
    go true false n0 n1 n2 n3 whole = rw (n0, n1, n2, n3, whole) refl
    go false true n0 n1 n2 n3 whole = rw (n0, n1, n2, n3, whole) refl
    go false false n0 n1 n2 n3 whole = rw (n0, n1, n2, n3, whole) refl

pub fat_back : (init plain : Bool) (stack size locals : ℕ) (rest : List ℕ) → stack < 2 ^ 16 → size < 2 ^ 32 → locals < 2 ^ 32 → header_of ((to_le_bytes w16 (flags init plain) ++ (to_le_bytes w16 stack ++ (to_le_bytes w32 size ++ to_le_bytes w32 locals))) ++ rest) ≡ Some (record { size = 12; code_size = size; max_stack = stack; init = init; locals = locals_of locals; more = not plain })
fat_back init plain stack size locals rest s c l = fat_with init plain stack size locals rest s c l

pub locals_back : (v : ℕ) → locals_number (locals_of v) ≡ v
locals_back v = go (v == 0) refl
  where
    go : (b : Bool) → (v == 0) ≡ b → locals_number (cond b None (Some (token_of v))) ≡ v
    go true e = grind (arith, common_steps)
    go false e = omega arith

-- ---- the whole

pub code_back : (head code tail : List ℕ) (h : MethodHeader) → h.size ≡ length head → h.code_size ≡ length code → code ≡ layout.code_of (head ++ (code ++ tail)) h
code_back head code tail h size code_size =
    rw (size, code_size, drop-append_seam head (code ++ tail)) (sym (take-append_seam code tail))

laid_end : (head code tail : List ℕ) → nat_le (length head + length code) (length (head ++ (code ++ tail))) ≡ true
laid_end head code tail = grind (arith, common_steps, length-append head (code ++ tail), length-append code tail)

pub laid_plain : (head code : List ℕ) (h : MethodHeader) → header_of (head ++ (code ++ [])) ≡ Some h → h.size ≡ length head → h.code_size ≡ length code → h.more ≡ false → layout_of (head ++ (code ++ [])) ≡ Some (record { header = h; clauses = []; len = length (head ++ (code ++ [])) })
unfolding layout_of
laid_plain head code h e size code_size more =
    let n : length head + length code ≡ length (head ++ (code ++ [])) = omega (arith, length-append head (code ++ []), ap (λ (l : List ℕ). length l) (append-nil code)) in
    ap (layout.layout_with (head ++ (code ++ []))) e ∙ rw (size, code_size, laid_end head code [], more) (ap (λ (n : ℕ). Some (record { header = record { size = length head; code_size = length code; max_stack = h.max_stack; init = h.init; locals = h.locals; more = false }; clauses = []; len = n })) n)

pub laid_more : (head code tail : List ℕ) (h : MethodHeader) (cs : List RawClause) → header_of (head ++ (code ++ tail)) ≡ Some h → h.size ≡ length head → h.code_size ≡ length code → h.more ≡ true → sections_at (head ++ (code ++ tail)) (length (head ++ (code ++ tail))) (length head + length code) ≡ Some (cs, length (head ++ (code ++ tail))) → layout_of (head ++ (code ++ tail)) ≡ Some (record { header = h; clauses = cs; len = length (head ++ (code ++ tail)) })
unfolding layout_of
laid_more head code tail h cs e size code_size more all =
    ap (layout.layout_with (head ++ (code ++ tail))) e ∙ rw (size, code_size, laid_end head code tail, more, all) refl

pub tail_back : (head code : List ℕ) (c : RawClause) (cs : List RawClause) → length head ≡ 12 → AllWritable (c ∷ cs) → let bytes = head ++ (code ++ behind_code (12 + length code) (c ∷ cs)) in sections_at bytes (length bytes) (length head + length code) ≡ Some (c ∷ cs, length bytes)
tail_back head code c cs twelve w =
    let end = 12 + length code in
    let zeros : List ℕ = replicate (aligned end - end) 0 in
    let secs = sections (length (c ∷ cs)) (c ∷ cs) in
    let bytes = head ++ (code ++ (zeros ++ secs)) in
    let n : length zeros ≡ aligned end - end = length-replicate {A = ℕ} (aligned end - end) 0 in
    let h0 : drop (length head) bytes ≡ code ++ (zeros ++ secs) = drop-append_seam head (code ++ (zeros ++ secs)) in
    let h1 : drop (length head + length code) bytes ≡ zeros ++ secs = left_behind bytes (length head) code (zeros ++ secs) h0 in
    let h2 : drop (length head + length code + length zeros) bytes ≡ secs = left_behind bytes (length head + length code) zeros secs h1 in
    let there : length head + length code + length zeros ≡ aligned (length head + length code) = rw twelve (omega (arith, n)) in
    let h3 : drop (aligned (length head + length code)) bytes ≡ secs ++ [] = subst (λ (m : ℕ). drop m bytes ≡ secs) there h2 ∙ sym (append-nil secs) in
    let total : aligned (length head + length code) + length secs ≡ length bytes = omega (arith, there, length-append head (code ++ (zeros ++ secs)), length-append code (zeros ++ secs), length-append zeros secs) in
    sections_back bytes (length bytes) (length head + length code) (length (c ∷ cs)) (c ∷ cs) [] (omega arith) (omega arith) w h3 ∙ ap (λ (m : ℕ). Some (c ∷ cs, m)) total
