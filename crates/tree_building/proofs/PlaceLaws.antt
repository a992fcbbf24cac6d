-- Where the clauses of blocks lie.
use Rattle.std.proofs.Common.{◌≡◌, ◌+◌, ◌≤◌, ◌<◌, ℕ, List, [], ◌∷◌, ◌++◌, All, map, length, refl, subst, inl, inr, ◌⊎◌, Bool, true, false, ◌||◌, ◌&&◌, arith, length-append}
use Rattle.std.proofs.lemmas.List.Elements.{All-append, All-cons, All-nil, All-weaker}
use Rattle.std.proofs.lemmas.Bool.{and_parts, eqb-true, or_cases}
use Rattle.std.proofs.lemmas.Bool.Decides.{nat_tests}
use Rattle.cil_model.specs.declared.body.Region.{Region}
use Rattle.cil_model.specs.declared.tree.Block.{Block, map-Block, roll-Block}
use Rattle.cil_model.specs.declared.tree.Block.TheOpen.{Block-F}
use Rattle.cil_model.specs.declared.tree.Block.TheFolds.{fold-roll-Block, fold-roll-Handler, ind-Block}
use Rattle.cil_model.specs.declared.tree.Handler.{Handler, Handler-F, map-Handler, roll-Handler}
use Rattle.region_tree.specs.Nesting.{have_same_try, is_nested, lies_in}
use Rattle.region_tree.specs.Trees.{Part, HandlerPart, joined_code, joined_clauses, handlers_code, handlers_clauses, own_clauses, block_part, handler_part, part, clauses, code}
use Rattle.block_laws.specs.Blocks.{HasParts}
use Rattle.block_laws.proofs.CodeLaws.{handler_parted}
use Rattle.block_laws.proofs.NestedLaws.{Nested, nested}

pub record Within (low high : ℕ) (r : Region) : Type 0 where
  pub try_from : low ≤ r.try_from
  pub try_to : r.try_to ≤ high
  pub handler_from : low ≤ r.handler_from
  pub handler_to : r.handler_to ≤ high

wider : (low high l h : ℕ) (rs : List Region) → l ≤ low → high ≤ h → All (Within low high) rs → All (Within l h) rs
wider low high l h rs x y all =
    All-weaker (Within low high) (Within l h) (λ r w. record { try_from = omega (arith, x, w.try_from); try_to = omega (arith, y, w.try_to); handler_from = omega (arith, x, w.handler_from); handler_to = omega (arith, y, w.handler_to) }) rs all

abbrev IsPlaced : Block → Type 0
IsPlaced b = (q : ℕ) → All (Within q (q + length (part b).code)) ((part b).clauses q)

abbrev IsPlacedHandler : Handler → Type 0
IsPlacedHandler h = (q : ℕ) → All (Within q (q + length (handler_parted h).part.code)) ((handler_parted h).part.clauses q)

placed_of : (es : List ((b : Block) × IsPlaced b)) (q : ℕ) → All (Within q (q + length (joined_code (map part (map (λ e. e.0) es))))) (joined_clauses q (map part (map (λ e. e.0) es)))
placed_of [] q = All-nil (Within q (q + 0))
placed_of (e ∷ es) q =
    let rest = map part (map (λ x. x.0) es) in
    let high : ℕ = q + length ((part e.0).code ++ joined_code rest) in
    let next : ℕ = q + length (part e.0).code in
    let long = length-append (part e.0).code (joined_code rest) in
    All-append (Within q high) ((part e.0).clauses q) (joined_clauses next rest)
    (wider q next q high ((part e.0).clauses q) (omega arith) (omega (arith, long)) (e.1 q))
    (wider next (next + length (joined_code rest)) q high (joined_clauses next rest) (omega arith) (omega (arith, long)) (placed_of es next))

handlers_placed_of : (es : List ((h : Handler) × IsPlacedHandler h)) (q : ℕ) → All (Within q (q + length (handlers_code (map handler_parted (map (λ e. e.0) es))))) (handlers_clauses q (map handler_parted (map (λ e. e.0) es)))
handlers_placed_of [] q = All-nil (Within q (q + 0))
handlers_placed_of (e ∷ es) q =
    let rest = map handler_parted (map (λ x. x.0) es) in
    let high : ℕ = q + length ((handler_parted e.0).part.code ++ handlers_code rest) in
    let next : ℕ = q + length (handler_parted e.0).part.code in
    let long = length-append (handler_parted e.0).part.code (handlers_code rest) in
    All-append (Within q high) ((handler_parted e.0).part.clauses q) (handlers_clauses next rest)
    (wider q next q high ((handler_parted e.0).part.clauses q) (omega arith) (omega (arith, long)) (e.1 q))
    (wider next (next + length (handlers_code rest)) q high (handlers_clauses next rest) (omega arith) (omega (arith, long)) (handlers_placed_of es next))

abbrev own_row : (from to at : ℕ) → HandlerPart → Region
own_row from to at h = record { kind = h.kind; try_from = from; try_to = to; handler_from = at; handler_to = at + length h.part.code }

own_placed : (low high from to at : ℕ) (hs : List HandlerPart) → low ≤ from → low ≤ at → to ≤ high → at + length (handlers_code hs) ≤ high → All (Within low high) (own_clauses from to at hs)
own_placed low high from to at [] w x y z = All-nil (Within low high)
own_placed low high from to at (h ∷ hs) w x y z =
    let long = length-append h.part.code (handlers_code hs) in
    All-cons (Within low high) (own_row from to at h) (own_clauses from to (at + length h.part.code) hs)
    (record { try_from = w; try_to = y; handler_from = x; handler_to = omega (arith, z, long) })
    (own_placed low high from to (at + length h.part.code) hs w (omega (arith, x)) y (omega (arith, z, long)))

guarded_placed : (ps : List Part) (hps : List HandlerPart) → ((q : ℕ) → All (Within q (q + length (joined_code ps))) (joined_clauses q ps)) → ((q : ℕ) → All (Within q (q + length (handlers_code hps))) (handlers_clauses q hps)) → (q : ℕ) → All (Within q (q + length (block_part (Block-F.Guarded ps hps)).code)) ((block_part (Block-F.Guarded ps hps)).clauses q)
guarded_placed ps hps x y q =
    let high : ℕ = q + length (joined_code ps ++ handlers_code hps) in
    let to : ℕ = q + length (joined_code ps) in
    let long = length-append (joined_code ps) (handlers_code hps) in
    All-append (Within q high) (joined_clauses q ps) (handlers_clauses to hps ++ own_clauses q to to hps)
    (wider q to q high (joined_clauses q ps) (omega arith) (omega (arith, long)) (x q))
    (All-append (Within q high) (handlers_clauses to hps) (own_clauses q to to hps)
    (wider to (to + length (handlers_code hps)) q high (handlers_clauses to hps) (omega arith) (omega (arith, long)) (y to))
    (own_placed q high q to to hps (omega arith) (omega arith) (omega (arith, long)) (omega (arith, long))))

in_block : (y : Block-F ((b : Block) × IsPlaced b) ((h : Handler) × IsPlacedHandler h)) → IsPlaced (roll-Block (map-Block ((b : Block) × IsPlaced b) ((h : Handler) × IsPlacedHandler h) Block Handler (λ e. e.0) (λ e. e.0) y))
in_block (Block-F.Code is) = rw (fold-roll-Block Part HandlerPart block_part handler_part (Block-F.Code is)) (λ q. All-nil (Within q (q + length is)))
in_block (Block-F.Guarded inner handlers) =
    rw (fold-roll-Block Part HandlerPart block_part handler_part (Block-F.Guarded (map (λ e. e.0) inner) (map (λ e. e.0) handlers)))
    (guarded_placed (map part (map (λ e. e.0) inner)) (map handler_parted (map (λ e. e.0) handlers)) (placed_of inner) (handlers_placed_of handlers))

in_a_handler : (y : Handler-F ((b : Block) × IsPlaced b) ((h : Handler) × IsPlacedHandler h)) → IsPlacedHandler (roll-Handler (map-Handler ((b : Block) × IsPlaced b) ((h : Handler) × IsPlacedHandler h) Block Handler (λ e. e.0) (λ e. e.0) y))
in_a_handler y =
    rw (fold-roll-Handler Part HandlerPart block_part handler_part (record { kind = y.kind; blocks = map (λ e. e.0) y.blocks })) (placed_of y.blocks)

block_placed : (b : Block) → IsPlaced b
block_placed = ind-Block IsPlaced IsPlacedHandler (λ x y is. subst (λ z. IsPlaced (roll-Block z)) is (in_block y)) (λ x y is. subst (λ z. IsPlacedHandler (roll-Handler z)) is (in_a_handler y))

-- the clauses of blocks lie within the blocks
pub blocks_placed : (bs : List Block) (q : ℕ) → All (Within q (q + length (code bs))) (clauses q bs)
blocks_placed [] q = All-nil (Within q (q + 0))
blocks_placed (b ∷ bs) q =
    let high : ℕ = q + length ((part b).code ++ code bs) in
    let next : ℕ = q + length (part b).code in
    let long = length-append (part b).code (code bs) in
    All-append (Within q high) ((part b).clauses q) (clauses next bs)
    (wider q next q high ((part b).clauses q) (omega arith) (omega (arith, long)) (block_placed b q))
    (wider next (next + length (code bs)) q high (clauses next bs) (omega arith) (omega (arith, long)) (blocks_placed bs next))

-- the clauses of one try
pub own_tries : (from to at : ℕ) (hs : List HandlerPart) → All (λ (r : Region). r.try_from ≡ from) (own_clauses from to at hs)
own_tries from to at [] = All-nil (λ (r : Region). r.try_from ≡ from)
own_tries from to at (h ∷ hs) = All-cons (λ (r : Region). r.try_from ≡ from) (own_row from to at h) (own_clauses from to (at + length h.part.code) hs) refl (own_tries from to (at + length h.part.code) hs)

-- ---- nested in another, or of one try

same_from : (r s : Region) → have_same_try r s ≡ true → r.try_from ≡ s.try_from
same_from r s e = eqb-true r.try_from s.try_from (and_parts _ _ e).0

-- neither nested in it nor of its try, since its own try begins before
pub begins_before : (r s : Region) → r.try_from < s.try_from → r.try_from < s.handler_from → (is_nested r s || have_same_try r s) ≡ true → ⊥
begins_before r s x y e = go (or_cases (is_nested r s) (have_same_try r s) e)
  where
    in_part : Nested r s → ⊥
    in_part (Nested.within_try n) = omega (arith, x, n.try_from)
    in_part (Nested.within_handler n) = omega (arith, y, n.try_from)

    go : (is_nested r s ≡ true) ⊎ (have_same_try r s ≡ true) → ⊥
    go (inl n) = in_part (nested r s n)
    go (inr t) = omega (arith, x, same_from r s t)

-- nor does a try that ends before it, or begins behind it
pub ends_before : (r s : Region) → HasParts r → HasParts s → r.try_to ≤ s.try_from → (is_nested r s || have_same_try r s) ≡ true → ⊥
ends_before r s p u x e = begins_before r s (omega (arith, p.has_try, x)) (omega (arith, p.has_try, x, u.has_try, u.is_behind)) e

pub begins_behind : (r s : Region) → HasParts r → HasParts s → s.handler_to ≤ r.try_from → (is_nested r s || have_same_try r s) ≡ true → ⊥
begins_behind r s p u x e = go (or_cases (is_nested r s) (have_same_try r s) e)
  where
    in_part : Nested r s → ⊥
    in_part (Nested.within_try n) = omega (arith, x, n.try_to, p.has_try, u.is_behind, u.has_handler)
    in_part (Nested.within_handler n) = omega (arith, x, n.try_to, p.has_try)

    go : (is_nested r s ≡ true) ⊎ (have_same_try r s ≡ true) → ⊥
    go (inl n) = in_part (nested r s n)
    go (inr t) = omega (arith, x, same_from r s t, u.has_try, u.is_behind, u.has_handler)

lies : (a b c d : ℕ) → c ≤ a → b ≤ d → lies_in a b c d ≡ true
lies a b c d x y = grind (arith, nat_tests)

-- what lies in a part is nested
pub nested_in_try : (r s : Region) → Within s.try_from s.try_to r → is_nested r s ≡ true
nested_in_try r s w = rw (lies r.try_from r.try_to s.try_from s.try_to w.try_from w.try_to, lies r.handler_from r.handler_to s.try_from s.try_to w.handler_from w.handler_to) refl

pub nested_in_handler : (r s : Region) → Within s.handler_from s.handler_to r → is_nested r s ≡ true
nested_in_handler r s w = rw (lies r.try_from r.try_to s.handler_from s.handler_to w.try_from w.try_to, lies r.handler_from r.handler_to s.handler_from s.handler_to w.handler_from w.handler_to) (or_true (lies_in r.try_from r.try_to s.try_from s.try_to && lies_in r.handler_from r.handler_to s.try_from s.try_to))
  where
    or_true : (b : Bool) → (b || true) ≡ true
    or_true true = refl
    or_true false = refl
