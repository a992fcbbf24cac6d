-- A finished block and a clause that comes later.
use Rattle.std.proofs.Common.{◌≡◌, ◌+◌, ℕ, List, [], ◌∷◌, All, filter, map, length, sym, subst, ap, ◌∙◌, inl, inr, arith, length-append}
use Rattle.std.proofs.lemmas.List.Elements.{All-head, All-tail}
use Rattle.cil_model.specs.declared.body.Region.{Region}
use Rattle.cil_model.specs.declared.tree.Block.{Block}
use Rattle.cil_model.specs.declared.tree.Block.TheVariants.{Guarded, rolls-Guarded}
use Rattle.cil_model.specs.declared.tree.Block.TheOpen.{Block-F}
use Rattle.cil_model.specs.declared.tree.Block.TheFolds.{fold-Handler, fold-roll-Block}
use Rattle.cil_model.specs.declared.tree.Handler.{Handler}
use Rattle.region_tree.specs.Nesting.{handler_start, have_same_try, last_place}
use Rattle.region_tree.specs.Trees.{Part, HandlerPart, block_part, code, handler_part, handler_parts, handlers_code, own_clauses, part}
use Rattle.block_laws.specs.Blocks.{CutsNothing, HasParts, LiesWhole, MayPrecede}
use Rattle.block_laws.proofs.NestedLaws.{Apart, BothIn, Lie, Nested, PartsApart, absurd_try, lie}

-- ---- one clause

try_apart : (d r : Region) → HasParts r → PartsApart d r → LiesWhole r d.try_from d.try_to
try_apart d r rp a = go a.tries a.try_handler
  where
    go : Apart d.try_from d.try_to r.try_from r.try_to → Apart d.try_from d.try_to r.handler_from r.handler_to → LiesWhole r d.try_from d.try_to
    go (Apart.left x) y = LiesWhole.before x
    go (Apart.right x) (Apart.left y) = LiesWhole.between x y
    go (Apart.right x) (Apart.right y) = LiesWhole.behind y

the_try : (r d : Region) → HasParts r → MayPrecede r d → LiesWhole r d.try_from d.try_to
the_try r d rp m = go (lie d r m.parts rp m.is_placed)
  where
    go : Lie d r → LiesWhole r d.try_from d.try_to
    go (Lie.nested_in_it (Nested.within_try n)) = LiesWhole.in_try n.try_from n.try_to
    go (Lie.nested_in_it (Nested.within_handler n)) = LiesWhole.in_handler n.try_from n.try_to
    go (Lie.apart a) = try_apart d r rp a
    go (Lie.of_one_try x y e) = absurd_try d r m.has_own_try e

-- the code from the try to the handler's beginning lies whole, so it does with the handler
in_nested : (r d : Region) → HasParts r → HasParts d → BothIn d r.try_from r.try_to → LiesWhole r d.try_from d.handler_to
in_nested r d rp dp n = LiesWhole.in_try n.try_from n.handler_to

apart_more : (r d : Region) → HasParts r → HasParts d → PartsApart d r → LiesWhole r d.try_from d.handler_from → LiesWhole r d.try_from d.handler_to
apart_more r d rp dp a (LiesWhole.before x) = go a.handler_try
  where
    go : Apart d.handler_from d.handler_to r.try_from r.try_to → LiesWhole r d.try_from d.handler_to
    go (Apart.left y) = LiesWhole.before y
    go (Apart.right y) = absurd (omega (arith, x, y, rp.has_try))
apart_more r d rp dp a (LiesWhole.in_try x y) = go a.tries
  where
    go : Apart d.try_from d.try_to r.try_from r.try_to → LiesWhole r d.try_from d.handler_to
    go (Apart.left z) = absurd (omega (arith, x, z, dp.has_try))
    go (Apart.right z) = absurd (omega (arith, y, z, dp.has_try, dp.is_behind))
apart_more r d rp dp a (LiesWhole.between x y) = go a.handlers
  where
    go : Apart d.handler_from d.handler_to r.handler_from r.handler_to → LiesWhole r d.try_from d.handler_to
    go (Apart.left z) = LiesWhole.between x z
    go (Apart.right z) = absurd (omega (arith, y, z, rp.has_handler))
apart_more r d rp dp a (LiesWhole.in_handler x y) = go a.try_handler
  where
    go : Apart d.try_from d.try_to r.handler_from r.handler_to → LiesWhole r d.try_from d.handler_to
    go (Apart.left z) = absurd (omega (arith, x, z, dp.has_try))
    go (Apart.right z) = absurd (omega (arith, y, z, dp.has_try, dp.is_behind))
apart_more r d rp dp a (LiesWhole.behind x) = LiesWhole.behind x

handler_more : (r d : Region) → HasParts r → MayPrecede r d → LiesWhole r d.try_from d.handler_from → LiesWhole r d.try_from d.handler_to
handler_more r d rp m w = go (lie d r m.parts rp m.is_placed)
  where
    go : Lie d r → LiesWhole r d.try_from d.handler_to
    go (Lie.nested_in_it (Nested.within_try n)) = in_nested r d rp m.parts n
    go (Lie.nested_in_it (Nested.within_handler n)) = LiesWhole.in_handler n.try_from n.handler_to
    go (Lie.apart a) = apart_more r d rp m.parts a w
    go (Lie.of_one_try x y e) = absurd_try d r m.has_own_try e

-- ---- the clauses of a block

abbrev own : (from to at : ℕ) → HandlerPart → Region
own from to at h = record { kind = h.kind; try_from = from; try_to = to; handler_from = at; handler_to = at + length h.part.code }

handlers_more : (r : Region) (from to at : ℕ) (hs : List HandlerPart) → HasParts r → All (MayPrecede r) (own_clauses from to at hs) → LiesWhole r from at → LiesWhole r from (at + length (handlers_code hs))
handlers_more r from to at [] rp all w = subst (λ (n : ℕ). LiesWhole r from n) (omega arith) w
handlers_more r from to at (h ∷ hs) rp all w =
    let end : ℕ = at + length h.part.code in
    let long : end + length (handlers_code hs) ≡ at + length (handlers_code (h ∷ hs)) = omega (arith, length-append h.part.code (handlers_code hs)) in
    let first : LiesWhole r from end = handler_more r (own from to at h) rp (All-head (MayPrecede r) (own from to at h) (own_clauses from to end hs) all) w in
    subst (λ (n : ℕ). LiesWhole r from n) long (handlers_more r from to end hs rp (All-tail (MayPrecede r) (own from to at h) (own_clauses from to end hs) all) first)

pub clauses_whole : (r : Region) (from to : ℕ) (h : HandlerPart) (hs : List HandlerPart) → HasParts r → All (MayPrecede r) (own_clauses from to to (h ∷ hs)) → LiesWhole r from (to + length (handlers_code (h ∷ hs)))
clauses_whole r from to h hs rp all =
    handlers_more r from to to (h ∷ hs) rp all (the_try r (own from to to h) rp (All-head (MayPrecede r) (own from to to h) (own_clauses from to (to + length h.part.code) hs) all))

guarded_size : (inner : List Block) (hs : List Handler) → length (part (Guarded inner hs)).code ≡ length (code inner) + length (handlers_code (handler_parts hs))
guarded_size inner hs =
    ap (λ (p : Part). length p.code) (ap part (sym (rolls-Guarded inner hs)) ∙ fold-roll-Block Part HandlerPart block_part handler_part (Block-F.Guarded inner hs))
    ∙ length-append (code inner) (handlers_code (handler_parts hs))

pub block_lies_whole : (r : Region) (from : ℕ) (inner : List Block) (h : Handler) (hs : List Handler) → HasParts r → All (MayPrecede r) (own_clauses from (from + length (code inner)) (from + length (code inner)) (handler_parts (h ∷ hs))) → LiesWhole r from (from + length (part (Guarded inner (h ∷ hs))).code)
block_lies_whole r from inner h hs rp all =
    let end : from + length (code inner) + length (handlers_code (handler_parts (h ∷ hs))) ≡ from + length (part (Guarded inner (h ∷ hs))).code = omega (arith, guarded_size inner (h ∷ hs)) in
    subst (λ (n : ℕ). LiesWhole r from n) end (clauses_whole r from (from + length (code inner)) (fold-Handler Part HandlerPart block_part handler_part h) (handler_parts hs) rp all)

pub cuts_nothing : (r : Region) (from to : ℕ) → HasParts r → LiesWhole r from to → CutsNothing r from to
cuts_nothing r from to rp (LiesWhole.before x) = record { try_from = inr x; try_to = inr (omega (arith, x, rp.has_try)); handler_from = inr (omega (arith, x, rp.has_try, rp.is_behind)); handler_to = inr (omega (arith, x, rp.has_try, rp.is_behind, rp.has_handler)) }
cuts_nothing r from to rp (LiesWhole.in_try x y) = record { try_from = inl x; try_to = inr y; handler_from = inr (omega (arith, y, rp.is_behind)); handler_to = inr (omega (arith, y, rp.is_behind, rp.has_handler)) }
cuts_nothing r from to rp (LiesWhole.between x y) = record { try_from = inl (omega (arith, x, rp.has_try)); try_to = inl x; handler_from = inr y; handler_to = inr (omega (arith, y, rp.has_handler)) }
cuts_nothing r from to rp (LiesWhole.in_handler x y) = record { try_from = inl (omega (arith, x, rp.has_try, rp.is_behind)); try_to = inl (omega (arith, x, rp.is_behind)); handler_from = inl x; handler_to = inr y }
cuts_nothing r from to rp (LiesWhole.behind x) = record { try_from = inl (omega (arith, x, rp.has_try, rp.is_behind, rp.has_handler)); try_to = inl (omega (arith, x, rp.is_behind, rp.has_handler)); handler_from = inl (omega (arith, x, rp.has_handler)); handler_to = inl x }

-- ---- one more handler of a block's try

last_own : (from to at : ℕ) (hs : List HandlerPart) → last_place at (map (λ (r : Region). r.handler_to) (own_clauses from to at hs)) ≡ at + length (handlers_code hs)
last_own from to at [] = omega arith
last_own from to at (h ∷ hs) = last_own from to (at + length h.part.code) hs ∙ omega (arith, length-append h.part.code (handlers_code hs))

pub handler_follows : (r : Region) (earlier : List Region) (from : ℕ) (hs : List HandlerPart) → filter (λ (d : Region). have_same_try d r) earlier ≡ own_clauses from r.try_to r.try_to hs → handler_start earlier r ≡ r.try_to + length (handlers_code hs)
handler_follows r earlier from hs e = ap (λ (l : List Region). last_place r.try_to (map (λ (d : Region). d.handler_to) l)) e ∙ last_own from r.try_to r.try_to hs
