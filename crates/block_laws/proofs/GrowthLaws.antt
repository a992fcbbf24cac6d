-- Searches in a tree to which one more clause is added.
use Rattle.std.proofs.Common.{◌≡◌, ◌+◌, ℕ, cond, List, [], ◌∷◌, ◌++◌, map, length, refl, sym, subst, ap, ◌∙◌, arith, length-append}
use Rattle.std.proofs.lemmas.List.Elements.{filter-append}
use Rattle.cil_model.specs.declared.body.Region.{Region}
use Rattle.cil_model.specs.declared.body.RegionKind.{RegionKind}
use Rattle.cil_model.specs.declared.tree.Block.{Block, map-Block, roll-Block}
use Rattle.cil_model.specs.declared.tree.Block.TheVariants.{Guarded, rolls-Guarded}
use Rattle.cil_model.specs.declared.tree.Block.TheOpen.{Block-F}
use Rattle.cil_model.specs.declared.tree.Block.TheFolds.{fold-Block, fold-Handler, fold-roll-Block, fold-roll-Handler, fold_out-Handler, ind-Block}
use Rattle.cil_model.specs.declared.tree.Handler.{Handler, Handler-F, map-Handler, roll-Handler}
use Rattle.cil_semantics.specs.Unwind.{in_try}
use Rattle.region_tree.specs.Handlers.{guards, Guarding, HandlerGuarding, sizes, handler_sizes, guards_among, block_guarding, handler_guarding, tree_guards}
use Rattle.region_tree.specs.Trees.{Part, HandlerPart, joined_code, handlers_code, handler_parts, block_part, handler_part, part, code}
use Rattle.block_laws.specs.Growth.{SearchesLike, clause_behind}
use Rattle.block_laws.proofs.SearchLaws.{Adds, behind_others, block, new_row, no_handler, of_blocks, one_more_handler, same_behind}

abbrev guarding : Block → Guarding
guarding b = fold-Block Guarding HandlerGuarding block_guarding handler_guarding b

abbrev handler_guarded : Handler → HandlerGuarding
handler_guarded h = fold-Handler Guarding HandlerGuarding block_guarding handler_guarding h

abbrev handler_parted : Handler → HandlerPart
handler_parted h = fold-Handler Part HandlerPart block_part handler_part h

-- ---- sizes

abbrev IsSized : Block → Type 0
IsSized b = (guarding b).size ≡ length (part b).code

abbrev IsSizedHandler : Handler → Type 0
IsSizedHandler h = (handler_guarded h).size ≡ length (handler_parted h).part.code

sizes_of : (es : List ((b : Block) × IsSized b)) → sizes (map guarding (map (λ e. e.0) es)) ≡ length (joined_code (map part (map (λ e. e.0) es)))
sizes_of [] = refl
sizes_of (e ∷ es) = omega (arith, e.1, sizes_of es, length-append (part e.0).code (joined_code (map part (map (λ x. x.0) es))))

handler_sizes_of : (es : List ((h : Handler) × IsSizedHandler h)) → handler_sizes (map handler_guarded (map (λ e. e.0) es)) ≡ length (handlers_code (map handler_parted (map (λ e. e.0) es)))
handler_sizes_of [] = refl
handler_sizes_of (e ∷ es) = omega (arith, e.1, handler_sizes_of es, length-append (handler_parted e.0).part.code (handlers_code (map handler_parted (map (λ x. x.0) es))))

guarded_sized : (gs : List Guarding) (ps : List Part) (hgs : List HandlerGuarding) (hps : List HandlerPart) → sizes gs ≡ length (joined_code ps) → handler_sizes hgs ≡ length (handlers_code hps) → (block_guarding (Block-F.Guarded gs hgs)).size ≡ length (block_part (Block-F.Guarded ps hps)).code
guarded_sized gs ps hgs hps x y = omega (arith, x, y, length-append (joined_code ps) (handlers_code hps))

in_block : (y : Block-F ((b : Block) × IsSized b) ((h : Handler) × IsSizedHandler h)) → IsSized (roll-Block (map-Block ((b : Block) × IsSized b) ((h : Handler) × IsSizedHandler h) Block Handler (λ e. e.0) (λ e. e.0) y))
in_block (Block-F.Code is) = rw (fold-roll-Block Guarding HandlerGuarding block_guarding handler_guarding (Block-F.Code is), fold-roll-Block Part HandlerPart block_part handler_part (Block-F.Code is)) refl
in_block (Block-F.Guarded inner handlers) =
    rw (fold-roll-Block Guarding HandlerGuarding block_guarding handler_guarding (Block-F.Guarded (map (λ e. e.0) inner) (map (λ e. e.0) handlers)), fold-roll-Block Part HandlerPart block_part handler_part (Block-F.Guarded (map (λ e. e.0) inner) (map (λ e. e.0) handlers)))
    (guarded_sized (map guarding (map (λ e. e.0) inner)) (map part (map (λ e. e.0) inner)) (map handler_guarded (map (λ e. e.0) handlers)) (map handler_parted (map (λ e. e.0) handlers)) (sizes_of inner) (handler_sizes_of handlers))

in_a_handler : (y : Handler-F ((b : Block) × IsSized b) ((h : Handler) × IsSizedHandler h)) → IsSizedHandler (roll-Handler (map-Handler ((b : Block) × IsSized b) ((h : Handler) × IsSizedHandler h) Block Handler (λ e. e.0) (λ e. e.0) y))
in_a_handler y =
    rw (fold-roll-Handler Guarding HandlerGuarding block_guarding handler_guarding (record { kind = y.kind; blocks = map (λ e. e.0) y.blocks }), fold-roll-Handler Part HandlerPart block_part handler_part (record { kind = y.kind; blocks = map (λ e. e.0) y.blocks }))
    (sizes_of y.blocks)

block_sized : (b : Block) → IsSized b
block_sized = ind-Block IsSized IsSizedHandler (λ x y is. subst (λ z. IsSized (roll-Block z)) is (in_block y)) (λ x y is. subst (λ z. IsSizedHandler (roll-Handler z)) is (in_a_handler y))

pub blocks_sized : (bs : List Block) → sizes (map guarding bs) ≡ length (code bs)
blocks_sized [] = refl
blocks_sized (b ∷ bs) = omega (arith, block_sized b, blocks_sized bs, length-append (part b).code (code bs))

handler_is : (h : Handler) → handler_guarded h ≡ of_blocks h.kind (map guarding h.blocks)
handler_is h = fold_out-Handler Guarding HandlerGuarding block_guarding handler_guarding h

handler_part_is : (h : Handler) → length (handler_parted h).part.code ≡ length (code h.blocks)
handler_part_is h = ap (λ (p : HandlerPart). length p.part.code) (fold_out-Handler Part HandlerPart block_part handler_part h)

handler_sized : (h : Handler) → (handler_guarded h).size ≡ length (handler_parted h).part.code
handler_sized h = ap (λ (g : HandlerGuarding). g.size) (handler_is h) ∙ blocks_sized h.blocks ∙ sym (handler_part_is h)

pub handlers_sized : (hs : List Handler) → handler_sizes (map handler_guarded hs) ≡ length (handlers_code (handler_parts hs))
handlers_sized [] = refl
handlers_sized (h ∷ hs) = omega (arith, handler_sized h, handlers_sized hs, length-append (handler_parted h).part.code (handlers_code (handler_parts hs)))

-- ---- trees as rows of parts

mapped : {A B : Type 0} (f : A → B) (xs ys : List A) → map f (xs ++ ys) ≡ map f xs ++ map f ys
mapped f [] ys = refl
mapped f (x ∷ xs) ys = ap (λ l. f x ∷ l) (mapped f xs ys)

guarded_is : (inner : List Block) (hs : List Handler) → guarding (Guarded inner hs) ≡ block (map guarding inner) (map handler_guarded hs)
guarded_is inner hs = ap guarding (sym (rolls-Guarded inner hs)) ∙ fold-roll-Block Guarding HandlerGuarding block_guarding handler_guarding (Block-F.Guarded inner hs)

parts_with : (front inner back : List Block) (hs : List Handler) → map guarding (front ++ Guarded inner hs ∷ back) ≡ map guarding front ++ block (map guarding inner) (map handler_guarded hs) ∷ map guarding back
parts_with front inner back hs = mapped guarding front (Guarded inner hs ∷ back) ∙ ap (λ (g : Guarding). map guarding front ++ g ∷ map guarding back) (guarded_is inner hs)

abbrev pub clause_at : RegionKind → (try_from try_to handler_from handler_to : ℕ) → Region
clause_at kind a b c d = record { kind = kind; try_from = a; try_to = b; handler_from = c; handler_to = d }

pub one_clause : (k : RegionKind) (a b c d w x y z : ℕ) → a ≡ w → b ≡ x → c ≡ y → d ≡ z → clause_at k a b c d ≡ clause_at k w x y z
one_clause k a b c d w x y z e f g h =
    ap (λ (n : ℕ). clause_at k n b c d) e ∙ ap (λ (n : ℕ). clause_at k w n c d) f ∙ ap (λ (n : ℕ). clause_at k w x n d) g ∙ ap (λ (n : ℕ). clause_at k w x y n) h

same_clause : (kind : RegionKind) (front inner new : List Block) (hs : List Handler) → clause_behind kind front inner hs new ≡ new_row (0 + sizes (map guarding front)) (map guarding inner) (map handler_guarded hs) kind (map guarding new)
same_clause kind front inner new hs =
    let f = blocks_sized front in
    let i = blocks_sized inner in
    let h = handlers_sized hs in
    let n = blocks_sized new in
    one_clause kind _ _ _ _ (0 + sizes (map guarding front)) (0 + sizes (map guarding front) + sizes (map guarding inner)) (0 + sizes (map guarding front) + sizes (map guarding inner) + handler_sizes (map handler_guarded hs)) (0 + sizes (map guarding front) + sizes (map guarding inner) + handler_sizes (map handler_guarded hs) + sizes (map guarding new))
    (omega (arith, f)) (omega (arith, f, i)) (omega (arith, f, i, h)) (omega (arith, f, i, h, n))

one_more_guard : (q : ℕ) (rows : List Region) (r : Region) → guards q rows ++ cond (in_try r q) (r ∷ []) [] ≡ guards q (rows ++ r ∷ [])
one_more_guard q rows r = sym (filter-append (λ (x : Region). in_try x q) rows (r ∷ []))

-- the change of a row of parts is the change of searches
grows : (old new : List Block) (gs hs : List Guarding) (rows : List Region) (r : Region) → map guarding old ≡ gs → map guarding new ≡ hs → ((q : ℕ) → Adds 0 q gs hs r) → SearchesLike old rows → SearchesLike new (rows ++ r ∷ [])
grows old new gs hs rows r e f change alike =
    λ q. ap (guards_among 0 q) f ∙ change q ∙ ap (λ (l : List Region). l ++ cond (in_try r q) (r ∷ []) []) (ap (guards_among 0 q) (sym e) ∙ alike q) ∙ one_more_guard q rows r

grown_handlers : (kind : RegionKind) (new : List Block) (hs : List Handler) → map handler_guarded (hs ++ record { kind = kind; blocks = new } ∷ []) ≡ map handler_guarded hs ++ of_blocks kind (map guarding new) ∷ []
grown_handlers kind new hs = mapped handler_guarded hs (record { kind = kind; blocks = new } ∷ []) ∙ ap (λ (g : HandlerGuarding). map handler_guarded hs ++ g ∷ []) (handler_is (record { kind = kind; blocks = new }))

handler_change : (kind : RegionKind) (front inner new back : List Block) (hs : List Handler) (q : ℕ) → Adds 0 q (map guarding front ++ block (map guarding inner) (map handler_guarded hs) ∷ (map guarding new ++ map guarding back)) (map guarding front ++ block (map guarding inner) (map handler_guarded hs ++ of_blocks kind (map guarding new) ∷ []) ∷ map guarding back) (clause_behind kind front inner hs new)
handler_change kind front inner new back hs q =
    let f : List Guarding = map guarding front in
    let i : List Guarding = map guarding inner in
    let n : List Guarding = map guarding new in
    let b : List Guarding = map guarding back in
    let h : List HandlerGuarding = map handler_guarded hs in
    let old : List Guarding = block i h ∷ (n ++ b) in
    let grown : List Guarding = block i (h ++ of_blocks kind n ∷ []) ∷ b in
    behind_others f old grown (clause_behind kind front inner hs new) 0 q (omega arith) (omega (arith, blocks_sized front)) (λ past. subst (λ (r : Region). Adds (0 + sizes f) q old grown r) (sym (same_clause kind front inner new hs)) (one_more_handler kind i n b h (0 + sizes f) q past))

pub another_handler : (kind : RegionKind) (front inner new back : List Block) (hs : List Handler) (rows : List Region) → SearchesLike (front ++ Guarded inner hs ∷ (new ++ back)) rows → SearchesLike (front ++ Guarded inner (hs ++ record { kind = kind; blocks = new } ∷ []) ∷ back) (rows ++ clause_behind kind front inner hs new ∷ [])
another_handler kind front inner new back hs rows =
    grows (front ++ Guarded inner hs ∷ (new ++ back)) (front ++ Guarded inner (hs ++ record { kind = kind; blocks = new } ∷ []) ∷ back) _ _ rows (clause_behind kind front inner hs new)
    (parts_with front inner (new ++ back) hs ∙ ap (λ (l : List Guarding). map guarding front ++ block (map guarding inner) (map handler_guarded hs) ∷ l) (mapped guarding new back))
    (parts_with front inner back (hs ++ record { kind = kind; blocks = new } ∷ []) ∙ ap (λ (l : List HandlerGuarding). map guarding front ++ block (map guarding inner) l ∷ map guarding back) (grown_handlers kind new hs))
    (handler_change kind front inner new back hs)

-- a try without handlers guards nothing
not_yet_guarded : (front inner back : List Block) (q : ℕ) → tree_guards 0 q (front ++ Guarded inner [] ∷ back) ≡ tree_guards 0 q (front ++ (inner ++ back))
not_yet_guarded front inner back q =
    ap (guards_among 0 q) (parts_with front inner back [])
    ∙ same_behind (map guarding front) (block (map guarding inner) [] ∷ map guarding back) (map guarding inner ++ map guarding back) 0 q (omega arith) (λ past. no_handler (map guarding inner) (map guarding back) (0 + sizes (map guarding front)) q past)
    ∙ ap (guards_among 0 q) (sym (mapped guarding front (inner ++ back) ∙ ap (λ (l : List Guarding). map guarding front ++ l) (mapped guarding inner back)))

pub first_handler : (kind : RegionKind) (front inner new back : List Block) (rows : List Region) → SearchesLike (front ++ (inner ++ (new ++ back))) rows → SearchesLike (front ++ Guarded inner (record { kind = kind; blocks = new } ∷ []) ∷ back) (rows ++ clause_behind kind front inner [] new ∷ [])
first_handler kind front inner new back rows alike = another_handler kind front inner new back [] rows (λ q. not_yet_guarded front inner (new ++ back) q ∙ alike q)
