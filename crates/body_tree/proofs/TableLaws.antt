-- The clauses of the parts of a tree.
use Rattle.std.proofs.Common.{◌≡◌, ◌+◌, ◌<◌, ℕ, List, [], ◌∷◌, ◌++◌, length, drop, get_or, sym, ap, ◌∙◌, append_assoc, map, length-append}
use Rattle.std.proofs.lemmas.List.{at_drop_more}
use Rattle.cil_model.specs.declared.body.Region.{Region}
use Rattle.cil_model.specs.declared.tree.Block.{Block}
use Rattle.cil_model.specs.declared.tree.Block.TheVariants.{Guarded, rolls-Guarded}
use Rattle.cil_model.specs.declared.tree.Block.TheOpen.{Block-F}
use Rattle.cil_model.specs.declared.tree.Block.TheFolds.{fold-roll-Block}
use Rattle.cil_model.specs.declared.tree.Handler.{Handler}
use Rattle.region_tree.specs.Trees.{Part, HandlerPart, block_part, handler_part, part, clauses, code, handler_parts, handlers_clauses, handlers_code, own_clauses}
use Rattle.region_tree.proofs.PartLaws.{handler_is}

pub is_guarded : (b : Block) (inner : List Block) (hs : List Handler) → b ≡ Guarded inner hs → part b ≡ block_part (Block-F.Guarded (map part inner) (handler_parts hs))
is_guarded b inner hs e = ap part (e ∙ sym (rolls-Guarded inner hs)) ∙ fold-roll-Block Part HandlerPart block_part handler_part (Block-F.Guarded inner hs)

pub guarded_size : (b : Block) (inner : List Block) (hs : List Handler) → b ≡ Guarded inner hs → length (part b).code ≡ length (code inner) + length (handlers_code (handler_parts hs))
guarded_size b inner hs e = ap (λ (p : Part). length p.code) (is_guarded b inner hs e) ∙ length-append (code inner) (handlers_code (handler_parts hs))

pub guarded_clauses : (b : Block) (inner front : List Block) (hs back : List Handler) (at to : ℕ) (old mid last own new : List Region) → b ≡ Guarded inner hs → front ≡ inner → back ≡ hs → to ≡ at + length (code front) → mid ≡ old ++ clauses at front → last ≡ mid ++ handlers_clauses to (handler_parts back) → own ≡ own_clauses at to to (handler_parts back) → new ≡ last ++ own → new ≡ old ++ (part b).clauses at
guarded_clauses b inner front hs back at to old mid last own new e f k t m l o n =
    let at_place : ℕ → List Region = λ x. handlers_clauses x (handler_parts hs) ++ own_clauses at x x (handler_parts hs) in
    n
    ∙ ap (λ (r : List Region). r ++ own) l
    ∙ ap (λ (r : List Region). (mid ++ handlers_clauses to (handler_parts back)) ++ r) o
    ∙ append_assoc mid (handlers_clauses to (handler_parts back)) (own_clauses at to to (handler_parts back))
    ∙ ap (λ (l : List Handler). mid ++ (handlers_clauses to (handler_parts l) ++ own_clauses at to to (handler_parts l))) k
    ∙ ap (λ (l : List Region). l ++ at_place to) m
    ∙ ap (λ (x : ℕ). (old ++ clauses at front) ++ at_place x) t
    ∙ ap (λ (bs : List Block). (old ++ clauses at bs) ++ at_place (at + length (code bs))) f
    ∙ append_assoc old (clauses at inner) (at_place (at + length (code inner)))
    ∙ sym (ap (λ (p : Part). old ++ p.clauses at) (is_guarded b inner hs e))

pub table_more : (hs : List Handler) (k : ℕ) (d : Handler) (at end : ℕ) (old new start : List Region) → k < length hs → end ≡ at + length (code (get_or hs k d).blocks) → new ≡ old ++ clauses at (get_or hs k d).blocks → old ++ handlers_clauses at (handler_parts (drop k hs)) ≡ start → new ++ handlers_clauses end (handler_parts (drop (k + 1) hs)) ≡ start
table_more hs k d at end old new start h e n inv =
    let rest : ℕ → List Region = λ x. handlers_clauses x (handler_parts (drop (k + 1) hs)) in
    ap (λ (l : List Region). l ++ rest end) n
    ∙ ap (λ (x : ℕ). (old ++ clauses at (get_or hs k d).blocks) ++ rest x) e
    ∙ append_assoc old (clauses at (get_or hs k d).blocks) _
    ∙ sym (ap (λ (p : HandlerPart). old ++ (p.part.clauses at ++ rest (at + length p.part.code))) (handler_is (get_or hs k d)))
    ∙ sym (at_drop_more (λ l. old ++ handlers_clauses at (handler_parts l)) hs k d h)
    ∙ inv

pub own_more : (hs : List Handler) (k : ℕ) (d : Handler) (from to at end : ℕ) (old new start : List Region) → k < length hs → end ≡ at + length (code (get_or hs k d).blocks) → new ≡ old ++ record { kind = (get_or hs k d).kind; try_from = from; try_to = to; handler_from = at; handler_to = end } ∷ [] → old ++ own_clauses from to at (handler_parts (drop k hs)) ≡ start → new ++ own_clauses from to end (handler_parts (drop (k + 1) hs)) ≡ start
own_more hs k d from to at end old new start h e n inv =
    let own : ℕ → Region = λ x. record { kind = (get_or hs k d).kind; try_from = from; try_to = to; handler_from = at; handler_to = x } in
    let rest : ℕ → List Region = λ x. own_clauses from to x (handler_parts (drop (k + 1) hs)) in
    ap (λ (l : List Region). l ++ rest end) n
    ∙ append_assoc old (own end ∷ []) (rest end)
    ∙ ap (λ (x : ℕ). old ++ (own x ∷ rest x)) e
    ∙ sym (ap (λ (p : HandlerPart). old ++ (record { kind = p.kind; try_from = from; try_to = to; handler_from = at; handler_to = at + length p.part.code } ∷ rest (at + length p.part.code))) (handler_is (get_or hs k d)))
    ∙ sym (at_drop_more (λ l. old ++ own_clauses from to at (handler_parts l)) hs k d h)
    ∙ inv
