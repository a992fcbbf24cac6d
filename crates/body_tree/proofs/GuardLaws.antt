-- The handlers that guard a place of a tree, and those that its table has for the place.
use Rattle.std.proofs.Common.{◌≡◌, ℕ, ◌+◌, ◌≤◌, ◌<◌, Bool, true, false, cond, nat_lt, List, [], ◌∷◌, ◌++◌, map, length, refl, subst, sym, ap, ◌∙◌, append-nil, arith, length-append}
use Rattle.std.specs.Prelude.{nat_le, ◌&&◌}
use Rattle.std.proofs.lemmas.Bool.{ltb-false, ltb-true}
use Rattle.std.proofs.lemmas.Bool.Decides.{nat_tests}
use Rattle.std.proofs.lemmas.List.Elements.{filter-append}
use Rattle.cil_base.proofs.Small.{decide}
use Rattle.cil_model.specs.declared.body.Instr.{Instr}
use Rattle.cil_model.specs.declared.body.Region.{Region}
use Rattle.cil_model.specs.declared.body.RegionKind.{RegionKind}
use Rattle.cil_model.specs.declared.tree.Block.TheOpen.{Block-F}
use Rattle.cil_model.specs.declared.tree.Block.TheFolds.{fold-Block, fold-Handler, fold-roll-Block, fold-roll-Handler, ind-Block}
use Rattle.cil_model.specs.declared.tree.Block.{Block, map-Block, roll-Block}
use Rattle.cil_model.specs.declared.tree.Handler.{Handler, Handler-F, map-Handler, roll-Handler}
use Rattle.cil_semantics.specs.Unwind.{in_try}
use Rattle.region_tree.specs.Handlers.{guards, Guarding, HandlerGuarding, sizes, handler_sizes, guards_among, guards_in_handlers, own_guards, block_guarding, handler_guarding, tree_guards, SearchesLike}
use Rattle.region_tree.specs.Trees.{Part, HandlerPart, joined_code, joined_clauses, handlers_code, handlers_clauses, own_clauses, block_part, handler_part, part, clauses}

-- a part of a tree by its guards and by its clauses: no clause guards a place outside of it
pub record Agrees (g : Guarding) (p : Part) : Type 0 where
  pub size : g.size ≡ length p.code
  pub within : (at q : ℕ) → at ≤ q → q < at + length p.code → g.guards at q ≡ guards q (p.clauses at)
  pub before : (at q : ℕ) → q < at → guards q (p.clauses at) ≡ []
  pub behind : (at q : ℕ) → at + length p.code ≤ q → guards q (p.clauses at) ≡ []

pub data AllAgree : List Guarding → List Part → Type 0 where
  none : AllAgree [] []
  more : {gs : List Guarding} {ps : List Part} (g : Guarding) (p : Part) → Agrees g p → AllAgree gs ps → AllAgree (g ∷ gs) (p ∷ ps)

not_less : (q n : ℕ) → nat_lt q n ≡ false → n ≤ q
not_less q n e = ltb-false q n e

is_less : (q n : ℕ) → nat_lt q n ≡ true → q < n
is_less q n e = ltb-true q n e

pub joined : (q : ℕ) (xs ys gs hs : List Region) → guards q xs ≡ gs → guards q ys ≡ hs → guards q (xs ++ ys) ≡ gs ++ hs
joined q xs ys gs hs x y =
    filter-append (λ (r : Region). in_try r q) xs ys ∙ ap (λ (l : List Region). l ++ guards q ys) x ∙ ap (λ (l : List Region). gs ++ l) y

pub sizes_agree : {gs : List Guarding} {ps : List Part} → AllAgree gs ps → sizes gs ≡ length (joined_code ps)
sizes_agree none = refl
sizes_agree (more {gs} {ps} g p a all) = omega (arith, a.size, sizes_agree all, length-append p.code (joined_code ps))

pub joined_before : {gs : List Guarding} {ps : List Part} → AllAgree gs ps → (at q : ℕ) → q < at → guards q (joined_clauses at ps) ≡ []
joined_before none at q h = refl
joined_before (more {gs} {ps} g p a all) at q h =
    joined q (p.clauses at) (joined_clauses (at + length p.code) ps) [] [] (a.before at q h) (joined_before all (at + length p.code) q (omega (arith, h)))

pub joined_behind : {gs : List Guarding} {ps : List Part} → AllAgree gs ps → (at q : ℕ) → at + length (joined_code ps) ≤ q → guards q (joined_clauses at ps) ≡ []
joined_behind none at q h = refl
joined_behind (more {gs} {ps} g p a all) at q h =
    let long = length-append p.code (joined_code ps) in
    joined q (p.clauses at) (joined_clauses (at + length p.code) ps) [] [] (a.behind at q (omega (arith, h, long))) (joined_behind all (at + length p.code) q (omega (arith, h, long)))

pub joined_within : {gs : List Guarding} {ps : List Part} → AllAgree gs ps → (at q : ℕ) → at ≤ q → guards_among at q gs ≡ guards q (joined_clauses at ps)
joined_within none at q h = refl
joined_within (more {gs} {ps} g p a all) at q h = decide (nat_lt q (at + g.size)) in_it (past_it (joined_within all (at + length p.code) q))
  where
    in_it : nat_lt q (at + g.size) ≡ true → cond (nat_lt q (at + g.size)) (g.guards at q) (guards_among (at + g.size) q gs) ≡ guards q (joined_clauses at (p ∷ ps))
    in_it e =
        let low : q < at + length p.code = omega (arith, is_less q (at + g.size) e, a.size) in
        ap (λ (b : Bool). cond b (g.guards at q) (guards_among (at + g.size) q gs)) e
        ∙ sym (joined q (p.clauses at) (joined_clauses (at + length p.code) ps) (g.guards at q) [] (sym (a.within at q h low)) (joined_before all (at + length p.code) q low) ∙ append-nil (g.guards at q))

    past_it : (at + length p.code ≤ q → guards_among (at + length p.code) q gs ≡ guards q (joined_clauses (at + length p.code) ps)) → nat_lt q (at + g.size) ≡ false → cond (nat_lt q (at + g.size)) (g.guards at q) (guards_among (at + g.size) q gs) ≡ guards q (joined_clauses at (p ∷ ps))
    past_it rest e =
        let high : at + length p.code ≤ q = omega (arith, not_less q (at + g.size) e, a.size) in
        ap (λ (b : Bool). cond b (g.guards at q) (guards_among (at + g.size) q gs)) e
        ∙ ap (λ (n : ℕ). guards_among (at + n) q gs) a.size
        ∙ rest high
        ∙ sym (joined q (p.clauses at) (joined_clauses (at + length p.code) ps) [] (guards q (joined_clauses (at + length p.code) ps)) (a.behind at q high) refl)

-- ---- handlers

-- a handler as a part alone
abbrev pub plain : HandlerGuarding → Guarding
plain h = record { size = h.size; guards = h.guards }

abbrev pub parts_of : List HandlerPart → List Part
parts_of hs = map (λ (h : HandlerPart). h.part) hs

pub record HandlerAgrees (g : HandlerGuarding) (h : HandlerPart) : Type 0 where
  pub kind : g.kind ≡ h.kind
  pub part : Agrees (plain g) h.part

pub data HandlersAgree : List HandlerGuarding → List HandlerPart → Type 0 where
  none : HandlersAgree [] []
  more : {gs : List HandlerGuarding} {hs : List HandlerPart} (g : HandlerGuarding) (h : HandlerPart) → HandlerAgrees g h → HandlersAgree gs hs → HandlersAgree (g ∷ gs) (h ∷ hs)

as_parts : {gs : List HandlerGuarding} {hs : List HandlerPart} → HandlersAgree gs hs → AllAgree (map plain gs) (parts_of hs)
as_parts none = none
as_parts (more {gs} {hs} g h a all) = more (plain g) h.part a.part (as_parts all)

plain_sizes : (gs : List HandlerGuarding) → handler_sizes gs ≡ sizes (map plain gs)
plain_sizes [] = refl
plain_sizes (g ∷ gs) = ap (λ (n : ℕ). g.size + n) (plain_sizes gs)

plain_guards : (gs : List HandlerGuarding) (at q : ℕ) → guards_in_handlers at q gs ≡ guards_among at q (map plain gs)
plain_guards [] at q = refl
plain_guards (g ∷ gs) at q = ap (λ (l : List Region). cond (nat_lt q (at + g.size)) (g.guards at q) l) (plain_guards gs (at + g.size) q)

pub parts_code : (hs : List HandlerPart) → handlers_code hs ≡ joined_code (parts_of hs)
parts_code [] = refl
parts_code (h ∷ hs) = ap (λ l. h.part.code ++ l) (parts_code hs)

pub parts_clauses : (hs : List HandlerPart) (q : ℕ) → handlers_clauses q hs ≡ joined_clauses q (parts_of hs)
parts_clauses [] q = refl
parts_clauses (h ∷ hs) q = ap (λ (l : List Region). h.part.clauses q ++ l) (parts_clauses hs (q + length h.part.code))

own_agree : {gs : List HandlerGuarding} {hs : List HandlerPart} → HandlersAgree gs hs → (from to at : ℕ) → own_guards from to at gs ≡ own_clauses from to at hs
own_agree none from to at = refl
own_agree (more {gs} {hs} g h a all) from to at =
    ap (λ (n : ℕ). record { kind = g.kind; try_from = from; try_to = to; handler_from = at; handler_to = at + n } ∷ own_guards from to (at + n) gs) a.part.size
    ∙ ap (λ (k : RegionKind). record { kind = k; try_from = from; try_to = to; handler_from = at; handler_to = at + length h.part.code } ∷ own_guards from to (at + length h.part.code) gs) a.kind
    ∙ ap (λ (l : List Region). record { kind = h.kind; try_from = from; try_to = to; handler_from = at; handler_to = at + length h.part.code } ∷ l) (own_agree all from to (at + length h.part.code))

pub inside : (q from to : ℕ) → from ≤ q → q < to → (nat_le from q && nat_lt q to) ≡ true
inside q from to h k = grind (arith, nat_tests)

pub in_front : (q from to : ℕ) → q < from → (nat_le from q && nat_lt q to) ≡ false
in_front q from to h = grind (arith, nat_tests)

past : (q from to : ℕ) → to ≤ q → (nat_le from q && nat_lt q to) ≡ false
past q from to h = grind (arith, nat_tests)

-- the clauses of a try guard each place of the try, and no other
own_in : (q from to at : ℕ) (hs : List HandlerPart) → from ≤ q → q < to → guards q (own_clauses from to at hs) ≡ own_clauses from to at hs
own_in q from to at [] h k = refl
own_in q from to at (x ∷ xs) h k =
    let r : Region = record { kind = x.kind; try_from = from; try_to = to; handler_from = at; handler_to = at + length x.part.code } in
    ap (λ (b : Bool). cond b (r ∷ guards q (own_clauses from to (at + length x.part.code) xs)) (guards q (own_clauses from to (at + length x.part.code) xs))) (inside q from to h k)
    ∙ ap (λ (l : List Region). r ∷ l) (own_in q from to (at + length x.part.code) xs h k)

own_before : (q from to at : ℕ) (hs : List HandlerPart) → q < from → guards q (own_clauses from to at hs) ≡ []
own_before q from to at [] h = refl
own_before q from to at (x ∷ xs) h =
    let r : Region = record { kind = x.kind; try_from = from; try_to = to; handler_from = at; handler_to = at + length x.part.code } in
    ap (λ (b : Bool). cond b (r ∷ guards q (own_clauses from to (at + length x.part.code) xs)) (guards q (own_clauses from to (at + length x.part.code) xs))) (in_front q from to h)
    ∙ own_before q from to (at + length x.part.code) xs h

own_behind : (q from to at : ℕ) (hs : List HandlerPart) → to ≤ q → guards q (own_clauses from to at hs) ≡ []
own_behind q from to at [] h = refl
own_behind q from to at (x ∷ xs) h =
    let r : Region = record { kind = x.kind; try_from = from; try_to = to; handler_from = at; handler_to = at + length x.part.code } in
    ap (λ (b : Bool). cond b (r ∷ guards q (own_clauses from to (at + length x.part.code) xs)) (guards q (own_clauses from to (at + length x.part.code) xs))) (past q from to h)
    ∙ own_behind q from to (at + length x.part.code) xs h

-- ---- blocks

handlers_size : {gs : List HandlerGuarding} {hs : List HandlerPart} → HandlersAgree gs hs → handler_sizes gs ≡ length (handlers_code hs)
handlers_size {gs} {hs} all = plain_sizes gs ∙ sizes_agree (as_parts all) ∙ ap length (sym (parts_code hs))

handlers_before : {gs : List HandlerGuarding} {hs : List HandlerPart} → HandlersAgree gs hs → (at q : ℕ) → q < at → guards q (handlers_clauses at hs) ≡ []
handlers_before {gs} {hs} all at q h = ap (guards q) (parts_clauses hs at) ∙ joined_before (as_parts all) at q h

handlers_behind : {gs : List HandlerGuarding} {hs : List HandlerPart} → HandlersAgree gs hs → (at q : ℕ) → at + length (handlers_code hs) ≤ q → guards q (handlers_clauses at hs) ≡ []
handlers_behind {gs} {hs} all at q h = ap (guards q) (parts_clauses hs at) ∙ joined_behind (as_parts all) at q (omega (arith, h, ap length (parts_code hs)))

handlers_within : {gs : List HandlerGuarding} {hs : List HandlerPart} → HandlersAgree gs hs → (at q : ℕ) → at ≤ q → guards_in_handlers at q gs ≡ guards q (handlers_clauses at hs)
handlers_within {gs} {hs} all at q h = plain_guards gs at q ∙ joined_within (as_parts all) at q h ∙ ap (guards q) (sym (parts_clauses hs at))

-- the clauses of a guarded block, for a place
spread : (q : ℕ) (xs ys zs ls ms ns : List Region) → guards q xs ≡ ls → guards q ys ≡ ms → guards q zs ≡ ns → guards q (xs ++ (ys ++ zs)) ≡ ls ++ (ms ++ ns)
spread q xs ys zs ls ms ns x y z = joined q xs (ys ++ zs) ls (ms ++ ns) x (joined q ys zs ms ns y z)

pub code_agrees : (is : List Instr) → Agrees (block_guarding (Block-F.Code is)) (block_part (Block-F.Code is))
code_agrees is = record { size = refl; within = λ at q h k. refl; before = λ at q h. refl; behind = λ at q h. refl }

pub guarded_agrees : {gs : List Guarding} {ps : List Part} {hgs : List HandlerGuarding} {hps : List HandlerPart} → AllAgree gs ps → HandlersAgree hgs hps → Agrees (block_guarding (Block-F.Guarded gs hgs)) (block_part (Block-F.Guarded ps hps))
guarded_agrees {gs} {ps} {hgs} {hps} inner handlers = record {
  size = omega (arith, sizes_agree inner, handlers_size handlers, long);
  within = λ at q h k. decide (nat_lt q (at + sizes gs)) (in_the_try at q h) (in_a_handler at q);
  before = λ at q h. spread q (joined_clauses at ps) _ _ [] [] [] (joined_before inner at q h) (handlers_before handlers (to at) q (omega (arith, h))) (own_before q at (to at) (to at) hps h);
  behind = λ at q h. spread q (joined_clauses at ps) _ _ [] [] [] (joined_behind inner at q (omega (arith, h, long))) (handlers_behind handlers (to at) q (omega (arith, h, long))) (own_behind q at (to at) (to at) hps (omega (arith, h, long)));
}
  where
    long : length (joined_code ps ++ handlers_code hps) ≡ length (joined_code ps) + length (handlers_code hps)
    long = length-append (joined_code ps) (handlers_code hps)

    to : ℕ → ℕ
    to at = at + length (joined_code ps)

    all : ℕ → List Region
    all at = joined_clauses at ps ++ (handlers_clauses (to at) hps ++ own_clauses at (to at) (to at) hps)

    found : ℕ → ℕ → ℕ → Bool → List Region
    found at q mid b = cond b (guards_among at q gs ++ own_guards at mid mid hgs) (guards_in_handlers mid q hgs)

    in_the_try : (at q : ℕ) → at ≤ q → nat_lt q (at + sizes gs) ≡ true → found at q (at + sizes gs) (nat_lt q (at + sizes gs)) ≡ guards q (all at)
    in_the_try at q h e =
        let low : q < to at = omega (arith, is_less q (at + sizes gs) e, sizes_agree inner) in
        ap (found at q (at + sizes gs)) e
        ∙ ap (λ (n : ℕ). found at q (at + n) true) (sizes_agree inner)
        ∙ sym (spread q (joined_clauses at ps) (handlers_clauses (to at) hps) (own_clauses at (to at) (to at) hps) (guards_among at q gs) [] (own_guards at (to at) (to at) hgs)
        (sym (joined_within inner at q h)) (handlers_before handlers (to at) q low) (own_in q at (to at) (to at) hps h low ∙ sym (own_agree handlers at (to at) (to at))))

    in_a_handler : (at q : ℕ) → nat_lt q (at + sizes gs) ≡ false → found at q (at + sizes gs) (nat_lt q (at + sizes gs)) ≡ guards q (all at)
    in_a_handler at q e =
        let high : to at ≤ q = omega (arith, not_less q (at + sizes gs) e, sizes_agree inner) in
        ap (found at q (at + sizes gs)) e
        ∙ ap (λ (n : ℕ). found at q (at + n) false) (sizes_agree inner)
        ∙ sym (spread q (joined_clauses at ps) (handlers_clauses (to at) hps) (own_clauses at (to at) (to at) hps) [] (guards_in_handlers (to at) q hgs) []
        (joined_behind inner at q high) (sym (handlers_within handlers (to at) q high)) (own_behind q at (to at) (to at) hps high) ∙ append-nil _)

pub handler_agrees : {gs : List Guarding} {ps : List Part} → AllAgree gs ps → (k : RegionKind) → HandlerAgrees (handler_guarding (record { kind = k; blocks = gs })) (handler_part (record { kind = k; blocks = ps }))
handler_agrees {gs} {ps} inner k = record {
  kind = refl;
  part = record {
    size = sizes_agree inner;
    within = λ at q h low. joined_within inner at q h;
    before = joined_before inner;
    behind = joined_behind inner;
  };
}

abbrev guarding : Block → Guarding
guarding b = fold-Block Guarding HandlerGuarding block_guarding handler_guarding b

abbrev handler_guarded : Handler → HandlerGuarding
handler_guarded h = fold-Handler Guarding HandlerGuarding block_guarding handler_guarding h

abbrev handler_parted : Handler → HandlerPart
handler_parted h = fold-Handler Part HandlerPart block_part handler_part h

abbrev BlockAgrees : Block → Type 0
BlockAgrees b = Agrees (guarding b) (part b)

abbrev HandlerIsAgreed : Handler → Type 0
HandlerIsAgreed h = HandlerAgrees (handler_guarded h) (handler_parted h)

all_of : (es : List ((b : Block) × BlockAgrees b)) → AllAgree (map guarding (map (λ e. e.0) es)) (map part (map (λ e. e.0) es))
all_of [] = none
all_of (e ∷ es) = more (guarding e.0) (part e.0) e.1 (all_of es)

handlers_of : (es : List ((h : Handler) × HandlerIsAgreed h)) → HandlersAgree (map handler_guarded (map (λ e. e.0) es)) (map handler_parted (map (λ e. e.0) es))
handlers_of [] = none
handlers_of (e ∷ es) = more (handler_guarded e.0) (handler_parted e.0) e.1 (handlers_of es)

in_block : (y : Block-F ((b : Block) × BlockAgrees b) ((h : Handler) × HandlerIsAgreed h)) → BlockAgrees (roll-Block (map-Block ((b : Block) × BlockAgrees b) ((h : Handler) × HandlerIsAgreed h) Block Handler (λ e. e.0) (λ e. e.0) y))
in_block (Block-F.Code is) = rw (fold-roll-Block Guarding HandlerGuarding block_guarding handler_guarding (Block-F.Code is), fold-roll-Block Part HandlerPart block_part handler_part (Block-F.Code is)) (code_agrees is)
in_block (Block-F.Guarded inner handlers) =
    rw (fold-roll-Block Guarding HandlerGuarding block_guarding handler_guarding (Block-F.Guarded (map (λ e. e.0) inner) (map (λ e. e.0) handlers)), fold-roll-Block Part HandlerPart block_part handler_part (Block-F.Guarded (map (λ e. e.0) inner) (map (λ e. e.0) handlers)))
    (guarded_agrees (all_of inner) (handlers_of handlers))

in_a_handler : (y : Handler-F ((b : Block) × BlockAgrees b) ((h : Handler) × HandlerIsAgreed h)) → HandlerIsAgreed (roll-Handler (map-Handler ((b : Block) × BlockAgrees b) ((h : Handler) × HandlerIsAgreed h) Block Handler (λ e. e.0) (λ e. e.0) y))
in_a_handler y =
    rw (fold-roll-Handler Guarding HandlerGuarding block_guarding handler_guarding (record { kind = y.kind; blocks = map (λ e. e.0) y.blocks }), fold-roll-Handler Part HandlerPart block_part handler_part (record { kind = y.kind; blocks = map (λ e. e.0) y.blocks }))
    (handler_agrees (all_of y.blocks) y.kind)

pub block_agrees : (b : Block) → BlockAgrees b
block_agrees = ind-Block BlockAgrees HandlerIsAgreed (λ x y is. subst (λ z. BlockAgrees (roll-Block z)) is (in_block y)) (λ x y is. subst (λ z. HandlerIsAgreed (roll-Handler z)) is (in_a_handler y))

blocks_agree : (bs : List Block) → AllAgree (map guarding bs) (map part bs)
blocks_agree [] = none
blocks_agree (b ∷ bs) = more (guarding b) (part b) (block_agrees b) (blocks_agree bs)

-- the handlers that guard a place of a tree are those of its table
pub tree_search : (at q : ℕ) (bs : List Block) → at ≤ q → tree_guards at q bs ≡ guards q (clauses at bs)
tree_search at q bs h = joined_within (blocks_agree bs) at q h

-- no clause of a tree guards a place in front of it
pub none_before : (at q : ℕ) (bs : List Block) → q < at → guards q (clauses at bs) ≡ []
none_before at q bs h = joined_before (blocks_agree bs) at q h

pub searches_like : (bs : List Block) (rs : List Region) → rs ≡ clauses 0 bs → SearchesLike bs rs
searches_like bs rs e = λ q. tree_search 0 q bs (omega arith) ∙ ap (guards q) (sym e)
