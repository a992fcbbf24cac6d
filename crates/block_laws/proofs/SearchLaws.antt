-- Searches in blocks to which one more clause is added.
use Rattle.std.proofs.Common.{◌≡◌, ◌<◌, ◌≤◌, ◌+◌, ℕ, Bool, true, false, cond, nat_lt, List, [], ◌∷◌, ◌++◌, sym, ap, ◌∙◌, append-nil, append_assoc, arith}
use Rattle.std.proofs.lemmas.Bool.{cond-true, cond-false, lt-ltb, le-ltb, ltb-true, ltb-false}
use Rattle.std.proofs.lemmas.Bool.Decides.{nat_tests}
use Rattle.cil_base.proofs.Small.{decide}
use Rattle.cil_model.specs.declared.body.Region.{Region}
use Rattle.cil_model.specs.declared.body.RegionKind.{RegionKind}
use Rattle.cil_model.specs.declared.tree.Block.TheOpen.{Block-F}
use Rattle.cil_semantics.specs.Unwind.{in_try}
use Rattle.region_tree.specs.Handlers.{Guarding, HandlerGuarding, sizes, handler_sizes, guards_among, guards_in_handlers, own_guards, block_guarding}

-- ---- one row of parts behind another

pub sizes_joined : (xs ys : List Guarding) → sizes (xs ++ ys) ≡ sizes xs + sizes ys
sizes_joined [] ys = omega arith
sizes_joined (x ∷ xs) ys = omega (arith, sizes_joined xs ys)

pub in_first : (xs ys : List Guarding) (at q : ℕ) → at ≤ q → q < at + sizes xs → guards_among at q (xs ++ ys) ≡ guards_among at q xs
in_first [] ys at q l h = absurd (omega (arith, l, h))
in_first (x ∷ xs) ys at q l h = decide (nat_lt q (at + x.size)) near (λ e. far (in_first xs ys (at + x.size) q (ltb-false q (at + x.size) e) (omega (arith, h))))
  where
    near : nat_lt q (at + x.size) ≡ true → cond (nat_lt q (at + x.size)) (x.guards at q) (guards_among (at + x.size) q (xs ++ ys)) ≡ cond (nat_lt q (at + x.size)) (x.guards at q) (guards_among (at + x.size) q xs)
    near e = cond-true (nat_lt q (at + x.size)) (x.guards at q) _ e ∙ sym (cond-true (nat_lt q (at + x.size)) (x.guards at q) _ e)

    far : guards_among (at + x.size) q (xs ++ ys) ≡ guards_among (at + x.size) q xs → cond (nat_lt q (at + x.size)) (x.guards at q) (guards_among (at + x.size) q (xs ++ ys)) ≡ cond (nat_lt q (at + x.size)) (x.guards at q) (guards_among (at + x.size) q xs)
    far e = ap (λ (l : List Region). cond (nat_lt q (at + x.size)) (x.guards at q) l) e

pub past_first : (xs ys : List Guarding) (at q : ℕ) → at + sizes xs ≤ q → guards_among at q (xs ++ ys) ≡ guards_among (at + sizes xs) q ys
past_first [] ys at q h = ap (λ (n : ℕ). guards_among n q ys) (omega arith)
past_first (x ∷ xs) ys at q h =
    cond-false (nat_lt q (at + x.size)) (x.guards at q) (guards_among (at + x.size) q (xs ++ ys)) (le-ltb q (at + x.size) (omega (arith, h)))
    ∙ past_first xs ys (at + x.size) q (omega (arith, h))
    ∙ ap (λ (n : ℕ). guards_among n q ys) (omega arith)

pub handler_sizes_joined : (xs ys : List HandlerGuarding) → handler_sizes (xs ++ ys) ≡ handler_sizes xs + handler_sizes ys
handler_sizes_joined [] ys = omega arith
handler_sizes_joined (x ∷ xs) ys = omega (arith, handler_sizes_joined xs ys)

pub in_first_handlers : (xs ys : List HandlerGuarding) (at q : ℕ) → at ≤ q → q < at + handler_sizes xs → guards_in_handlers at q (xs ++ ys) ≡ guards_in_handlers at q xs
in_first_handlers [] ys at q l h = absurd (omega (arith, l, h))
in_first_handlers (x ∷ xs) ys at q l h = decide (nat_lt q (at + x.size)) near (λ e. far (in_first_handlers xs ys (at + x.size) q (ltb-false q (at + x.size) e) (omega (arith, h))))
  where
    near : nat_lt q (at + x.size) ≡ true → cond (nat_lt q (at + x.size)) (x.guards at q) (guards_in_handlers (at + x.size) q (xs ++ ys)) ≡ cond (nat_lt q (at + x.size)) (x.guards at q) (guards_in_handlers (at + x.size) q xs)
    near e = cond-true (nat_lt q (at + x.size)) (x.guards at q) _ e ∙ sym (cond-true (nat_lt q (at + x.size)) (x.guards at q) _ e)

    far : guards_in_handlers (at + x.size) q (xs ++ ys) ≡ guards_in_handlers (at + x.size) q xs → cond (nat_lt q (at + x.size)) (x.guards at q) (guards_in_handlers (at + x.size) q (xs ++ ys)) ≡ cond (nat_lt q (at + x.size)) (x.guards at q) (guards_in_handlers (at + x.size) q xs)
    far e = ap (λ (l : List Region). cond (nat_lt q (at + x.size)) (x.guards at q) l) e

pub past_first_handlers : (xs ys : List HandlerGuarding) (at q : ℕ) → at + handler_sizes xs ≤ q → guards_in_handlers at q (xs ++ ys) ≡ guards_in_handlers (at + handler_sizes xs) q ys
past_first_handlers [] ys at q h = ap (λ (n : ℕ). guards_in_handlers n q ys) (omega arith)
past_first_handlers (x ∷ xs) ys at q h =
    cond-false (nat_lt q (at + x.size)) (x.guards at q) (guards_in_handlers (at + x.size) q (xs ++ ys)) (le-ltb q (at + x.size) (omega (arith, h)))
    ∙ past_first_handlers xs ys (at + x.size) q (omega (arith, h))
    ∙ ap (λ (n : ℕ). guards_in_handlers n q ys) (omega arith)

abbrev pub row : (from to at size : ℕ) → RegionKind → Region
row from to at size kind = record { kind = kind; try_from = from; try_to = to; handler_from = at; handler_to = at + size }

pub own_joined : (from to at : ℕ) (xs : List HandlerGuarding) (h : HandlerGuarding) → own_guards from to at (xs ++ h ∷ []) ≡ own_guards from to at xs ++ row from to (at + handler_sizes xs) h.size h.kind ∷ []
own_joined from to at [] h = ap (λ (n : ℕ). row from to n h.size h.kind ∷ []) (omega arith)
own_joined from to at (x ∷ xs) h =
    ap (λ (l : List Region). row from to at x.size x.kind ∷ l) (own_joined from to (at + x.size) xs h ∙ ap (λ (n : ℕ). own_guards from to (at + x.size) xs ++ row from to n h.size h.kind ∷ []) (omega arith))

-- ---- one more handler of a block

abbrev pub block : List Guarding → List HandlerGuarding → Guarding
block inner hs = block_guarding (Block-F.Guarded inner hs)

abbrev pub of_blocks : RegionKind → List Guarding → HandlerGuarding
of_blocks kind bs = record { kind = kind; size = sizes bs; guards = λ at q. guards_among at q bs }

-- the clause of the new handler
abbrev pub new_row : (at : ℕ) → List Guarding → List HandlerGuarding → RegionKind → List Guarding → Region
new_row at inner hs kind bs = row at (at + sizes inner) (at + sizes inner + handler_sizes hs) (sizes bs) kind

abbrev pub Adds : (at q : ℕ) → List Guarding → List Guarding → Region → Type 0
Adds at q old new r = guards_among at q new ≡ guards_among at q old ++ cond (in_try r q) (r ∷ []) []

guarded_in : (inner back : List Guarding) (hs : List HandlerGuarding) (at q : ℕ) → q < at + sizes inner → guards_among at q (block inner hs ∷ back) ≡ guards_among at q inner ++ own_guards at (at + sizes inner) (at + sizes inner) hs
guarded_in inner back hs at q h =
    cond-true (nat_lt q (at + (sizes inner + handler_sizes hs))) _ _ (lt-ltb q (at + (sizes inner + handler_sizes hs)) (omega (arith, h)))
    ∙ cond-true (nat_lt q (at + sizes inner)) _ _ (lt-ltb q (at + sizes inner) h)

guarded_handlers : (inner back : List Guarding) (hs : List HandlerGuarding) (at q : ℕ) → at + sizes inner ≤ q → q < at + sizes inner + handler_sizes hs → guards_among at q (block inner hs ∷ back) ≡ guards_in_handlers (at + sizes inner) q hs
guarded_handlers inner back hs at q l h =
    cond-true (nat_lt q (at + (sizes inner + handler_sizes hs))) _ _ (lt-ltb q (at + (sizes inner + handler_sizes hs)) (omega (arith, h)))
    ∙ cond-false (nat_lt q (at + sizes inner)) _ _ (le-ltb q (at + sizes inner) l)

guarded_past : (inner back : List Guarding) (hs : List HandlerGuarding) (at q : ℕ) → at + sizes inner + handler_sizes hs ≤ q → guards_among at q (block inner hs ∷ back) ≡ guards_among (at + sizes inner + handler_sizes hs) q back
guarded_past inner back hs at q h =
    cond-false (nat_lt q (at + (sizes inner + handler_sizes hs))) _ _ (le-ltb q (at + (sizes inner + handler_sizes hs)) (omega (arith, h)))
    ∙ ap (λ (n : ℕ). guards_among n q back) (omega arith)

in_tried : (r : Region) (q : ℕ) → r.try_from ≤ q → q < r.try_to → in_try r q ≡ true
in_tried r q l h = grind (arith, nat_tests)

not_before : (r : Region) (q : ℕ) → q < r.try_from → in_try r q ≡ false
not_before r q h = grind (arith, nat_tests)

not_behind : (r : Region) (q : ℕ) → r.try_to ≤ q → in_try r q ≡ false
not_behind r q h = grind (arith, nat_tests)

adds_row : (at q : ℕ) (old new : List Guarding) (r : Region) → in_try r q ≡ true → guards_among at q new ≡ guards_among at q old ++ r ∷ [] → Adds at q old new r
adds_row at q old new r t e = e ∙ ap (λ (b : Bool). guards_among at q old ++ cond b (r ∷ []) []) (sym t)

adds_none : (at q : ℕ) (old new : List Guarding) (r : Region) → in_try r q ≡ false → guards_among at q new ≡ guards_among at q old → Adds at q old new r
adds_none at q old new r f e = e ∙ sym (append-nil (guards_among at q old)) ∙ ap (λ (b : Bool). guards_among at q old ++ cond b (r ∷ []) []) (sym f)

row_in_try : (kind : RegionKind) (inner new back : List Guarding) (hs : List HandlerGuarding) (at q : ℕ) → at ≤ q → q < at + sizes inner → Adds at q (block inner hs ∷ (new ++ back)) (block inner (hs ++ of_blocks kind new ∷ []) ∷ back) (new_row at inner hs kind new)
row_in_try kind inner new back hs at q l h =
    let r : Region = new_row at inner hs kind new in
    let to : ℕ = at + sizes inner in
    adds_row at q (block inner hs ∷ (new ++ back)) (block inner (hs ++ of_blocks kind new ∷ []) ∷ back) r (in_tried r q l h)
    (guarded_in inner back (hs ++ of_blocks kind new ∷ []) at q h
    ∙ ap (λ (x : List Region). guards_among at q inner ++ x) (own_joined at to to hs (of_blocks kind new))
    ∙ sym (append_assoc (guards_among at q inner) (own_guards at to to hs) (r ∷ []))
    ∙ ap (λ (x : List Region). x ++ r ∷ []) (sym (guarded_in inner (new ++ back) hs at q h)))

row_in_handlers : (kind : RegionKind) (inner new back : List Guarding) (hs : List HandlerGuarding) (at q : ℕ) → at + sizes inner ≤ q → q < at + sizes inner + handler_sizes hs → Adds at q (block inner hs ∷ (new ++ back)) (block inner (hs ++ of_blocks kind new ∷ []) ∷ back) (new_row at inner hs kind new)
row_in_handlers kind inner new back hs at q l h =
    let r : Region = new_row at inner hs kind new in
    let long = handler_sizes_joined hs (of_blocks kind new ∷ []) in
    adds_none at q (block inner hs ∷ (new ++ back)) (block inner (hs ++ of_blocks kind new ∷ []) ∷ back) r (not_behind r q l)
    (guarded_handlers inner back (hs ++ of_blocks kind new ∷ []) at q l (omega (arith, h, long))
    ∙ in_first_handlers hs (of_blocks kind new ∷ []) (at + sizes inner) q l h
    ∙ sym (guarded_handlers inner (new ++ back) hs at q l h))

row_in_new : (kind : RegionKind) (inner new back : List Guarding) (hs : List HandlerGuarding) (at q : ℕ) → at + sizes inner + handler_sizes hs ≤ q → q < at + sizes inner + handler_sizes hs + sizes new → Adds at q (block inner hs ∷ (new ++ back)) (block inner (hs ++ of_blocks kind new ∷ []) ∷ back) (new_row at inner hs kind new)
row_in_new kind inner new back hs at q l h =
    let r : Region = new_row at inner hs kind new in
    let from : ℕ = at + sizes inner + handler_sizes hs in
    let long = handler_sizes_joined hs (of_blocks kind new ∷ []) in
    let low : at + sizes inner ≤ q = omega (arith, l) in
    adds_none at q (block inner hs ∷ (new ++ back)) (block inner (hs ++ of_blocks kind new ∷ []) ∷ back) r (not_behind r q low)
    (guarded_handlers inner back (hs ++ of_blocks kind new ∷ []) at q low (omega (arith, h, long))
    ∙ past_first_handlers hs (of_blocks kind new ∷ []) (at + sizes inner) q l
    ∙ cond-true (nat_lt q (from + sizes new)) (guards_among from q new) [] (lt-ltb q (from + sizes new) h)
    ∙ sym (in_first new back from q l h)
    ∙ sym (guarded_past inner (new ++ back) hs at q l))

row_behind : (kind : RegionKind) (inner new back : List Guarding) (hs : List HandlerGuarding) (at q : ℕ) → at + sizes inner + handler_sizes hs + sizes new ≤ q → Adds at q (block inner hs ∷ (new ++ back)) (block inner (hs ++ of_blocks kind new ∷ []) ∷ back) (new_row at inner hs kind new)
row_behind kind inner new back hs at q h =
    let r : Region = new_row at inner hs kind new in
    let from : ℕ = at + sizes inner + handler_sizes hs in
    let long = handler_sizes_joined hs (of_blocks kind new ∷ []) in
    let end : at + sizes inner + handler_sizes (hs ++ of_blocks kind new ∷ []) ≡ from + sizes new = omega (arith, long) in
    adds_none at q (block inner hs ∷ (new ++ back)) (block inner (hs ++ of_blocks kind new ∷ []) ∷ back) r (not_behind r q (omega (arith, h)))
    (guarded_past inner back (hs ++ of_blocks kind new ∷ []) at q (omega (arith, h, long))
    ∙ ap (λ (n : ℕ). guards_among n q back) end
    ∙ sym (past_first new back from q h)
    ∙ sym (guarded_past inner (new ++ back) hs at q (omega (arith, h))))

-- The blocks behind a block become a handler of it.
pub one_more_handler : (kind : RegionKind) (inner new back : List Guarding) (hs : List HandlerGuarding) (at q : ℕ) → at ≤ q → Adds at q (block inner hs ∷ (new ++ back)) (block inner (hs ++ of_blocks kind new ∷ []) ∷ back) (new_row at inner hs kind new)
one_more_handler kind inner new back hs at q l =
    let to : ℕ = at + sizes inner in
    let from : ℕ = to + handler_sizes hs in
    decide (nat_lt q to)
    (λ e. row_in_try kind inner new back hs at q l (ltb-true q to e))
    (λ e. decide (nat_lt q from)
    (λ f. row_in_handlers kind inner new back hs at q (ltb-false q to e) (ltb-true q from f))
    (λ f. decide (nat_lt q (from + sizes new))
    (λ g. row_in_new kind inner new back hs at q (ltb-false q from f) (ltb-true q (from + sizes new) g))
    (λ g. row_behind kind inner new back hs at q (ltb-false q (from + sizes new) g))))

-- A block without handlers guards what its blocks do.
pub no_handler : (inner back : List Guarding) (at q : ℕ) → at ≤ q → guards_among at q (block inner [] ∷ back) ≡ guards_among at q (inner ++ back)
no_handler inner back at q l =
    decide (nat_lt q (at + sizes inner))
    (λ e. guarded_in inner back [] at q (ltb-true q (at + sizes inner) e) ∙ append-nil (guards_among at q inner) ∙ sym (in_first inner back at q l (ltb-true q (at + sizes inner) e)))
    (λ e. let past : at + sizes inner ≤ q = ltb-false q (at + sizes inner) e in
    guarded_past inner back [] at q (omega (arith, past)) ∙ ap (λ (n : ℕ). guards_among n q back) (omega arith) ∙ sym (past_first inner back at q past))

-- What stands in front of a change stays.
pub behind_others : (front old new : List Guarding) (r : Region) (at q : ℕ) → at ≤ q → r.try_from ≡ at + sizes front → (at + sizes front ≤ q → Adds (at + sizes front) q old new r) → Adds at q (front ++ old) (front ++ new) r
behind_others front old new r at q l t change =
    decide (nat_lt q (at + sizes front))
    (λ e. let near : q < at + sizes front = ltb-true q (at + sizes front) e in
    adds_none at q (front ++ old) (front ++ new) r (not_before r q (omega (arith, near, t))) (in_first front new at q l near ∙ sym (in_first front old at q l near)))
    (λ e. let past : at + sizes front ≤ q = ltb-false q (at + sizes front) e in
    past_first front new at q past ∙ change past ∙ ap (λ (x : List Region). x ++ cond (in_try r q) (r ∷ []) []) (sym (past_first front old at q past)))

pub same_behind : (front old new : List Guarding) (at q : ℕ) → at ≤ q → (at + sizes front ≤ q → guards_among (at + sizes front) q old ≡ guards_among (at + sizes front) q new) → guards_among at q (front ++ old) ≡ guards_among at q (front ++ new)
same_behind front old new at q l same =
    decide (nat_lt q (at + sizes front))
    (λ e. in_first front old at q l (ltb-true q (at + sizes front) e) ∙ sym (in_first front new at q l (ltb-true q (at + sizes front) e)))
    (λ e. let past : at + sizes front ≤ q = ltb-false q (at + sizes front) e in
    past_first front old at q past ∙ same past ∙ sym (past_first front new at q past))
