-- The clauses of a tree to which one more clause is added.
use Rattle.std.proofs.Common.{◌≡◌, ◌+◌, ℕ, List, [], ◌∷◌, ◌++◌, IsPermutation, length, sym, subst, ap, ◌∙◌, append-nil, append_assoc, arith, length-append}
use Rattle.std.proofs.lemmas.List.Sorted.{IsPermutation-append_comm, IsPermutation-append_left, IsPermutation-append_right, IsPermutation-to_front, IsPermutation-trans}
use Rattle.cil_model.specs.declared.body.Region.{Region}
use Rattle.cil_model.specs.declared.body.RegionKind.{RegionKind}
use Rattle.cil_model.specs.declared.tree.Block.{Block}
use Rattle.cil_model.specs.declared.tree.Block.TheVariants.{Guarded}
use Rattle.cil_model.specs.declared.tree.Block.TheFolds.{fold_out-Handler}
use Rattle.cil_model.specs.declared.tree.Handler.{Handler}
use Rattle.region_tree.specs.Trees.{Part, HandlerPart, block_part, clauses, code, handler_part, handler_parts, handlers_clauses, own_clauses, part}
use Rattle.block_laws.specs.Growth.{clause_behind}
use Rattle.block_laws.proofs.CodeLaws.{all_code, guarded_part, handler_of, handler_parted, one_more_code, part_of}

-- ---- lists

same_lists : (ws xs ys zs : List Region) → ws ≡ xs → ys ≡ zs → IsPermutation ws ys → IsPermutation xs zs
same_lists ws xs ys zs e f p = subst (λ (l : List Region). IsPermutation l zs) e (subst (λ (l : List Region). IsPermutation ws l) f p)

past_others : (own inner back : List Region) (r : Region) → IsPermutation (own ++ ((inner ++ back) ++ r ∷ [])) (inner ++ ((own ++ r ∷ []) ++ back))
past_others own inner back r =
    let first : IsPermutation (inner ++ (back ++ r ∷ [])) (inner ++ r ∷ back) = IsPermutation-append_right inner (back ++ r ∷ []) (r ∷ back) (IsPermutation-to_front back r) in
    let second : IsPermutation ((own ++ inner) ++ r ∷ back) ((inner ++ own) ++ r ∷ back) = IsPermutation-append_left (r ∷ back) (own ++ inner) (inner ++ own) (IsPermutation-append_comm own inner) in
    same_lists (own ++ (inner ++ (back ++ r ∷ []))) (own ++ ((inner ++ back) ++ r ∷ [])) (inner ++ (own ++ r ∷ back)) (inner ++ ((own ++ r ∷ []) ++ back))
    (ap (λ (l : List Region). own ++ l) (sym (append_assoc inner back (r ∷ []))))
    (ap (λ (l : List Region). inner ++ l) (sym (append_assoc own (r ∷ []) back)))
    (IsPermutation-trans (own ++ (inner ++ (back ++ r ∷ []))) (own ++ (inner ++ r ∷ back)) (inner ++ (own ++ r ∷ back))
    (IsPermutation-append_right own (inner ++ (back ++ r ∷ [])) (inner ++ r ∷ back) first)
    (same_lists ((own ++ inner) ++ r ∷ back) (own ++ (inner ++ r ∷ back)) ((inner ++ own) ++ r ∷ back) (inner ++ (own ++ r ∷ back)) (append_assoc own inner (r ∷ back)) (append_assoc inner own (r ∷ back)) second))

old_grouped : (f i h o w b : List Region) (r : Region) → (f ++ ((i ++ (h ++ o)) ++ (w ++ b))) ++ r ∷ [] ≡ f ++ (i ++ (h ++ (o ++ ((w ++ b) ++ r ∷ []))))
old_grouped f i h o w b r =
    append_assoc f ((i ++ (h ++ o)) ++ (w ++ b)) (r ∷ [])
    ∙ ap (λ (l : List Region). f ++ l) (append_assoc (i ++ (h ++ o)) (w ++ b) (r ∷ []) ∙ append_assoc i (h ++ o) ((w ++ b) ++ r ∷ []) ∙ ap (λ (l : List Region). i ++ l) (append_assoc h o ((w ++ b) ++ r ∷ [])))

new_grouped : (f i h o w b : List Region) → f ++ ((i ++ ((h ++ w) ++ o)) ++ b) ≡ f ++ (i ++ (h ++ (w ++ (o ++ b))))
new_grouped f i h o w b =
    ap (λ (l : List Region). f ++ l) (append_assoc i ((h ++ w) ++ o) b ∙ ap (λ (l : List Region). i ++ l) (append_assoc (h ++ w) o b ∙ append_assoc h w (o ++ b)))

one_moves : (f i h o w b : List Region) (r : Region) → IsPermutation ((f ++ ((i ++ (h ++ o)) ++ (w ++ b))) ++ r ∷ []) (f ++ ((i ++ ((h ++ w) ++ (o ++ r ∷ []))) ++ b))
one_moves f i h o w b r =
    let old : List Region = o ++ ((w ++ b) ++ r ∷ []) in
    let new : List Region = w ++ ((o ++ r ∷ []) ++ b) in
    same_lists (f ++ (i ++ (h ++ old))) ((f ++ ((i ++ (h ++ o)) ++ (w ++ b))) ++ r ∷ []) (f ++ (i ++ (h ++ new))) (f ++ ((i ++ ((h ++ w) ++ (o ++ r ∷ []))) ++ b)) (sym (old_grouped f i h o w b r)) (sym (new_grouped f i h (o ++ r ∷ []) w b))
    (IsPermutation-append_right f (i ++ (h ++ old)) (i ++ (h ++ new)) (IsPermutation-append_right i (h ++ old) (h ++ new) (IsPermutation-append_right h old new (past_others o w b r))))

-- ---- clauses

pub clauses_joined : (xs ys : List Block) (q : ℕ) → clauses q (xs ++ ys) ≡ clauses q xs ++ clauses (q + length (code xs)) ys
clauses_joined [] ys q = ap (λ (n : ℕ). clauses n ys) (omega arith)
clauses_joined (x ∷ xs) ys q =
    let long : q + length (part x).code + length (code xs) ≡ q + length (code (x ∷ xs)) = omega (arith, length-append (part x).code (code xs)) in
    ap (λ l. (part x).clauses q ++ l) (clauses_joined xs ys (q + length (part x).code))
    ∙ sym (append_assoc ((part x).clauses q) (clauses (q + length (part x).code) xs) (clauses (q + length (part x).code + length (code xs)) ys))
    ∙ ap (λ (n : ℕ). clauses q (x ∷ xs) ++ clauses n ys) long

inner_joined : (xs : List Handler) (h : Handler) (q : ℕ) → handlers_clauses q (handler_parts (xs ++ h ∷ [])) ≡ handlers_clauses q (handler_parts xs) ++ (part_of h).clauses (q + length (all_code xs))
inner_joined [] h q = append-nil ((part_of h).clauses q) ∙ ap (λ (n : ℕ). (part_of h).clauses n) (omega arith)
inner_joined (x ∷ xs) h q =
    let long : q + length (part_of x).code + length (all_code xs) ≡ q + length (all_code (x ∷ xs)) = omega (arith, length-append (part_of x).code (all_code xs)) in
    ap (λ (l : List Region). (part_of x).clauses q ++ l) (inner_joined xs h (q + length (part_of x).code) ∙ ap (λ (n : ℕ). handlers_clauses (q + length (part_of x).code) (handler_parts xs) ++ (part_of h).clauses n) long)
    ∙ sym (append_assoc ((part_of x).clauses q) (handlers_clauses (q + length (part_of x).code) (handler_parts xs)) ((part_of h).clauses (q + length (all_code (x ∷ xs)))))

abbrev pub own_row : (from to at : ℕ) → Handler → Region
own_row from to at h = record { kind = (handler_parted h).kind; try_from = from; try_to = to; handler_from = at; handler_to = at + length (part_of h).code }

pub own_joined : (xs : List Handler) (h : Handler) (from to q : ℕ) → own_clauses from to q (handler_parts (xs ++ h ∷ [])) ≡ own_clauses from to q (handler_parts xs) ++ own_row from to (q + length (all_code xs)) h ∷ []
own_joined [] h from to q = ap (λ (n : ℕ). own_row from to n h ∷ []) (omega arith)
own_joined (x ∷ xs) h from to q =
    let long : q + length (part_of x).code + length (all_code xs) ≡ q + length (all_code (x ∷ xs)) = omega (arith, length-append (part_of x).code (all_code xs)) in
    ap (λ (l : List Region). own_row from to q x ∷ l) (own_joined xs h from to (q + length (part_of x).code) ∙ ap (λ (n : ℕ). own_clauses from to (q + length (part_of x).code) (handler_parts xs) ++ own_row from to n h ∷ []) long)

-- the clauses of blocks among which is a protected one
abbrev pub around : (front inner back : List Block) → List Handler → ℕ → ℕ → ℕ → List Region
around front inner back hs from to end =
    clauses 0 front ++ ((clauses from inner ++ (handlers_clauses to (handler_parts hs) ++ own_clauses from to to (handler_parts hs))) ++ clauses end back)

pub clauses_around : (front inner back : List Block) (hs : List Handler) → clauses 0 (front ++ Guarded inner hs ∷ back) ≡ around front inner back hs (length (code front)) (length (code front) + length (code inner)) (length (code front) + length (code inner) + length (all_code hs))
clauses_around front inner back hs =
    let from : ℕ = length (code front) in
    let zero_more : 0 + length (code front) ≡ from = omega arith in
    let long : from + length (code inner ++ all_code hs) ≡ from + length (code inner) + length (all_code hs) = omega (arith, length-append (code inner) (all_code hs)) in
    clauses_joined front (Guarded inner hs ∷ back) 0
    ∙ ap (λ (n : ℕ). clauses 0 front ++ clauses n (Guarded inner hs ∷ back)) zero_more
    ∙ ap (λ (p : Part). clauses 0 front ++ (p.clauses from ++ clauses (from + length p.code) back)) (guarded_part inner hs)
    ∙ ap (λ (n : ℕ). around front inner back hs from (from + length (code inner)) n) long

abbrev row_of : (from to at : ℕ) → HandlerPart → Region
row_of from to at p = record { kind = p.kind; try_from = from; try_to = to; handler_from = at; handler_to = at + length p.part.code }

pub handler_is : (kind : RegionKind) (own : List Block) → handler_parted (handler_of kind own) ≡ record { kind = kind; part = record { code = code own; clauses = λ q. clauses q own } }
handler_is kind own = fold_out-Handler Part HandlerPart block_part handler_part (handler_of kind own)

pub new_handler : (kind : RegionKind) (front inner own back : List Block) (hs : List Handler) → clauses 0 (front ++ Guarded inner (hs ++ handler_of kind own ∷ []) ∷ back) ≡ clauses 0 front ++ ((clauses (length (code front)) inner ++ ((handlers_clauses (length (code front) + length (code inner)) (handler_parts hs) ++ clauses (length (code front) + length (code inner) + length (all_code hs)) own) ++ (own_clauses (length (code front)) (length (code front) + length (code inner)) (length (code front) + length (code inner)) (handler_parts hs) ++ clause_behind kind front inner hs own ∷ []))) ++ clauses (length (code front) + length (code inner) + length (all_code hs) + length (code own)) back)
new_handler kind front inner own back hs =
    let h : Handler = handler_of kind own in
    let from : ℕ = length (code front) in
    let to : ℕ = from + length (code inner) in
    let at : ℕ = to + length (all_code hs) in
    let inside : List Region = handlers_clauses to (handler_parts hs) in
    let rows : List Region = own_clauses from to to (handler_parts hs) in
    let long : to + length (all_code (hs ++ h ∷ [])) ≡ at + length (code own) = omega (arith, ap length (one_more_code kind own hs), length-append (all_code hs) (code own)) in
    let whole : List Region → ℕ → List Region = λ l n. clauses 0 front ++ ((clauses from inner ++ l) ++ clauses n back) in
    clauses_around front inner back (hs ++ h ∷ [])
    ∙ ap (λ (l : List Region). whole (l ++ own_clauses from to to (handler_parts (hs ++ h ∷ []))) (to + length (all_code (hs ++ h ∷ [])))) (inner_joined hs h to)
    ∙ ap (λ (l : List Region). whole ((inside ++ (part_of h).clauses at) ++ l) (to + length (all_code (hs ++ h ∷ [])))) (own_joined hs h from to to)
    ∙ ap (λ (n : ℕ). whole ((inside ++ (part_of h).clauses at) ++ (rows ++ own_row from to at h ∷ [])) n) long
    ∙ ap (λ (p : HandlerPart). whole ((inside ++ p.part.clauses at) ++ (rows ++ row_of from to at p ∷ [])) (at + length (code own))) (handler_is kind own)

pub another_keeps_clauses : (kind : RegionKind) (front inner own back : List Block) (hs : List Handler) → IsPermutation (clauses 0 (front ++ Guarded inner hs ∷ (own ++ back)) ++ clause_behind kind front inner hs own ∷ []) (clauses 0 (front ++ Guarded inner (hs ++ record { kind = kind; blocks = own } ∷ []) ∷ back))
another_keeps_clauses kind front inner own back hs =
    let from : ℕ = length (code front) in
    let to : ℕ = from + length (code inner) in
    let at : ℕ = to + length (all_code hs) in
    let f : List Region = clauses 0 front in
    let i : List Region = clauses from inner in
    let h : List Region = handlers_clauses to (handler_parts hs) in
    let o : List Region = own_clauses from to to (handler_parts hs) in
    let w : List Region = clauses at own in
    let b : List Region = clauses (at + length (code own)) back in
    let r : Region = clause_behind kind front inner hs own in
    let old : clauses 0 (front ++ Guarded inner hs ∷ (own ++ back)) ≡ f ++ ((i ++ (h ++ o)) ++ (w ++ b)) = clauses_around front inner (own ++ back) hs ∙ ap (λ (l : List Region). f ++ ((i ++ (h ++ o)) ++ l)) (clauses_joined own back at) in
    same_lists ((f ++ ((i ++ (h ++ o)) ++ (w ++ b))) ++ r ∷ []) (clauses 0 (front ++ Guarded inner hs ∷ (own ++ back)) ++ r ∷ []) (f ++ ((i ++ ((h ++ w) ++ (o ++ r ∷ []))) ++ b)) (clauses 0 (front ++ Guarded inner (hs ++ handler_of kind own ∷ []) ∷ back))
    (ap (λ (l : List Region). l ++ r ∷ []) (sym old))
    (sym (new_handler kind front inner own back hs))
    (one_moves f i h o w b r)

pub no_handler_clauses : (front inner back : List Block) → clauses 0 (front ++ (inner ++ back)) ≡ clauses 0 (front ++ Guarded inner [] ∷ back)
no_handler_clauses front inner back =
    let from : ℕ = length (code front) in
    let zero_more : 0 + length (code front) ≡ from = omega arith in
    let none_more : from + length (code inner) ≡ from + length (code inner) + 0 = omega arith in
    clauses_joined front (inner ++ back) 0
    ∙ ap (λ (n : ℕ). clauses 0 front ++ clauses n (inner ++ back)) zero_more
    ∙ ap (λ (l : List Region). clauses 0 front ++ l) (clauses_joined inner back from)
    ∙ ap (λ (n : ℕ). clauses 0 front ++ (clauses from inner ++ clauses n back)) none_more
    ∙ ap (λ (l : List Region). clauses 0 front ++ (l ++ clauses (from + length (code inner) + 0) back)) (sym (append-nil (clauses from inner)))
    ∙ sym (clauses_around front inner back [])

pub first_keeps_clauses : (kind : RegionKind) (front inner own back : List Block) → IsPermutation (clauses 0 (front ++ (inner ++ (own ++ back))) ++ clause_behind kind front inner [] own ∷ []) (clauses 0 (front ++ Guarded inner (record { kind = kind; blocks = own } ∷ []) ∷ back))
first_keeps_clauses kind front inner own back =
    subst (λ (l : List Region). IsPermutation (l ++ clause_behind kind front inner [] own ∷ []) (clauses 0 (front ++ Guarded inner (handler_of kind own ∷ []) ∷ back))) (sym (no_handler_clauses front inner (own ++ back))) (another_keeps_clauses kind front inner own back [])
