-- Control stays in the tree of a body that breaks none of the rules on edges and ends.
use Rattle.std.proofs.Common.{◌≡◌, ◌+◌, ◌<◌, ◌≤◌, ℕ, Bool, true, false, nat_lt, ◌||◌, ◌⊎◌, inl, inr, All, Some, List, [], ◌∷◌, ◌++◌, length, map, refl, sym, subst, ap, ◌∙◌, append-nil, append_assoc, arith, length-append}
use Rattle.std.specs.Prelude.{◌==◌, slice_get}
use Rattle.std.specs.List.{list_any}
use Rattle.std.proofs.lemmas.Bool.{and_from, both_ways, cases_lt, cond-false, cond-true, eq-eqb, ltb-false, ltb-true, or_left, or_right}
use Rattle.std.proofs.lemmas.List.Elements.{recursion_from_All}
use Rattle.std.proofs.lemmas.List.Folds.{list_any-append}
use Rattle.std.proofs.lemmas.Option.{slice_get_within}
use Rattle.cil_base.proofs.Small.{decide}
use Rattle.cil_base.specs.declared.refusal.Place.{Place}
use Rattle.cil_base.specs.Refusals.{NoneBroken}
use Rattle.cil_model.specs.declared.body.Instr.{Instr}
use Rattle.cil_model.specs.declared.body.Region.{Region}
use Rattle.cil_model.specs.declared.body.RegionKind.{RegionKind}
use Rattle.cil_model.specs.declared.tree.Block.TheOpen.{Block-F}
use Rattle.cil_model.specs.declared.tree.Block.TheFolds.{fold-roll-Block, fold-roll-Handler, ind-Block}
use Rattle.cil_model.specs.declared.tree.Block.{Block, map-Block, roll-Block}
use Rattle.cil_model.specs.declared.tree.Handler.{Handler, Handler-F, map-Handler, roll-Handler}
use Rattle.cil_model.specs.declared.tree.Tree.{Tree}
use Rattle.il_flow.specs.Successors.{successors}
use Rattle.region_tree.specs.Rules.{BreaksControl, in_handler}
use Rattle.region_tree.specs.Trees.{Part, HandlerPart, joined_code, joined_clauses, handlers_code, handlers_clauses, own_clauses, block_part, handler_part, part, body_of_tree, clauses, code}
use Rattle.tree_table_laws.specs.Flow.{Around, ControlStays, Ways, all_keep, around_body, block_ways, entered_among, handler_ways, instr_keeps, is_catch, is_cleanup, way_sizes, ways, within}
use Rattle.tree_table_laws.proofs.Lists.{Each, each_append, each_left, each_right, each_weaker}
use Rattle.tree_table_laws.proofs.Edges.{holds, outside_before, outside_behind}
use Rattle.tree_table_laws.proofs.FlowLaws.{AllSound, Good, HandlerSound, HandlersSound, Sound, are_orderly, handlers_orderly, last_first, own_row, same_sizes}
use Rattle.tree_table_laws.proofs.BodyFlowLaws.{block_way, code_sound, guarded_sound, handler_sound, handler_way}
use Rattle.tree_table_laws.proofs.NestLaws.{all_nest}
use Rattle.tree_table_laws.proofs.OrderLaws.{HasCode, IsOwn, Within, handler_parted, inside_within, joined_within, own_are}
use Rattle.tree_table_laws.proofs.Ranges.{Enters, Misses, misses_before, misses_behind}
use Rattle.tree_table_laws.proofs.RuleLaws.{keeps, nests}
use Rattle.tree_table_laws.proofs.BackLaws.{Lets, instr_back, lets_part}
use Rattle.tree_table_laws.proofs.KeptLaws.{AllGood, all_from, good_first, good_second, handler_is_part, lets_within, try_is_part}

-- ---- parts

record Full (w : Ways) (p : Part) : Type 0 where
  sound : Sound w p
  whole : (q t : ℕ) → Each HasCode (p.clauses q) → q ≤ t → t < q + length p.code → Each (Enters t) (p.clauses q) → w.entered q t ≡ true
  back : (a : Around) (q end : ℕ) (others : List Region) → Each HasCode (p.clauses q) → Lets a others (p.clauses q) q (q + length p.code) end → AllGood (others ++ p.clauses q) p.code q end → w.keeps a q ≡ true

data AllFull : List Ways → List Part → Type 0 where
  none : AllFull [] []
  more : {ws : List Ways} {ps : List Part} (w : Ways) (p : Part) → Full w p → AllFull ws ps → AllFull (w ∷ ws) (p ∷ ps)

all_sound : {ws : List Ways} {ps : List Part} → AllFull ws ps → AllSound ws ps
all_sound none = AllSound.none
all_sound (more w p f all) = AllSound.more w p f.sound (all_sound all)

joined_whole : {ws : List Ways} {ps : List Part} → AllFull ws ps → (q t : ℕ) → Each HasCode (joined_clauses q ps) → q ≤ t → t < q + length (joined_code ps) → Each (Enters t) (joined_clauses q ps) → entered_among q t ws ≡ true
joined_whole none q t c x y e = absurd (omega (arith, x, y))
joined_whole (more {ws} {ps} w p f all) q t c x y e =
    decide (nat_lt t (q + w.size))
    (λ z. cond-true (nat_lt t (q + w.size)) (w.entered q t) (entered_among (q + w.size) t ws) z ∙ f.whole q t (each_left HasCode (p.clauses q) (joined_clauses (q + length p.code) ps) c) x (omega (arith, ltb-true t (q + w.size) z, f.sound.size)) (each_left (Enters t) (p.clauses q) (joined_clauses (q + length p.code) ps) e))
    (λ z. cond-false (nat_lt t (q + w.size)) (w.entered q t) (entered_among (q + w.size) t ws) z ∙ ap (λ (n : ℕ). entered_among (q + n) t ws) f.sound.size ∙ joined_whole all (q + length p.code) t (each_right HasCode (p.clauses q) (joined_clauses (q + length p.code) ps) c) (omega (arith, ltb-false t (q + w.size) z, f.sound.size)) (omega (arith, y, length-append p.code (joined_code ps))) (each_right (Enters t) (p.clauses q) (joined_clauses (q + length p.code) ps) e))

joined_back : {ws : List Ways} {ps : List Part} → AllFull ws ps → (a : Around) (q end : ℕ) (others : List Region) → Each HasCode (joined_clauses q ps) → Lets a others (joined_clauses q ps) q (q + length (joined_code ps)) end → AllGood (others ++ joined_clauses q ps) (joined_code ps) q end → all_keep a q ws ≡ true
joined_back none a q end others c l g = refl
joined_back (more {ws} {ps} w p f all) a q end others c l g =
    let mid : ℕ = q + length p.code in
    let own : List Region = p.clauses q in
    let rest : List Region = joined_clauses mid ps in
    let last : ℕ = q + length (joined_code (p ∷ ps)) in
    let last2 : ℕ = mid + length (joined_code ps) in
    let long = length-append p.code (joined_code ps) in
    let co : Each HasCode own = each_left HasCode own rest c in
    let cr : Each HasCode rest = each_right HasCode own rest c in
    let later : Each (Misses q mid) rest = each_weaker (Within mid last2) (Misses q mid) (λ r n. misses_before mid last2 q mid r n (omega arith)) rest (joined_within ps (are_orderly (all_sound all)) mid cr) in
    let earlier : Each (Misses mid last2) own = each_weaker (Within q mid) (Misses mid last2) (λ r n. misses_behind q mid mid last2 r n (omega arith)) own (f.sound.orderly.within q co) in
    and_from (w.keeps a q) (all_keep a (q + w.size) ws)
    (f.back a q end (others ++ rest) co (lets_part a others rest own (own ++ rest) q last q mid end (λ P x y. each_append P own rest y x) later (omega arith) (omega (arith, long)) l)
    (good_first p.code (joined_code ps) (others ++ (own ++ rest)) ((others ++ rest) ++ own) q end (λ t. sym (last_first others rest own t)) g))
    (ap (λ (n : ℕ). all_keep a (q + n) ws) f.sound.size
    ∙ joined_back all a mid end (others ++ own) cr (lets_part a others own rest (own ++ rest) q last mid last2 end (λ P x y. each_append P own rest x y) earlier (omega arith) (omega (arith, long)) l)
    (good_second p.code (joined_code ps) (others ++ (own ++ rest)) ((others ++ own) ++ rest) q end (λ t. ap (list_any t) (sym (append_assoc others own rest))) g))

-- ---- handlers

-- whatever code a handler has goes to all places of it that may be entered, so it is let
abbrev LetsIn : RegionKind → Around → (others own : List Region) → (q high end : ℕ) → Type 0
LetsIn kind a others own q high end = (g : ℕ → Bool) → ((t : ℕ) → q ≤ t → t < high → Each (Enters t) own → g t ≡ true) → Lets (within g (is_catch kind) (is_cleanup kind) (is_catch kind) a) others own q high end

record HandlerFull (w : Ways) (h : HandlerPart) : Type 0 where
  sound : HandlerSound w h
  back : (a : Around) (q end : ℕ) (others : List Region) → Each HasCode (h.part.clauses q) → LetsIn h.kind a others (h.part.clauses q) q (q + length h.part.code) end → AllGood (others ++ h.part.clauses q) h.part.code q end → w.keeps a q ≡ true

data HandlersFull : List Ways → List HandlerPart → Type 0 where
  none : HandlersFull [] []
  more : {ws : List Ways} {hs : List HandlerPart} (w : Ways) (h : HandlerPart) → HandlerFull w h → HandlersFull ws hs → HandlersFull (w ∷ ws) (h ∷ hs)

handlers_sound : {ws : List Ways} {hs : List HandlerPart} → HandlersFull ws hs → HandlersSound ws hs
handlers_sound none = HandlersSound.none
handlers_sound (more w h f all) = HandlersSound.more w h f.sound (handlers_sound all)

rows_miss : (from to at low high : ℕ) (rs : List Region) → to ≤ low → high ≤ at → Each (IsOwn from to at) rs → Each (Misses low high) rs
rows_miss from to at low high rs x y o =
    each_weaker (IsOwn from to at) (Misses low high) (λ r k. record { tries = λ n u v. outside_behind r.try_from r.try_to n (omega (arith, x, u, k.to_is)); handlers = λ n u v. outside_before r.handler_from r.handler_to n (omega (arith, y, v, k.starts)) }) rs o

-- ---- the clauses of a table in another order of its parts

both : {a b c d : Bool} → a ≡ b → c ≡ d → (a || c) ≡ (b || d)
both {a} {b} {c} {d} e f = ap (λ (x : Bool). x || c) e ∙ ap (λ (x : Bool). b || x) f

any_of : (p : Region → Bool) (xs ys : List Region) {a b : Bool} → list_any p xs ≡ a → list_any p ys ≡ b → list_any p (xs ++ ys) ≡ (a || b)
any_of p xs ys e f = list_any-append p xs ys ∙ both e f

six : (o b r w h i : List Region) (p : Region → Bool) → list_any p ((o ++ b) ++ ((r ++ w) ++ (h ++ i))) ≡ ((list_any p o || list_any p b) || ((list_any p r || list_any p w) || (list_any p h || list_any p i)))
six o b r w h i p = any_of p (o ++ b) ((r ++ w) ++ (h ++ i)) (list_any-append p o b) (any_of p (r ++ w) (h ++ i) (list_any-append p r w) (list_any-append p h i))

first_order : (o b r w h i : Bool) → ((o || b) || ((r || w) || (h || i))) ≡ (((o || (b || (w || i))) || r) || h)
first_order true b r w h i = refl
first_order false true r w h i = refl
first_order false false true true h i = refl
first_order false false false true h i = refl
first_order false false true false h true = refl
first_order false false false false true true = refl
first_order false false false false false true = refl
first_order false false true false h false = refl
first_order false false false false true false = refl
first_order false false false false false false = refl

handler_first : (o b r w h i : List Region) (p : Region → Bool) → list_any p ((o ++ b) ++ ((r ++ w) ++ (h ++ i))) ≡ list_any p (((o ++ (b ++ (w ++ i))) ++ r) ++ h)
handler_first o b r w h i p =
    six o b r w h i p ∙ first_order (list_any p o) (list_any p b) (list_any p r) (list_any p w) (list_any p h) (list_any p i)
    ∙ sym (any_of p ((o ++ (b ++ (w ++ i))) ++ r) h (any_of p (o ++ (b ++ (w ++ i))) r (any_of p o (b ++ (w ++ i)) refl (any_of p b (w ++ i) refl (list_any-append p w i))) refl) refl)

rest_order : (o b r w h i : Bool) → ((o || b) || ((r || w) || (h || i))) ≡ ((o || (b || (r || h))) || (w || i))
rest_order true b r w h i = refl
rest_order false true r w h i = refl
rest_order false false true w h i = refl
rest_order false false false true true i = refl
rest_order false false false false true i = refl
rest_order false false false w false i = refl

handlers_rest : (o b r w h i : List Region) (p : Region → Bool) → list_any p ((o ++ b) ++ ((r ++ w) ++ (h ++ i))) ≡ list_any p ((o ++ (b ++ (r ++ h))) ++ (w ++ i))
handlers_rest o b r w h i p =
    six o b r w h i p ∙ rest_order (list_any p o) (list_any p b) (list_any p r) (list_any p w) (list_any p h) (list_any p i)
    ∙ sym (any_of p (o ++ (b ++ (r ++ h))) (w ++ i) (any_of p o (b ++ (r ++ h)) refl (any_of p b (r ++ h) refl (list_any-append p r h))) (list_any-append p w i))

swap_order : (o i s w : Bool) → (o || (i || (s || w))) ≡ ((o || i) || (w || s))
swap_order true i s w = refl
swap_order false true s w = refl
swap_order false false true true = refl
swap_order false false true false = refl
swap_order false false false true = refl
swap_order false false false false = refl

own_before_inside : (o i s w : List Region) (p : Region → Bool) → list_any p (o ++ (i ++ (s ++ w))) ≡ list_any p ((o ++ i) ++ (w ++ s))
own_before_inside o i s w p =
    any_of p o (i ++ (s ++ w)) refl (any_of p i (s ++ w) refl (list_any-append p s w)) ∙ swap_order (list_any p o) (list_any p i) (list_any p s) (list_any p w)
    ∙ sym (any_of p (o ++ i) (w ++ s) (list_any-append p o i) (list_any-append p w s))

inner_last : (o i s w : List Region) (p : Region → Bool) → list_any p (o ++ (i ++ (s ++ w))) ≡ list_any p (((o ++ s) ++ w) ++ i)
inner_last o i s w p = sym (last_first o (s ++ w) i p) ∙ ap (λ (l : List Region). list_any p (l ++ i)) (sym (append_assoc o s w))

-- ---- each handler

miss_less : (low high c d : ℕ) → low ≤ c → d ≤ high → (r : Region) → Misses low high r → Misses c d r
miss_less low high c d x y r m = record { tries = λ k u v. m.tries k (omega (arith, x, u)) (omega (arith, y, v)); handlers = λ k u v. m.handlers k (omega (arith, x, u)) (omega (arith, y, v)) }

handlers_back : {ws : List Ways} {hs : List HandlerPart} → HandlersFull ws hs → (a : Around) (q last end : ℕ) (others all : List Region) → Lets a others all q last end → (from to at : ℕ) → to ≤ at → q ≤ at → at + length (handlers_code hs) ≤ last → (beside : List Region) → Each (Misses at last) beside → Each HasCode (own_clauses from to at hs) → Each HasCode (handlers_clauses at hs) → ((P : Region → Type 0) → Each P beside → Each P (own_clauses from to at hs) → Each P (handlers_clauses at hs) → Each P all) → AllGood ((others ++ beside) ++ (own_clauses from to at hs ++ handlers_clauses at hs)) (handlers_code hs) at end → all_keep a at ws ≡ true
handlers_back none a q last end others all l from to at x lo hi beside m co ch join g = refl
handlers_back (more {ws} {hs} v h f rest_full) a q last end others all l from to at x lo hi beside m co ch join g =
    let e : ℕ = at + length h.part.code in
    let r : Region = own_row from to at e h.kind in
    let w : List Region = own_clauses from to e hs in
    let i : List Region = handlers_clauses e hs in
    let own : List Region = h.part.clauses at in
    let long = length-append h.part.code (handlers_code hs) in
    let c_own : Each HasCode own = each_left HasCode own i ch in
    let c_rest : Each HasCode i = each_right HasCode own i ch in
    let beside_one : Each (Misses at e) (beside ++ (w ++ i))
    = each_append (Misses at e) beside (w ++ i) (each_weaker (Misses at last) (Misses at e) (miss_less at last at e (omega arith) (omega (arith, hi, long))) beside m)
    (each_append (Misses at e) w i (rows_miss from to e at e w x (omega arith) (own_are from to e hs (omega (arith, x)) co.1))
    (each_weaker (Within e (e + length (handlers_code hs))) (Misses at e) (λ s n. misses_before e (e + length (handlers_code hs)) at e s n (omega arith)) i (inside_within hs (handlers_orderly (handlers_sound rest_full)) e c_rest))) in
    let row_misses : Misses e last r = record { tries = λ k u z. outside_behind from to k (omega (arith, x, u)); handlers = λ k u z. outside_behind at e k u } in
    let beside_rest : Each (Misses e last) (beside ++ (r ∷ own))
    = each_append (Misses e last) beside (r ∷ own) (each_weaker (Misses at last) (Misses e last) (miss_less at last e last (omega arith) (omega arith)) beside m)
    (row_misses, each_weaker (Within at e) (Misses e last) (λ s n. misses_behind at e e last s n (omega arith)) own (f.sound.orderly.within at c_own)) in
    and_from (v.keeps a at) (all_keep a (at + v.size) ws)
    (f.back a at end ((others ++ (beside ++ (w ++ i))) ++ (r ∷ [])) c_own
    (λ goes whole. lets_within goes (is_catch h.kind) (is_cleanup h.kind) (is_catch h.kind) a others (beside ++ (w ++ i)) (r ∷ []) own all q last at e end
    (λ P b rr hh. join P (each_left P beside (w ++ i) b) (rr.0, each_left P w i (each_right P beside (w ++ i) b)) (each_append P own i hh (each_right P w i (each_right P beside (w ++ i) b))))
    beside_one (handler_is_part from to at e h.kind x) whole lo (omega (arith, hi, long)) l)
    (good_first h.part.code (handlers_code hs) ((others ++ beside) ++ ((r ∷ w) ++ (own ++ i))) (((others ++ (beside ++ (w ++ i))) ++ (r ∷ [])) ++ own) at end (handler_first others beside (r ∷ []) w own i) g))
    (ap (λ (n : ℕ). all_keep a (at + n) ws) f.sound.size
    ∙ handlers_back rest_full a q last end others all l from to e (omega (arith, x)) (omega (arith, lo)) (omega (arith, hi, long)) (beside ++ (r ∷ own)) beside_rest co.1 c_rest
    (λ P b ow ins. join P (each_left P beside (r ∷ own) b) ((each_right P beside (r ∷ own) b).0, ow) (each_append P own i (each_right P beside (r ∷ own) b).1 ins))
    (good_second h.part.code (handlers_code hs) ((others ++ beside) ++ ((r ∷ w) ++ (own ++ i))) ((others ++ (beside ++ (r ∷ own))) ++ (w ++ i)) at end (handlers_rest others beside (r ∷ []) w own i) g))

handler_full : {ws : List Ways} {ps : List Part} (kind : RegionKind) → AllFull ws ps → HandlerFull (handler_ways (record { kind = kind; blocks = ws })) (handler_part (record { kind = kind; blocks = ps }))
handler_full {ws} {ps} kind all = record {
  sound = handler_sound kind (all_sound all);
  back = λ a q end others c lets g. joined_back all (within (λ t. entered_among q t ws) (is_catch kind) (is_cleanup kind) (is_catch kind) a) q end others c (lets (λ t. entered_among q t ws) (λ t x y e. joined_whole all q t c x y e)) g;
}

-- ---- blocks

code_full : (is : List Instr) → Full (block_ways (Block-F.Code is)) (block_part (Block-F.Code is))
code_full is = record {
  sound = code_sound is;
  whole = λ q t c x y e. holds q (q + length is) t x y;
  back = λ a q end others c l g. all_from (instr_keeps a) q is (λ k i e. instr_back a others q (q + length is) end (q + k) i l (omega arith) (high q k i e) (subst (λ (rs : List Region). Good rs (q + k) i) (append-nil others) (g k i e).0) (g k i e).1);
}
  where
    high : (q k : ℕ) (i : Instr) → slice_get is k ≡ Some i → q + k < q + length is
    high q k i e = omega (arith, slice_get_within is k i e)

rows_cover : (from to at t : ℕ) (hs : List HandlerPart) → at ≤ t → t < at + length (handlers_code hs) → Each (Enters t) (own_clauses from to at hs) → ⊥
rows_cover from to at t [] x y e = omega (arith, x, y)
rows_cover from to at t (h ∷ hs) x y e = go (cases_lt t (at + length h.part.code)) (λ z. rows_cover from to (at + length h.part.code) t hs z (omega (arith, y, length-append h.part.code (handlers_code hs))) e.1)
  where
    go : (t < at + length h.part.code) ⊎ (at + length h.part.code ≤ t) → (at + length h.part.code ≤ t → ⊥) → ⊥
    go (inl z) f = both_ways (in_handler (own_row from to at (at + length h.part.code) h.kind) t) e.0.no_handler (holds at (at + length h.part.code) t x z)
    go (inr z) f = f z

handled_full : {wi : List Ways} {ps : List Part} {wh : List Ways} {hs : List HandlerPart} (v : Ways) (h : HandlerPart) → AllFull wi ps → HandlersFull (v ∷ wh) (h ∷ hs) → Full (block_ways (Block-F.Guarded wi (v ∷ wh))) (block_part (Block-F.Guarded ps (h ∷ hs)))
handled_full {wi} {ps} {wh} {hs} v h fi fh = record {
  sound = guarded_sound (all_sound fi) (handlers_sound fh);
  whole = λ q t c x y e. eq-eqb t q (at_start q t x y (each_right (Enters t) (handlers_clauses (q + length (joined_code ps)) (h ∷ hs)) (own_clauses q (q + length (joined_code ps)) (q + length (joined_code ps)) (h ∷ hs)) (each_right (Enters t) (joined_clauses q ps) (handlers_clauses (q + length (joined_code ps)) (h ∷ hs) ++ own_clauses q (q + length (joined_code ps)) (q + length (joined_code ps)) (h ∷ hs)) e)) (cases_lt t (q + length (joined_code ps))));
  back = λ a q end others c l g. back a q end others c l g;
}
  where
    at_start : (q t : ℕ) → q ≤ t → t < q + length (joined_code ps ++ handlers_code (h ∷ hs)) → Each (Enters t) (own_clauses q (q + length (joined_code ps)) (q + length (joined_code ps)) (h ∷ hs)) → (t < q + length (joined_code ps)) ⊎ (q + length (joined_code ps) ≤ t) → t ≡ q
    at_start q t x y e (inl z) = e.0.at_try (holds q (q + length (joined_code ps)) t x z)
    at_start q t x y e (inr z) = absurd (rows_cover q (q + length (joined_code ps)) (q + length (joined_code ps)) t (h ∷ hs) z (omega (arith, y, length-append (joined_code ps) (handlers_code (h ∷ hs)))) e)

    back : (a : Around) (q end : ℕ) (others : List Region) → Each HasCode ((block_part (Block-F.Guarded ps (h ∷ hs))).clauses q) → Lets a others ((block_part (Block-F.Guarded ps (h ∷ hs))).clauses q) q (q + length (joined_code ps ++ handlers_code (h ∷ hs))) end → AllGood (others ++ (block_part (Block-F.Guarded ps (h ∷ hs))).clauses q) (joined_code ps ++ handlers_code (h ∷ hs)) q end → (block_ways (Block-F.Guarded wi (v ∷ wh))).keeps a q ≡ true
    back a q end others c l g =
        let to : ℕ = q + length (joined_code ps) in
        let inner : List Region = joined_clauses q ps in
        let inside : List Region = handlers_clauses to (h ∷ hs) in
        let own : List Region = own_clauses q to to (h ∷ hs) in
        let all : List Region = inner ++ (inside ++ own) in
        let last : ℕ = q + length (joined_code ps ++ handlers_code (h ∷ hs)) in
        let long = length-append (joined_code ps) (handlers_code (h ∷ hs)) in
        let ci : Each HasCode inner = each_left HasCode inner (inside ++ own) c in
        let ch : Each HasCode inside = each_left HasCode inside own (each_right HasCode inner (inside ++ own) c) in
        let co : Each HasCode own = each_right HasCode inside own (each_right HasCode inner (inside ++ own) c) in
        let orderly = handlers_orderly (handlers_sound fh) in
        let goes : ℕ → Bool = λ t. entered_among q t wi in
        let beside : Each (Misses q to) inside = each_weaker (Within to (to + length (handlers_code (h ∷ hs)))) (Misses q to) (λ s n. misses_before to (to + length (handlers_code (h ∷ hs))) q to s n (omega arith)) inside (inside_within (h ∷ hs) orderly to ch) in
        let before : Each (Misses to last) inner = each_weaker (Within q to) (Misses to last) (λ s n. misses_behind q to to last s n (omega arith)) inner (joined_within ps (are_orderly (all_sound fi)) q ci) in
        and_from (all_keep (within goes true false false a) q wi) (all_keep a (q + way_sizes wi) (v ∷ wh))
        (joined_back fi (within goes true false false a) q end ((others ++ inside) ++ own) ci
        (lets_within goes true false false a others inside own inner all q last q to end (λ P s w i. each_append P inner (inside ++ own) i (each_append P inside own s w)) beside (try_is_part q to (own_row q to to (to + length h.part.code) h.kind) (own_clauses q to (to + length h.part.code) hs) (own_are q to to (h ∷ hs) (omega arith) co)) (λ t x y e. joined_whole fi q t ci x y e) (omega arith) (omega (arith, long)) l)
        (good_first (joined_code ps) (handlers_code (h ∷ hs)) (others ++ all) (((others ++ inside) ++ own) ++ inner) q end (inner_last others inner inside own) g))
        (ap (λ (n : ℕ). all_keep a (q + n) (v ∷ wh)) (same_sizes (all_sound fi))
        ∙ handlers_back fh a q last end others all l q to to (omega arith) (omega arith) (omega (arith, long)) inner before co ch (λ P i w s. each_append P inner (inside ++ own) i (each_append P inside own s w))
        (good_second (joined_code ps) (handlers_code (h ∷ hs)) (others ++ all) ((others ++ inner) ++ (own ++ inside)) q end (own_before_inside others inner inside own) g))

bare_full : {wi : List Ways} {ps : List Part} → AllFull wi ps → Full (block_ways (Block-F.Guarded wi [])) (block_part (Block-F.Guarded ps []))
bare_full {wi} {ps} all = record {
  sound = guarded_sound (all_sound all) HandlersSound.none;
  whole = λ q t c x y e. joined_whole all q t (subst (Each HasCode) (append-nil (joined_clauses q ps)) c) x (omega (arith, y, ap length (append-nil (joined_code ps)))) (subst (Each (Enters t)) (append-nil (joined_clauses q ps)) e);
  back = λ a q end others c l g. joined_back all a q end others (subst (Each HasCode) (append-nil (joined_clauses q ps)) c)
      (subst (λ (is : List Instr). Lets a others (joined_clauses q ps) q (q + length is) end) (append-nil (joined_code ps)) (subst (λ (rs : List Region). Lets a others rs q (q + length (joined_code ps ++ [])) end) (append-nil (joined_clauses q ps)) l))
      (subst (λ (is : List Instr). AllGood (others ++ joined_clauses q ps) is q end) (append-nil (joined_code ps)) (subst (λ (rs : List Region). AllGood (others ++ rs) (joined_code ps ++ []) q end) (append-nil (joined_clauses q ps)) g));
}

guarded_full : {wi : List Ways} {ps : List Part} {wh : List Ways} {hs : List HandlerPart} → AllFull wi ps → HandlersFull wh hs → Full (block_ways (Block-F.Guarded wi wh)) (block_part (Block-F.Guarded ps hs))
guarded_full fi HandlersFull.none = bare_full fi
guarded_full fi (HandlersFull.more v h f all) = handled_full v h fi (HandlersFull.more v h f all)

-- ---- every block

abbrev BlockIsFull : Block → Type 0
BlockIsFull b = Full (block_way b) (part b)

abbrev HandlerIsFull : Handler → Type 0
HandlerIsFull h = HandlerFull (handler_way h) (handler_parted h)

all_of : (es : List ((b : Block) × BlockIsFull b)) → AllFull (map block_way (map (λ e. e.0) es)) (map part (map (λ e. e.0) es))
all_of [] = AllFull.none
all_of (e ∷ es) = AllFull.more (block_way e.0) (part e.0) e.1 (all_of es)

handlers_of : (es : List ((h : Handler) × HandlerIsFull h)) → HandlersFull (map handler_way (map (λ e. e.0) es)) (map handler_parted (map (λ e. e.0) es))
handlers_of [] = HandlersFull.none
handlers_of (e ∷ es) = HandlersFull.more (handler_way e.0) (handler_parted e.0) e.1 (handlers_of es)

in_block : (y : Block-F ((b : Block) × BlockIsFull b) ((h : Handler) × HandlerIsFull h)) → BlockIsFull (roll-Block (map-Block ((b : Block) × BlockIsFull b) ((h : Handler) × HandlerIsFull h) Block Handler (λ e. e.0) (λ e. e.0) y))
in_block (Block-F.Code is) = rw (fold-roll-Block Ways Ways block_ways handler_ways (Block-F.Code is), fold-roll-Block Part HandlerPart block_part handler_part (Block-F.Code is)) (code_full is)
in_block (Block-F.Guarded inner handlers) =
    rw (fold-roll-Block Ways Ways block_ways handler_ways (Block-F.Guarded (map (λ e. e.0) inner) (map (λ e. e.0) handlers)), fold-roll-Block Part HandlerPart block_part handler_part (Block-F.Guarded (map (λ e. e.0) inner) (map (λ e. e.0) handlers)))
    (guarded_full (all_of inner) (handlers_of handlers))

in_a_handler : (y : Handler-F ((b : Block) × BlockIsFull b) ((h : Handler) × HandlerIsFull h)) → HandlerIsFull (roll-Handler (map-Handler ((b : Block) × BlockIsFull b) ((h : Handler) × HandlerIsFull h) Block Handler (λ e. e.0) (λ e. e.0) y))
in_a_handler y =
    rw (fold-roll-Handler Ways Ways block_ways handler_ways (record { kind = y.kind; blocks = map (λ e. e.0) y.blocks }), fold-roll-Handler Part HandlerPart block_part handler_part (record { kind = y.kind; blocks = map (λ e. e.0) y.blocks }))
    (handler_full y.kind (all_of y.blocks))

block_is_full : (b : Block) → BlockIsFull b
block_is_full = ind-Block BlockIsFull HandlerIsFull (λ x y is. subst (λ z. BlockIsFull (roll-Block z)) is (in_block y)) (λ x y is. subst (λ z. HandlerIsFull (roll-Handler z)) is (in_a_handler y))

all_full : (bs : List Block) → AllFull (ways bs) (map part bs)
all_full [] = AllFull.none
all_full (b ∷ bs) = AllFull.more (block_way b) (part b) (block_is_full b) (all_full bs)

-- ---- the body

body_lets : (bs : List Block) → Each HasCode (clauses 0 bs) → Lets (around_body bs) [] (clauses 0 bs) 0 (0 + length (code bs)) (length (code bs))
body_lets bs c = record {
  goes = λ k t x y h o e. goes t h e (cases_lt t (length (code bs)));
  reached = λ k t x y h o e. or_left (entered_among 0 t (ways bs) || (t == way_sizes (ways bs))) false (goes t h e (cases_lt t (length (code bs))));
  leaves = λ e. absurd (both_ways false refl e);
  returns = λ k x y e. refl;
  can_leave = λ k x y e. absurd (both_ways false refl e);
  can_end = λ k x y e. absurd (both_ways false refl e);
  can_rethrow = λ k x y e. absurd (both_ways false refl e);
}
  where
    goes : (t : ℕ) → t ≤ length (code bs) → Each (Enters t) (clauses 0 bs) → (t < length (code bs)) ⊎ (length (code bs) ≤ t) → (entered_among 0 t (ways bs) || (t == way_sizes (ways bs))) ≡ true
    goes t h e (inl x) = or_left (entered_among 0 t (ways bs)) (t == way_sizes (ways bs)) (joined_whole (all_full bs) 0 t c (omega arith) (omega (arith, x)) e)
    goes t h e (inr x) = or_right (entered_among 0 t (ways bs)) (t == way_sizes (ways bs)) (eq-eqb t (way_sizes (ways bs)) (omega (arith, h, x, same_sizes (all_sound (all_full bs)))))

pub control_stays : (place : Place) (t : Tree) → NoneBroken (BreaksControl place (body_of_tree t)) → ((k : ℕ) (i : Instr) → slice_get (code t.blocks) k ≡ Some i → All (λ s. s ≤ length (code t.blocks)) (successors k i)) → ControlStays t.blocks
control_stays place t unbroken inside =
    let c : Each HasCode (clauses 0 t.blocks) = (all_nest place (body_of_tree t) [] (clauses 0 t.blocks) refl (nests place (body_of_tree t) unbroken)).code in
    let b = keeps place (body_of_tree t) unbroken in
    joined_back (all_full t.blocks) (around_body t.blocks) 0 (length (code t.blocks)) [] c (body_lets t.blocks c)
    (λ k i e. at k (0 + k) (omega arith) i (record { edges = b.edges k i e; ends = b.ends k i e }) (recursion_from_All (λ s. s ≤ length (code t.blocks)) (successors k i) (inside k i e)))
  where
    at : (k n : ℕ) → k ≡ n → (i : Instr) → Good (clauses 0 t.blocks) k i → Each (λ s. s ≤ length (code t.blocks)) (successors k i) → Good (clauses 0 t.blocks) n i × Each (λ s. s ≤ length (code t.blocks)) (successors n i)
    at k n e i g s = (subst (λ (m : ℕ). Good (clauses 0 t.blocks) m i) e g, subst (λ (m : ℕ). Each (λ x. x ≤ length (code t.blocks)) (successors m i)) e s)
