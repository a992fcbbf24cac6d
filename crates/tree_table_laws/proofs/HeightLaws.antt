-- How deep the clauses of a tree lie.
use Rattle.std.proofs.Common.{◌≡◌, ◌+◌, ◌≤◌, ℕ, Bool, true, false, cond, List, [], ◌∷◌, ◌++◌, length, map, refl, sym, subst, ap, ◌∙◌, append-nil, append_assoc, arith, length-append}
use Rattle.std.specs.Prelude.{max}
use Rattle.std.proofs.lemmas.List.Elements.{All-from_recursion, recursion_from_All}
use Rattle.cil_model.specs.declared.body.Region.{Region}
use Rattle.cil_model.specs.declared.tree.Block.TheOpen.{Block-F}
use Rattle.cil_model.specs.declared.tree.Block.TheFolds.{fold-Block, fold-Handler, fold-roll-Block, fold-roll-Handler, ind-Block}
use Rattle.cil_model.specs.declared.tree.Block.{Block, map-Block, roll-Block}
use Rattle.cil_model.specs.declared.tree.Handler.{Handler, Handler-F, map-Handler, roll-Handler}
use Rattle.region_tree.specs.Nesting.{deepest_around, depths_of, is_nested}
use Rattle.region_tree.specs.Trees.{Part, HandlerPart, joined_code, joined_clauses, handlers_code, handlers_clauses, own_clauses, block_part, handler_part, part, clauses}
use Rattle.body_tree.proofs.GuardLaws.{parts_clauses, parts_code}
use Rattle.tree_table_laws.specs.Tables.{HaveCode, LieWithin, block_height, handler_height, height, highest}
use Rattle.tree_table_laws.proofs.Lists.{Each, each_left, each_right, each_weaker}
use Rattle.tree_table_laws.proofs.Lying.{apart_nest_not, siblings_nest_not}
use Rattle.tree_table_laws.proofs.OrderLaws.{AllOrderly, AllPlaced, HasCode, IsOwn, Orderly, Within, blocks_orderly, guarded_orderly, handler_parted, inside_within, joined_within, own_are, own_within, parts_of, wider}

-- the depth of the deepest of some clauses in which one is nested
abbrev pub deep : Region → List Region → ℕ
deep x rs = deepest_around x rs (depths_of rs)

-- some clauses in front of others lie no deeper
abbrev AllDeep : ℕ → (xs behind : List Region) → Type 0
AllDeep m [] ctx = Unit {0}
AllDeep m (x ∷ xs) ctx = (deep x (xs ++ ctx) + 1 ≤ m) × AllDeep m xs ctx

all_lower : (m n : ℕ) (xs ctx : List Region) → m ≤ n → AllDeep m xs ctx → AllDeep n xs ctx
all_lower m n [] ctx h a = tt
all_lower m n (x ∷ xs) ctx h a = (omega (arith, h, a.0), all_lower m n xs ctx h a.1)

all_append : (m : ℕ) (xs ys ctx : List Region) → AllDeep m xs (ys ++ ctx) → AllDeep m ys ctx → AllDeep m (xs ++ ys) ctx
all_append m [] ys ctx a b = b
all_append m (x ∷ xs) ys ctx a b = (subst (λ (l : List Region). deep x l + 1 ≤ m) (sym (append_assoc xs ys ctx)) a.0, all_append m xs ys ctx a.1 b)

-- a clause between two places is nested in none that lies deeper
abbrev Bounded : (low high d : ℕ) → List Region → Type 0
Bounded low high d ctx = (x : Region) → Within low high x → deep x ctx ≤ d

-- a clause is nested in none of the first ones
passed : (x : Region) (xs ctx : List Region) → Each (λ y. is_nested x y ≡ false) xs → deep x (xs ++ ctx) ≡ deep x ctx
passed x [] ctx a = refl
passed x (y ∷ xs) ctx a =
    ap (λ (b : Bool). cond b (max (deep y (xs ++ ctx) + 1) (deep x (xs ++ ctx))) (deep x (xs ++ ctx))) a.0 ∙ passed x xs ctx a.1

-- nor in those behind it
passed_behind : (low mid high : ℕ) (x : Region) (xs ctx : List Region) → Within low mid x → Each (Within mid high) xs → deep x (xs ++ ctx) ≡ deep x ctx
passed_behind low mid high x xs ctx w a =
    passed x xs ctx (each_weaker (Within mid high) (λ y. is_nested x y ≡ false) (λ y v. apart_nest_not x y w.parts v.parts (omega (arith, w.to, v.from))) xs a)

-- ---- a try's own clauses

sibling_deep : (from to at : ℕ) (r : Region) (rs ctx : List Region) → IsOwn from to at r → Each (IsOwn from to at) rs → deep r (rs ++ ctx) ≡ deep r ctx
sibling_deep from to at r rs ctx o a =
    passed r rs ctx (each_weaker (IsOwn from to at) (λ y. is_nested r y ≡ false) (λ y k. siblings_nest_not y r k.parts o.parts (k.from_is ∙ sym o.from_is) (k.to_is ∙ sym o.to_is)) rs a)

own_deep : (from to at low high d : ℕ) (rs ctx : List Region) → Each (IsOwn from to at) rs → Each (Within low high) rs → Bounded low high d ctx → AllDeep (d + 1) rs ctx
own_deep from to at low high d [] ctx o w b = tt
own_deep from to at low high d (r ∷ rs) ctx o w b = (omega (arith, sibling_deep from to at r rs ctx o.0 o.1, b r w.0), own_deep from to at low high d rs ctx o.1 w.1 b)

-- what is nested in an own clause lies one deeper
in_own : (from to at low high d : ℕ) (rs ctx : List Region) → Each (IsOwn from to at) rs → Each (Within low high) rs → Bounded low high d ctx → Bounded low high (d + 1) (rs ++ ctx)
in_own from to at low high d [] ctx o w b x k = omega (arith, b x k)
in_own from to at low high d (r ∷ rs) ctx o w b x k =
    go (is_nested x r) (omega (arith, sibling_deep from to at r rs ctx o.0 o.1, b r w.0)) (in_own from to at low high d rs ctx o.1 w.1 b x k)
  where
    go : (t : Bool) → deep r (rs ++ ctx) + 1 ≤ d + 1 → deep x (rs ++ ctx) ≤ d + 1 → cond t (max (deep r (rs ++ ctx) + 1) (deep x (rs ++ ctx))) (deep x (rs ++ ctx)) ≤ d + 1
    go true f g = omega (arith, f, g)
    go false f g = g

-- ---- parts

-- a part by its height: its clauses lie no deeper than that within those behind it
record IsLow (n : ℕ) (p : Part) : Type 0 where
  orderly : Orderly p
  low : (q d : ℕ) (ctx : List Region) → Each HasCode (p.clauses q) → Bounded q (q + length p.code) d ctx → AllDeep (d + n) (p.clauses q) ctx

data AllLow : List ℕ → List Part → Type 0 where
  none : AllLow [] []
  more : {ns : List ℕ} {ps : List Part} (n : ℕ) (p : Part) → IsLow n p → AllLow ns ps → AllLow (n ∷ ns) (p ∷ ps)

are_orderly : {ns : List ℕ} {ps : List Part} → AllLow ns ps → AllOrderly ps
are_orderly none = AllOrderly.none
are_orderly (more n p l all) = AllOrderly.more p l.orderly (are_orderly all)

joined_low : {ns : List ℕ} {ps : List Part} → AllLow ns ps → (q d : ℕ) (ctx : List Region) → Each HasCode (joined_clauses q ps) → Bounded q (q + length (joined_code ps)) d ctx → AllDeep (d + highest ns) (joined_clauses q ps) ctx
joined_low none q d ctx c b = tt
joined_low (more {ns} {ps} n p l all) q d ctx c b =
    let end : ℕ = q + length p.code in
    let last : ℕ = q + length (joined_code (p ∷ ps)) in
    let long = length-append p.code (joined_code ps) in
    let rest : List Region = joined_clauses end ps in
    let own : Each HasCode (p.clauses q) = each_left HasCode (p.clauses q) rest c in
    let others : Each HasCode rest = each_right HasCode (p.clauses q) rest c in
    let later : Each (Within end (end + length (joined_code ps))) rest = joined_within ps (are_orderly all) end others in
    let first : Bounded q end d (rest ++ ctx) = λ x w. subst (λ (k : ℕ). k ≤ d) (sym (passed_behind q end (end + length (joined_code ps)) x rest ctx w later)) (b x (wider q end q last (omega arith) (omega (arith, long)) x w)) in
    all_append (d + highest (n ∷ ns)) (p.clauses q) rest ctx
    (all_lower (d + n) (d + highest (n ∷ ns)) (p.clauses q) (rest ++ ctx) (omega arith) (l.low q d (rest ++ ctx) own first))
    (all_lower (d + highest ns) (d + highest (n ∷ ns)) rest ctx (omega arith) (joined_low all end d ctx others (λ x w. b x (wider end (end + length (joined_code ps)) q last (omega arith) (omega (arith, long)) x w))))

guarded_low : {ns : List ℕ} {ps : List Part} {ms : List ℕ} (hs : List HandlerPart) → AllLow ns ps → AllLow ms (parts_of hs) → (q d : ℕ) (ctx : List Region) → Each HasCode ((block_part (Block-F.Guarded ps hs)).clauses q) → Bounded q (q + length (joined_code ps ++ handlers_code hs)) d ctx → AllDeep (d + (max (highest ns) (highest ms) + 1)) ((block_part (Block-F.Guarded ps hs)).clauses q) ctx
guarded_low {ns} {ps} {ms} hs li lh q d ctx c b =
    let to : ℕ = q + length (joined_code ps) in
    let inner : List Region = joined_clauses q ps in
    let inside : List Region = handlers_clauses to hs in
    let own : List Region = own_clauses q to to hs in
    let end : ℕ = to + length (handlers_code hs) in
    let long = length-append (joined_code ps) (handlers_code hs) in
    let last : ℕ = q + length (joined_code ps ++ handlers_code hs) in
    let most : ℕ = d + (max (highest ns) (highest ms) + 1) in
    let ci : Each HasCode inner = each_left HasCode inner (inside ++ own) c in
    let rest : Each HasCode (inside ++ own) = each_right HasCode inner (inside ++ own) c in
    let ch : Each HasCode inside = each_left HasCode inside own rest in
    let co : Each HasCode own = each_right HasCode inside own rest in
    let are : Each (IsOwn q to to) own = own_are q to to hs (omega arith) co in
    let wo : Each (Within q last) own = each_weaker (Within q end) (Within q last) (wider q end q last (omega arith) (omega (arith, long))) own (own_within q to to hs (omega arith) co) in
    let wh : Each (Within to end) inside = inside_within hs (are_orderly lh) to ch in
    let around : Bounded q last (d + 1) (own ++ ctx) = in_own q to to q last d own ctx are wo b in
    let to_inner : Bounded q to (d + 1) (inside ++ (own ++ ctx)) = λ x w. subst (λ (k : ℕ). k ≤ d + 1) (sym (passed_behind q to end x inside (own ++ ctx) w wh)) (around x (wider q to q last (omega arith) (omega (arith, long)) x w)) in
    all_append most inner (inside ++ own) ctx
    (subst (λ (l : List Region). AllDeep most inner l) (sym (append_assoc inside own ctx)) (all_lower (d + 1 + highest ns) most inner (inside ++ (own ++ ctx)) (omega arith) (joined_low li q (d + 1) (inside ++ (own ++ ctx)) ci to_inner)))
    (all_append most inside own ctx
    (all_lower (d + 1 + highest ms) most inside (own ++ ctx) (omega arith) (inside_low hs lh to (d + 1) (own ++ ctx) ch (λ x w. around x (wider to end q last (omega arith) (omega (arith, long)) x w))))
    (all_lower (d + 1) most own ctx (omega arith) (own_deep q to to q last d own ctx are wo b)))
  where
    inside_low : {ks : List ℕ} (gs : List HandlerPart) → AllLow ks (parts_of gs) → (at e : ℕ) (back : List Region) → Each HasCode (handlers_clauses at gs) → Bounded at (at + length (handlers_code gs)) e back → AllDeep (e + highest ks) (handlers_clauses at gs) back
    inside_low {ks} gs all at e back k f =
        subst (λ (l : List Region). AllDeep (e + highest ks) l back) (sym (parts_clauses gs at))
        (joined_low all at e back (subst (λ (l : List Region). Each HasCode l) (parts_clauses gs at) k) (λ x w. f x (wider at (at + length (joined_code (parts_of gs))) at (at + length (handlers_code gs)) (omega arith) (omega (arith, ap length (parts_code gs))) x w)))

-- ---- every block

abbrev block_high : Block → ℕ
block_high b = fold-Block ℕ ℕ block_height handler_height b

abbrev handler_high : Handler → ℕ
handler_high h = fold-Handler ℕ ℕ block_height handler_height h

abbrev BlockIsLow : Block → Type 0
BlockIsLow b = IsLow (block_high b) (part b)

abbrev HandlerIsLow : Handler → Type 0
HandlerIsLow h = IsLow (handler_high h) (handler_parted h).part

all_of : (es : List ((b : Block) × BlockIsLow b)) → AllLow (map block_high (map (λ e. e.0) es)) (map part (map (λ e. e.0) es))
all_of [] = none
all_of (e ∷ es) = more (block_high e.0) (part e.0) e.1 (all_of es)

handlers_of : (es : List ((h : Handler) × HandlerIsLow h)) → AllLow (map handler_high (map (λ e. e.0) es)) (parts_of (map handler_parted (map (λ e. e.0) es)))
handlers_of [] = none
handlers_of (e ∷ es) = more (handler_high e.0) (handler_parted e.0).part e.1 (handlers_of es)

code_is_low : (p : Part) → ((q : ℕ) → p.clauses q ≡ []) → IsLow 0 p
code_is_low p e = record {
  orderly = record { within = λ q c. subst (λ (l : List Region). Each (Within q (q + length p.code)) l) (sym (e q)) tt; placed = λ q es c b. subst (λ (l : List Region). AllPlaced es l) (sym (e q)) tt };
  low = λ q d ctx c b. subst (λ (l : List Region). AllDeep (d + 0) l ctx) (sym (e q)) tt;
}

guarded_is_low : {ns : List ℕ} {ps : List Part} {ms : List ℕ} (hs : List HandlerPart) → AllLow ns ps → AllLow ms (parts_of hs) → IsLow (max (highest ns) (highest ms) + 1) (block_part (Block-F.Guarded ps hs))
guarded_is_low {ns} {ps} {ms} hs li lh = record { orderly = guarded_orderly ps hs (are_orderly li) (are_orderly lh); low = guarded_low hs li lh }

blocks_are_low : {ns : List ℕ} {ps : List Part} → AllLow ns ps → IsLow (highest ns) (record { code = joined_code ps; clauses = λ q. joined_clauses q ps })
blocks_are_low {ns} {ps} all = record { orderly = blocks_orderly ps (are_orderly all); low = joined_low all }

in_block : (y : Block-F ((b : Block) × BlockIsLow b) ((h : Handler) × HandlerIsLow h)) → BlockIsLow (roll-Block (map-Block ((b : Block) × BlockIsLow b) ((h : Handler) × HandlerIsLow h) Block Handler (λ e. e.0) (λ e. e.0) y))
in_block (Block-F.Code is) = rw (fold-roll-Block ℕ ℕ block_height handler_height (Block-F.Code is), fold-roll-Block Part HandlerPart block_part handler_part (Block-F.Code is)) (code_is_low (block_part (Block-F.Code is)) (λ q. refl))
in_block (Block-F.Guarded inner handlers) =
    rw (fold-roll-Block ℕ ℕ block_height handler_height (Block-F.Guarded (map (λ e. e.0) inner) (map (λ e. e.0) handlers)), fold-roll-Block Part HandlerPart block_part handler_part (Block-F.Guarded (map (λ e. e.0) inner) (map (λ e. e.0) handlers)))
    (guarded_is_low (map handler_parted (map (λ e. e.0) handlers)) (all_of inner) (handlers_of handlers))

in_a_handler : (y : Handler-F ((b : Block) × BlockIsLow b) ((h : Handler) × HandlerIsLow h)) → HandlerIsLow (roll-Handler (map-Handler ((b : Block) × BlockIsLow b) ((h : Handler) × HandlerIsLow h) Block Handler (λ e. e.0) (λ e. e.0) y))
in_a_handler y =
    rw (fold-roll-Handler ℕ ℕ block_height handler_height (record { kind = y.kind; blocks = map (λ e. e.0) y.blocks }), fold-roll-Handler Part HandlerPart block_part handler_part (record { kind = y.kind; blocks = map (λ e. e.0) y.blocks }))
    (blocks_are_low (all_of y.blocks))

block_is_low : (b : Block) → BlockIsLow b
block_is_low = ind-Block BlockIsLow HandlerIsLow (λ x y is. subst (λ z. BlockIsLow (roll-Block z)) is (in_block y)) (λ x y is. subst (λ z. HandlerIsLow (roll-Handler z)) is (in_a_handler y))

all_low : (bs : List Block) → AllLow (map block_high bs) (map part bs)
all_low [] = none
all_low (b ∷ bs) = more (block_high b) (part b) (block_is_low b) (all_low bs)

depths : (m : ℕ) (rs : List Region) → AllDeep m rs [] → Each (λ d. d ≤ m) (depths_of rs)
depths m [] a = tt
depths m (r ∷ rs) a = (subst (λ (l : List Region). deep r l + 1 ≤ m) (append-nil rs) a.0, depths m rs a.1)

pub within_height : (at : ℕ) (bs : List Block) → HaveCode (clauses at bs) → LieWithin (height bs) (clauses at bs)
within_height at bs c =
    All-from_recursion (λ d. d ≤ height bs) (depths_of (clauses at bs))
    (depths (height bs) (clauses at bs) (all_lower (0 + height bs) (height bs) (clauses at bs) [] (omega arith) (joined_low (all_low bs) at 0 [] (recursion_from_All HasCode (clauses at bs) c) (λ x w. omega arith))))
