-- The clauses of a tree lie as they may, each behind those before it in the table.
use Rattle.std.proofs.Common.{◌≡◌, ◌+◌, ◌≤◌, ℕ, Bool, true, false, cond, List, [], ◌∷◌, ◌++◌, filter, length, map, refl, sym, subst, ap, ◌∙◌, append-nil, append_assoc, arith, length-append}
use Rattle.std.specs.Prelude.{◌==◌, ◌&&◌}
use Rattle.std.specs.List.{list_any}
use Rattle.std.proofs.lemmas.Bool.{and_parts, ltb-true}
use Rattle.cil_model.specs.declared.body.Region.{Region}
use Rattle.cil_model.specs.declared.tree.Block.TheOpen.{Block-F}
use Rattle.cil_model.specs.declared.tree.Block.TheFolds.{fold-Handler, fold-roll-Block, fold-roll-Handler, ind-Block}
use Rattle.cil_model.specs.declared.tree.Block.{Block, map-Block, roll-Block}
use Rattle.cil_model.specs.declared.tree.Handler.{Handler, Handler-F, map-Handler, roll-Handler}
use Rattle.region_tree.specs.Nesting.{handler_start, has_parts, have_same_try, is_misplaced, last_place}
use Rattle.region_tree.specs.Trees.{Part, HandlerPart, joined_code, joined_clauses, handlers_code, handlers_clauses, own_clauses, block_part, handler_part, part, clauses, code}
use Rattle.block_laws.specs.Blocks.{HasParts, LiesWhole}
use Rattle.body_tree.proofs.GuardLaws.{parts_clauses, parts_code}
use Rattle.tree_table_laws.proofs.Lists.{Each, each_append, each_left, each_right, each_weaker, none_any}
use Rattle.tree_table_laws.proofs.Lying.{has_other_try, is_one_try, is_placed, siblings_are_placed}

-- both parts of a clause lie between two places
pub record Within (low high : ℕ) (r : Region) : Type 0 where
  pub parts : HasParts r
  pub from : low ≤ r.try_from
  pub to : r.handler_to ≤ high

abbrev pub HasCode : Region → Type 0
HasCode r = has_parts r ≡ true

-- a clause lies as it may behind the earlier ones, and its handler begins where it has to
pub record Placed (earlier : List Region) (r : Region) : Type 0 where
  pub lies : list_any (λ e. is_misplaced e r) earlier ≡ false
  pub start : r.handler_from ≡ handler_start earlier r

abbrev pub AllPlaced : (earlier rs : List Region) → Type 0
AllPlaced es [] = Unit {0}
AllPlaced es (r ∷ rs) = Placed es r × AllPlaced (es ++ r ∷ []) rs

pub placed_append : (es xs ys : List Region) → AllPlaced es xs → AllPlaced (es ++ xs) ys → AllPlaced es (xs ++ ys)
placed_append es [] ys a b = subst (λ (l : List Region). AllPlaced l ys) (append-nil es) b
placed_append es (x ∷ xs) ys a b = (a.0, placed_append (es ++ x ∷ []) xs ys a.1 (subst (λ (l : List Region). AllPlaced l ys) (sym (append_assoc es (x ∷ []) xs)) b))

pub wider : (a b c d : ℕ) → c ≤ a → b ≤ d → (r : Region) → Within a b r → Within c d r
wider a b c d x y r w = record { parts = w.parts; from = omega (arith, x, w.from); to = omega (arith, y, w.to) }

-- ---- where the handlers of a try begin

-- a place is where X2 wants the next handler of a try
abbrev StartsAt : List Region → (from to at : ℕ) → Type 0
StartsAt es from to at = (r : Region) → r.try_from ≡ from → r.try_to ≡ to → handler_start es r ≡ at

no_handler : (es : List Region) (r : Region) → Each (λ e. have_same_try e r ≡ false) es → handler_start es r ≡ r.try_to
no_handler [] r a = refl
no_handler (e ∷ es) r a =
    ap (λ (b : Bool). last_place r.try_to (map (λ (d : Region). d.handler_to) (cond b (e ∷ filter (λ (d : Region). have_same_try d r) es) (filter (λ (d : Region). have_same_try d r) es)))) a.0 ∙ no_handler es r a.1

last_of : (q : ℕ) (es : List Region) (x r : Region) → have_same_try x r ≡ true → last_place q (map (λ (d : Region). d.handler_to) (filter (λ (d : Region). have_same_try d r) (es ++ x ∷ []))) ≡ x.handler_to
last_of q [] x r t = ap (λ (b : Bool). last_place q (map (λ (d : Region). d.handler_to) (cond b (x ∷ []) []))) t
last_of q (e ∷ es) x r t = go (have_same_try e r) (λ p. last_of p es x r t)
  where
    rest : List Region
    rest = filter (λ (d : Region). have_same_try d r) (es ++ x ∷ [])

    go : (b : Bool) → ((p : ℕ) → last_place p (map (λ (d : Region). d.handler_to) rest) ≡ x.handler_to) → last_place q (map (λ (d : Region). d.handler_to) (cond b (e ∷ rest) rest)) ≡ x.handler_to
    go true l = l e.handler_to
    go false l = l q

-- ---- a try's own clauses

abbrev row : (from to at : ℕ) → HandlerPart → Region
row from to at h = record { kind = h.kind; try_from = from; try_to = to; handler_from = at; handler_to = at + length h.part.code }

row_parts : (from to at : ℕ) (h : HandlerPart) → to ≤ at → HasCode (row from to at h) → HasParts (row from to at h)
row_parts from to at h x c =
    let two = and_parts _ _ c in
    record { has_try = ltb-true from to two.0; is_behind = x; has_handler = ltb-true at (at + length h.part.code) two.1 }

-- an own clause from a place on
pub record IsOwn (from to at : ℕ) (r : Region) : Type 0 where
  pub parts : HasParts r
  pub from_is : r.try_from ≡ from
  pub to_is : r.try_to ≡ to
  pub starts : at ≤ r.handler_from

own_later : (from to a b : ℕ) → a ≤ b → (r : Region) → IsOwn from to b r → IsOwn from to a r
own_later from to a b x r o = record { parts = o.parts; from_is = o.from_is; to_is = o.to_is; starts = omega (arith, x, o.starts) }

pub own_are : (from to at : ℕ) (hs : List HandlerPart) → to ≤ at → Each HasCode (own_clauses from to at hs) → Each (IsOwn from to at) (own_clauses from to at hs)
own_are from to at [] x c = tt
own_are from to at (h ∷ hs) x c =
    let end : ℕ = at + length h.part.code in (
      record { parts = row_parts from to at h x c.0; from_is = refl; to_is = refl; starts = omega arith },
      each_weaker (IsOwn from to end) (IsOwn from to at) (own_later from to at end (omega arith)) (own_clauses from to end hs) (own_are from to end hs (omega (arith, x)) c.1),
    )

pub own_within : (from to at : ℕ) (hs : List HandlerPart) → to ≤ at → Each HasCode (own_clauses from to at hs) → Each (Within from (at + length (handlers_code hs))) (own_clauses from to at hs)
own_within from to at [] x c = tt
own_within from to at (h ∷ hs) x c =
    let end : ℕ = at + length h.part.code in
    let long = length-append h.part.code (handlers_code hs) in (
      record { parts = row_parts from to at h x c.0; from = omega arith; to = omega (arith, long) },
      each_weaker (Within from (end + length (handlers_code hs))) (Within from (at + length (handlers_code (h ∷ hs)))) (wider from (end + length (handlers_code hs)) from (at + length (handlers_code (h ∷ hs))) (omega arith) (omega (arith, long))) (own_clauses from to end hs) (own_within from to end hs (omega (arith, x)) c.1),
    )

-- an earlier clause, and those of a try that are still to come
abbrev MayPrecedeAll : List Region → Region → Type 0
MayPrecedeAll rs e = Each (λ r. is_misplaced e r ≡ false) rs

own_placed : (from to at : ℕ) (hs : List HandlerPart) (es : List Region) → to ≤ at → Each HasCode (own_clauses from to at hs) → Each (MayPrecedeAll (own_clauses from to at hs)) es → StartsAt es from to at → AllPlaced es (own_clauses from to at hs)
own_placed from to at [] es x c m s = tt
own_placed from to at (h ∷ hs) es x c m s =
    let end : ℕ = at + length h.part.code in
    let r : Region = row from to at h in
    let rest : List Region = own_clauses from to end hs in
    let rp : HasParts r = row_parts from to at h x c.0 in
    let its : MayPrecedeAll rest r = each_weaker (IsOwn from to end) (λ y. is_misplaced r y ≡ false) (λ y o. siblings_are_placed r y rp o.parts (sym o.from_is) (sym o.to_is) o.starts) rest (own_are from to end hs (omega (arith, x)) c.1) in
    let next : StartsAt (es ++ r ∷ []) from to end = λ y f t. last_of y.try_to es r y (is_one_try r y (sym f) (sym t)) in (
      record {
        lies = none_any (λ e. is_misplaced e r) es (each_weaker (MayPrecedeAll (r ∷ rest)) (λ e. is_misplaced e r ≡ false) (λ e k. k.0) es m);
        start = sym (s r refl refl);
      },
      own_placed from to end hs (es ++ r ∷ []) (omega (arith, x)) c.1 (each_append (MayPrecedeAll rest) es (r ∷ []) (each_weaker (MayPrecedeAll (r ∷ rest)) (MayPrecedeAll rest) (λ e k. k.1) es m) (its, tt)) next,
    )

-- ---- a clause behind, before, or in a part of each own clause of a try

-- an earlier clause lies whole in a part of a later one, or outside of both
abbrev Lies : Region → Region → Type 0
Lies e r = HasParts r × LiesWhole r e.try_from e.handler_to

abbrev LiesToAll : List Region → Region → Type 0
LiesToAll rs e = HasParts e × Each (Lies e) rs

may_precede : (rs : List Region) (e : Region) → LiesToAll rs e → MayPrecedeAll rs e
may_precede rs e l = each_weaker (Lies e) (λ r. is_misplaced e r ≡ false) (λ r k. is_placed e r l.0 k.0 k.1) rs l.1

in_front : (from to at : ℕ) (rs : List Region) → Each (IsOwn from to at) rs → (e : Region) → Within 0 from e → LiesToAll rs e
in_front from to at rs o e w = (w.parts, each_weaker (IsOwn from to at) (Lies e) (λ r k. (k.parts, LiesWhole.before (omega (arith, w.to, k.from_is)))) rs o)

in_the_try : (from to at : ℕ) (rs : List Region) → Each (IsOwn from to at) rs → (e : Region) → Within from to e → LiesToAll rs e
in_the_try from to at rs o e w = (w.parts, each_weaker (IsOwn from to at) (Lies e) (λ r k. (k.parts, LiesWhole.in_try (omega (arith, w.from, k.from_is)) (omega (arith, w.to, k.to_is)))) rs o)

-- in an earlier handler
in_earlier : (from to at end : ℕ) (rs : List Region) → to ≤ at → Each (IsOwn from to end) rs → (e : Region) → Within at end e → Each (Lies e) rs
in_earlier from to at end rs x o e w = each_weaker (IsOwn from to end) (Lies e) (λ r k. (k.parts, LiesWhole.between (omega (arith, x, w.from, k.to_is)) (omega (arith, w.to, k.starts)))) rs o

-- the handlers' parts one after another, each with the clauses in it
data HandlersLie : List HandlerPart → Type 0 where
  none : HandlersLie []
  more : {hs : List HandlerPart} (h : HandlerPart) → ((q : ℕ) → Each HasCode (h.part.clauses q) → Each (Within q (q + length h.part.code)) (h.part.clauses q)) → HandlersLie hs → HandlersLie (h ∷ hs)

in_handlers : (from to at : ℕ) (hs : List HandlerPart) → HandlersLie hs → to ≤ at → Each HasCode (handlers_clauses at hs) → Each HasCode (own_clauses from to at hs) → Each (λ e. HasParts e × (at ≤ e.try_from) × Each (Lies e) (own_clauses from to at hs)) (handlers_clauses at hs)
in_handlers from to at [] none x c d = tt
in_handlers from to at (h ∷ hs) (more _ within all) x c d =
    let end : ℕ = at + length h.part.code in
    let r : Region = row from to at h in
    let rp : HasParts r = row_parts from to at h x d.0 in
    let rest : List Region = own_clauses from to end hs in
    let later : Each (IsOwn from to end) rest = own_are from to end hs (omega (arith, x)) d.1 in
    let first : Each (Within at end) (h.part.clauses at) = within at (each_left HasCode (h.part.clauses at) (handlers_clauses end hs) c) in
    let others = in_handlers from to end hs all (omega (arith, x)) (each_right HasCode (h.part.clauses at) (handlers_clauses end hs) c) d.1 in
    each_append (λ e. HasParts e × (at ≤ e.try_from) × Each (Lies e) (r ∷ rest)) (h.part.clauses at) (handlers_clauses end hs)
    (each_weaker (Within at end) (λ e. HasParts e × (at ≤ e.try_from) × Each (Lies e) (r ∷ rest)) (λ e w. (w.parts, w.from, ((rp, LiesWhole.in_handler w.from w.to), in_earlier from to at end rest x later e w))) (h.part.clauses at) first)
    (each_weaker (λ e. HasParts e × (end ≤ e.try_from) × Each (Lies e) rest) (λ e. HasParts e × (at ≤ e.try_from) × Each (Lies e) (r ∷ rest)) (λ e k. (k.0, omega (arith, k.1), ((rp, LiesWhole.behind k.1), k.2))) (handlers_clauses end hs) others)

-- ---- parts

-- a part's clauses lie in it, and as they may behind clauses in front of it
pub record Orderly (p : Part) : Type 0 where
  pub within : (q : ℕ) → Each HasCode (p.clauses q) → Each (Within q (q + length p.code)) (p.clauses q)
  pub placed : (q : ℕ) (es : List Region) → Each HasCode (p.clauses q) → Each (Within 0 q) es → AllPlaced es (p.clauses q)

pub data AllOrderly : List Part → Type 0 where
  none : AllOrderly []
  more : {ps : List Part} (p : Part) → Orderly p → AllOrderly ps → AllOrderly (p ∷ ps)

pub joined_within : (ps : List Part) → AllOrderly ps → (q : ℕ) → Each HasCode (joined_clauses q ps) → Each (Within q (q + length (joined_code ps))) (joined_clauses q ps)
joined_within [] none q c = tt
joined_within (p ∷ ps) (more _ o all) q c =
    let end : ℕ = q + length p.code in
    let long = length-append p.code (joined_code ps) in
    let last : ℕ = q + length (joined_code (p ∷ ps)) in
    each_append (Within q last) (p.clauses q) (joined_clauses end ps)
    (each_weaker (Within q end) (Within q last) (wider q end q last (omega arith) (omega (arith, long))) (p.clauses q) (o.within q (each_left HasCode (p.clauses q) (joined_clauses end ps) c)))
    (each_weaker (Within end (end + length (joined_code ps))) (Within q last) (wider end (end + length (joined_code ps)) q last (omega arith) (omega (arith, long))) (joined_clauses end ps) (joined_within ps all end (each_right HasCode (p.clauses q) (joined_clauses end ps) c)))

pub joined_placed : (ps : List Part) → AllOrderly ps → (q : ℕ) (es : List Region) → Each HasCode (joined_clauses q ps) → Each (Within 0 q) es → AllPlaced es (joined_clauses q ps)
joined_placed [] none q es c b = tt
joined_placed (p ∷ ps) (more _ o all) q es c b =
    let end : ℕ = q + length p.code in
    let own : Each HasCode (p.clauses q) = each_left HasCode (p.clauses q) (joined_clauses end ps) c in
    placed_append es (p.clauses q) (joined_clauses end ps) (o.placed q es own b)
    (joined_placed ps all end (es ++ p.clauses q) (each_right HasCode (p.clauses q) (joined_clauses end ps) c)
    (each_append (Within 0 end) es (p.clauses q)
    (each_weaker (Within 0 q) (Within 0 end) (wider 0 q 0 end (omega arith) (omega arith)) es b)
    (each_weaker (Within q end) (Within 0 end) (wider q end 0 end (omega arith) (omega arith)) (p.clauses q) (o.within q own))))

abbrev pub parts_of : List HandlerPart → List Part
parts_of hs = map (λ (h : HandlerPart). h.part) hs

handlers_lie : (hs : List HandlerPart) → AllOrderly (parts_of hs) → HandlersLie hs
handlers_lie [] none = none
handlers_lie (h ∷ hs) (more _ o all) = more h o.within (handlers_lie hs all)

-- ---- a protected block

other_of : (e r : Region) (from to : ℕ) → r.try_from ≡ from → r.try_to ≡ to → ((e.try_from == from) && (e.try_to == to)) ≡ false → have_same_try e r ≡ false
other_of e r from to f t x =
    ap (λ (n : ℕ). (e.try_from == n) && (e.try_to == r.try_to)) f ∙ (ap (λ (n : ℕ). (e.try_from == from) && (e.try_to == n)) t ∙ x)

own_of_block : (from to : ℕ) (hs : List HandlerPart) (es : List Region) → Each HasCode (own_clauses from to to hs) → Each (LiesToAll (own_clauses from to to hs)) es → AllPlaced es (own_clauses from to to hs)
own_of_block from to [] es c l = tt
own_of_block from to (h ∷ hs) es c l =
    let own : List Region = own_clauses from to to (h ∷ hs) in
    own_placed from to to (h ∷ hs) es (omega arith) c (each_weaker (LiesToAll own) (MayPrecedeAll own) (may_precede own) es l)
    (λ r f t. no_handler es r (each_weaker (LiesToAll own) (λ e. have_same_try e r ≡ false) (λ e k. other_of e r from to f t (has_other_try e (row from to to h) k.0 k.1.0.0 k.1.0.1)) es l) ∙ t)

pub inside_within : (hs : List HandlerPart) → AllOrderly (parts_of hs) → (to : ℕ) → Each HasCode (handlers_clauses to hs) → Each (Within to (to + length (handlers_code hs))) (handlers_clauses to hs)
inside_within hs all to c =
    rw (parts_clauses hs to, parts_code hs) (joined_within (parts_of hs) all to (subst (λ (l : List Region). Each HasCode l) (parts_clauses hs to) c))

inside_placed : (hs : List HandlerPart) → AllOrderly (parts_of hs) → (to : ℕ) (es : List Region) → Each HasCode (handlers_clauses to hs) → Each (Within 0 to) es → AllPlaced es (handlers_clauses to hs)
inside_placed hs all to es c b =
    subst (λ (l : List Region). AllPlaced es l) (sym (parts_clauses hs to)) (joined_placed (parts_of hs) all to es (subst (λ (l : List Region). Each HasCode l) (parts_clauses hs to) c) b)

guarded_within : (ps : List Part) (hs : List HandlerPart) → AllOrderly ps → AllOrderly (parts_of hs) → (q : ℕ) → Each HasCode ((block_part (Block-F.Guarded ps hs)).clauses q) → Each (Within q (q + length (joined_code ps ++ handlers_code hs))) ((block_part (Block-F.Guarded ps hs)).clauses q)
guarded_within ps hs oi oh q c =
    let to : ℕ = q + length (joined_code ps) in
    let inner : List Region = joined_clauses q ps in
    let inside : List Region = handlers_clauses to hs in
    let own : List Region = own_clauses q to to hs in
    let end : ℕ = q + length (joined_code ps ++ handlers_code hs) in
    let long = length-append (joined_code ps) (handlers_code hs) in
    let rest : Each HasCode (inside ++ own) = each_right HasCode inner (inside ++ own) c in
    each_append (Within q end) inner (inside ++ own)
    (each_weaker (Within q to) (Within q end) (wider q to q end (omega arith) (omega (arith, long))) inner (joined_within ps oi q (each_left HasCode inner (inside ++ own) c)))
    (each_append (Within q end) inside own
    (each_weaker (Within to (to + length (handlers_code hs))) (Within q end) (wider to (to + length (handlers_code hs)) q end (omega arith) (omega (arith, long))) inside (inside_within hs oh to (each_left HasCode inside own rest)))
    (each_weaker (Within q (to + length (handlers_code hs))) (Within q end) (wider q (to + length (handlers_code hs)) q end (omega arith) (omega (arith, long))) own (own_within q to to hs (omega arith) (each_right HasCode inside own rest))))

guarded_placed : (ps : List Part) (hs : List HandlerPart) → AllOrderly ps → AllOrderly (parts_of hs) → (q : ℕ) (es : List Region) → Each HasCode ((block_part (Block-F.Guarded ps hs)).clauses q) → Each (Within 0 q) es → AllPlaced es ((block_part (Block-F.Guarded ps hs)).clauses q)
guarded_placed ps hs oi oh q es c b =
    let to : ℕ = q + length (joined_code ps) in
    let inner : List Region = joined_clauses q ps in
    let inside : List Region = handlers_clauses to hs in
    let own : List Region = own_clauses q to to hs in
    let ci : Each HasCode inner = each_left HasCode inner (inside ++ own) c in
    let rest : Each HasCode (inside ++ own) = each_right HasCode inner (inside ++ own) c in
    let ch : Each HasCode inside = each_left HasCode inside own rest in
    let co : Each HasCode own = each_right HasCode inside own rest in
    let are : Each (IsOwn q to to) own = own_are q to to hs (omega arith) co in
    let wi : Each (Within q to) inner = joined_within ps oi q ci in
    let before : Each (Within 0 to) (es ++ inner) = each_append (Within 0 to) es inner (each_weaker (Within 0 q) (Within 0 to) (wider 0 q 0 to (omega arith) (omega arith)) es b) (each_weaker (Within q to) (Within 0 to) (wider q to 0 to (omega arith) (omega arith)) inner wi) in
    let lie : Each (LiesToAll own) ((es ++ inner) ++ inside)
    = each_append (LiesToAll own) (es ++ inner) inside
    (each_append (LiesToAll own) es inner (each_weaker (Within 0 q) (LiesToAll own) (in_front q to to own are) es b) (each_weaker (Within q to) (LiesToAll own) (in_the_try q to to own are) inner wi))
    (each_weaker (λ e. HasParts e × (to ≤ e.try_from) × Each (Lies e) own) (LiesToAll own) (λ e k. (k.0, k.2)) inside (in_handlers q to to hs (handlers_lie hs oh) (omega arith) ch co)) in
    placed_append es inner (inside ++ own) (joined_placed ps oi q es ci b)
    (placed_append (es ++ inner) inside own (inside_placed hs oh to (es ++ inner) ch before) (own_of_block q to hs ((es ++ inner) ++ inside) co lie))

-- ---- every block

abbrev pub handler_parted : Handler → HandlerPart
handler_parted h = fold-Handler Part HandlerPart block_part handler_part h

abbrev BlockIsOrderly : Block → Type 0
BlockIsOrderly b = Orderly (part b)

abbrev HandlerIsOrderly : Handler → Type 0
HandlerIsOrderly h = Orderly (handler_parted h).part

all_of : (es : List ((b : Block) × BlockIsOrderly b)) → AllOrderly (map part (map (λ e. e.0) es))
all_of [] = none
all_of (e ∷ es) = more (part e.0) e.1 (all_of es)

handlers_of : (es : List ((h : Handler) × HandlerIsOrderly h)) → AllOrderly (parts_of (map handler_parted (map (λ e. e.0) es)))
handlers_of [] = none
handlers_of (e ∷ es) = more (handler_parted e.0).part e.1 (handlers_of es)

pub guarded_orderly : (ps : List Part) (hs : List HandlerPart) → AllOrderly ps → AllOrderly (parts_of hs) → Orderly (block_part (Block-F.Guarded ps hs))
guarded_orderly ps hs oi oh = record { within = guarded_within ps hs oi oh; placed = guarded_placed ps hs oi oh }

in_block : (y : Block-F ((b : Block) × BlockIsOrderly b) ((h : Handler) × HandlerIsOrderly h)) → BlockIsOrderly (roll-Block (map-Block ((b : Block) × BlockIsOrderly b) ((h : Handler) × HandlerIsOrderly h) Block Handler (λ e. e.0) (λ e. e.0) y))
in_block (Block-F.Code is) = rw (fold-roll-Block Part HandlerPart block_part handler_part (Block-F.Code is)) (record { within = λ q c. tt; placed = λ q es c b. tt })
in_block (Block-F.Guarded inner handlers) =
    rw (fold-roll-Block Part HandlerPart block_part handler_part (Block-F.Guarded (map (λ e. e.0) inner) (map (λ e. e.0) handlers)))
    (guarded_orderly (map part (map (λ e. e.0) inner)) (map handler_parted (map (λ e. e.0) handlers)) (all_of inner) (handlers_of handlers))

pub blocks_orderly : (ps : List Part) → AllOrderly ps → Orderly (record { code = joined_code ps; clauses = λ q. joined_clauses q ps })
blocks_orderly ps all = record { within = joined_within ps all; placed = joined_placed ps all }

in_a_handler : (y : Handler-F ((b : Block) × BlockIsOrderly b) ((h : Handler) × HandlerIsOrderly h)) → HandlerIsOrderly (roll-Handler (map-Handler ((b : Block) × BlockIsOrderly b) ((h : Handler) × HandlerIsOrderly h) Block Handler (λ e. e.0) (λ e. e.0) y))
in_a_handler y =
    rw (fold-roll-Handler Part HandlerPart block_part handler_part (record { kind = y.kind; blocks = map (λ e. e.0) y.blocks })) (blocks_orderly (map part (map (λ e. e.0) y.blocks)) (all_of y.blocks))

block_orderly : (b : Block) → BlockIsOrderly b
block_orderly = ind-Block BlockIsOrderly HandlerIsOrderly (λ x y is. subst (λ z. BlockIsOrderly (roll-Block z)) is (in_block y)) (λ x y is. subst (λ z. HandlerIsOrderly (roll-Handler z)) is (in_a_handler y))

pub all_orderly : (bs : List Block) → AllOrderly (map part bs)
all_orderly [] = none
all_orderly (b ∷ bs) = more (part b) (block_orderly b) (all_orderly bs)

-- the clauses of blocks lie in them, and as they may
pub clauses_within : (q : ℕ) (bs : List Block) → Each HasCode (clauses q bs) → Each (Within q (q + length (code bs))) (clauses q bs)
clauses_within q bs c = joined_within (map part bs) (all_orderly bs) q c

pub clauses_placed : (q : ℕ) (bs : List Block) → Each HasCode (clauses q bs) → AllPlaced [] (clauses q bs)
clauses_placed q bs c = joined_placed (map part bs) (all_orderly bs) q [] c tt
