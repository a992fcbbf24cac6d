-- The body of a tree in which control stays breaks no rule on regions.
use Rattle.std.proofs.Common.{ap, ◌≡◌, ◌+◌, ◌<◌, ◌≤◌, ℕ, Bool, true, false, ◌||◌, ◌⊎◌, inl, inr, Some, List, [], ◌∷◌, ◌++◌, length, map, refl, sym, subst, ◌∙◌, append-nil, append_assoc, arith, length-append}
use Rattle.std.specs.Prelude.{◌==◌, slice_get}
use Rattle.std.specs.List.{list_all, enumerate_from}
use Rattle.std.proofs.lemmas.Bool.{and_parts, both_ways, eqb-true, or_cases}
use Rattle.std.proofs.lemmas.Option.{slice_get_within}
use Rattle.cil_model.specs.declared.body.Instr.{Instr}
use Rattle.cil_model.specs.declared.body.Region.{Region}
use Rattle.cil_model.specs.declared.body.RegionKind.{RegionKind}
use Rattle.cil_model.specs.declared.tree.Block.TheOpen.{Block-F}
use Rattle.cil_model.specs.declared.tree.Block.TheFolds.{fold-Block, fold-Handler, fold-roll-Block, fold-roll-Handler, ind-Block}
use Rattle.cil_model.specs.declared.tree.Block.{Block, map-Block, roll-Block}
use Rattle.cil_model.specs.declared.tree.Handler.{Handler, Handler-F, map-Handler, roll-Handler}
use Rattle.region_tree.specs.Rules.{breaks_region, is_out_of_place}
use Rattle.region_tree.specs.Trees.{Part, HandlerPart, joined_code, joined_clauses, handlers_code, handlers_clauses, own_clauses, block_part, handler_part, part, clauses, code}
use Rattle.tree_table_laws.specs.Flow.{Around, ControlStays, Ways, all_keep, around_body, block_ways, entered_among, handler_ways, instr_keeps, is_catch, is_cleanup, way_sizes, ways, within}
use Rattle.tree_table_laws.proofs.Lists.{Each, each_append, each_left, each_right, each_weaker}
use Rattle.tree_table_laws.proofs.Edges.{holds, outside_before}
use Rattle.tree_table_laws.proofs.OrderLaws.{AllOrderly, HasCode, IsOwn, Orderly, Within, blocks_orderly, guarded_orderly, handler_parted, inside_within, joined_within, own_are}
use Rattle.tree_table_laws.proofs.Ranges.{Enters, EntersWell, Outer, Passed, Uncut, enters_first, enters_missed, enters_within, missed, misses_before, misses_behind, outer_within, passed_by_entering, passed_less, reaches}
use Rattle.cil_base.specs.declared.refusal.Place.{Place}
use Rattle.cil_base.specs.Refusals.{NoneBroken}
use Rattle.cil_model.specs.declared.tree.Tree.{Tree}
use Rattle.std.proofs.lemmas.Bool.{leb-true}
use Rattle.std.proofs.lemmas.List.Elements.{recursion_from_All}
use Rattle.std.specs.Prelude.{All, ◌&&◌}
use Rattle.region_tree.specs.Rules.{BreaksControl, is_filter}
use Rattle.region_tree.specs.Trees.{body_of_tree}
use Rattle.tree_table_laws.specs.Tables.{HaveCode, LieWithin}
use Rattle.tree_table_laws.proofs.TableLaws as table
use Rattle.tree_table_laws.proofs.RuleLaws as rules
use Rattle.tree_table_laws.proofs.OrderLaws.{clauses_within}
use Rattle.tree_table_laws.proofs.FlowLaws.{AllSound, Can, Good, HandlerSound, HandlersSound, PassedEach, Sound, all_at, are_orderly, can_each_more, can_more, can_or, each_both, each_swap, from_one, From, good_same, handlers_good, handlers_orderly, handler_sizes, instr_good, joined_entered, joined_good, last_first, left_in, own_can, own_passed, passed_each, right_in, same_sizes, try_can}

-- ---- straight code

code_good : (is : List Instr) (a : Around) (q : ℕ) (others : List Region) → Each (Outer a q (q + length is)) others → Can a.can_leave a.can_end a.can_rethrow others q (q + length is) → list_all (instr_keeps a) (enumerate_from q is) ≡ true → (k : ℕ) (i : Instr) → slice_get is k ≡ Some i → Good (others ++ []) (q + k) i
code_good is a q others o can e k i g =
    let high : k < length is = slice_get_within is k i g in
    subst (λ (l : List Region). Good l (q + k) i) (sym (append-nil others)) (instr_good a others q (q + length is) (q + k) i o can (omega arith) (omega (arith, high)) (all_at (instr_keeps a) q is k i e g))

pub code_sound : (is : List Instr) → Sound (block_ways (Block-F.Code is)) (block_part (Block-F.Code is))
code_sound is = record {
  size = refl;
  orderly = record { within = λ q c. tt; placed = λ q es c b. tt };
  entered = λ q t c e. (leb-true q t (and_parts _ _ e).0, tt);
  good = λ a q others c o w can e k i g. code_good is a q others o can e k i g;
}

-- ---- a protected block

module _ {wi : List Ways} {ps : List Part} {wh : List Ways} {hs : List HandlerPart} (si : AllSound wi ps) (sh : HandlersSound wh hs) (a : Around) (q : ℕ) (others : List Region) (own_leave : Can true false false (own_clauses q (q + length (joined_code ps)) (q + length (joined_code ps)) hs) q (q + length (joined_code ps))) where
  abbrev to : ℕ
  to = q + length (joined_code ps)

  abbrev inner : List Region
  inner = joined_clauses q ps

  abbrev inside : List Region
  inside = handlers_clauses to hs

  abbrev own : List Region
  own = own_clauses q to to hs

  abbrev end : ℕ
  end = to + length (handlers_code hs)

  abbrev last : ℕ
  last = q + length (joined_code ps ++ handlers_code hs)

  abbrev goes : ℕ → Bool
  goes t = entered_among q t wi

  same_end : last ≡ end
  same_end = omega (arith, length-append (joined_code ps) (handlers_code hs))

  -- what the others and the clauses of this block are to the code of the try
  try_outer : Each HasCode inner → Each HasCode inside → Each HasCode own → Each (Outer a q last) others → Each (EntersWell a) inside → Each (EntersWell a) own → Each (Outer (within goes true false false a) q to) (others ++ (inside ++ own))
  try_outer ci ch co o eh eo =
      let low : to ≤ last = omega (arith, same_end) in
      let stays : (t : ℕ) → goes t ≡ true → (q ≤ t) × (t < to) = λ t e. ((joined_entered si q t ci e).low, (joined_entered si q t ci e).below) in
      let around : Around = within goes true false false a in
      each_append (Outer around q to) others (inside ++ own)
      (each_weaker (Outer a q last) (Outer around q to) (λ r p. outer_within goes true false false a q to stays r (passed_less a q last q to (omega arith) low r p.passed)) others o)
      (each_append (Outer around q to) inside own
      (each_weaker (λ r. Within to end r × EntersWell a r) (Outer around q to) (λ r b. outer_within goes true false false a q to stays r (passed_by_entering a q to r (missed q to r (misses_before to end q to r b.0 (omega arith))) b.1)) inside (each_both (Within to end) (EntersWell a) inside (inside_within hs (handlers_orderly sh) to ch) eh))
      (each_weaker (λ r. IsOwn q to to r × EntersWell a r) (Outer around q to) (λ r b. outer_within goes true false false a q to stays r (passed_by_entering a q to r (around_try r b.0) b.1)) own (each_both (IsOwn q to to) (EntersWell a) own (own_are q to to hs (omega arith) co) eo)))
    where
      around_try : (r : Region) → IsOwn q to to r → Uncut q to r
      around_try r o2 = record {
        of_try = true;
        of_handler = false;
        tries = λ k l m. holds r.try_from r.try_to k (omega (arith, l, o2.from_is)) (omega (arith, m, o2.to_is));
        handlers = λ k l m. outside_before r.handler_from r.handler_to k (omega (arith, m, o2.starts));
      }

  try_enters : Each HasCode inner → Each (EntersWell a) inner → Each (EntersWell (within goes true false false a)) inner
  try_enters ci ei =
      each_weaker (λ r. ((t : ℕ) → goes t ≡ true → Enters t r) × EntersWell a r) (EntersWell (within goes true false false a)) (λ r b. enters_within goes true false false a r b.0 b.1) inner
      (each_both (λ r. (t : ℕ) → goes t ≡ true → Enters t r) (EntersWell a) inner (each_swap (λ t. goes t ≡ true) Enters inner (λ t e. (joined_entered si q t ci e).enters)) ei)

  try_may : Can a.can_leave a.can_end a.can_rethrow others q last → Can (true || a.can_leave) (false || a.can_end) (false || a.can_rethrow) (others ++ (inside ++ own)) q to
  try_may can =
      let low : to ≤ last = omega (arith, same_end) in
      can_or true false false a.can_leave a.can_end a.can_rethrow (others ++ (inside ++ own)) q to
      (can_more true false false own (others ++ (inside ++ own)) q to q to (λ p e. right_in others (inside ++ own) p (right_in inside own p e)) (omega arith) (omega arith) own_leave)
      (can_more a.can_leave a.can_end a.can_rethrow others (others ++ (inside ++ own)) q last q to (left_in others (inside ++ own)) (omega arith) low can)

  handlers_passed : Each HasCode inner → Each HasCode own → Each (Outer a q last) others → Each (EntersWell a) inner → Each (EntersWell a) own → Each (PassedEach a to hs) ((others ++ inner) ++ own)
  handlers_passed ci co o ei eo =
      let low : end ≤ last = omega (arith, same_end) in
      each_append (PassedEach a to hs) (others ++ inner) own
      (each_append (PassedEach a to hs) others inner
      (each_weaker (Outer a q last) (PassedEach a to hs) (λ r p. passed_each a to last hs low r (passed_less a q last to last (omega arith) (omega arith) r p.passed)) others o)
      (each_weaker (λ r. Within q to r × EntersWell a r) (PassedEach a to hs) (λ r b. passed_each a to last hs low r (passed_by_entering a to last r (missed to last r (misses_behind q to to last r b.0 (omega arith))) b.1)) inner (each_both (Within q to) (EntersWell a) inner (joined_within ps (are_orderly si) q ci) ei)))
      (own_passed a q to to hs (omega arith) co eo)

  guarded_good : Each HasCode (inner ++ (inside ++ own)) → Each (Outer a q last) others → Each (EntersWell a) (inner ++ (inside ++ own)) → Can a.can_leave a.can_end a.can_rethrow others q last → (all_keep (within goes true false false a) q wi && all_keep a (q + way_sizes wi) wh) ≡ true → (k : ℕ) (i : Instr) → slice_get (joined_code ps ++ handlers_code hs) k ≡ Some i → Good (others ++ (inner ++ (inside ++ own))) (q + k) i
  guarded_good c o w can e k i g = go (from_one (joined_code ps) (handlers_code hs) k i g)
    where
      ci : Each HasCode inner
      ci = each_left HasCode inner (inside ++ own) c

      ch : Each HasCode inside
      ch = each_left HasCode inside own (each_right HasCode inner (inside ++ own) c)

      co : Each HasCode own
      co = each_right HasCode inside own (each_right HasCode inner (inside ++ own) c)

      ei : Each (EntersWell a) inner
      ei = each_left (EntersWell a) inner (inside ++ own) w

      eh : Each (EntersWell a) inside
      eh = each_left (EntersWell a) inside own (each_right (EntersWell a) inner (inside ++ own) w)

      eo : Each (EntersWell a) own
      eo = each_right (EntersWell a) inside own (each_right (EntersWell a) inner (inside ++ own) w)

      keeps : (all_keep (within goes true false false a) q wi ≡ true) × (all_keep a (q + way_sizes wi) wh ≡ true)
      keeps = and_parts (all_keep (within goes true false false a) q wi) (all_keep a (q + way_sizes wi) wh) e

      in_handlers : (j : ℕ) → slice_get (handlers_code hs) j ≡ Some i → Good (((others ++ inner) ++ own) ++ inside) (to + j) i
      in_handlers j x =
          handlers_good sh a to ((others ++ inner) ++ own) ch (handlers_passed ci co o ei eo) eh (can_each_more own ((others ++ inner) ++ own) to hs (right_in (others ++ inner) own) (own_can q to to hs))
          (can_more a.can_leave a.can_end a.can_rethrow others ((others ++ inner) ++ own) q last to end (λ p z. left_in (others ++ inner) own p (left_in others inner p z)) (omega arith) (omega (arith, same_end)) can)
          (subst (λ (n : ℕ). all_keep a (q + n) wh ≡ true) (same_sizes si) keeps.1) j i x

      go : From (joined_code ps) (handlers_code hs) k i → Good (others ++ (inner ++ (inside ++ own))) (q + k) i
      go (From.first x) =
          good_same ((others ++ (inside ++ own)) ++ inner) (others ++ (inner ++ (inside ++ own))) (q + k) i (last_first others (inside ++ own) inner)
          (joined_good si (within goes true false false a) q (others ++ (inside ++ own)) ci (try_outer ci ch co o eh eo) (try_enters ci ei) (try_may can) keeps.0 k i x)
      go (From.second j h x) =
          let at : to + j ≡ q + k = omega (arith, h) in
          subst (λ (n : ℕ). Good (others ++ (inner ++ (inside ++ own))) n i) at
          (subst (λ (l : List Region). Good l (to + j) i) (append_assoc others inner (inside ++ own))
          (good_same (((others ++ inner) ++ own) ++ inside) ((others ++ inner) ++ (inside ++ own)) (to + j) i (last_first (others ++ inner) own inside) (in_handlers j x)))

-- with handlers
handled_sound : {wi : List Ways} {ps : List Part} {wh : List Ways} {hs : List HandlerPart} (v : Ways) (h : HandlerPart) → AllSound wi ps → HandlersSound (v ∷ wh) (h ∷ hs) → Sound (block_ways (Block-F.Guarded wi (v ∷ wh))) (block_part (Block-F.Guarded ps (h ∷ hs)))
handled_sound {wi} {ps} {wh} {hs} v h si sh =
    let orderly : Orderly (block_part (Block-F.Guarded ps (h ∷ hs))) = guarded_orderly ps (h ∷ hs) (are_orderly si) (handlers_orderly sh) in
    record {
      size = omega (arith, same_sizes si, handler_sizes sh, length-append (joined_code ps) (handlers_code (h ∷ hs)));
      orderly = orderly;
      entered = λ q t c e. first_place orderly q t c (eqb-true t q e);
      good = λ a q others c o w can e k i g. guarded_good si sh a q others (try_can q (q + length (joined_code ps)) h hs) c o w can e k i g;
    }
  where
    first_place : Orderly (block_part (Block-F.Guarded ps (h ∷ hs))) → (q t : ℕ) → Each HasCode ((block_part (Block-F.Guarded ps (h ∷ hs))).clauses q) → t ≡ q → (q ≤ t) × Each (Enters t) ((block_part (Block-F.Guarded ps (h ∷ hs))).clauses q)
    first_place o q t c s =
        let high : ℕ = q + length (joined_code ps ++ handlers_code (h ∷ hs)) in
        (omega (arith, s), each_weaker (Within q high) (Enters t) (λ r w. subst (λ (n : ℕ). Enters n r) (sym s) (enters_first q high r w)) ((block_part (Block-F.Guarded ps (h ∷ hs))).clauses q) (o.within q c))

-- blocks one after another are a part
joined_sound : {ws : List Ways} {ps : List Part} → AllSound ws ps → Sound (record { size = way_sizes ws; entered = λ at t. entered_among at t ws; keeps = λ a at. all_keep a at ws }) (record { code = joined_code ps; clauses = λ q. joined_clauses q ps })
joined_sound {ws} {ps} all = record {
  size = same_sizes all;
  orderly = blocks_orderly ps (are_orderly all);
  entered = λ q t c e. ((joined_entered all q t c e).low, (joined_entered all q t c e).enters);
  good = joined_good all;
}

-- a block without handlers is the blocks in it
bare_sound : {wi : List Ways} {ps : List Part} → AllSound wi ps → Sound (block_ways (Block-F.Guarded wi [])) (block_part (Block-F.Guarded ps []))
bare_sound {wi} {ps} all =
    let s = joined_sound all in
    let same_code : joined_code ps ≡ joined_code ps ++ [] = sym (append-nil (joined_code ps)) in
    let same_rows : (q : ℕ) → joined_clauses q ps ≡ joined_clauses q ps ++ [] = λ q. sym (append-nil (joined_clauses q ps)) in
    record {
      size = s.size ∙ ap length same_code;
      orderly = guarded_orderly ps [] (are_orderly all) AllOrderly.none;
      entered = λ q t c e. subst (λ (l : List Region). (q ≤ t) × Each (Enters t) l) (same_rows q) (s.entered q t (subst (Each HasCode) (sym (same_rows q)) c) e);
      good = λ a q others c o w can e k i g. subst (λ (l : List Region). Good (others ++ l) (q + k) i) (same_rows q)
          (s.good a q others (subst (Each HasCode) (sym (same_rows q)) c) (subst (λ (l : List Instr). Each (Outer a q (q + length l)) others) (sym same_code) o) (subst (Each (EntersWell a)) (sym (same_rows q)) w) (subst (λ (l : List Instr). Can a.can_leave a.can_end a.can_rethrow others q (q + length l)) (sym same_code) can) e k i (ap (λ l. slice_get l k) same_code ∙ g));
    }

pub guarded_sound : {wi : List Ways} {ps : List Part} {wh : List Ways} {hs : List HandlerPart} → AllSound wi ps → HandlersSound wh hs → Sound (block_ways (Block-F.Guarded wi wh)) (block_part (Block-F.Guarded ps hs))
guarded_sound si HandlersSound.none = bare_sound si
guarded_sound si (HandlersSound.more v h s all) = handled_sound v h si (HandlersSound.more v h s all)

-- ---- a handler

pub handler_sound : {ws : List Ways} {ps : List Part} (kind : RegionKind) → AllSound ws ps → HandlerSound (handler_ways (record { kind = kind; blocks = ws })) (handler_part (record { kind = kind; blocks = ps }))
handler_sound {ws} {ps} kind all = record {
  size = same_sizes all;
  orderly = blocks_orderly ps (are_orderly all);
  good = λ a q others c o w can e k i g. joined_good all (within (λ t. entered_among q t ws) (is_catch kind) (is_cleanup kind) (is_catch kind) a) q others c
      (each_weaker (Passed a q (q + length (joined_code ps))) (Outer (within (λ t. entered_among q t ws) (is_catch kind) (is_cleanup kind) (is_catch kind) a) q (q + length (joined_code ps))) (λ r p. outer_within (λ t. entered_among q t ws) (is_catch kind) (is_cleanup kind) (is_catch kind) a q (q + length (joined_code ps)) (λ t f. ((joined_entered all q t c f).low, (joined_entered all q t c f).below)) r p) others o)
      (each_weaker (λ r. ((t : ℕ) → entered_among q t ws ≡ true → Enters t r) × EntersWell a r) (EntersWell (within (λ t. entered_among q t ws) (is_catch kind) (is_cleanup kind) (is_catch kind) a)) (λ r b. enters_within (λ t. entered_among q t ws) (is_catch kind) (is_cleanup kind) (is_catch kind) a r b.0 b.1) (joined_clauses q ps)
      (each_both (λ r. (t : ℕ) → entered_among q t ws ≡ true → Enters t r) (EntersWell a) (joined_clauses q ps) (each_swap (λ t. entered_among q t ws ≡ true) Enters (joined_clauses q ps) (λ t f. (joined_entered all q t c f).enters)) w))
      can e k i g;
}

-- ---- every block

abbrev pub block_way : Block → Ways
block_way b = fold-Block Ways Ways block_ways handler_ways b

abbrev pub handler_way : Handler → Ways
handler_way h = fold-Handler Ways Ways block_ways handler_ways h

abbrev BlockIsSound : Block → Type 0
BlockIsSound b = Sound (block_way b) (part b)

abbrev HandlerIsSound : Handler → Type 0
HandlerIsSound h = HandlerSound (handler_way h) (handler_parted h)

all_of : (es : List ((b : Block) × BlockIsSound b)) → AllSound (map block_way (map (λ e. e.0) es)) (map part (map (λ e. e.0) es))
all_of [] = AllSound.none
all_of (e ∷ es) = AllSound.more (block_way e.0) (part e.0) e.1 (all_of es)

handlers_of : (es : List ((h : Handler) × HandlerIsSound h)) → HandlersSound (map handler_way (map (λ e. e.0) es)) (map handler_parted (map (λ e. e.0) es))
handlers_of [] = HandlersSound.none
handlers_of (e ∷ es) = HandlersSound.more (handler_way e.0) (handler_parted e.0) e.1 (handlers_of es)

in_block : (y : Block-F ((b : Block) × BlockIsSound b) ((h : Handler) × HandlerIsSound h)) → BlockIsSound (roll-Block (map-Block ((b : Block) × BlockIsSound b) ((h : Handler) × HandlerIsSound h) Block Handler (λ e. e.0) (λ e. e.0) y))
in_block (Block-F.Code is) = rw (fold-roll-Block Ways Ways block_ways handler_ways (Block-F.Code is), fold-roll-Block Part HandlerPart block_part handler_part (Block-F.Code is)) (code_sound is)
in_block (Block-F.Guarded inner handlers) =
    rw (fold-roll-Block Ways Ways block_ways handler_ways (Block-F.Guarded (map (λ e. e.0) inner) (map (λ e. e.0) handlers)), fold-roll-Block Part HandlerPart block_part handler_part (Block-F.Guarded (map (λ e. e.0) inner) (map (λ e. e.0) handlers)))
    (guarded_sound (all_of inner) (handlers_of handlers))

in_a_handler : (y : Handler-F ((b : Block) × BlockIsSound b) ((h : Handler) × HandlerIsSound h)) → HandlerIsSound (roll-Handler (map-Handler ((b : Block) × BlockIsSound b) ((h : Handler) × HandlerIsSound h) Block Handler (λ e. e.0) (λ e. e.0) y))
in_a_handler y =
    rw (fold-roll-Handler Ways Ways block_ways handler_ways (record { kind = y.kind; blocks = map (λ e. e.0) y.blocks }), fold-roll-Handler Part HandlerPart block_part handler_part (record { kind = y.kind; blocks = map (λ e. e.0) y.blocks }))
    (handler_sound y.kind (all_of y.blocks))

block_is_sound : (b : Block) → BlockIsSound b
block_is_sound = ind-Block BlockIsSound HandlerIsSound (λ x y is. subst (λ z. BlockIsSound (roll-Block z)) is (in_block y)) (λ x y is. subst (λ z. HandlerIsSound (roll-Handler z)) is (in_a_handler y))

all_sound : (bs : List Block) → AllSound (ways bs) (map part bs)
all_sound [] = AllSound.none
all_sound (b ∷ bs) = AllSound.more (block_way b) (part b) (block_is_sound b) (all_sound bs)

-- ---- the body

body_enters : (bs : List Block) → Each HasCode (clauses 0 bs) → Each (EntersWell (around_body bs)) (clauses 0 bs)
body_enters bs c =
    each_swap (λ t. reaches (around_body bs) t ≡ true) Enters (clauses 0 bs) (λ t e. go t (or_cases (entered_among 0 t (ways bs) || (t == way_sizes (ways bs))) false e))
  where
    enters : (t : ℕ) → (entered_among 0 t (ways bs) ≡ true) ⊎ ((t == way_sizes (ways bs)) ≡ true) → Each (Enters t) (clauses 0 bs)
    enters t (inl e) = (joined_entered (all_sound bs) 0 t c e).enters
    enters t (inr e) =
        let at : t ≡ length (code bs) = eqb-true t (way_sizes (ways bs)) e ∙ same_sizes (all_sound bs) in
        each_weaker (Within 0 (0 + length (code bs))) (Enters t) (λ r w. enters_missed t (t + 1) t r (misses_behind 0 (0 + length (code bs)) t (t + 1) r w (omega (arith, at))) (omega arith) (omega arith)) (clauses 0 bs) (clauses_within 0 bs c)

    go : (t : ℕ) → ((entered_among 0 t (ways bs) || (t == way_sizes (ways bs))) ≡ true) ⊎ (false ≡ true) → Each (Enters t) (clauses 0 bs)
    go t (inl e) = enters t (or_cases (entered_among 0 t (ways bs)) (t == way_sizes (ways bs)) e)
    go t (inr e) = absurd (both_ways false refl e)

body_good : (bs : List Block) → Each HasCode (clauses 0 bs) → ControlStays bs → (k : ℕ) (i : Instr) → slice_get (code bs) k ≡ Some i → Good (clauses 0 bs) (0 + k) i
body_good bs c stays k i e =
    joined_good (all_sound bs) (around_body bs) 0 [] c tt (body_enters bs c)
    (record { leaves = λ f. absurd (both_ways false refl f); ends = λ f. absurd (both_ways false refl f); rethrows = λ f. absurd (both_ways false refl f) }) stays k i e

pub none_broken : (place : Place) (t : Tree) → HaveCode (clauses 0 t.blocks) → LieWithin 1000 (clauses 0 t.blocks) → All (λ (r : Region). is_filter r.kind ≡ false) (clauses 0 t.blocks) → ControlStays t.blocks → NoneBroken (BreaksControl place (body_of_tree t))
none_broken place t c d f s =
    let each : Each HasCode (clauses 0 t.blocks) = recursion_from_All HasCode (clauses 0 t.blocks) c in
    rules.none_broken place (body_of_tree t) (table.none_broken place t c d)
    (record {
      filters = recursion_from_All (λ (r : Region). is_filter r.kind ≡ false) (clauses 0 t.blocks) f;
      edges = λ k i e. subst (λ (n : ℕ). breaks_region (clauses 0 t.blocks) n i ≡ false) (omega arith) (body_good t.blocks each s k i e).edges;
      ends = λ k i e. subst (λ (n : ℕ). is_out_of_place (clauses 0 t.blocks) n i ≡ false) (omega arith) (body_good t.blocks each s k i e).ends;
    })
