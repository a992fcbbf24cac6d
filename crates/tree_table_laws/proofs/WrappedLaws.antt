-- One more clause at a table's end, around the code from a place on.
use Rattle.std.proofs.Common.{◌≡◌, ◌+◌, ◌<◌, ◌≤◌, ℕ, Bool, true, false, not, cond, ◌&&◌, ◌||◌, ltb, Some, List, [], ◌∷◌, ◌++◌, length, refl, sym, subst, ap, ◌∙◌, inl, inr, ◌⊎◌, arith}
use Rattle.std.specs.Prelude.{◌==◌, max, slice_get}
use Rattle.std.specs.List.{list_any}
use Rattle.std.proofs.lemmas.Bool.{and_from, and_left, and_right, cases_lt, eq-eqb, lt-ltb, not_from_true, or_from, or_left}
use Rattle.std.proofs.lemmas.List.Elements.{All-from_recursion, recursion_from_All}
use Rattle.std.proofs.lemmas.Option.{slice_get_within}
use Rattle.cil_base.specs.declared.refusal.Place.{Place}
use Rattle.cil_base.specs.Refusals.{NoneBroken}
use Rattle.cil_model.specs.declared.body.Instr.{Instr}
use Rattle.cil_model.specs.declared.body.Region.{Region}
use Rattle.cil_model.specs.declared.tree.Handler.{Handler}
use Rattle.cil_model.specs.declared.tree.Tree.{Tree}
use Rattle.cil_semantics.specs.Unwind.{in_try}
use Rattle.il_opcodes.specs.Opcodes.{class_of}
use Rattle.il_flow.specs.Successors.{successors}
use Rattle.region_tree.specs.Nesting.{depths_of, is_nested}
use Rattle.region_tree.specs.Rules.{BreaksControl, breaks_region, crosses, goes_in, goes_out, in_handler, in_region, is_endfinally, is_filter, is_leave, is_out_of_place, is_ret, is_rethrow, may_end, may_leave, may_rethrow}
use Rattle.region_tree.specs.Trees.{body_of_tree, clauses, code}
use Rattle.region_tree.specs.Wrapping.{Wraps, exit_of, leaves_to}
use Rattle.body_tree.specs.Division.{new_clause}
use Rattle.tree_table_laws.specs.Tables.{HaveCode, LieWithin}
use Rattle.tree_table_laws.specs.Wrapped.{FitsWrapping, KeepsHandler, KeepsSides}
use Rattle.tree_table_laws.proofs.Lists.{Each, each_append, each_weaker, none_any}
use Rattle.tree_table_laws.proofs.HeightLaws.{deep}
use Rattle.tree_table_laws.proofs.Edges.{both, crosses_not, goes_not_in, goes_not_out, holds, in_first, in_second, one, out_weaker, outside_before, outside_behind, passes_by, right, stays_out, wrong}
use Rattle.tree_table_laws.proofs.Located.{Located, locate}
use Rattle.tree_table_laws.proofs.OrderLaws.{HasCode, Within, clauses_within}
use Rattle.tree_table_laws.proofs.NestLaws.{all_nest}
use Rattle.tree_table_laws.proofs.RuleLaws.{Keeps, keeps, nests}
use Rattle.tree_table_laws.proofs.RuleLaws as rules
use Rattle.tree_table_laws.proofs.TableLaws as table
use Rattle.tree_table_laws.proofs.Turned.{leave_class, leave_goes, leaves, only_ret}

-- ---- depths

one_deeper : (x : Region) (xs : List Region) (r : Region) → deep x (xs ++ r ∷ []) ≤ deep x xs + 1
one_deeper x [] r = go (is_nested x r)
  where
    go : (b : Bool) → cond b (max (0 + 1) 0) 0 ≤ 0 + 1
    go true = omega arith
    go false = omega arith
one_deeper x (y ∷ ys) r = go (is_nested x y) (one_deeper y ys r) (one_deeper x ys r)
  where
    go : (b : Bool) → deep y (ys ++ r ∷ []) ≤ deep y ys + 1 → deep x (ys ++ r ∷ []) ≤ deep x ys + 1 → cond b (max (deep y (ys ++ r ∷ []) + 1) (deep x (ys ++ r ∷ []))) (deep x (ys ++ r ∷ [])) ≤ cond b (max (deep y ys + 1) (deep x ys)) (deep x ys) + 1
    go true a b = omega (arith, a, b)
    go false a b = b

depths_more : (rs : List Region) (r : Region) → Each (λ d. d ≤ 999) (depths_of rs) → Each (λ d. d ≤ 1000) (depths_of (rs ++ r ∷ []))
depths_more [] r a = (omega arith, tt)
depths_more (x ∷ xs) r a = (omega (arith, a.0, one_deeper x xs r), depths_more xs r a.1)

-- ---- a ret that leaves to the exit

leaves_right : (s : Region) (k exit : ℕ) (o : Instr) → s.try_to ≤ exit → s.handler_to ≤ exit → wrong k (leaves exit o) s ≡ false
leaves_right s k exit o x y =
    right k (leaves exit o) s (and_left (is_ret (class_of 0xDD)) (in_region s k) (ap is_ret leave_class))
    (subst (λ ts. Each (λ t. crosses (is_leave (class_of 0xDD)) s k t ≡ false) ts) (sym (leave_goes k exit o)) (
      or_from (not (is_leave (class_of 0xDD)) && goes_out s k exit) (goes_in s k exit)
          (and_left (not (is_leave (class_of 0xDD))) (goes_out s k exit) (ap (λ c. not (is_leave c)) leave_class))
          (passes_by s k exit (outside_behind s.try_from s.try_to exit x) (outside_behind s.handler_from s.handler_to exit y)),
      tt,
    ))

leaves_in_place : (rs : List Region) (k exit : ℕ) (o : Instr) → list_any (λ r. may_leave r k) rs ≡ true → is_out_of_place rs k (leaves exit o) ≡ false
leaves_in_place rs k exit o e =
    or_from (is_leave (class_of 0xDD) && not (list_any (λ r. may_leave r k) rs)) ((is_endfinally (class_of 0xDD) && not (list_any (λ r. may_end r k) rs)) || (is_rethrow (class_of 0xDD) && not (list_any (λ r. may_rethrow r k) rs)))
    (and_right (is_leave (class_of 0xDD)) (not (list_any (λ r. may_leave r k) rs)) (not_from_true (list_any (λ r. may_leave r k) rs) e))
    (or_from (is_endfinally (class_of 0xDD) && not (list_any (λ r. may_end r k) rs)) (is_rethrow (class_of 0xDD) && not (list_any (λ r. may_rethrow r k) rs))
    (and_left (is_endfinally (class_of 0xDD)) (not (list_any (λ r. may_end r k) rs)) (ap is_endfinally leave_class))
    (and_left (is_rethrow (class_of 0xDD)) (not (list_any (λ r. may_rethrow r k) rs)) (ap is_rethrow leave_class)))

-- ---- the wrapped body

module _ (t : Tree) (from : ℕ) (h : Handler) (fits : FitsWrapping t from h) where
  abbrev end : ℕ
  end = length (code t.blocks)

  abbrev exit : ℕ
  exit = exit_of t h

  abbrev old : List Region
  old = clauses 0 t.blocks

  abbrev new : Region
  new = new_clause t from h

  -- from in front of the wrapped part
  front_right : (k : ℕ) (i : Instr) → k < from → slice_get (code t.blocks) k ≡ Some i → wrong k i new ≡ false
  front_right k i low e =
      let some : from < end = fits.has_code in
      let in_no_try : in_try new k ≡ false = outside_before from end k low in
      let in_no_handler : in_handler new k ≡ false = outside_before end exit k (omega (arith, low, some)) in
      right k i new (and_right (is_ret (class_of i.op)) (in_region new k) (or_from (in_try new k) (in_handler new k) in_no_try in_no_handler))
      (each_weaker (KeepsSides from end k) (λ s. crosses (is_leave (class_of i.op)) new k s ≡ false) (λ s x. crosses_not (is_leave (class_of i.op)) new k s (stays_out new k s in_no_try in_no_handler) (goes s (x.front low) (cases_lt s from))) (successors k i) (recursion_from_All (KeepsSides from end k) (successors k i) (fits.sides k i e)))
    where
      goes : (s : ℕ) → s ≤ from → (s < from) ⊎ (from ≤ s) → goes_in new k s ≡ false
      goes s x (inl y) = passes_by new k s (outside_before from end s y) (outside_before end exit s (omega (arith, y, fits.has_code)))
      goes s x (inr y) =
          goes_not_in new k s (and_left (in_handler new s) (not (in_handler new k)) (outside_before end exit s (omega (arith, x, fits.has_code))))
          (and_right (in_try new s) (not (in_try new k) && not (s == from)) (and_right (not (in_try new k)) (not (s == from)) (not_from_true (s == from) (eq-eqb s from (omega (arith, x, y))))))

  -- within the wrapped part
  part_right : (k : ℕ) (i : Instr) → from ≤ k → slice_get (code t.blocks) k ≡ Some i → is_ret (class_of i.op) ≡ false → wrong k i new ≡ false
  part_right k i low e no_ret =
      let high : k < end = slice_get_within (code t.blocks) k i e in
      right k i new (and_left (is_ret (class_of i.op)) (in_region new k) no_ret)
      (each_weaker (KeepsSides from end k) (λ s. crosses (is_leave (class_of i.op)) new k s ≡ false) (λ s x. crosses_not (is_leave (class_of i.op)) new k s
      (goes_not_out new k s (and_right (in_try new k) (not (in_try new s)) (not_from_true (in_try new s) (holds from end s (x.back low) (x.inside low)))) (and_left (in_handler new k) (not (in_handler new s)) (outside_before end exit k high)))
      (goes_not_in new k s (and_left (in_handler new s) (not (in_handler new k)) (outside_before end exit s (x.inside low))) (and_right (in_try new s) (not (in_try new k) && not (s == from)) (and_left (not (in_try new k)) (not (s == from)) (not_from_true (in_try new k) (holds from end k low high))))))
      (successors k i) (recursion_from_All (KeepsSides from end k) (successors k i) (fits.sides k i e)))

  -- from the handler to the old regions
  handler_right : (k : ℕ) (i : Instr) (s : Region) → Within 0 (0 + end) s → Each (λ x. end ≤ x) (successors (end + k) i) → wrong (end + k) i s ≡ false
  handler_right k i s w a =
      let tries : s.try_to ≤ end = omega (arith, w.to, w.parts.is_behind, w.parts.has_handler) in
      let handlers : s.handler_to ≤ end = omega (arith, w.to) in
      let in_no_try : in_try s (end + k) ≡ false = outside_behind s.try_from s.try_to (end + k) (omega (arith, tries)) in
      let in_no_handler : in_handler s (end + k) ≡ false = outside_behind s.handler_from s.handler_to (end + k) (omega (arith, handlers)) in
      right (end + k) i s (and_right (is_ret (class_of i.op)) (in_region s (end + k)) (or_from (in_try s (end + k)) (in_handler s (end + k)) in_no_try in_no_handler))
      (each_weaker (λ x. end ≤ x) (λ x. crosses (is_leave (class_of i.op)) s (end + k) x ≡ false) (λ x y. crosses_not (is_leave (class_of i.op)) s (end + k) x (stays_out s (end + k) x in_no_try in_no_handler) (passes_by s (end + k) x (outside_behind s.try_from s.try_to x (omega (arith, y, tries))) (outside_behind s.handler_from s.handler_to x (omega (arith, y, handlers))))) (successors (end + k) i) a)

  -- both rules at an instruction
  record Holds (k : ℕ) (i : Instr) : Type 0 where
    edges : breaks_region (old ++ new ∷ []) k i ≡ false
    ends : is_out_of_place (old ++ new ∷ []) k i ≡ false

  same_side : (k : ℕ) (i : Instr) → breaks_region old k i ≡ false → is_out_of_place old k i ≡ false → wrong k i new ≡ false → Holds k i
  same_side k i a b c = record {
    edges = both (wrong k i) old (new ∷ []) a (one (wrong k i) new c);
    ends = out_weaker old (old ++ new ∷ []) k i (in_first old (new ∷ [])) b;
  }

  turned : (k : ℕ) (o : Instr) → Each (Within 0 (0 + end)) old → from ≤ k → k < end → Holds k (leaves exit o)
  turned k o within low high = record {
    edges = both (wrong k (leaves exit o)) old (new ∷ []) (none_any (wrong k (leaves exit o)) old (each_weaker (Within 0 (0 + end)) (λ s. wrong k (leaves exit o) s ≡ false) (λ s w. leaves_right s k exit o (omega (arith, w.to, w.parts.is_behind, w.parts.has_handler)) (omega (arith, w.to))) old within)) (one (wrong k (leaves exit o)) new (leaves_right new k exit o (omega arith) (omega arith)));
    ends = leaves_in_place (old ++ new ∷ []) k exit o (in_second old (new ∷ []) (λ r. may_leave r k) (or_left (may_leave new k) false (may k low high)));
  }
    where
      may : (q : ℕ) → from ≤ q → q < end → may_leave new q ≡ true
      may q a b = or_left (in_try new q) _ (holds from end q a b)

  in_handler_code : (k : ℕ) (i : Instr) → Each (Within 0 (0 + end)) old → slice_get (code h.blocks) k ≡ Some i → Holds (end + k) i
  in_handler_code k i within e =
      let own : KeepsHandler new (end + k) i = fits.in_handler k i e in
      record {
        edges = both (wrong (end + k) i) old (new ∷ []) (none_any (wrong (end + k) i) old (each_weaker (Within 0 (0 + end)) (λ s. wrong (end + k) i s ≡ false) (λ s w. handler_right k i s w (recursion_from_All (λ x. end ≤ x) (successors (end + k) i) own.back)) old within)) own.edges;
        ends = out_weaker (new ∷ []) (old ++ new ∷ []) (end + k) i (in_second old (new ∷ [])) own.ends;
      }

  located : (k : ℕ) (i : Instr) → Keeps (body_of_tree t) → Each (Within 0 (0 + end)) old → Located (leaves_to exit) (code t.blocks) (code h.blocks) from k i → Holds k i
  located k i b within (Located.front low e) = same_side k i (b.edges k i e) (b.ends k i e) (front_right k i low e)
  located k i b within (Located.part o low e is) = subst (Holds k) (sym is) (go (o.op == 0x2A) refl)
    where
      go : (c : Bool) → (o.op == 0x2A) ≡ c → Holds k (leaves_to exit o)
      go true x = subst (Holds k) (sym (ap (λ c. cond c (leaves exit o) o) x)) (turned k o within low (slice_get_within (code t.blocks) k o e))
      go false x = subst (Holds k) (sym (ap (λ c. cond c (leaves exit o) o) x)) (same_side k o (b.edges k o e) (b.ends k o e) (part_right k o low e (only_ret o.op x)))
  located k i b within (Located.added j at e) = subst (λ n. Holds n i) (sym at) (in_handler_code j i within e)

pub none_broken : (place : Place) (t new : Tree) (from : ℕ) (h : Handler) → FitsWrapping t from h → Wraps t from h new → NoneBroken (BreaksControl place (body_of_tree t)) → NoneBroken (BreaksControl place (body_of_tree new))
none_broken place t new from h fits w none =
    let r : Region = new_clause t from h in
    let old : List Region = clauses 0 t.blocks in
    let rows : clauses 0 new.blocks ≡ old ++ r ∷ [] = w.regions ∙ ap (λ (l : List Region). old ++ (l ++ r ∷ [])) fits.is_straight in
    let had : Each HasCode old = (all_nest place (body_of_tree t) [] (clauses 0 t.blocks) refl (nests place (body_of_tree t) none)).code in
    let has : HasCode r = and_from (ltb from (length (code t.blocks))) (ltb (length (code t.blocks)) (exit_of t h)) (lt-ltb from (length (code t.blocks)) fits.has_code) (lt-ltb (length (code t.blocks)) (exit_of t h) (omega (arith, fits.has_handler))) in
    let all : Each HasCode (old ++ r ∷ []) = each_append HasCode old (r ∷ []) had (has, tt) in
    let deep_enough : Each (λ d. d ≤ 1000) (depths_of (old ++ r ∷ [])) = depths_more old r (recursion_from_All (λ d. d ≤ 999) (depths_of old) fits.depth) in
    let b : Keeps (body_of_tree t) = keeps place (body_of_tree t) none in
    let within = clauses_within 0 t.blocks had in
    rules.none_broken place (body_of_tree new)
    (table.none_broken place new (subst HaveCode (sym rows) (All-from_recursion HasCode (old ++ r ∷ []) all)) (subst (LieWithin 1000) (sym rows) (All-from_recursion (λ d. d ≤ 1000) (depths_of (old ++ r ∷ [])) deep_enough)))
    (record {
      filters = subst (Each (λ (x : Region). is_filter x.kind ≡ false)) (sym rows) (each_append (λ (x : Region). is_filter x.kind ≡ false) old (r ∷ []) b.filters (fits.no_filter, tt));
      edges = λ k i e. subst (λ (l : List Region). breaks_region l k i ≡ false) (sym rows) (at k i e).edges;
      ends = λ k i e. subst (λ (l : List Region). is_out_of_place l k i ≡ false) (sym rows) (at k i e).ends;
    })
  where
    at : (k : ℕ) (i : Instr) → slice_get (code new.blocks) k ≡ Some i → Holds t from h fits k i
    at k i e =
        located t from h fits k i (keeps place (body_of_tree t) none) (clauses_within 0 t.blocks ((all_nest place (body_of_tree t) [] (clauses 0 t.blocks) refl (nests place (body_of_tree t) none)).code))
        (locate (leaves_to (exit_of t h)) (code t.blocks) (code h.blocks) from k i (omega (arith, fits.has_code)) (sym (ap (λ l. slice_get l k) w.instrs) ∙ e))
