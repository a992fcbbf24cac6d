-- Straight code behind the code of a tree.
use Rattle.std.proofs.Common.{◌≡◌, ◌+◌, ◌≤◌, ℕ, false, not, ◌&&◌, ◌||◌, Some, List, [], ◌∷◌, ◌++◌, length, refl, sym, subst, ap, ◌∙◌, append-nil, arith}
use Rattle.std.specs.Prelude.{slice_get}
use Rattle.std.specs.List.{list_any}
use Rattle.std.proofs.lemmas.Bool.{and_left, and_right, or_from}
use Rattle.std.proofs.lemmas.List.Elements.{All-from_recursion, recursion_from_All}
use Rattle.cil_base.specs.declared.refusal.Place.{Place}
use Rattle.cil_base.specs.Refusals.{NoneBroken}
use Rattle.cil_model.specs.declared.body.Instr.{Instr}
use Rattle.cil_model.specs.declared.body.Region.{Region}
use Rattle.cil_model.specs.declared.tree.Block.TheVariants.{Code}
use Rattle.cil_model.specs.declared.tree.Tree.{Tree}
use Rattle.cil_semantics.specs.Unwind.{in_try}
use Rattle.il_opcodes.specs.Opcodes.{class_of}
use Rattle.il_flow.specs.Successors.{successors}
use Rattle.region_tree.specs.Nesting.{depths_of}
use Rattle.region_tree.specs.Rules.{BreaksControl, breaks_region, crosses, in_handler, in_region, is_endfinally, is_filter, is_leave, is_out_of_place, is_ret, is_rethrow, may_end, may_leave, may_rethrow}
use Rattle.region_tree.specs.Trees.{Part, body_of_tree, clauses, code}
use Rattle.body_tree.proofs.CopyLaws.{clauses_joined, code_joined, code_part}
use Rattle.tree_table_laws.specs.Tables.{HaveCode, LieWithin}
use Rattle.tree_table_laws.specs.Wrapped.{StaysBehind}
use Rattle.tree_table_laws.proofs.Lists.{Each, each_weaker, none_any}
use Rattle.tree_table_laws.proofs.Edges.{crosses_not, outside_behind, passes_by, right, stays_out, wrong}
use Rattle.tree_table_laws.proofs.FlowLaws.{From, from_one}
use Rattle.tree_table_laws.proofs.OrderLaws.{HasCode, Within, clauses_within}
use Rattle.tree_table_laws.proofs.NestLaws.{Nests, all_nest}
use Rattle.tree_table_laws.proofs.RuleLaws.{Keeps, keeps, nests}
use Rattle.tree_table_laws.proofs.RuleLaws as rules
use Rattle.tree_table_laws.proofs.TableLaws as table

behind_right : (r : Region) (end k : ℕ) (i : Instr) → Within 0 (0 + end) r → end ≤ k → Each (λ t. end ≤ t) (successors k i) → wrong k i r ≡ false
behind_right r end k i w h s =
    let tries : r.try_to ≤ end = omega (arith, w.to, w.parts.is_behind, w.parts.has_handler) in
    let handlers : r.handler_to ≤ end = omega (arith, w.to) in
    let in_no_try : in_try r k ≡ false = outside_behind r.try_from r.try_to k (omega (arith, h, tries)) in
    let in_no_handler : in_handler r k ≡ false = outside_behind r.handler_from r.handler_to k (omega (arith, h, handlers)) in
    right k i r (and_right (is_ret (class_of i.op)) (in_region r k) (or_from (in_try r k) (in_handler r k) in_no_try in_no_handler))
    (each_weaker (λ t. end ≤ t) (λ t. crosses (is_leave (class_of i.op)) r k t ≡ false) (λ t x. crosses_not (is_leave (class_of i.op)) r k t (stays_out r k t in_no_try in_no_handler) (passes_by r k t (outside_behind r.try_from r.try_to t (omega (arith, x, tries))) (outside_behind r.handler_from r.handler_to t (omega (arith, x, handlers))))) (successors k i) s)

in_place : (rs : List Region) (end k : ℕ) (i : Instr) → StaysBehind end k i → is_out_of_place rs k i ≡ false
in_place rs end k i s =
    or_from (is_leave (class_of i.op) && not (list_any (λ r. may_leave r k) rs)) ((is_endfinally (class_of i.op) && not (list_any (λ r. may_end r k) rs)) || (is_rethrow (class_of i.op) && not (list_any (λ r. may_rethrow r k) rs)))
    (and_left (is_leave (class_of i.op)) (not (list_any (λ r. may_leave r k) rs)) s.no_leave)
    (or_from (is_endfinally (class_of i.op) && not (list_any (λ r. may_end r k) rs)) (is_rethrow (class_of i.op) && not (list_any (λ r. may_rethrow r k) rs))
    (and_left (is_endfinally (class_of i.op)) (not (list_any (λ r. may_end r k) rs)) s.no_end)
    (and_left (is_rethrow (class_of i.op)) (not (list_any (λ r. may_rethrow r k) rs)) s.no_rethrow))

-- both rules at an instruction
record Holds (rs : List Region) (k : ℕ) (i : Instr) : Type 0 where
  edges : breaks_region rs k i ≡ false
  ends : is_out_of_place rs k i ≡ false

holds : (t : Tree) (more : List Instr) (k : ℕ) (i : Instr) → Keeps (body_of_tree t) → Each (Within 0 (0 + length (code t.blocks))) (clauses 0 t.blocks) → ((n : ℕ) (x : Instr) → slice_get more n ≡ Some x → StaysBehind (length (code t.blocks)) (length (code t.blocks) + n) x) → From (code t.blocks) more k i → Holds (clauses 0 t.blocks) k i
holds t more k i b w f (From.first e) = record { edges = b.edges k i e; ends = b.ends k i e }
holds t more k i b w f (From.second j at e) =
    let end : ℕ = length (code t.blocks) in
    let s : StaysBehind end (end + j) i = f j i e in
    subst (λ (n : ℕ). Holds (clauses 0 t.blocks) n i) (sym at) (record {
      edges = none_any (wrong (end + j) i) (clauses 0 t.blocks) (each_weaker (Within 0 (0 + end)) (λ r. wrong (end + j) i r ≡ false) (λ r x. behind_right r end (end + j) i x (omega arith) (recursion_from_All (λ t. end ≤ t) (successors (end + j) i) s.goes)) (clauses 0 t.blocks) w);
      ends = in_place (clauses 0 t.blocks) end (end + j) i s;
    })

pub none_broken : (place : Place) (t new : Tree) (more : List Instr) → new.blocks ≡ t.blocks ++ Code more ∷ [] → ((k : ℕ) (i : Instr) → slice_get more k ≡ Some i → StaysBehind (length (code t.blocks)) (length (code t.blocks) + k) i) → NoneBroken (BreaksControl place (body_of_tree t)) → NoneBroken (BreaksControl place (body_of_tree new))
none_broken place t new more e f none =
    let old : List Region = clauses 0 t.blocks in
    let b : Keeps (body_of_tree t) = keeps place (body_of_tree t) none in
    let nest : Nests [] old = all_nest place (body_of_tree t) [] old refl (nests place (body_of_tree t) none) in
    let within : Each (Within 0 (0 + length (code t.blocks))) old = clauses_within 0 t.blocks nest.code in
    rules.none_broken place (body_of_tree new)
    (table.none_broken place new (subst HaveCode (sym rows) (All-from_recursion HasCode old nest.code)) (subst (LieWithin 1000) (sym rows) (All-from_recursion (λ d. d ≤ 1000) (depths_of old) nest.depth)))
    (record {
      filters = subst (Each (λ (x : Region). is_filter x.kind ≡ false)) (sym rows) b.filters;
      edges = λ k i g. subst (λ (l : List Region). breaks_region l k i ≡ false) (sym rows) (holds t more k i b within f (from_one (code t.blocks) more k i (sym (ap (λ l. slice_get l k) its_code) ∙ g))).edges;
      ends = λ k i g. subst (λ (l : List Region). is_out_of_place l k i ≡ false) (sym rows) (holds t more k i b within f (from_one (code t.blocks) more k i (sym (ap (λ l. slice_get l k) its_code) ∙ g))).ends;
    })
  where
    rows : clauses 0 new.blocks ≡ clauses 0 t.blocks
    rows =
        ap (clauses 0) e ∙ clauses_joined t.blocks (Code more ∷ []) 0
        ∙ ap (λ (p : Part). clauses 0 t.blocks ++ (p.clauses (0 + length (code t.blocks)) ++ [])) (code_part more) ∙ append-nil (clauses 0 t.blocks)

    its_code : code new.blocks ≡ code t.blocks ++ more
    its_code =
        ap code e ∙ code_joined t.blocks (Code more ∷ []) ∙ ap (λ (p : Part). code t.blocks ++ (p.code ++ [])) (code_part more) ∙ ap (λ l. code t.blocks ++ l) (append-nil more)
