-- Blocks divided at a place, and one more block around the part behind it.
use Rattle.std.proofs.Common.{◌≡◌, ◌+◌, ◌-◌, ◌<◌, ◌≤◌, ℕ, zero, suc, Option, Some, None, List, [], ◌∷◌, ◌++◌, length, take, drop, get_or, refl, sym, ap, subst, ◌∙◌, append_assoc, append-nil, map, length-append, length-drop, length-take, length-take-le, arith}
use Rattle.std.specs.Prelude.{slice_get, option_map}
use Rattle.std.proofs.lemmas.Option.{none-some}
use Rattle.std.proofs.lemmas.List.{take_more, take-append-drop, take-append-le, drop-append-le}
use Rattle.std.proofs.Math.Seq.{drop-append-add, take-append-add, take-length}
use Rattle.cil_model.specs.declared.body.Instr.{Instr}
use Rattle.cil_model.specs.declared.body.Region.{Region}
use Rattle.cil_model.specs.declared.tree.Block.{Block}
use Rattle.cil_model.specs.declared.tree.Block.TheVariants.{Code, Guarded}
use Rattle.cil_model.specs.declared.tree.Handler.{Handler}
use Rattle.cil_model.specs.declared.tree.Tree.{Tree}
use Rattle.region_tree.specs.Handlers.{guards}
use Rattle.region_tree.specs.Trees.{Part, HandlerPart, part, clauses, code, handler_parts, handlers_clauses, handlers_code, own_clauses}
use Rattle.region_tree.specs.Wrapping.{Wraps, exit_of, leaves_to}
use Rattle.region_tree.proofs.PartLaws.{handler_is}
use Rattle.region_tree.proofs.WrapLaws.{wraps_guards}
use Rattle.body_tree.specs.Copies.{turned, AddsCopies}
use Rattle.body_tree.specs.Division.{IsDivided, RetsLeave, WrapsSearch, new_clause}
use Rattle.body_tree.proofs.GuardLaws.{in_front, inside, none_before, tree_search}
use Rattle.body_tree.proofs.TableLaws.{is_guarded}
use Rattle.body_tree.proofs.CopyLaws.{code_joined, clauses_joined, code_part, map_joined, map_length}

-- how much code there is up to a block
pub code_up_to : (bs : List Block) (k : ℕ) (d : Block) → k < length bs → length (code (take (k + 1) bs)) ≡ length (code (take k bs)) + length (part (get_or bs k d)).code
code_up_to bs k d h =
    ap (λ (l : List Block). length (code l)) (take_more bs k d h)
    ∙ ap length (code_joined (take k bs) (get_or bs k d ∷ []) ∙ ap (λ l. code (take k bs) ++ l) (append-nil (part (get_or bs k d)).code))
    ∙ length-append (code (take k bs)) (part (get_or bs k d)).code

pub plain_turned : (is : List Instr) → map (turned None) is ≡ is
plain_turned [] = refl
plain_turned (i ∷ is) = ap (λ l. i ∷ l) (plain_turned is)

-- what is left of a list from a place on
pub rest_of : {A : Type 0} (xs : List A) (n : ℕ) → take (length xs - n) (drop n xs) ≡ drop n xs
rest_of xs n = ap (λ (k : ℕ). take k (drop n xs)) (sym (length-drop n xs)) ∙ take-length (drop n xs)

-- a place that divides code is one of it
pub within_code : (from : ℕ) (is front : List Instr) → length front ≡ from → front ≡ take from is → from ≤ length is
within_code from is front e t = omega (arith, e, ap length t, length-take from is)

-- ---- in straight code

pub in_code : (exit within : ℕ) (b : Block) (is first second copies turned_ones : List Instr) (front inner : List Block) → b ≡ Code is → within ≤ length is → first ≡ take within is → second ≡ drop within is → copies ≡ map (turned None) first → turned_ones ≡ map (turned (Some exit)) second → front ≡ Code copies ∷ [] → inner ≡ Code turned_ones ∷ [] → IsDivided within exit (b ∷ []) front inner
in_code exit within b is first second copies turned_ones front inner e h f s c t x y =
    let old : part b ≡ part (Code is) = ap part e in
    let all : code (b ∷ []) ≡ is = append-nil (part b).code ∙ ap (λ (p : Part). p.code) (old ∙ code_part is) in
    let copied : copies ≡ take within is = c ∙ plain_turned first ∙ f in
    let front_code : code front ≡ take within is = ap code x ∙ append-nil (part (Code copies)).code ∙ ap (λ (p : Part). p.code) (code_part copies) ∙ copied in
    let inner_code : code inner ≡ map (leaves_to exit) (drop within is) = ap code y ∙ append-nil (part (Code turned_ones)).code ∙ ap (λ (p : Part). p.code) (code_part turned_ones) ∙ t ∙ ap (map (leaves_to exit)) s in
    record {
      size = ap length front_code ∙ length-take-le within is h;
      before = front_code ∙ ap (take within) (sym all);
      behind = inner_code ∙ ap (λ l. map (leaves_to exit) (drop within l)) (sym all);
      regions = λ q.
          ap (λ (l : List Block). clauses q l ++ clauses (q + within) inner) x
          ∙ ap (λ (l : List Block). clauses q (Code copies ∷ []) ++ clauses (q + within) l) y
          ∙ ap (λ (p : Part). (p.clauses q ++ []) ++ clauses (q + within) (Code turned_ones ∷ [])) (code_part copies)
          ∙ ap (λ (p : Part). p.clauses (q + within) ++ []) (code_part turned_ones)
          ∙ sym (ap (λ (p : Part). p.clauses q ++ []) (old ∙ code_part is));
    }

-- more blocks behind
pub and_more : (exit within : ℕ) (bs more front inner new : List Block) → IsDivided within exit bs front inner → AddsCopies (Some exit) inner more new → IsDivided within exit (bs ++ more) front new
and_more exit within bs more front inner new d c =
    let h : within ≤ length (code bs) = within_code within (code bs) (code front) d.size d.before in
    record {
      size = d.size;
      before = d.before ∙ sym (ap (take within) (code_joined bs more) ∙ take-append-le within (code bs) (code more) h);
      behind = c.instrs ∙ ap (λ l. l ++ map (leaves_to exit) (code more)) d.behind ∙ sym (map_joined (leaves_to exit) (drop within (code bs)) (code more)) ∙ ap (map (leaves_to exit)) (sym (ap (drop within) (code_joined bs more) ∙ drop-append-le within (code bs) (code more) h));
      regions = λ q.
          let size : q + within + length (code inner) ≡ q + length (code bs) = omega (arith, ap length d.behind, map_length (leaves_to exit) (drop within (code bs)), length-drop within (code bs), h) in
          ap (λ (l : List Region). clauses q front ++ l) (c.regions (q + within))
          ∙ sym (append_assoc (clauses q front) (clauses (q + within) inner) (clauses (q + within + length (code inner)) more))
          ∙ ap (λ (l : List Region). l ++ clauses (q + within + length (code inner)) more) (d.regions q)
          ∙ ap (λ (x : ℕ). clauses q bs ++ clauses x more) size
          ∙ sym (clauses_joined bs more q);
    }

-- copies of blocks in front
pub with_front : (exit from within : ℕ) (before bs all copies front inner new : List Block) → AddsCopies None [] before copies → IsDivided within exit bs front inner → all ≡ before ++ bs → length (code before) + within ≡ from → new ≡ copies ++ front → IsDivided from exit all new inner
with_front exit from within before bs all copies front inner new c d a f n =
    let same : code copies ≡ code before = c.instrs ∙ plain_turned (code before) in
    let long : length (code copies) ≡ length (code before) = ap length same in
    let all_code : code all ≡ code before ++ code bs = ap code a ∙ code_joined before bs in
    let new_code : code new ≡ code before ++ code front = ap code n ∙ code_joined copies front ∙ ap (λ l. l ++ code front) same in
    record {
      size = omega (arith, ap length new_code, length-append (code before) (code front), d.size, f);
      before = new_code ∙ ap (λ l. code before ++ l) d.before ∙ sym (ap (λ (x : ℕ). take x (code all)) (sym f) ∙ ap (take (length (code before) + within)) all_code ∙ take-append-add (code before) (code bs) within);
      behind = d.behind ∙ ap (map (leaves_to exit)) (sym (ap (λ (x : ℕ). drop x (code all)) (sym f) ∙ ap (drop (length (code before) + within)) all_code ∙ drop-append-add (code before) (code bs) within));
      regions = λ q.
          let there : q + from ≡ q + length (code before) + within = omega (arith, f) in
          ap (λ (l : List Block). clauses q l ++ clauses (q + from) inner) n
          ∙ ap (λ (l : List Region). l ++ clauses (q + from) inner) (clauses_joined copies front q)
          ∙ ap (λ (x : ℕ). (clauses q copies ++ clauses (q + x) front) ++ clauses (q + from) inner) long
          ∙ ap (λ (x : ℕ). (clauses q copies ++ clauses (q + length (code before)) front) ++ clauses x inner) there
          ∙ append_assoc (clauses q copies) (clauses (q + length (code before)) front) (clauses (q + length (code before) + within) inner)
          ∙ ap (λ (l : List Region). clauses q copies ++ l) (d.regions (q + length (code before)))
          ∙ ap (λ (l : List Region). l ++ clauses (q + length (code before)) bs) (c.regions q ∙ ap (λ (x : ℕ). clauses x before) (omega arith))
          ∙ sym (ap (clauses q) a ∙ clauses_joined before bs q);
    }

-- ---- as the code goes

pub rest_divided : (exit within : ℕ) (blocks more front inner new : List Block) (d b : Block) → 0 < length blocks → b ≡ get_or blocks 0 d → more ≡ drop 1 blocks → IsDivided within exit (b ∷ []) front inner → AddsCopies (Some exit) inner more new → IsDivided within exit blocks front new
rest_divided exit within [] more front inner new d b h e m x c = absurd (omega (arith, h))
rest_divided exit within (y ∷ ys) more front inner new d b h e m x c =
    subst (λ (l : List Block). IsDivided within exit l front new) (ap (λ (z : Block). z ∷ more) e ∙ ap (λ (l : List Block). y ∷ l) m) (and_more exit within (b ∷ []) more front inner new x c)

pub all_divided : (exit from within k : ℕ) (blocks start rest before copies front inner new : List Block) → start ≡ [] → before ≡ take k blocks → rest ≡ drop k blocks → AddsCopies None start before copies → IsDivided within exit rest front inner → length (code (take k blocks)) + within ≡ from → new ≡ copies ++ front → IsDivided from exit blocks new inner
all_divided exit from within k blocks start rest before copies front inner new z b r c d f n =
    with_front exit from within before rest blocks copies front inner new (subst (λ (l : List Block). AddsCopies None l before copies) z c) d
    (sym (take-append-drop k blocks) ∙ ap (λ l. l ++ drop k blocks) (sym b) ∙ ap (λ l. before ++ l) (sym r)) (ap (λ (l : List Block). length (code l) + within) b ∙ f) n

-- ---- the block

pub wraps : (t new : Tree) (from exit : ℕ) (h : Handler) (front inner : List Block) → IsDivided from exit t.blocks front inner → exit ≡ exit_of t h → new.blocks ≡ front ++ Guarded inner (h ∷ []) ∷ [] → new.locals ≡ t.locals → new.max_stack ≡ t.max_stack → new.init ≡ t.init → Wraps t from h new
wraps t new from exit h front inner d e n l m i =
    let k : from ≤ length (code t.blocks) = within_code from (code t.blocks) (code front) d.size d.before in
    let start : from ≡ 0 + from = omega arith in
    let first : 0 + length (code front) ≡ length (code front) = omega arith in
    let block : Block = Guarded inner (h ∷ []) in
    let made = is_guarded block inner (h ∷ []) refl in
    let of_handler : handlers_code (handler_parts (h ∷ [])) ≡ code h.blocks = ap (λ (p : HandlerPart). p.part.code ++ []) (handler_is h) ∙ append-nil (code h.blocks) in
    let block_code : (part block).code ≡ code inner ++ code h.blocks = ap (λ (p : Part). p.code) made ∙ ap (λ l. code inner ++ l) of_handler in
    let to : length (code front) + length (code inner) ≡ length (code t.blocks) = omega (arith, d.size, ap length d.behind, map_length (leaves_to exit) (drop from (code t.blocks)), length-drop from (code t.blocks), k) in
    record {
      instrs = ap code n ∙ code_joined front (block ∷ []) ∙ ap (λ l. l ++ code (block ∷ [])) d.before ∙ ap (λ l. take from (code t.blocks) ++ l) (append-nil (part block).code ∙ block_code)
          ∙ ap (λ l. take from (code t.blocks) ++ (l ++ code h.blocks)) (d.behind ∙ ap (λ (x : ℕ). map (leaves_to x) (drop from (code t.blocks))) e);
      regions =
          ap (clauses 0) n ∙ clauses_joined front (block ∷ []) 0 ∙ ap (λ (x : ℕ). clauses 0 front ++ clauses x (block ∷ [])) first
          ∙ ap (λ (l : List Region). clauses 0 front ++ l) (append-nil ((part block).clauses (length (code front))) ∙ ap (λ (p : Part). p.clauses (length (code front))) made)
          ∙ ap (λ (x : ℕ). clauses 0 front ++ (clauses (length (code front)) inner ++ (handlers_clauses x (handler_parts (h ∷ [])) ++ own_clauses (length (code front)) x x (handler_parts (h ∷ []))))) to
          ∙ ap (λ (x : ℕ). clauses 0 front ++ (clauses x inner ++ (handlers_clauses (length (code t.blocks)) (handler_parts (h ∷ [])) ++ own_clauses x (length (code t.blocks)) (length (code t.blocks)) (handler_parts (h ∷ []))))) d.size
          ∙ sym (append_assoc (clauses 0 front) (clauses from inner) (handlers_clauses (length (code t.blocks)) (handler_parts (h ∷ [])) ++ own_clauses from (length (code t.blocks)) (length (code t.blocks)) (handler_parts (h ∷ []))))
          ∙ ap (λ (l : List Region). l ++ (handlers_clauses (length (code t.blocks)) (handler_parts (h ∷ [])) ++ own_clauses from (length (code t.blocks)) (length (code t.blocks)) (handler_parts (h ∷ [])))) (ap (λ (x : ℕ). clauses 0 front ++ clauses x inner) start ∙ d.regions 0)
          ∙ ap (λ (p : HandlerPart). clauses 0 t.blocks ++ ((p.part.clauses (length (code t.blocks)) ++ []) ++ own_clauses from (length (code t.blocks)) (length (code t.blocks)) (p ∷ []))) (handler_is h)
          ∙ ap (λ (l : List Region). clauses 0 t.blocks ++ (l ++ own_clauses from (length (code t.blocks)) (length (code t.blocks)) (record { kind = h.kind; part = record { code = code h.blocks; clauses = λ q. clauses q h.blocks } } ∷ []))) (append-nil (clauses (length (code t.blocks)) h.blocks));
      locals = l;
      max_stack = m;
      init = i;
    }

-- ---- searches

pub wraps_search : (t new : Tree) (from : ℕ) (h : Handler) → from ≤ length (code t.blocks) → Wraps t from h new → WrapsSearch t from h new
wraps_search t new from h all w = record {
  inside = λ q low high.
      tree_search 0 q new.blocks (omega arith) ∙ ap (guards q) w.regions
      ∙ (wraps_guards (clauses 0 t.blocks) (clauses (length (code t.blocks)) h.blocks) (new_clause t from h)).within q (none_before (length (code t.blocks)) q h.blocks high) (inside q from (length (code t.blocks)) low high)
      ∙ ap (λ (l : List Region). l ++ new_clause t from h ∷ []) (sym (tree_search 0 q t.blocks (omega arith)));
  outside = λ q low.
      tree_search 0 q new.blocks (omega arith) ∙ ap (guards q) w.regions
      ∙ (wraps_guards (clauses 0 t.blocks) (clauses (length (code t.blocks)) h.blocks) (new_clause t from h)).outside q (none_before (length (code t.blocks)) q h.blocks (omega (arith, low, all))) (in_front q from (length (code t.blocks)) low)
      ∙ sym (tree_search 0 q t.blocks (omega arith));
}

-- ---- rets

turned_behind : (f : Instr → Instr) (xs ys : List Instr) (from q : ℕ) (i : Instr) → from ≤ q → slice_get xs q ≡ Some i → slice_get (take from xs ++ (map f (drop from xs) ++ ys)) q ≡ Some (f i)
turned_behind f [] ys from q i h e = absurd (none-some i e)
turned_behind f (x ∷ xs) ys zero zero i h e = ap (λ (o : Option Instr). option_map f o) e
turned_behind f (x ∷ xs) ys zero (suc q) i h e = turned_behind f xs ys zero q i (omega arith) e
turned_behind f (x ∷ xs) ys (suc from) zero i h e = absurd (omega (arith, h))
turned_behind f (x ∷ xs) ys (suc from) (suc q) i h e = turned_behind f xs ys from q i (omega (arith, h)) e

got_within : (xs : List Instr) (q : ℕ) (i : Instr) → slice_get xs q ≡ Some i → q < length xs
got_within [] q i e = absurd (none-some i e)
got_within (x ∷ xs) zero i e = omega arith
got_within (x ∷ xs) (suc q) i e = omega (arith, got_within xs q i e)

pub rets_leave : (t new : Tree) (from : ℕ) (h : Handler) → Wraps t from h new → RetsLeave t from h new
rets_leave t new from h w = λ q i low there.
    let k : q < length (code t.blocks) = got_within (code t.blocks) q i there in
    let end : exit_of t h ≡ length (code new.blocks) = omega (arith, ap length w.instrs, length-append (take from (code t.blocks)) (map (leaves_to (exit_of t h)) (drop from (code t.blocks)) ++ code h.blocks), length-append (map (leaves_to (exit_of t h)) (drop from (code t.blocks))) (code h.blocks), map_length (leaves_to (exit_of t h)) (drop from (code t.blocks)), length-take from (code t.blocks), length-drop from (code t.blocks), k, low) in
    ap (λ l. slice_get l q) w.instrs
    ∙ turned_behind (leaves_to (exit_of t h)) (code t.blocks) (code h.blocks) from q i low there
    ∙ ap (λ (x : ℕ). Some (leaves_to x i)) end
