-- Straight code in pieces.
use Rattle.std.proofs.Common.{◌≡◌, ◌+◌, ◌≤◌, ◌<◌, ℕ, Bool, true, false, cond, List, [], ◌∷◌, ◌++◌, All, length, map, take, refl, sym, subst, ap, ◌∙◌, append-nil, arith, drop, ◌-◌}
use Rattle.std.specs.Prelude.{IsPermutation, nat_lt}
use Rattle.std.specs.List.{slice_range}
use Rattle.std.proofs.Math.Seq.{take-add}
use Rattle.std.proofs.lemmas.List.{length-drop, length-take, take_all}
use Rattle.std.proofs.lemmas.List.Elements.{All-head, All-nil, All-push, All-tail, All-weaker}
use Rattle.std.proofs.lemmas.List.Sorted.{IsPermutation-refl}
use Rattle.cil_model.specs.declared.body.Instr.{Instr}
use Rattle.cil_model.specs.declared.body.Region.{Region}
use Rattle.cil_model.specs.declared.tree.Block.{Block}
use Rattle.cil_model.specs.declared.tree.Block.TheVariants.{Code, rolls-Code}
use Rattle.cil_model.specs.declared.tree.Block.TheOpen.{Block-F}
use Rattle.cil_model.specs.declared.tree.Block.TheFolds.{fold-Block, fold-roll-Block}
use Rattle.cil_model.specs.declared.tree.Handler.{Handler}
use Rattle.region_tree.specs.Handlers.{Guarding, HandlerGuarding, block_guarding, guards_among, handler_guarding}
use Rattle.region_tree.specs.Trees.{Part, HandlerPart, block_part, clauses, code, handler_part, part}
use Rattle.block_laws.specs.Blocks.{CutsNothing}
use Rattle.block_laws.proofs.CodeLaws.{code_joined}
use Rattle.tree_building.specs.declared.span.Span.{Span}
use Rattle.tree_building.specs.Building.{IsBuilt, IsCovered, IsWhole}
use Rattle.tree_building.specs.Spans.{AreLaid, IsSpan, blocks_of, with_handlers}
use Rattle.tree_building.proofs.OrderLaws.{none_before}
use Rattle.tree_building.proofs.SpanLaws.{blocks_joined, laid_joined}

abbrev guarding : Block → Guarding
guarding b = fold-Block Guarding HandlerGuarding block_guarding handler_guarding b

code_part : (is : List Instr) → part (Code is) ≡ record { code = is; clauses = λ q. [] }
code_part is = ap part (sym (rolls-Code is)) ∙ fold-roll-Block Part HandlerPart block_part handler_part (Block-F.Code is)

code_guards : (is : List Instr) → guarding (Code is) ≡ record { size = length is; guards = λ at q. [] }
code_guards is = ap guarding (sym (rolls-Code is)) ∙ fold-roll-Block Guarding HandlerGuarding block_guarding handler_guarding (Block-F.Code is)

-- a span of straight code that no region cuts
abbrev pub piece : (from to : ℕ) → List Instr → Span
piece from to is = record { from = from; to = to; end = to; inner = Code is ∷ []; handlers = [] }

pub record IsPiece (all : List Region) (s : Span) : Type 0 where
  pub instrs : List Instr
  pub inner : s.inner ≡ Code instrs ∷ []
  pub handlers : s.handlers ≡ []
  pub cuts : All (λ (r : Region). CutsNothing r s.from s.end) all

-- pieces that have the code up to a place
pub record ArePieces (instrs : List Instr) (all : List Region) (at : ℕ) (spans : List Span) : Type 0 where
  pub laid : AreLaid 0 spans at
  pub same_code : code (blocks_of spans) ≡ take at instrs
  pub each : All (IsPiece all) spans
  pub within : at ≤ length instrs

pub no_pieces : (instrs : List Instr) (all : List Region) (spans : List Span) → spans ≡ [] → ArePieces instrs all 0 spans
no_pieces instrs all spans e = subst (ArePieces instrs all 0) (sym e) (record { laid = refl; same_code = refl; each = All-nil (IsPiece all); within = omega arith })

piece_code : (from to : ℕ) (is : List Instr) → code (blocks_of (piece from to is ∷ [])) ≡ is
piece_code from to is = append-nil (part (Code is)).code ∙ ap (λ (p : Part). p.code) (code_part is)

take_more : (is : List Instr) (at end : ℕ) → at ≤ end → end ≤ length is → take at is ++ slice_range is at end ≡ take end is
take_more is at end x y = sym (take-add at (end - at) is) ∙ ap (λ (n : ℕ). take n is) (omega (arith, x))

pub one_piece : (instrs range : List Instr) (all : List Region) (at end : ℕ) (old new : List Span) (s : Span) → ArePieces instrs all at old → range ≡ slice_range instrs at end → at < end → end ≤ length instrs → All (λ (r : Region). CutsNothing r at end) all → s ≡ piece at end range → new ≡ old ++ s ∷ [] → ArePieces instrs all end new
one_piece instrs range all at end old new s are r h y cuts e n =
    let long : at + length range ≡ end = omega (arith, h, y, ap length r, length-take (end - at) (drop at instrs), length-drop at instrs) in
    let one : List Span = piece at end range ∷ [] in
    let codes : code (blocks_of (old ++ one)) ≡ take end instrs
    = ap code (blocks_joined old one) ∙ code_joined (blocks_of old) (blocks_of one) ∙ ap (λ l. l ++ code (blocks_of one)) are.same_code ∙ ap (λ l. take at instrs ++ l) (piece_code at end range ∙ r) ∙ take_more instrs at end (omega (arith, h)) y in
    let its : IsSpan at (piece at end range) = record { from = refl; to = omega (arith, long, ap length (piece_code at end range)); end = omega arith; some = h } in
    subst (ArePieces instrs all end) (sym (n ∙ ap (λ (t : Span). old ++ t ∷ []) e)) (record {
      laid = laid_joined 0 at end old one are.laid (its, refl);
      same_code = codes;
      each = All-push (IsPiece all) old (piece at end range) are.each (record { instrs = range; inner = refl; handlers = refl; cuts = cuts });
      within = y;
    })

-- ---- pieces have no clauses

plain_is : (all : List Region) (s : Span) (p : IsPiece all s) → with_handlers s.inner s.handlers ≡ Code p.instrs ∷ []
plain_is all s p = ap (λ (hs : List Handler). with_handlers s.inner hs) p.handlers ∙ p.inner

no_clauses : (all : List Region) (spans : List Span) (q : ℕ) → All (IsPiece all) spans → clauses q (blocks_of spans) ≡ []
no_clauses all [] q each = refl
no_clauses all (s ∷ ss) q each =
    let p : IsPiece all s = All-head (IsPiece all) s ss each in
    ap (λ (l : List Block). clauses q (l ++ blocks_of ss)) (plain_is all s p)
    ∙ ap (λ (x : Part). x.clauses q ++ clauses (q + length x.code) (blocks_of ss)) (code_part p.instrs)
    ∙ no_clauses all ss (q + length p.instrs) (All-tail (IsPiece all) s ss each)

either_none : (b : Bool) (l : List Region) → l ≡ [] → cond b [] l ≡ []
either_none true l e = refl
either_none false l e = e

no_guards : (all : List Region) (spans : List Span) (at q : ℕ) → All (IsPiece all) spans → guards_among at q (map guarding (blocks_of spans)) ≡ []
no_guards all [] at q each = refl
no_guards all (s ∷ ss) at q each =
    let p : IsPiece all s = All-head (IsPiece all) s ss each in
    ap (λ (l : List Block). guards_among at q (map guarding (l ++ blocks_of ss))) (plain_is all s p)
    ∙ ap (λ (g : Guarding). cond (nat_lt q (at + g.size)) (g.guards at q) (guards_among (at + g.size) q (map guarding (blocks_of ss)))) (code_guards p.instrs)
    ∙ either_none (nat_lt q (at + length p.instrs)) (guards_among (at + length p.instrs) q (map guarding (blocks_of ss))) (no_guards all ss (at + length p.instrs) q (All-tail (IsPiece all) s ss each))

pub pieces_built : (instrs : List Instr) (all : List Region) (at : ℕ) (spans : List Span) → ArePieces instrs all at spans → length instrs ≤ at → IsBuilt instrs all [] spans
pieces_built instrs all at spans are h =
    let end : at ≡ length instrs = omega (arith, h, are.within) in
    record {
      laid = subst (λ (n : ℕ). AreLaid 0 spans n) end are.laid;
      code = are.same_code ∙ take_all at instrs h;
      search = λ q. no_guards all spans 0 q are.each;
      same = subst (λ (l : List Region). IsPermutation [] l) (sym (no_clauses all spans 0 are.each)) (IsPermutation-refl []);
      order = λ r s near b. absurd (none_before [] r s refl b);
      whole = All-weaker (IsPiece all) (IsWhole all []) (λ s p. IsWhole.plain p.handlers p.cuts) spans are.each;
      covered = All-nil (IsCovered spans []);
    }
