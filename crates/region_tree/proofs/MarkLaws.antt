-- Places that are marked.
use Rattle.std.proofs.Common.{◌≡◌, ◌≢◌, ◌+◌, ◌≤◌, ◌<◌, ◌==◌, ℕ, Bool, true, false, ◌||◌, List, length, get_or, set, take, refl, sym, ap, subst, ◌∙◌, arith, eqb}
use Rattle.std.specs.List.{list_any}
use Rattle.std.proofs.lemmas.Bool.{eqb-false, eqb-true}
use Rattle.std.proofs.lemmas.Grind.{get_or-set_at}
use Rattle.std.proofs.lemmas.List.{get_or-set_other, length-set}
use Rattle.std.proofs.lemmas.List.Folds.{list_any_more}
use Rattle.cil_base.proofs.Small.{or_neither}
use Rattle.cil_model.specs.declared.body.Region.{Region}
use Rattle.region_tree.specs.Marks.{AddsMark, AddsMarks, AreMarks, has_edge}

-- ---- a place

pub mark_set : (marks : List Bool) (at : ℕ) → at < length marks → AddsMark at marks (set marks at true)
mark_set marks at h = record { size = length-set marks at true; each = λ q k. go q (eqb at q) refl }
  where
    go : (q : ℕ) (b : Bool) → eqb at q ≡ b → get_or (set marks at true) q false ≡ (b || get_or marks q false)
    go q true e = get_or-set_at marks at q true false (sym (eqb-true at q e)) h
    go q false e = get_or-set_other marks at q true false (λ s. eqb-false at q e (sym s))

pub mark_past : (marks : List Bool) (at : ℕ) → length marks ≤ at → AddsMark at marks marks
mark_past marks at h = record { size = refl; each = λ q k. go q k (eqb at q) refl }
  where
    go : (q : ℕ) → q < length marks → (b : Bool) → eqb at q ≡ b → get_or marks q false ≡ (b || get_or marks q false)
    go q k true e = absurd (omega (arith, h, k, eqb-true at q e))
    go q k false e = refl

-- ---- a region

four : (a b c d e : Bool) → (d || (c || (b || (a || e)))) ≡ (((a || b) || (c || d)) || e)
four true true true true e = refl
four true true true false e = refl
four true true false true e = refl
four true true false false e = refl
four true false true true e = refl
four true false true false e = refl
four true false false true e = refl
four true false false false e = refl
four false true true true e = refl
four false true true false e = refl
four false true false true e = refl
four false true false false e = refl
four false false true true e = refl
four false false true false e = refl
four false false false true e = refl
four false false false false e = refl

pub mark_four : (r : Region) (a b c d e : List Bool) → AddsMark r.try_from a b → AddsMark r.try_to b c → AddsMark r.handler_from c d → AddsMark r.handler_to d e → AddsMarks r a e
mark_four r a b c d e w x y z = record {
  size = z.size ∙ (y.size ∙ (x.size ∙ w.size));
  each = λ q h.
      z.each q (omega (arith, h, y.size, x.size, w.size))
      ∙ ap (λ (t : Bool). (r.handler_to == q) || t) (y.each q (omega (arith, h, x.size, w.size)))
      ∙ ap (λ (t : Bool). (r.handler_to == q) || ((r.handler_from == q) || t)) (x.each q (omega (arith, h, w.size)))
      ∙ ap (λ (t : Bool). (r.handler_to == q) || ((r.handler_from == q) || ((r.try_to == q) || t))) (w.each q h)
      ∙ four (r.try_from == q) (r.try_to == q) (r.handler_from == q) (r.handler_to == q) (get_or a q false);
}

-- ---- the table

swapped : (a b : Bool) → (a || b) ≡ (b || a)
swapped true true = refl
swapped true false = refl
swapped false true = refl
swapped false false = refl

pub marks_more : (rs : List Region) (k : ℕ) (d : Region) (count : ℕ) (old new : List Bool) → k < length rs → AreMarks (take k rs) count old → AddsMarks (get_or rs k d) old new → AreMarks (take (k + 1) rs) count new
marks_more rs k d count old new h x y = record {
  size = y.size ∙ x.size;
  each = λ q less.
      y.each q (omega (arith, less, x.size))
      ∙ ap (λ (t : Bool). has_edge q (get_or rs k d) || t) (x.each q less)
      ∙ swapped (has_edge q (get_or rs k d)) (list_any (has_edge q) (take k rs))
      ∙ sym (list_any_more (has_edge q) rs k d h);
}

-- ---- places that aren't marked

-- no part of the region begins or ends at the place
pub record IsNoEdge (q : ℕ) (r : Region) : Type 0 where
  pub try_from : r.try_from ≢ q
  pub try_to : r.try_to ≢ q
  pub handler_from : r.handler_from ≢ q
  pub handler_to : r.handler_to ≢ q

pub no_edge : (q : ℕ) (r : Region) → has_edge q r ≡ false → IsNoEdge q r
no_edge q r e =
    let two = or_neither (r.try_from == q || r.try_to == q) (r.handler_from == q || r.handler_to == q) e in
    let try_two = or_neither (r.try_from == q) (r.try_to == q) two.0 in
    let handler_two = or_neither (r.handler_from == q) (r.handler_to == q) two.1 in
    record {
      try_from = eqb-false r.try_from q try_two.0;
      try_to = eqb-false r.try_to q try_two.1;
      handler_from = eqb-false r.handler_from q handler_two.0;
      handler_to = eqb-false r.handler_to q handler_two.1;
    }

pub whole_marks : (rs : List Region) (count : ℕ) (marks : List Bool) → AreMarks rs count marks → AreMarks rs (length marks) marks
whole_marks rs count marks are = subst (λ (n : ℕ). AreMarks rs n marks) (sym are.size) are
