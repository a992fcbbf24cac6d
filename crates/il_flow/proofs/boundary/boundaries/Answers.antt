use Rattle.std.proofs.Common.{◌≡◌, ◌<◌, ◌+◌, ◌∙◌, ap, sym, List, length, take, arith, ℕ, append-nil, replicate, true, false, get_or}
use Rattle.std.specs.Prelude.{filter, ◌&&◌, ◌==◌, not, nat_lt}
use Rattle.std.specs.List.{range_with_len}
use Rattle.std.proofs.lemmas.List.{length-replicate, get_or_read}
use Rattle.std.proofs.Common.{max}
use Rattle.il_flow.specs.Boundaries.{is_boundary, the_boundaries}
use Rattle.il_flow.specs.Reach.{max_of}
use Rattle.il_flow.proofs.ReachLaws.{farther, boundary_test, found_more}
use Rattle.il_flow.proofs.boundary.boundaries.Goals as goal
use Rattle.il_flow.proofs.boundary.boundaries.Goals.{then-is_free+in_ok-push, else-is_free}

pub loop-q-preserved : goal.loop-q-preserved
loop-q-preserved c =
    let b = c.args.body.now in
    let hs = c.args.heights.now in
    let reach = c.in_ok-reach.reach.items in
    let q = c.loop-q.q in
    let inv = c.loop-q.invariant in
    let size = c.in_ok-reach.reach.ok.0 in
    let same = c.in_ok-reach.ensures.size in
    let zeros : length (replicate {A = ℕ} (length b.instrs) 0) ≡ length b.instrs = length-replicate (length b.instrs) 0 in
    let below : q < length b.instrs = omega arith in
    let within : q < length reach = omega arith in
    let item : c.index.result.now ≡ get_or reach q 0 = get_or_read reach _ _ within c.index.ensures 0 in
    let far : c.max-farthest.result ≡ max_of (take (q + 1) reach) = c.max-farthest.ensures ∙ ap (λ (x : ℕ). max c.loop-q.farthest x) item ∙ farther reach q c.loop-q.farthest within inv.far in
    let test : is_boundary b hs q ≡ c.is_free.result = boundary_test b hs reach q c.max-farthest.result below c.in_ok-reach.ensures far ∙ sym (c.is_free.ensures ∙ ap (λ (l : List ℕ). (get_or l q 0 == 0) && not (nat_lt q c.max-farthest.result)) c.as_slice.ensures) in
    record {
      far = far;
      found = elim c.if-is_free.branch [
        | then-is_free+in_ok-push w ↦ found_more b hs q true c.loop-q.out c.if-is_free.out (test ∙ w.if-is_free.true) inv.found (w.out-is ∙ w.in_ok-push.ensures.ok)
        | else-is_free w ↦ found_more b hs q false c.loop-q.out c.if-is_free.out (test ∙ w.if-is_free.false) inv.found (w.out-is ∙ sym (append-nil c.loop-q.out))
      ];
    }

pub returns : goal.returns
unfolding the_boundaries
returns c =
    let b = c.args.body.now in
    let size = c.in_ok-reach.reach.ok.0 in
    let same = c.in_ok-reach.ensures.size in
    let zeros : length (replicate {A = ℕ} (length b.instrs) 0) ≡ length b.instrs = length-replicate (length b.instrs) 0 in
    let end : c.loop-q.q ≡ length b.instrs = omega arith in
    c.loop-q.invariant.found ∙ ap (λ (k : ℕ). filter (is_boundary b c.args.heights.now) (range_with_len 0 k)) end
