-- Code of which each instruction goes by the rules on regions.
use Rattle.std.proofs.Common.{◌≡◌, ◌≢◌, ◌+◌, ◌<◌, ◌==◌, ℕ, zero, suc, Bool, true, false, not, ◌||◌, ◌&&◌, List, [], ◌∷◌, ◌++◌, inl, inr, length, get_or, take, map, refl, subst, sym, ap, ◌∙◌, arith, cond, eqb}
use Rattle.std.specs.Prelude.{Option, Some, None, slice_get, slice_index}
use Rattle.std.specs.List.{enumerate_from, list_any}
use Rattle.std.proofs.lemmas.Bool.{eqb-false, eqb-true, false≢true}
use Rattle.std.proofs.lemmas.List.{get_or_read}
use Rattle.std.proofs.lemmas.Option.{get_or_from_slice_get, slice_get_within}
use Rattle.cil_base.proofs.Small.{or_neither}
use Rattle.cil_base.specs.declared.refusal.Place.{Place}
use Rattle.cil_base.specs.Refusals.{Fails, NoneBroken, Test}
use Rattle.cil_model.specs.declared.body.Body.{Body}
use Rattle.cil_model.specs.declared.body.Region.{Region}
use Rattle.cil_model.specs.declared.body.Instr.{Instr}
use Rattle.cil_semantics.specs.Unwind.{holds_place, in_try}
use Rattle.il_flow.specs.Successors.{successors}
use Rattle.il_opcodes.specs.Opcodes.{class_of}
use Rattle.region_tree.specs.Holders.{AreHolders, behind, first_number, is_held}
use Rattle.region_tree.specs.Extents.{KeepsControl}
use Rattle.region_tree.specs.Nesting.{breaks_nesting, depths_of}
use Rattle.region_tree.specs.Marks.{AreMarks, has_edge, is_unmarked}
use Rattle.region_tree.specs.Order.{is_crossed}
use Rattle.region_tree.proofs.HolderLaws.{holds_false, holds_true}
use Rattle.region_tree.proofs.MarkLaws.{no_edge}
use Rattle.region_tree.specs.Rules.{BreaksControl, breaks_region, crosses, edge_test, end_test, filter_test, is_filter, nesting_test, goes_in, goes_out, in_handler, in_region, is_leave, is_out_of_place, is_ret}

pub none_crossed : (rs : List Region) (leaves : Bool) (k t : ℕ) → (leaves ≡ false → list_any (λ r. goes_out r k t) rs ≡ false) → list_any (λ r. goes_in r k t) rs ≡ false → is_crossed rs leaves k t ≡ false
none_crossed [] leaves k t out into = refl
none_crossed (r ∷ rs) leaves k t out into =
    let two = or_neither (goes_in r k t) (list_any (λ s. goes_in s k t) rs) into in
    rw (first leaves (λ e. (or_neither (goes_out r k t) (list_any (λ s. goes_out s k t) rs) (out e)).0), two.0)
    (none_crossed rs leaves k t (λ e. (or_neither (goes_out r k t) (list_any (λ s. goes_out s k t) rs) (out e)).1) two.1)
  where
    first : (b : Bool) → (b ≡ false → goes_out r k t ≡ false) → (not b && goes_out r k t) ≡ false
    first true f = refl
    first false f = f refl

-- ---- the next instruction

-- where a range neither begins nor ends at the second of two places, it holds both or none
same_held : (from to k : ℕ) → from ≢ k + 1 → to ≢ k + 1 → holds_place from to (k + 1) ≡ holds_place from to k
same_held from to k x y = go (holds_place from to k) refl (holds_place from to (k + 1)) refl
  where
    go : (a : Bool) → holds_place from to k ≡ a → (b : Bool) → holds_place from to (k + 1) ≡ b → b ≡ a
    go true e true f = refl
    go false e false f = refl
    go true e false f =
        let two = holds_true from to k e in
        elim (holds_false from to (k + 1) f) [ inl z ↦ absurd (omega (arith, z, two.0)) | inr z ↦ absurd (omega (arith, z, two.1, y)) ]
    go false e true f =
        let two = holds_true from to (k + 1) f in
        elim (holds_false from to k e) [ inl z ↦ absurd (omega (arith, z, two.0, x)) | inr z ↦ absurd (omega (arith, z, two.1)) ]

stays : (r : Region) (leaves : Bool) (k : ℕ) → in_try r (k + 1) ≡ in_try r k → in_handler r (k + 1) ≡ in_handler r k → crosses leaves r k (k + 1) ≡ false
stays r leaves k x y = go leaves (in_try r k) (in_try r (k + 1)) (in_handler r k) (in_handler r (k + 1)) (not (k + 1 == r.try_from)) x y
  where
    same : (b t h z : Bool) → ((not b && ((t && not t) || (h && not h))) || ((h && not h) || (t && (not t && z)))) ≡ false
    same true true true z = refl
    same true true false z = refl
    same true false true z = refl
    same true false false z = refl
    same false true true z = refl
    same false true false z = refl
    same false false true z = refl
    same false false false z = refl

    go : (b t t_next h h_next z : Bool) → t_next ≡ t → h_next ≡ h → ((not b && ((t && not t_next) || (h && not h_next))) || ((h_next && not h) || (t_next && (not t && z)))) ≡ false
    go b t t_next h h_next z x y = rw (x, y) (same b t h z)

neither : (a b : Bool) → a ≡ false → b ≡ false → (a || b) ≡ false
neither true b x y = absurd cc
neither false b x y = y

no_edge_crossed : (rs : List Region) (leaves : Bool) (k : ℕ) → list_any (has_edge (k + 1)) rs ≡ false → is_crossed rs leaves k (k + 1) ≡ false
no_edge_crossed [] leaves k e = refl
no_edge_crossed (r ∷ rs) leaves k e =
    let two = or_neither (has_edge (k + 1) r) (list_any (has_edge (k + 1)) rs) e in
    let none = no_edge (k + 1) r two.0 in
    neither (crosses leaves r k (k + 1)) (is_crossed rs leaves k (k + 1))
    (stays r leaves k (same_held r.try_from r.try_to k none.try_from none.try_to) (same_held r.handler_from r.handler_to k none.handler_from none.handler_to))
    (no_edge_crossed rs leaves k two.1)

pub unmarked_crosses_none : (rs : List Region) (marks : List Bool) (leaves : Bool) (k : ℕ) → AreMarks rs (length marks) marks → is_unmarked (slice_get marks (k + 1)) ≡ true → is_crossed rs leaves k (k + 1) ≡ false
unmarked_crosses_none rs marks leaves k are e = go (slice_get marks (k + 1)) refl e
  where
    go : (o : Option Bool) → slice_get marks (k + 1) ≡ o → is_unmarked o ≡ true → is_crossed rs leaves k (k + 1) ≡ false
    go None at u = absurd cc
    go (Some true) at u = absurd cc
    go (Some false) at u =
        no_edge_crossed rs leaves k (sym (are.each (k + 1) (slice_get_within marks (k + 1) false at)) ∙ get_or_from_slice_get marks (k + 1) false false at)

-- ---- ret

in_none : (rs : List Region) (k : ℕ) → first_number (λ r. is_held 0 r k) rs ≡ 0 → list_any (λ r. in_region r k) rs ≡ false
in_none [] k e = refl
in_none (r ∷ rs) k e = go (λ f. in_none rs k f) (is_held 0 r k) refl (first_number (λ s. is_held 0 s k) rs) refl e
  where
    same : in_region r k ≡ is_held 0 r k
    same = ap (λ (q : ℕ). holds_place q r.try_to k || in_handler r k) (omega arith)

    go : (first_number (λ s. is_held 0 s k) rs ≡ 0 → list_any (λ s. in_region s k) rs ≡ false) → (b : Bool) → is_held 0 r k ≡ b → (m : ℕ) → first_number (λ s. is_held 0 s k) rs ≡ m → cond b 1 (behind m) ≡ 0 → (in_region r k || list_any (λ s. in_region s k) rs) ≡ false
    go more true h m f g = absurd (omega (arith, g))
    go more false h zero f g = rw (same ∙ h) (more f)
    go more false h (suc m) f g = absurd (omega (arith, g))

pub lies_in_none : (rs : List Region) (holders : List ℕ) (k : ℕ) → AreHolders 0 rs (length holders) holders → k < length holders → get_or holders k 0 ≡ 0 → list_any (λ r. in_region r k) rs ≡ false
lies_in_none rs holders k h less e = in_none rs k (sym (h.each k less) ∙ e)

-- ---- an instruction

both_none : {X : Type 0} (f g : X → Bool) (xs : List X) → list_any (λ x. f x || g x) xs ≡ false → (list_any f xs ≡ false) × (list_any g xs ≡ false)
both_none f g [] e = (refl, refl)
both_none f g (x ∷ xs) e =
    let two = or_neither (f x || g x) (list_any (λ y. f y || g y) xs) e in
    let here = or_neither (f x) (g x) two.0 in
    let more = both_none f g xs two.1 in
    (rw here.0 more.0, rw here.1 more.1)

pub keeps_edges : (rs : List Region) (k : ℕ) (i : Instr) → (is_ret (class_of i.op) ≡ true → list_any (λ r. in_region r k) rs ≡ false) → list_any (is_crossed rs (is_leave (class_of i.op)) k) (successors k i) ≡ false → breaks_region rs k i ≡ false
keeps_edges [] k i x y = refl
keeps_edges (r ∷ rs) k i x y =
    let two = both_none (crosses (is_leave (class_of i.op)) r k) (is_crossed rs (is_leave (class_of i.op)) k) (successors k i) y in
    rw (first (is_ret (class_of i.op)) (λ e. (or_neither (in_region r k) (list_any (λ s. in_region s k) rs) (x e)).0), two.0)
    (keeps_edges rs k i (λ e. (or_neither (in_region r k) (list_any (λ s. in_region s k) rs) (x e)).1) two.1)
  where
    first : (b : Bool) → (b ≡ true → in_region r k ≡ false) → (b && in_region r k) ≡ false
    first true f = f refl
    first false f = refl

-- ---- the code

abbrev KeptAt : List Region → ℕ → Instr → Type 0
KeptAt rs k i = (breaks_region rs k i ≡ false) × (is_out_of_place rs k i ≡ false)

pub kept_more : (rs : List Region) (is : List Instr) (k : ℕ) (i : Instr) → k < length is → i ≡ get_or is k i → KeptAt rs k i → ((j : ℕ) (d : Instr) → j < k → KeptAt rs j (get_or is j d)) → (j : ℕ) (d : Instr) → j < k + 1 → KeptAt rs j (get_or is j d)
kept_more rs is k i h at here before j d less = go (eqb j k) refl
  where
    go : (b : Bool) → eqb j k ≡ b → KeptAt rs j (get_or is j d)
    go true e = rw (eqb-true j k e, ← get_or_read is k i h at d) here
    go false e = before j d (omega (arith, less, eqb-false j k e))

-- ---- no refusal

none_joined : (xs ys : List Test) → NoneBroken (Fails xs) → NoneBroken (Fails ys) → NoneBroken (Fails (xs ++ ys))
none_joined [] ys x y r f = y r f
none_joined (t ∷ ts) ys x y r (inl f) = x r (inl f)
none_joined (t ∷ ts) ys x y r (inr f) = none_joined ts ys (λ s g. x s (inr g)) y r f

none_numbered : {X : Type 0} (f : ℕ × X → Test) (n : ℕ) (xs : List X) → ((k : ℕ) (d : X) → k < length xs → (f (n + k, get_or xs k d)).fails ≡ false) → NoneBroken (Fails (map f (enumerate_from n xs)))
none_numbered f n [] passes r fails = absurd fails
none_numbered f n (x ∷ xs) passes r (inl g) =
    absurd (false≢true (sym (passes 0 x (omega arith)) ∙ (ap (λ (m : ℕ). (f (m, x)).fails) (omega arith) ∙ g.0)))
none_numbered f n (x ∷ xs) passes r (inr g) =
    none_numbered f (n + 1) xs (λ k d h. ap (λ (m : ℕ). (f (m, get_or xs k d)).fails) (omega arith) ∙ passes (suc k) d (omega (arith, h))) r g

none_filter : (place : Place) (b : Body) (rs : List Region) → list_any (λ r. is_filter r.kind) rs ≡ false → NoneBroken (Fails (map (filter_test place b) rs))
none_filter place b [] e r f = absurd f
none_filter place b (x ∷ xs) e r (inl f) = absurd (false≢true (sym (or_neither (is_filter x.kind) (list_any (λ r. is_filter r.kind) xs) e).0 ∙ f.0))
none_filter place b (x ∷ xs) e r (inr f) = none_filter place b xs (or_neither (is_filter x.kind) (list_any (λ r. is_filter r.kind) xs) e).1 r f

pub none_broken : (place : Place) (b : Body) → KeepsControl b.regions b.instrs → NoneBroken (BreaksControl place b)
none_broken place b x =
    none_joined (map (filter_test place b) b.regions) _ (none_filter place b b.regions x.filters)
    (none_joined (map (nesting_test place b) (enumerate_from 0 b.regions)) _ (none_numbered (nesting_test place b) 0 b.regions (λ k d h. at_number (λ (m : ℕ). breaks_nesting (take m b.regions) (get_or b.regions k d) (slice_index (depths_of b.regions) m)) k (x.rows.nested k d h)))
    (none_joined (map (edge_test place b) (enumerate_from 0 b.instrs)) _ (none_numbered (edge_test place b) 0 b.instrs (λ k d h. at_number (λ (m : ℕ). breaks_region b.regions m (get_or b.instrs k d)) k (x.code k d h).0))
    (none_numbered (end_test place b) 0 b.instrs (λ k d h. at_number (λ (m : ℕ). is_out_of_place b.regions m (get_or b.instrs k d)) k (x.code k d h).1))))
  where
    at_number : (f : ℕ → Bool) (k : ℕ) → f k ≡ false → f (0 + k) ≡ false
    at_number f k e = ap f (omega arith) ∙ e

pub none_broken_in : (place : Place) (b : Body) (rs : List Region) (is : List Instr) → rs ≡ b.regions → is ≡ b.instrs → KeepsControl rs is → NoneBroken (BreaksControl place b)
none_broken_in place b rs is x y k =
    none_broken place b (subst (λ (l : List Instr). KeepsControl b.regions l) y (subst (λ (l : List Region). KeepsControl l is) x k))
