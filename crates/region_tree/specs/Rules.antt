-- The rules on regions and on what goes into them and out of them (ECMA-335, III.1.7.5, III.3.15 to 3.18, 3.35, 3.46, 3.57, 4.24).
use Rattle.std.specs.Prelude.{ℕ, Bool, true, false, ◌&&◌, ◌||◌, ◌==◌, not, List, ◌++◌, map, slice_index, take}
use Rattle.std.specs.List.{list_any, enumerate_from}
use Rattle.cil_base.specs.declared.rule.Rule.TheVariants.{X1, X2, X3, X4}
use Rattle.cil_base.specs.declared.refusal.Place.{Place}
use Rattle.cil_base.specs.declared.refusal.Refusal.{Refusal}
use Rattle.cil_base.specs.Refusals.{Test, Fails}
use Rattle.cil_model.specs.declared.body.Body.{Body}
use Rattle.cil_model.specs.declared.body.Instr.{Instr}
use Rattle.cil_model.specs.declared.body.Region.{Region}
use Rattle.cil_model.specs.declared.body.RegionKind.{RegionKind}
use Rattle.cil_model.specs.declared.body.RegionKind.TheVariants as region
use Rattle.il_opcodes.specs.declared.class.Class.{Class}
use Rattle.il_opcodes.specs.declared.class.Class.TheVariants as class
use Rattle.il_opcodes.specs.Opcodes.{class_of}
use Rattle.cil_semantics.specs.Unwind.{holds_place, in_try}
use Rattle.il_flow.specs.Lowest.{test}
use Rattle.il_flow.specs.Successors.{successors}
use Rattle.region_tree.specs.Nesting.{breaks_nesting, depths_of}

abbrev pub in_handler : Region → ℕ → Bool
in_handler r q = holds_place r.handler_from r.handler_to q

-- ---- the table

abbrev pub is_filter : RegionKind → Bool
is_filter (region.Filter place) = true
is_filter _ = false

-- ---- the code

abbrev pub is_ret : Class → Bool
is_ret class.Return = true
is_ret _ = false

abbrev pub is_leave : Class → Bool
is_leave class.Leave = true
is_leave _ = false

abbrev pub is_endfinally : Class → Bool
is_endfinally class.EndFinally = true
is_endfinally _ = false

abbrev pub is_rethrow : Class → Bool
is_rethrow class.Rethrow = true
is_rethrow _ = false

abbrev pub in_region : Region → ℕ → Bool
in_region r q = in_try r q || in_handler r q

-- from a place in a part to one outside it
abbrev pub goes_out : Region → ℕ → ℕ → Bool
goes_out r k t = (in_try r k && not (in_try r t)) || (in_handler r k && not (in_handler r t))

-- from a place outside a handler into it, or from one outside a try into it but at its first instruction
abbrev pub goes_in : Region → ℕ → ℕ → Bool
goes_in r k t = (in_handler r t && not (in_handler r k)) || (in_try r t && (not (in_try r k) && not (t == r.try_from)))

abbrev pub crosses : Bool → Region → ℕ → ℕ → Bool
crosses is_leave r k t = (not is_leave && goes_out r k t) || goes_in r k t

-- ret in a region, or control goes over a region's edge where it may not
abbrev pub breaks_region : List Region → ℕ → Instr → Bool
breaks_region rs k i =
    list_any (λ r. (is_ret (class_of i.op) && in_region r k) || list_any (crosses (is_leave (class_of i.op)) r k) (successors k i)) rs

abbrev pub may_leave : Region → ℕ → Bool
may_leave r q = in_try r q || in_kind r.kind
  where
    in_kind : RegionKind → Bool
    in_kind (region.Catch token) = in_handler r q
    in_kind _ = false

abbrev pub may_end : Region → ℕ → Bool
may_end r q = in_kind r.kind
  where
    in_kind : RegionKind → Bool
    in_kind region.Finally = in_handler r q
    in_kind region.Fault = in_handler r q
    in_kind _ = false

abbrev pub may_rethrow : Region → ℕ → Bool
may_rethrow r q = in_kind r.kind
  where
    in_kind : RegionKind → Bool
    in_kind (region.Catch token) = in_handler r q
    in_kind _ = false

-- leave, endfinally or rethrow stands where no region has it
abbrev pub is_out_of_place : List Region → ℕ → Instr → Bool
is_out_of_place rs k i =
    (is_leave (class_of i.op) && not (list_any (λ r. may_leave r k) rs))
    || ((is_endfinally (class_of i.op) && not (list_any (λ r. may_end r k) rs))
    || (is_rethrow (class_of i.op) && not (list_any (λ r. may_rethrow r k) rs)))

-- ---- the tests

abbrev pub offset : Body → ℕ → ℕ
offset b k = slice_index b.offsets k

abbrev pub filter_test : Place → Body → Region → Test
filter_test place b r = test X1 place (offset b r.try_from) (is_filter r.kind)

abbrev pub nesting_test : Place → Body → ℕ × Region → Test
nesting_test place b x =
    test X2 place (offset b x.1.try_from) (breaks_nesting (take x.0 b.regions) x.1 (slice_index (depths_of b.regions) x.0))

abbrev pub edge_test : Place → Body → ℕ × Instr → Test
edge_test place b x = test X3 place (offset b x.0) (breaks_region b.regions x.0 x.1)

abbrev pub end_test : Place → Body → ℕ × Instr → Test
end_test place b x = test X4 place (offset b x.0) (is_out_of_place b.regions x.0 x.1)

abbrev pub the_tests : Place → Body → List Test
the_tests place b =
    map (filter_test place b) b.regions
    ++ (map (nesting_test place b) (enumerate_from 0 b.regions)
    ++ (map (edge_test place b) (enumerate_from 0 b.instrs) ++ map (end_test place b) (enumerate_from 0 b.instrs)))

-- One of X1 to X4 is broken with this refusal.
abbrev pub BreaksControl : Place → Body → Refusal → Type 0
BreaksControl place b r = Fails (the_tests place b) r
