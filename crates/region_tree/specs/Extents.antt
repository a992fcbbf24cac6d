-- Protected blocks by their places, and the rows of a table that lie in them.
use Rattle.std.specs.Prelude.{◌≡◌, ◌≤◌, ◌<◌, ◌-◌, ◌++◌, ℕ, true, List, [], ◌∷◌, All, slice_index, slice_index_or, false, length, map, take}
use Rattle.std.specs.List.{AllPairs, list_any}
use Rattle.cil_model.specs.declared.body.Instr.{Instr}
use Rattle.cil_model.specs.declared.body.Region.{Region}
use Rattle.region_tree.specs.declared.order.Extent.{Extent}
use Rattle.region_tree.specs.declared.order.Taken.{Taken}
use Rattle.region_tree.specs.Nesting.{breaks_nesting, depths_of, handler_start, is_nested}
use Rattle.region_tree.specs.Order.{AreInOrder, AreKept, HasParts, StandsBefore}
use Rattle.region_tree.specs.Rules.{is_filter}

-- a row of the table, with a height above those of the rows that are nested in it
pub record Row : Type 0 where
  pub region : Region
  pub height : ℕ

abbrev pub regions_of : List Row → List Region
regions_of rows = map (λ (x : Row). x.region) rows

pub record Precedes (x y : Row) : Type 0 where
  pub may : StandsBefore x.region y.region
  pub lower : is_nested x.region y.region ≡ true → x.height < y.height

-- the row lies in the try of the block, or it is one of its own, or it lies in an earlier handler
pub data LiesIn (e : Extent) (x : Row) : Type 0 where
  in_try : e.from ≤ x.region.try_from → x.region.handler_to ≤ e.to → x.height ≤ e.inner → LiesIn e x
  own : x.region.try_from ≡ e.from → x.region.try_to ≡ e.to → x.region.handler_to ≤ e.end → LiesIn e x
  in_handler : e.to ≤ x.region.try_from → x.region.handler_to ≤ e.end → LiesIn e x

-- a proper row of a height up to 1,000 that lies in one of the first blocks
pub record IsPlaced (es : List Extent) (top : ℕ) (x : Row) : Type 0 where
  pub proper : HasParts x.region
  pub some : 0 < x.height
  pub few : x.height ≤ 1000
  pub at : ℕ
  pub there : at < top
  pub low : (d : Extent) → x.height ≤ (slice_index_or es at d).height
  pub lies : (d : Extent) → LiesIn (slice_index_or es at d) x

-- The first blocks stand one behind another, and the rows so far lie in them.
pub record ArePlaced (rows : List Row) (es : List Extent) (top : ℕ) : Type 0 where
  pub within : top ≤ length es
  pub order : AllPairs Precedes rows
  pub laid : All (IsPlaced es top) rows
  pub some : (k : ℕ) (d : Extent) → k < top → ((slice_index_or es k d).from < (slice_index_or es k d).to) × ((slice_index_or es k d).to < (slice_index_or es k d).end)
  pub rising : (j k : ℕ) (d : Extent) → j < k → k < top → (slice_index_or es j d).end ≤ (slice_index_or es k d).from
  pub last : (k : ℕ) (d : Extent) (s : Region) → k < top → s.try_from ≡ (slice_index_or es k d).from → s.try_to ≡ (slice_index_or es k d).to → handler_start (regions_of rows) s ≡ (slice_index_or es k d).end

-- the blocks from the end that begin at a place or behind it, all of which end up to another place
pub record Takes (es : List Extent) (top from to : ℕ) (t : Taken) : Type 0 where
  pub fewer : t.top ≤ top
  pub begins : (k : ℕ) (d : Extent) → t.top ≤ k → k < top → from ≤ (slice_index_or es k d).from
  pub ends : (k : ℕ) (d : Extent) → t.top ≤ k → k < top → (slice_index_or es k d).end ≤ to
  pub high : (k : ℕ) (d : Extent) → t.top ≤ k → k < top → (slice_index_or es k d).height ≤ t.height
  pub left : (d : Extent) → 0 < t.top → (slice_index_or es (t.top - 1) d).end ≤ from

-- A row that goes on with the table keeps the rules on nesting.
pub record GoesOn (rows : List Row) (r : Region) (es : List Extent) (top : ℕ) : Type 0 where
  pub height : ℕ
  pub laid : ArePlaced (rows ++ record { region = r; height = height } ∷ []) es top
  pub start : r.handler_from ≡ handler_start (regions_of rows) r

abbrev pub PlacesRow : Region → (old new : List Extent) → (top new_top : ℕ) → Type 0
PlacesRow r old new top new_top = (rows : List Row) → ArePlaced rows old top → GoesOn rows r new new_top

-- So many rows of a table stand in order, in the first blocks.
pub record StandSoFar (rs : List Region) (count : ℕ) (es : List Extent) (top : ℕ) : Type 0 where
  pub rows : List Row
  pub are : regions_of rows ≡ take count rs
  pub laid : ArePlaced rows es top
  pub starts : (k : ℕ) (d : Region) → k < count → (slice_index_or rs k d).handler_from ≡ handler_start (take k rs) (slice_index_or rs k d)

-- All rows stand in order, and none breaks a rule on nesting.
pub record StandInOrder (rs : List Region) : Type 0 where
  pub order : AreInOrder rs
  pub nested : (k : ℕ) (d : Region) → k < length rs → breaks_nesting (take k rs) (slice_index_or rs k d) (slice_index (depths_of rs) k) ≡ false

-- No filter, no row and no instruction breaks a rule on regions.
pub record KeepsControl (rs : List Region) (is : List Instr) : Type 0 where
  pub filters : list_any (λ r. is_filter r.kind) rs ≡ false
  pub rows : StandInOrder rs
  pub code : AreKept rs is
