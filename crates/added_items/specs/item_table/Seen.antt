-- Shaped ranges, as the theory has them.
use Rattle.std.specs.Prelude.{ℕ, List, map}
use Rattle.lowering_labels.specs.points.FallThrough.{seen_range}
use Rattle.branch_tree.specs.Graph.{seen_added}
use Rattle.branch_tree.specs.Tree.{seen_body}
use Rattle.added_items.specs.mentions.CellUse.{cell_uses}
use Rattle.added_items.specs.declared.mentions.cell_use.CellUse.{CellUse}
use Rattle.added_items.specs.item_table.Row.{CellRange}
use Rattle.added_items.specs.declared.item_table.row.ShapedRange.{ShapedRange}

-- a shaped range
abbrev pub seen_cells : ShapedRange → CellRange
seen_cells one = record {
  range = seen_range one.range;
  added = map seen_added one.added.now;
  body = seen_body one.body.now.items;
}

-- shaped ranges
abbrev pub seen_ranges : List ShapedRange → List CellRange
seen_ranges ranges = map seen_cells ranges

-- the cells that are named, as often as they are
abbrev pub cells_of : List CellUse → List ℕ
cells_of told = map (λ (mention : CellUse). mention.cell) told

-- where each body names cells
abbrev pub cell_uses_of : List ShapedRange → List (List CellUse)
cell_uses_of ranges = map (λ (one : ShapedRange). cell_uses (seen_body one.body.now.items)) ranges
