-- Shaped ranges, as the theory has them.
use Rattle.std.specs.Prelude.{List, [], ◌∷◌, map}
use Rattle.cob_tree.specs.declared.program.Range.{Range}
use Rattle.lowering_labels.specs.points.FallThrough.{seen_range}
use Rattle.branch_tree.specs.Graph.{seen_added}
use Rattle.control_flow_theory.specs.semantics.Graph.{body_of}
use Rattle.branch_tree.specs.Tree.{seen_tree}
use Rattle.added_items.specs.item_table.Row.{CellRange}
use Rattle.procedure_split.specs.declared.shaped_ranges.shaping.Closed.{Closed}

-- a range with what it was shaped to
abbrev pub row_of : Range → Closed → CellRange
row_of range closed = record {
  range = seen_range range;
  added = map seen_added closed.added.items;
  body = body_of (seen_tree closed.tree);
}

-- each range with what it was shaped to
abbrev pub rows_of : List Range → List Closed → List CellRange
rows_of [] closed = []
rows_of (range ∷ ranges) [] = []
rows_of (range ∷ ranges) (one ∷ closed) = row_of range one ∷ rows_of ranges closed
