use Rattle.std.proofs.Common.{◌≡◌, ℕ, ◌+◌, map, length, Some}
use Rattle.std.specs.Prelude.{slice_get}
use Rattle.branch_tree.specs.Graph.{seen_added}
use Rattle.added_items.specs.mentions.CellUse.{first_arms}
use Rattle.added_items.specs.item_table.CellItem.{IsAsked}
use Rattle.added_items.specs.item_table.Owners.{kind_in}
use Rattle.added_items.specs.item_table.Numbering.{number_at}
use Rattle.added_items.specs.item_table.Tables.{ends_in_other, most_by}
use Rattle.statement_builders.specs.declared.item_words.cells.CellItem.{CellItem}
use Rattle.added_items.proofs.item_table.cell_item.range_items.Given as goal

abbrev pub invariant-loop-cell : goal.invariant-loop-cell
invariant-loop-cell l = record {
  count : length l.items ≡ l.cell;
  each : (cell : ℕ) (found : CellItem) → slice_get l.items cell ≡ Some found →
      IsAsked (l.first + number_at l.numbering (l.before + cell))
      (most_by (first_arms cell l.told) (kind_in (map seen_added l.added) cell))
      (ends_in_other (kind_in (map seen_added l.added) cell)) found;
}
