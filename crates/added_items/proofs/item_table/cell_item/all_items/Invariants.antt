use Rattle.std.proofs.Common.{◌≡◌, ℕ, take, length, Some}
use Rattle.std.specs.Prelude.{slice_get, List}
use Rattle.control_flow_theory.specs.main_theorem.Chain.{stmts_arms}
use Rattle.added_items.specs.item_table.CellItem.{AreAsked}
use Rattle.added_items.specs.item_table.Numbering.{number_at}
use Rattle.added_items.specs.item_table.Row.{CellRange, kinds_of_row}
use Rattle.added_items.specs.item_table.Seen.{seen_ranges}
use Rattle.statement_builders.specs.declared.item_words.cells.CellItem.{CellItem}
use Rattle.added_items.proofs.item_table.cell_item.all_items.Given as goal

abbrev pub invariant-loop-at : goal.invariant-loop-at
invariant-loop-at l = record {
  before : l.before ≡ length (kinds_of_row (take l.at (seen_ranges l.ranges)));
  count : length l.lists ≡ l.at;
  each : (at : ℕ) (one : CellRange) (items : List CellItem) →
      slice_get (seen_ranges l.ranges) at ≡ Some one → slice_get l.lists at ≡ Some items →
      AreAsked (number_at l.numbering) l.first (length (kinds_of_row (take at (seen_ranges l.ranges)))) one.added
      (λ cell. stmts_arms cell one.body) items;
}
