use Rattle.added_items.specs.item_table.Numbering.{number_at}
use Rattle.added_items.specs.item_table.Seen.{seen_ranges}
use Rattle.added_items.proofs.item_table_lemmas.Once.{cell-items, number-same}
use Rattle.added_items.proofs.item_table.items.give_items.Goals as goal

pub returns-clause-cells : goal.returns-clause-cells
returns-clause-cells c =
    let ranges = seen_ranges c.args.ranges.now in
    let numbering = c.in_ok-numbering.numbering in
    cell-items (number_at numbering) c.args.first ranges c.in_ok-cells.cells (number-same ranges numbering c.in_ok-numbering.ensures) c.in_ok-cells.ensures
