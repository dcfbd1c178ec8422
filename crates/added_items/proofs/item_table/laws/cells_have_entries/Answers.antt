use Rattle.added_items.proofs.item_table_lemmas.Entered.{are-entries}
use Rattle.added_items.proofs.item_table.laws.cells_have_entries.Goals as goal

pub returns : goal.returns
returns c words ranges = are-entries words ranges
