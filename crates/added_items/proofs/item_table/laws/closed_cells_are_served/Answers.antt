use Rattle.added_items.proofs.item_table_lemmas.Served.{are-served}
use Rattle.added_items.proofs.item_table.laws.closed_cells_are_served.Goals as goal

pub returns : goal.returns
returns c declared added order graphs few = are-served declared added order graphs few
