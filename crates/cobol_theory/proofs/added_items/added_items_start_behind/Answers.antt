use Rattle.cobol_theory.proofs.added_items_lemmas.Starts.{starts-behind}
use Rattle.cobol_theory.proofs.added_items.added_items_start_behind.Goals as goal

pub returns : goal.returns
returns c = starts-behind
