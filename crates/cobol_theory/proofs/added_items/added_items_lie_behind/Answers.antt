use Rattle.cobol_theory.proofs.added_items_lemmas.Layouts.{behind-all}
use Rattle.cobol_theory.proofs.added_items.added_items_lie_behind.Goals as goal

pub returns : goal.returns
returns c = behind-all
