use Rattle.cobol_theory.proofs.cell_serving_lemmas.Amounts.{whole-item}
use Rattle.cobol_theory.proofs.cell_serving.whole_places_are_whole.Goals as goal

pub returns : goal.returns
returns c = whole-item
