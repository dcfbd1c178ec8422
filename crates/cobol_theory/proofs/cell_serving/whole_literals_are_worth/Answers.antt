use Rattle.cobol_theory.proofs.cell_serving_lemmas.Entries.{are-literals}
use Rattle.cobol_theory.proofs.cell_serving.whole_literals_are_worth.Goals as goal

pub returns : goal.returns
returns c = are-literals
