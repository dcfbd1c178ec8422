use Rattle.cobol_theory.proofs.cell_serving_lemmas.AtEnd.{suits}
use Rattle.cobol_theory.proofs.cell_serving.alike_reads_suit.Goals as goal

pub returns : goal.returns
returns c = suits
