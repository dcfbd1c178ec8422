use Rattle.cobol_theory.proofs.cell_serving_lemmas.Choosers.{choose-alike}
use Rattle.cobol_theory.proofs.cell_serving.written_choosers_choose_alike.Goals as goal

pub returns : goal.returns
returns c declared literal chooser arms worth suits = choose-alike declared literal chooser arms worth suits
