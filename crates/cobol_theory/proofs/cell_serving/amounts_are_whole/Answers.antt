use Rattle.cobol_theory.proofs.cell_serving_lemmas.Amounts.{whole-amount}
use Rattle.cobol_theory.proofs.cell_serving.amounts_are_whole.Goals as goal

pub returns : goal.returns
returns c = whole-amount
