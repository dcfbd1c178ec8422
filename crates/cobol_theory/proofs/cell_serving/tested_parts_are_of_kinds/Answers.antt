use Rattle.cobol_theory.proofs.cell_serving_lemmas.Tested.{of-kinds}
use Rattle.cobol_theory.proofs.cell_serving.tested_parts_are_of_kinds.Goals as goal

pub returns : goal.returns
returns c = of-kinds
