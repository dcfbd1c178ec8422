use Rattle.cobol_theory.proofs.cell_serving_lemmas.Serving.{serves}
use Rattle.cobol_theory.proofs.cell_serving.written_parts_serve.Goals as goal

pub returns : goal.returns
returns c declared added table literal chooser empty kinds whole apart are worth of starts =
    serves declared added table literal chooser empty kinds whole apart are worth of starts
