use Rattle.cobol_theory.proofs.cell_serving_lemmas.Entries.{are-declared}
use Rattle.cobol_theory.proofs.cell_serving.cell_entries_are_declared.Goals as goal

pub returns : goal.returns
returns c program result cells table begins levels files entries are = are-declared program result cells table begins levels files entries are
