use Rattle.cobol_theory.proofs.served_programs_lemmas.Taken.{graphs-served}
use Rattle.cobol_theory.proofs.served_programs.proper_programs_have_served_graphs.Goals as goal

pub returns : goal.returns
returns c = graphs-served
