use Rattle.cobol_theory.proofs.served_programs_lemmas.Taken.{program-served}
use Rattle.cobol_theory.proofs.served_programs.proper_programs_are_served.Goals as goal

pub returns : goal.returns
returns c program writing range proper whole fit keeps =
    program-served program writing range proper fit keeps whole
