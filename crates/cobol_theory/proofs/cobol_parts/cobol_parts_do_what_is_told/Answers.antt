use Rattle.cobol_theory.proofs.cobol_parts_lemmas.Skips.{skips}
use Rattle.cobol_theory.proofs.cobol_parts_lemmas.Gives.{chooses}
use Rattle.cobol_theory.proofs.cobol_parts.cobol_parts_do_what_is_told.Goals as goal

pub returns : goal.returns
returns c declared returning =
    record { skips = skips declared; chooses = chooses declared }
