use Rattle.cobol_theory.proofs.stored_numbers_lemmas.ReadBack.{read-back}
use Rattle.cobol_theory.proofs.stored_numbers.stored_numbers_are_read_back.Goals as goal

pub returns : goal.returns
returns c = read-back
