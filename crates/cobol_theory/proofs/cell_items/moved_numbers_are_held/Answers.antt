use Rattle.cobol_theory.proofs.cell_items_lemmas.Moves.{moved-number}
use Rattle.cobol_theory.proofs.cell_items.moved_numbers_are_held.Goals as goal

pub returns : goal.returns
returns c areas item root digits signed store value number worth cell holds is =
    moved-number areas item root digits signed cell store value holds number worth is
