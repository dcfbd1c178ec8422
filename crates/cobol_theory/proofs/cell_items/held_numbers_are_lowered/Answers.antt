use Rattle.cobol_theory.proofs.cell_items_lemmas.Lowers.{lowered}
use Rattle.cobol_theory.proofs.cell_items.held_numbers_are_lowered.Goals as goal

pub returns : goal.returns
returns c areas item root digits store value number worth cell fits holding is =
    lowered areas item root digits cell store value fits holding number worth is
