use Rattle.cobol_theory.proofs.cell_items_lemmas.Tests.{tested}
use Rattle.cobol_theory.proofs.cell_items.held_numbers_are_compared.Goals as goal

pub returns : goal.returns
returns c areas item root digits signed store value number worth rel entries cell fits holding is =
    tested areas item root digits signed cell store value fits holding number worth is rel entries
