use Rattle.cobol_theory.proofs.cell_items_lemmas.Takes.{moved-value, unmoved-value}
use Rattle.cobol_theory.proofs.cell_items.moved_values_are_held.Goals as goal

pub returns : goal.returns
returns c areas item root digits signed store value operand cell = (
  λ worth holds is whole fits. moved-value areas item root digits signed cell store operand worth value holds is whole fits,
  λ abend is. unmoved-value areas item root digits signed cell store operand abend is,
)
