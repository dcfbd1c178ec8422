use Rattle.cobol_theory.proofs.cell_items_lemmas.Choices.{chosen-among, chosen-behind}
use Rattle.cobol_theory.proofs.cell_items.held_numbers_choose.Goals as goal

pub returns : goal.returns
returns c areas item root digits signed store held numbers entries cell fits holding are = (
  λ from to. chosen-among areas item root digits signed cell store held fits holding entries numbers are from to,
  λ more. chosen-behind areas item root digits signed cell store held fits holding entries numbers are more,
)
