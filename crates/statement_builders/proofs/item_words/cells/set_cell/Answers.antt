use Rattle.std.proofs.Common.{ap, ◌∙◌}
use Rattle.std.proofs.lemmas.Result.{IfOk-weaker}
use Rattle.cobol_theory.specs.cell_serving.Naming.{move_to}
use Rattle.statement_builders.proofs.item_words_lemmas.WordRows.{set_row}
use Rattle.statement_builders.proofs.item_words.cells.set_cell.Goals as goal

pub returns : goal.returns
returns c =
    let found = c.in_ok-found.found in
    IfOk-weaker c.move_to.result _ _
    (λ made e. set_row c.args.cells.now c.args.cell found c.in_ok-found.ensures c.args.value made (e ∙ ap (move_to found.item) c.in_ok-number.ensures))
    c.move_to.ensures
