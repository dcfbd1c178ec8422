use Rattle.std.proofs.lemmas.Result.{IfOk-weaker}
use Rattle.statement_builders.proofs.item_words_lemmas.WordRows.{take_row}
use Rattle.statement_builders.proofs.item_words.cells.take_cell.Goals as goal

pub returns-in-Ok : goal.returns-in-Ok
returns-in-Ok c =
    IfOk-weaker c.move_to.result _ _
    (λ made e. take_row c.args.cells.now c.args.cell c.in-Ok.found c.in-Ok.ensures c.args.amount made e)
    c.move_to.ensures
