use Rattle.std.proofs.lemmas.Result.{IfOk-weaker}
use Rattle.statement_builders.proofs.item_words_lemmas.WordRows.{lower_row}
use Rattle.statement_builders.proofs.item_words.cells.lower_cell.Goals as goal

pub returns : goal.returns
returns c =
    IfOk-weaker c.subtract_one.result _ _
    (λ made e. lower_row c.args.cells.now c.args.cell c.in_ok-found.found c.in_ok-found.ensures made e) c.subtract_one.ensures
