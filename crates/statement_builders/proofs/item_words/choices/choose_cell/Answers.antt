use Rattle.std.proofs.lemmas.Result.{IfOk-weaker}
use Rattle.statement_builders.proofs.item_words_lemmas.ChoiceRows.{cell_row}
use Rattle.statement_builders.proofs.item_words.choices.choose_cell.Goals as goal

pub returns-in-Ok : goal.returns-in-Ok
returns-in-Ok c =
    IfOk-weaker c.choose_item.result _ _
    (λ made h. cell_row c.args.cells.now c.args.cell c.in-Ok.found c.args.arms.items made c.in-Ok.ensures h) c.choose_item.ensures
