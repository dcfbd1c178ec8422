use Rattle.std.proofs.Common.{sym, subst}
use Rattle.std.proofs.lemmas.Result.{IfOk-weaker}
use Rattle.branch_tree.specs.declared.chooser.Picker.TheVariants as pickers
use Rattle.statement_builders.specs.item_words.Lists.{IsChosen}
use Rattle.statement_builders.proofs.item_words.choices.choose.Goals as goal

pub returns-in-By : goal.returns-in-By
returns-in-By c =
    let cells = c.args.cells.now in
    IfOk-weaker c.choose_by.result _ _
    (λ made h. subst (λ by. IsChosen cells by c.args.arms made) (sym c.in-By.is)
    (subst (λ lists. IsChosen cells (pickers.By c.in-By.chooser) lists made) c.into_vec-arms.ensures (λ way are. h way)))
    c.choose_by.ensures
