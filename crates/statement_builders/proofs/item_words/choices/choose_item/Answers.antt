use Rattle.std.proofs.Common.{◌≡◌, ◌-◌, suc, true, false, map, subst, ap, sym, ◌∙◌, arith}
use Rattle.std.proofs.lemmas.Result.{IfOk-weaker}
use Rattle.control_flow_theory.specs.language.Control.{seen_stmts}
use Rattle.statement_builders.specs.item_words.Lists.{IsNumbered, IsNumberedAll, item_chosen}
use Rattle.statement_builders.proofs.item_words_lemmas.ChoiceRows.{item_all_row, item_tested_row}
use Rattle.statement_builders.proofs.item_words.choices.choose_item.Goals as goal

pub returns-then-cell-gt0 : goal.returns-then-cell-gt0
returns-then-cell-gt0 c =
    let item = c.args.cell.item in
    let most = c.args.cell.most in
    let lists = map (seen_stmts 0) c.args.arms.items in
    let one_less : suc (most - 1) ≡ most = omega arith in
    IfOk-weaker c.choose_numbered.result _ _
    (λ made h. item_all_row item (most - 1) lists made (subst (λ side. IsNumberedAll side (most - 1) lists made) c.item_side-side.ensures h)
    ∙ ap (λ m. item_chosen item true m lists) one_less ∙ ap (λ ends. item_chosen item ends most lists) (sym c.if-cell.true))
    c.choose_numbered.ensures

pub returns-else-cell : goal.returns-else-cell
returns-else-cell c =
    let item = c.args.cell.item in
    let most = c.args.cell.most in
    let lists = map (seen_stmts 0) c.args.arms.items in
    IfOk-weaker c.choose_tested.result _ _
    (λ made h. item_tested_row item most lists made (subst (λ side. IsNumbered side lists made) c.item_side-side.ensures h)
    ∙ ap (λ ends. item_chosen item ends most lists) (sym c.if-cell.false))
    c.choose_tested.ensures
