use Rattle.std.proofs.Common.{sym, subst, false}
use Rattle.std.proofs.lemmas.Result.{IfOk-weaker}
use Rattle.statement_builders.specs.item_words.Words.{IsTest}
use Rattle.statement_builders.proofs.item_words_lemmas.WordRows.{holds_row, is_row, above_row}
use Rattle.statement_builders.proofs.item_words.tests.bare_test.Goals as goal

pub returns-in-Holds : goal.returns-in-Holds
returns-in-Holds c =
    let cells = c.args.cells.now in
    IfOk-weaker c.own_cond.result _ _
    (λ made h. subst (λ t. IsTest cells false t made) (sym c.in-Holds.is) (holds_row cells c.in-Holds.cond made h)) c.own_cond.ensures

pub returns-in-Is : goal.returns-in-Is
returns-in-Is c =
    let cells = c.args.cells.now in
    IfOk-weaker c.cell_test.result _ _
    (λ made h. subst (λ t. IsTest cells false t made) (sym c.in-Is.is) (is_row cells c.in-Is.cell c.in-Is.value made h)) c.cell_test.ensures

pub returns-in-Above : goal.returns-in-Above
returns-in-Above c =
    let cells = c.args.cells.now in
    IfOk-weaker c.cell_test-in-Above.result _ _
    (λ made h. subst (λ t. IsTest cells false t made) (sym c.in-Above.is) (above_row cells c.in-Above.cell made h)) c.cell_test-in-Above.ensures
