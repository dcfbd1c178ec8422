use Rattle.std.proofs.Common.{true, false, sym, subst}
use Rattle.cob_tree.specs.declared.cond.Cond.TheVariants.{Not}
use Rattle.statement_builders.specs.item_words.Words.{IsTest}
use Rattle.statement_builders.proofs.item_words_lemmas.WordRows.{turned_row}
use Rattle.statement_builders.proofs.item_words.tests.written_test.Goals as goal

pub returns-in_ok-inner : goal.returns-in_ok-inner
returns-in_ok-inner c =
    let cells = c.args.cells.now in
    let test = c.args.test in
    let cond = c.in_ok-cond.cond in
    subst (λ made. IsTest cells c.args.turned test (Not made)) (sym c.in_ok-inner.ensures)
    (subst (λ turned. IsTest cells turned test (Not cond)) (sym c.if-turned.true) (turned_row cells test cond c.in_ok-cond.ensures))

pub returns-else-turned : goal.returns-else-turned
returns-else-turned c =
    subst (λ turned. IsTest c.args.cells.now turned c.args.test c.in_ok-cond.cond) (sym c.if-turned.false) c.in_ok-cond.ensures
