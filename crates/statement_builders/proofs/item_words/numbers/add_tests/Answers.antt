use Rattle.std.proofs.Common.{◌+◌, ◌++◌, [], ◌∷◌, map, ap, sym, ◌∙◌, append_assoc}
use Rattle.cobol_theory.specs.cell_items.Laws.{number_tests}
use Rattle.cobol_theory.specs.cell_serving.Entries.{whole_literal}
use Rattle.cobol_theory.specs.cell_serving.Naming.{numbers_from}
use Rattle.statement_builders.proofs.item_words_lemmas.NumberRows.{numbers_next}
use Rattle.statement_builders.proofs.item_words.numbers.add_tests.Goals as goal

pub loop-number-preserved : goal.loop-number-preserved
loop-number-preserved c =
    let at = c.loop-number.number in
    let last = number_tests (whole_literal (at + 1)) ∷ [] in
    let before = map number_tests (numbers_from whole_literal 1 at) in
    c.in_ok-push.ensures.ok
    ∙ ap (λ tests. c.loop-number.tests ++ tests ∷ []) c.in_ok-number_tests.ensures
    ∙ ap (λ l. l ++ last) c.loop-number.invariant
    ∙ append_assoc c.args.tests.now before last
    ∙ ap (λ l. c.args.tests.now ++ l) (sym (numbers_next at))
