use Rattle.std.proofs.Common.{◌≡◌, ◌++◌, map}
use Rattle.cobol_theory.specs.cell_items.Laws.{number_tests}
use Rattle.cobol_theory.specs.cell_serving.Entries.{whole_literal}
use Rattle.cobol_theory.specs.cell_serving.Naming.{numbers_from}
use Rattle.statement_builders.proofs.item_words.numbers.add_tests.Given as goal

abbrev pub invariant-loop-number : goal.invariant-loop-number
invariant-loop-number l =
    l.tests ≡ l.fn.tests ++ map number_tests (numbers_from whole_literal 1 l.number)
