-- What spells expressions, and with which tokens they don't begin.
use Rattle.std.proofs.Common.{◌≡◌, ℕ, ◌≤◌, true, false, ◌||◌, List, refl}
use Rattle.std.specs.Prelude.{codes}
use Rattle.std.specs.Str.{bytes_eq}
use Rattle.std.proofs.lemmas.Bool.{or_from}
use Rattle.cob_words.specs.Lists.{reserved_words, is_listed}
use Rattle.cob_tree.specs.declared.entry.Entry.{Entry}
use Rattle.cob_tree.specs.declared.place.Expr.{Expr}
use Rattle.cob_tree.specs.declared.place.Figure.{Figure}
use Rattle.cob_tree.specs.declared.place.Figure.TheVariants as figures
use Rattle.cob_tree.specs.declared.program.Program.{Program}
use Rattle.cobol_lex.specs.declared.token.TokenKind.TheVariants as kinds
use Rattle.unparser.specs.Place.{figure_word}
use Rattle.parser_combinators.specs.words.Word.{is_data_word}
use Rattle.symbol_tables.specs.data_names.Names.{Names}
use Rattle.symbol_tables.specs.declared.procedure_names.table.ProcedureTable.{ProcedureTable}
use Rattle.program_facts.specs.term_counts.Expression.{expr_terms}
use Rattle.cobol_grammar.specs.Whole.{parts_of}
use Rattle.round_trip.proofs.spelled_forms_lemmas.Makers.{where_behind}
use Rattle.round_trip.specs.spelling.stmt_spelling.Part.{is_test_word, is_value_word, SpellsExpr}
use Rattle.round_trip.specs.spelling.expr_spelling.Printable.{IsPrintableExpr}
use Rattle.round_trip.proofs.spelling_lemmas.expr_spelling_lemmas.Tests.{key-apart}
use Rattle.round_trip.proofs.spelling_lemmas.expr_spelling_lemmas.Levels.{whole_expr}
use Rattle.round_trip.proofs.spelling_lemmas.cond_spelling_lemmas.Tests.{Rejects, expr-rejects}
use Rattle.round_trip.specs.spelling.Kept.{kept_of}
use Rattle.round_trip.proofs.spelling_lemmas.Told.{part-expr}

-- ---- the words that may stand in the place of an expression

words-listed : (is_listed reserved_words (codes "ANY") ≡ true) × (is_listed reserved_words (codes "OTHER") ≡ true) × (is_listed reserved_words (codes "NOT") ≡ true)
    × (is_listed reserved_words (codes "TRUE") ≡ true) × (is_listed reserved_words (codes "FALSE") ≡ true)
unfolding reserved_words
words-listed = (refl, refl, refl, refl, refl)

value-figure : (figure : Figure) → is_value_word (kinds.Word (figure_word figure)) ≡ false
value-figure figures.Zero = refl
value-figure figures.Space = refl
value-figure figures.HighValue = refl
value-figure figures.LowValue = refl
value-figure figures.Quote = refl

test-figure : (figure : Figure) → is_test_word (kinds.Word (figure_word figure)) ≡ false
test-figure figures.Zero = refl
test-figure figures.Space = refl
test-figure figures.HighValue = refl
test-figure figures.LowValue = refl
test-figure figures.Quote = refl

test-word : (word : List ℕ) → is_data_word word ≡ true → is_test_word (kinds.Word word) ≡ false
test-word word h =
    or_from (bytes_eq (codes "ANY") word) (bytes_eq (codes "OTHER") word) (key-apart (codes "ANY") word words-listed.0 h) (key-apart (codes "OTHER") word words-listed.1 h)

value-word : (word : List ℕ) → is_data_word word ≡ true → is_value_word (kinds.Word word) ≡ false
value-word word h =
    or_from (is_test_word (kinds.Word word)) (bytes_eq (codes "NOT") word || (bytes_eq (codes "TRUE") word || bytes_eq (codes "FALSE") word)) (test-word word h)
    (or_from (bytes_eq (codes "NOT") word) (bytes_eq (codes "TRUE") word || bytes_eq (codes "FALSE") word) (key-apart (codes "NOT") word words-listed.2 h)
    (or_from (bytes_eq (codes "TRUE") word) (bytes_eq (codes "FALSE") word) (key-apart (codes "TRUE") word words-listed.3 h) (key-apart (codes "FALSE") word words-listed.4 h)))

rejects-value : Rejects is_value_word
rejects-value = record {
  digits = λ d. refl;
  decimal = λ d. refl;
  text = λ d. refl;
  figure = value-figure;
  word = value-word;
  minus = refl;
  opens = refl;
}

pub rejects-test : Rejects is_test_word
rejects-test = record {
  digits = λ d. refl;
  decimal = λ d. refl;
  text = λ d. refl;
  figure = test-figure;
  word = test-word;
  minus = refl;
  opens = refl;
}

-- ---- expressions

pub expr_spelled : (names : Names) (entries : List Entry) (table : ProcedureTable) (program : Program) (expr : Expr) → IsPrintableExpr names program expr → expr_terms expr ≤ 500 →
    SpellsExpr (parts_of names entries table) (kept_of names program) program expr
expr_spelled names entries table program expr fit few = record {
  spelled = λ n. where_behind part-expr (whole_expr names program expr fit few);
  plain = expr-rejects names program rejects-value expr fit;
}
