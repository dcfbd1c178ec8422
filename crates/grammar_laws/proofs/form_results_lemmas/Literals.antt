-- What numbers and literals give.
use Rattle.std.proofs.Common.{◌≡◌, Bool, true, false, List, ℕ, length, Some, ap, sym, ◌∙◌, subst, arith}
use Rattle.std.proofs.lemmas.Bool.{le-leb}
use Rattle.cob_tree.specs.declared.number.Number.{Number}
use Rattle.cob_tree.specs.declared.place.Figure.{Figure}
use Rattle.cob_tree.specs.declared.place.Operand.{Operand, out-roll-Operand}
use Rattle.cob_tree.specs.declared.place.Expr.TheOpen.{Operand-F}
use Rattle.cob_tree.specs.declared.place.Operand.TheVariants as operands
use Rattle.cobol_lex.specs.declared.token.TokenKind.{TokenKind}
use Rattle.cobol_lex.specs.declared.token.TokenKind.TheVariants as kinds
use Rattle.parser_combinators.specs.Part as part
use Rattle.parser_combinators.proofs.MakerLaws as laws
use Rattle.parser_combinators.specs.words.Constant as constants
use Rattle.program_facts.specs.well_scoped.Part.{Counts, are_digits, number_named, operand_named}
use Rattle.program_facts.proofs.well_scoped_lemmas.Made.{both, made-Number-operand, made-Text-operand, made-Figure-operand}
use Rattle.grammar_laws.specs.form_results.Giving.{Gives}
use Rattle.grammar_laws.specs.form_results.Numbered.{IsNumbered, literal_step, is_literal}
use Rattle.grammar_laws.proofs.form_results_lemmas.Giving.{any, pure, valued, where_next, hence, ◌>>=◌}

digits_are : (kind : TokenKind) (digits : List ℕ) → IsNumbered kind → part.digits_of kind ≡ Some digits → are_digits digits ≡ true
digits_are (kinds.Digits found) digits k e = subst (λ d. are_digits d ≡ true) (some_is e) k
  where
    some_is : Some found ≡ Some digits → found ≡ digits
    some_is e = cc
digits_are (kinds.Word word) digits k e = absurd cc
digits_are (kinds.Decimal number) digits k e = absurd cc
digits_are (kinds.Literal text) digits k e = absurd cc
digits_are (kinds.Picture picture) digits k e = absurd cc
digits_are kinds.Period digits k e = absurd cc
digits_are (kinds.Mark byte) digits k e = absurd cc
digits_are kinds.LessEqual digits k e = absurd cc
digits_are kinds.GreaterEqual digits k e = absurd cc
digits_are kinds.Power digits k e = absurd cc

decimal_is : (kind : TokenKind) (number : Number) → IsNumbered kind → part.decimal_of kind ≡ Some number → number_named number ≡ true
decimal_is (kinds.Decimal found) number k e = subst (λ d. number_named d ≡ true) (some_is e) k
  where
    some_is : Some found ≡ Some number → found ≡ number
    some_is e = cc
decimal_is (kinds.Word word) number k e = absurd cc
decimal_is (kinds.Digits digits) number k e = absurd cc
decimal_is (kinds.Literal text) number k e = absurd cc
decimal_is (kinds.Picture picture) number k e = absurd cc
decimal_is kinds.Period number k e = absurd cc
decimal_is (kinds.Mark byte) number k e = absurd cc
decimal_is kinds.LessEqual number k e = absurd cc
decimal_is kinds.GreaterEqual number k e = absurd cc
decimal_is kinds.Power number k e = absurd cc

pub digits : Gives IsNumbered part.digits (λ found. are_digits found.0 ≡ true)
digits = valued part.digits_of digits_are

pub decimal : Gives IsNumbered part.decimal (λ found. number_named found.0 ≡ true)
decimal = valued part.decimal_of decimal_is

pub whole-named : (negative : Bool) (digits : List ℕ) → are_digits digits ≡ true → number_named (record { negative = negative; digits = digits; scale = 0 }) ≡ true
whole-named negative found h = both h (le-leb 0 (length found) (omega arith))

-- what is known of a literal: it is one, and named whatever there is
abbrev pub Literal : Operand → Type 0
Literal operand = (is_literal operand ≡ true) × ((counts : Counts) → operand_named counts operand ≡ true)

number-literal : (number : Number) → number_named number ≡ true → Literal (operands.Number number)
number-literal number h = (
  ap is_literal (sym (operands.rolls-Number number)) ∙ ap literal_step (out-roll-Operand (Operand-F.Number number)) ∙ h,
  λ counts. made-Number-operand counts number h,
)

text-literal : (text : List ℕ) → Literal (operands.Text text)
text-literal text = (
  ap is_literal (sym (operands.rolls-Text text)) ∙ ap literal_step (out-roll-Operand (Operand-F.Text text)),
  λ counts. made-Text-operand counts text,
)

figure-literal : (figure : Figure) → Literal (operands.Figure figure)
figure-literal figure = (
  ap is_literal (sym (operands.rolls-Figure figure)) ∙ ap literal_step (out-roll-Operand (Operand-F.Figure figure)),
  λ counts. made-Figure-operand counts figure,
)

pub whole-literal : (digits : List ℕ) → are_digits digits ≡ true → Literal (operands.Number (constants.whole digits))
whole-literal digits h = number-literal (constants.whole digits) (whole-named false digits h)

pub literal-given : Gives IsNumbered constants.literal (λ found. Literal found.0)
unfolding constants.literal constants.whole_number constants.other_number constants.text_or_figure constants.text constants.figure
literal-given =
    where_next (digits >>= (λ found. pure (λ h. whole-literal found.0 h)))
    (where_next (decimal >>= (λ found. pure (λ h. number-literal found.0 h)))
    (where_next (any laws.literal >>= (λ found. pure (λ _. text-literal found.0)))
    (any (laws.valued constants.figure_of) >>= (λ found. pure (λ _. figure-literal found.0)))))

pub literal : Gives IsNumbered constants.literal (λ found. is_literal found.0 ≡ true)
literal = hence (λ found h. h.0) literal-given
