-- What references, operands, expressions and conditions give.
use Rattle.std.specs.Prelude.{ℕ, ◌≡◌, true, List}
use Rattle.parser_combinators.specs.declared.note.Position.{Position}
use Rattle.symbol_tables.specs.data_names.Names.{Names}
use Rattle.cobol_grammar.specs.expr_forms.Levels.{data_reference, data_reference_behind, data_operand, whole_expr}
use Rattle.cobol_grammar.specs.cond_forms.Condition.{whole_cond}
use Rattle.grammar_laws.specs.form_results.Giving.{Gives}
use Rattle.round_trip.specs.printable.printable_tokens.Printable.{IsPrintable}
use Rattle.round_trip.specs.printable.Beside.{is_printable_cond}
use Rattle.round_trip.specs.printable.printable_exprs.Sides.{is_printable_what}

-- references, expressions and conditions that are read of tokens that can be printed can be printed
pub record SidesPrint (names : Names) : Type 0 where
  pub reference : Gives IsPrintable (data_reference names)
      (λ side. is_printable_what side.what ≡ true)
  pub reference_behind : (first : List ℕ) (position : Position) →
      Gives IsPrintable (data_reference_behind names first position)
      (λ side. is_printable_what side.what ≡ true)
  pub operand : Gives IsPrintable (data_operand names)
      (λ side. is_printable_what side.what ≡ true)
  pub expr : Gives IsPrintable (whole_expr names) (λ side. is_printable_what side.what ≡ true)
  pub cond : Gives IsPrintable (whole_cond names) (λ found. is_printable_cond found.0 ≡ true)

-- expressions can be printed so over any names
abbrev pub ExpressionsArePrintable : Type 0
ExpressionsArePrintable = (names : Names) → SidesPrint names
