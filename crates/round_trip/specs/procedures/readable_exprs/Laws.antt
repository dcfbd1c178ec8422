-- What is read with no name fault, by the names of its own program.
use Rattle.std.specs.Prelude.{ℕ, ◌≡◌, true, List}
use Rattle.cob_tree.specs.declared.program.Program.{Program}
use Rattle.parser_combinators.specs.declared.note.Position.{Position}
use Rattle.parser_combinators.specs.words.Word.{is_data_word}
use Rattle.symbol_tables.specs.data_names.Names.{Names, names_of}
use Rattle.cobol_grammar.specs.expr_forms.Side.{digits_side}
use Rattle.cobol_grammar.specs.expr_forms.Levels.{data_reference, data_reference_behind, data_operand, whole_expr}
use Rattle.cobol_grammar.specs.cond_forms.Condition.{whole_cond}
use Rattle.grammar_laws.specs.form_results.Giving.{Gives}
use Rattle.round_trip.specs.printable.printable_tokens.Printable.{IsPrintable}
use Rattle.round_trip.specs.procedures.readable_exprs.Readable.{IsReadablePlace, IsReadableOperand, IsReadableExpr, IsReadableCond}

-- each form gives what can be read again
pub record SidesAreReadable (names : Names) (program : Program) : Type 0 where
  pub reference : Gives IsPrintable (data_reference names) (IsReadablePlace names program)
  -- after its first word
  pub reference_behind : (first : List ℕ) (position : Position) →
      Gives IsPrintable (data_reference_behind names first position)
      (λ side. is_data_word first ≡ true → IsReadablePlace names program side)
  pub digits_side : (digits : List ℕ) (position : Position) →
      IsReadableOperand names program 1 (digits_side digits position)
  pub operand : Gives IsPrintable (data_operand names) (IsReadableOperand names program 1)
  pub expr : Gives IsPrintable (whole_expr names) (IsReadableExpr names program)
  pub cond : Gives IsPrintable (whole_cond names) (λ found. IsReadableCond names program found.0)

-- expressions can be read again in each program
abbrev pub ExpressionsAreReadable : Type 0
ExpressionsAreReadable = (names : Names) (program : Program) →
    names ≡ names_of program.files program.entries → SidesAreReadable names program
