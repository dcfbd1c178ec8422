-- What parts of statements are to give, where what is read of them can be printed.
use Rattle.std.specs.Prelude.{ℕ, ◌≡◌, true, List}
use Rattle.parser_combinators.specs.declared.note.Position.{Position}
use Rattle.cobol_grammar.specs.stmt_forms.Part.{Parts}
use Rattle.program_facts.specs.well_scoped.Part.{are_digits}
use Rattle.grammar_laws.specs.form_results.Giving.{Gives}
use Rattle.round_trip.specs.printable.printable_tokens.Header.{IsHeaderName}
use Rattle.round_trip.specs.printable.printable_tokens.Printable.{IsPrintable}
use Rattle.round_trip.specs.printable.Part.{is_printable_place, is_printable_operand, is_printable_expr}
use Rattle.round_trip.specs.printable.Beside.{is_printable_cond}

-- each part gives what can be printed
pub record PartsPrint {Side Known : Type 0} (parts : Parts Side Known) : Type 0 where
  pub operand : Gives IsPrintable parts.operand
      (λ side. is_printable_operand (parts.operand_of side) ≡ true)
  -- an item, which may be an operand too
  pub reference : Gives IsPrintable parts.reference
      (λ side. (is_printable_place (parts.place_of side) ≡ true)
      × (is_printable_operand (parts.operand_of side) ≡ true))
  pub reference_behind : (name : List ℕ) (position : Position) →
      Gives IsPrintable (parts.reference_behind name position)
      (λ side. is_printable_operand (parts.operand_of side) ≡ true)
  pub digits_side : (digits : List ℕ) (position : Position) → are_digits digits ≡ true →
      is_printable_operand (parts.operand_of (parts.digits_side digits position)) ≡ true
  pub expr : Gives IsPrintable parts.expr
      (λ side. is_printable_expr (parts.expr_of side) ≡ true)
  pub cond : Gives IsPrintable parts.cond (λ found. is_printable_cond found.0 ≡ true)
  pub header_name : Gives IsPrintable parts.header_name (λ found. IsHeaderName found.0)
