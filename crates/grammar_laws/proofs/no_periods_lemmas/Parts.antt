-- What the forms on which statements stand must take.
use Rattle.std.specs.Prelude.{ℕ, List}
use Rattle.parser_combinators.specs.declared.note.Position.{Position}
use Rattle.cobol_grammar.specs.stmt_forms.Part.{Parts}
use Rattle.grammar_laws.specs.no_periods.Plain.{Plain}

pub record PartsArePlain {Side Known : Type 0} (parts : Parts Side Known) : Type 0 where
  pub operand : Plain parts.operand
  pub reference : Plain parts.reference
  pub reference_behind : (name : List ℕ) (position : Position) →
      Plain (parts.reference_behind name position)
  pub expr : Plain parts.expr
  pub cond : Plain parts.cond
  pub file : Plain parts.file
  pub record_name : Plain parts.record_name
