-- What the forms of which statements are made must be.
use Rattle.std.specs.Prelude.{ℕ, true, false, List}
use Rattle.parser_combinators.specs.declared.note.Position.{Position}
use Rattle.parser_combinators.proofs.MakerLaws.{Law}
use Rattle.cobol_grammar.specs.stmt_forms.Part.{Parts}

-- each form is lawful; each takes a token, but for what follows the first word of a reference
pub record PartsAreLawful {Side Known : Type 0} (parts : Parts Side Known) : Type 0 where
  pub operand : Law true parts.operand
  pub reference : Law true parts.reference
  pub reference_behind : (name : List ℕ) (position : Position) →
      Law false (parts.reference_behind name position)
  pub expr : Law true parts.expr
  pub cond : Law true parts.cond
  pub file : Law true parts.file
  pub record_name : Law true parts.record_name
  pub header_name : Law true parts.header_name
