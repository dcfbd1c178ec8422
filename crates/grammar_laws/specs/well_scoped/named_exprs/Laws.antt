-- What references, operands, expressions and conditions give.
use Rattle.std.specs.Prelude.{ℕ, ◌≡◌, true, List}
use Rattle.parser_combinators.specs.declared.note.Position.{Position}
use Rattle.symbol_tables.specs.data_names.Names.{Names}
use Rattle.cobol_grammar.specs.expr_forms.Levels.{data_reference, data_reference_behind, data_operand, whole_expr}
use Rattle.cobol_grammar.specs.cond_forms.Condition.{whole_cond}
use Rattle.program_facts.specs.well_scoped.Part.{Counts}
use Rattle.program_facts.specs.well_scoped.Beside.{cond_named}
use Rattle.grammar_laws.specs.form_results.Giving.{Gives}
use Rattle.grammar_laws.specs.form_results.Numbered.{IsNumbered}
use Rattle.grammar_laws.specs.well_scoped.named_exprs.Sides.{AreDeclared, is_reference, what_named}

-- where no fault is noted, what they name is there and their numbers are numbers
pub record SidesGive (names : Names) (counts : Counts) : Type 0 where
  pub reference : Gives IsNumbered (data_reference names)
      (λ side. (what_named counts side.what ≡ true) × (is_reference side.what ≡ true))
  pub reference_behind : (first : List ℕ) (position : Position) →
      Gives IsNumbered (data_reference_behind names first position)
      (λ side. (what_named counts side.what ≡ true) × (is_reference side.what ≡ true))
  pub operand : Gives IsNumbered (data_operand names) (λ side. what_named counts side.what ≡ true)
  pub expr : Gives IsNumbered (whole_expr names) (λ side. what_named counts side.what ≡ true)
  pub cond : Gives IsNumbered (whole_cond names) (λ found. cond_named counts found.0 ≡ true)

-- references, expressions and conditions give what names what is there, over names that are
-- declared
abbrev pub ExpressionsGive : Type 0
ExpressionsGive = (names : Names) (counts : Counts) → AreDeclared names counts →
    SidesGive names counts
