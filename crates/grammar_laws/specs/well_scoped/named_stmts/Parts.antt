-- What the forms of which statements are made are to give, where no fault is noted.
use Rattle.std.specs.Prelude.{ℕ, ◌≡◌, true, List, Some}
use Rattle.parser_combinators.specs.declared.note.Position.{Position}
use Rattle.cobol_grammar.specs.stmt_forms.Part.{Parts}
use Rattle.cobol_grammar.specs.stmt_forms.File.{index_or_0}
use Rattle.program_facts.specs.well_scoped.Part.{Counts, are_digits, item_named, file_named, paragraph_named, place_named, operand_named, expr_named}
use Rattle.program_facts.specs.well_scoped.Beside.{cond_named}
use Rattle.grammar_laws.specs.form_results.Giving.{Gives}
use Rattle.grammar_laws.specs.form_results.Numbered.{IsNumbered}

-- each form gives what names what is there
pub record PartsGive (counts : Counts) {Side Known : Type 0} (parts : Parts Side Known) : Type 0
  where
    pub operand : Gives IsNumbered parts.operand
        (λ side. operand_named counts (parts.operand_of side) ≡ true)
    -- an item, which may be an operand too
    pub reference : Gives IsNumbered parts.reference
        (λ side. (place_named counts (parts.place_of side) ≡ true)
        × (operand_named counts (parts.operand_of side) ≡ true))
    pub reference_behind : (name : List ℕ) (position : Position) →
        Gives IsNumbered (parts.reference_behind name position)
        (λ side. operand_named counts (parts.operand_of side) ≡ true)
    pub digits_side : (digits : List ℕ) (position : Position) → are_digits digits ≡ true →
        operand_named counts (parts.operand_of (parts.digits_side digits position)) ≡ true
    pub expr : Gives IsNumbered parts.expr (λ side. expr_named counts (parts.expr_of side) ≡ true)
    pub cond : Gives IsNumbered parts.cond (λ found. cond_named counts found.0 ≡ true)
    pub file : Gives IsNumbered parts.file (λ found. file_named counts (index_or_0 found) ≡ true)
    pub record_name : Gives IsNumbered parts.record_name
        (λ side. item_named counts (parts.entry_of side) ≡ true)
    -- the entry and exit of each procedure are there
    pub procedure_of : (name : List ℕ) (span : ℕ × ℕ) → parts.procedure_of name ≡ Some span →
        (paragraph_named counts span.0 ≡ true) × (paragraph_named counts span.1 ≡ true)
