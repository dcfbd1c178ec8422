-- What the PROCEDURE DIVISION gives.
use Rattle.std.specs.Prelude.{ℕ, ◌≡◌, ◌≤◌, true, List, length}
use Rattle.cob_tree.specs.declared.entry.Entry.{Entry}
use Rattle.cobol_lex.specs.declared.token.Token.{Token}
use Rattle.symbol_tables.specs.data_names.Names.{Names}
use Rattle.symbol_tables.specs.declared.procedure_names.table.ProcedureTable.{ProcedureTable}
use Rattle.cobol_grammar.specs.stmt_forms.Paragraph as paragraphs
use Rattle.symbol_tables.specs.procedure_names.Procedures.{procedures_of}
use Rattle.cobol_grammar.specs.Whole.{parts_of}
use Rattle.program_facts.specs.well_scoped.Part.{Counts, is_filled}
use Rattle.program_facts.specs.well_scoped.Named.{paragraphs_named}
use Rattle.grammar_laws.specs.form_results.Giving.{Gives}
use Rattle.grammar_laws.specs.form_results.Numbered.{IsNumbered}
use Rattle.grammar_laws.specs.well_scoped.named_exprs.Sides.{AreDeclared}

-- there are no more names and entries of a program, and procedures of these tokens, than are
-- counted
pub record AreCounted (names : Names) (entries : List Entry) (table : ProcedureTable)
    (counts : Counts) : Type 0 where
  pub declared : AreDeclared names counts
  pub items : length entries ≤ counts.items
  pub told : table.count ≤ counts.paragraphs

-- the PROCEDURE DIVISION, read without a name fault, gives paragraphs whose statements name what is
-- there
abbrev pub DivisionGives : Type 0
DivisionGives =
    (names : Names) (entries : List Entry) (tokens : List Token) (from : ℕ) (counts : Counts) →
    AreCounted names entries (procedures_of tokens from) counts →
    Gives IsNumbered (paragraphs.division (parts_of names entries (procedures_of tokens from)))
    (λ found. (is_filled found ≡ true) × (paragraphs_named counts found ≡ true))
