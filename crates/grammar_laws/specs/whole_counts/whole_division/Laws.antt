-- What the PROCEDURE DIVISION counts by.
use Rattle.std.specs.Prelude.{◌≡◌, true, List}
use Rattle.cob_tree.specs.declared.entry.Entry.{Entry}
use Rattle.symbol_tables.specs.data_names.Names.{Names}
use Rattle.symbol_tables.specs.declared.procedure_names.table.ProcedureTable.{ProcedureTable}
use Rattle.cobol_grammar.specs.stmt_forms.Paragraph as paragraphs
use Rattle.cobol_grammar.specs.Whole.{parts_of}
use Rattle.grammar_laws.specs.form_results.Giving.{Gives}
use Rattle.grammar_laws.specs.form_results.Numbered.{IsNumbered}
use Rattle.grammar_laws.specs.whole_counts.whole_entries.Fitting.{NamesFit}
use Rattle.grammar_laws.specs.whole_counts.whole_stmts.Paragraph.{paragraphs_count_whole}

-- the paragraphs of a PROCEDURE DIVISION, read without a name fault, count by whole numbers
abbrev pub DivisionCountsWhole : Type 0
DivisionCountsWhole =
    (names : Names) (entries : List Entry) (table : ProcedureTable) → NamesFit names entries →
    Gives IsNumbered (paragraphs.division (parts_of names entries table))
    (λ found. paragraphs_count_whole entries found ≡ true)
