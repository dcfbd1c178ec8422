-- What the PROCEDURE DIVISION gives.
use Rattle.std.specs.Prelude.{List}
use Rattle.cob_tree.specs.declared.entry.Entry.{Entry}
use Rattle.symbol_tables.specs.data_names.Names.{Names}
use Rattle.symbol_tables.specs.declared.procedure_names.table.ProcedureTable.{ProcedureTable}
use Rattle.cobol_grammar.specs.stmt_forms.Paragraph as paragraphs
use Rattle.cobol_grammar.specs.Whole.{parts_of}
use Rattle.grammar_laws.specs.form_results.Giving.{Gives, Each}
use Rattle.round_trip.specs.printable.printable_tokens.Printable.{IsPrintable}
use Rattle.round_trip.specs.printable.Whole.{IsPrintableParagraph}

-- the PROCEDURE DIVISION, read of tokens that can be printed, gives paragraphs that can be, over
-- the names, entries and procedures of a program
abbrev pub DivisionsPrint : Type 0
DivisionsPrint =
    (names : Names) (entries : List Entry) (table : ProcedureTable) →
    Gives IsPrintable (paragraphs.division (parts_of names entries table))
    (λ found. Each IsPrintableParagraph found)
