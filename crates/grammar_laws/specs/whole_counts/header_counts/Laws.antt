-- What headers tell.
use Rattle.std.specs.Prelude.{ℕ, ◌≡◌, List, length}
use Rattle.cob_tree.specs.declared.entry.Entry.{Entry}
use Rattle.cob_tree.specs.declared.program.Paragraph.{Paragraph}
use Rattle.symbol_tables.specs.data_names.Names.{Names}
use Rattle.parser_combinators.specs.Form.{Input, Got}
use Rattle.symbol_tables.specs.declared.procedure_names.table.ProcedureTable.{ProcedureTable}
use Rattle.symbol_tables.specs.procedure_names.Procedures.{procedures_of}
use Rattle.cobol_grammar.specs.stmt_forms.Paragraph.{division}
use Rattle.cobol_grammar.specs.Whole.{parts_of}

-- the headers of the tokens after the division's header count its paragraphs, however many tokens
-- come before them
abbrev pub HeadersCountTheParagraphs : Type 0
HeadersCountTheParagraphs =
    (names : Names) (entries : List Entry) (table : ProcedureTable) →
    (p : Input) (found : List Paragraph) (q : Input) (from : ℕ) →
    (division (parts_of names entries table)).reads p ≡ Got found q →
    (procedures_of p.rest from).count ≡ length found
