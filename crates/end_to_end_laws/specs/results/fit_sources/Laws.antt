-- What holds of programs that are read, by tests of their own names.
use Rattle.std.specs.Prelude.{ℕ, false, List}
use Rattle.cob_tree.specs.declared.program.Program.{Program}
use Rattle.symbol_tables.specs.declared.procedure_names.table.ProcedureTable.{ProcedureTable}
use Rattle.cobol_grammar.specs.Whole.{parts_of}
use Rattle.cobol_read.specs.Reading.{Reads}
use Rattle.round_trip.specs.printable.printable_tokens.Printable.{IsPrintable}
use Rattle.round_trip.specs.spelling.Kept.{kept_of}
use Rattle.round_trip.specs.fitting_statements.Given.{PartsFit, FitParagraphs}
use Rattle.round_trip.specs.fitting_statements.own_fits.Own.{own_names, source_fits}

-- what is read with no fault passes
abbrev pub ReadPartsPass : Type 0
ReadPartsPass =
    (program : Program) (source : ProcedureTable) →
    PartsFit (parts_of (own_names program) program.entries source)
    (kept_of (own_names program) program) (source_fits program) IsPrintable

-- the statements of a program that is read pass its tests, are in scope and nest no deeper than
-- they may
abbrev pub ProgramsThatAreReadFit : Type 0
ProgramsThatAreReadFit =
    (bytes : List ℕ) (program : Program) → Reads bytes program →
    FitParagraphs (source_fits program) false program.paragraphs
