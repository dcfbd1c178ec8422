-- What is printed of programs that are read.
use Rattle.std.specs.Prelude.{ℕ, ◌≤◌, List, length}
use Rattle.cob_tree.specs.declared.program.Program.{Program}
use Rattle.cobol_print.specs.units.Division.{program_units}
use Rattle.cobol_print.specs.Program.{printed}
use Rattle.cobol_print.specs.Unit.{all_tokens}
use Rattle.cob_base.specs.Limit.{max_source, max_tokens}
use Rattle.cobol_read.specs.Reading.{Reads}
use Rattle.symbol_tables.specs.declared.procedure_names.table.ProcedureTable.{ProcedureTable}
use Rattle.cobol_grammar.specs.Whole.{parts_of}
use Rattle.round_trip.specs.printable.printable_tokens.Printable.{IsPrintable}
use Rattle.round_trip.specs.spelling.Kept.{kept_of}
use Rattle.round_trip.specs.fitting_statements.own_fits.Own.{own_names}
use Rattle.end_to_end_laws.specs.read_programs.readable_programs.Readable.{IsReadable, IsShort}
use Rattle.round_trip.specs.procedures.Own.{AreLabelled}
use Rattle.round_trip.specs.procedures.readable_stmts.Fit.{PartsFit}

-- what is read of a source is spelled again, where what its procedures are called is named by
-- labels where they are printed
abbrev pub ReadPartsFit : Type 0
ReadPartsFit =
    (program : Program) (source table : ProcedureTable) → AreLabelled source table program →
    PartsFit (parts_of (own_names program) program.entries source)
    (parts_of (own_names program) program.entries table)
    (kept_of (own_names program) program) program IsPrintable

-- what is printed of them can be read, unless it is too long
abbrev pub ProgramsThatAreReadAreReadable : Type 0
ProgramsThatAreReadAreReadable =
    (bytes : List ℕ) (program : Program) → Reads bytes program → IsShort program →
    IsReadable program

-- unless it has too many bytes or tokens for a source
abbrev pub ProgramsThatAreReadReadBack : Type 0
ProgramsThatAreReadReadBack =
    (bytes : List ℕ) (program : Program) → Reads bytes program →
    length (printed program) ≤ max_source →
    length (all_tokens (program_units program)) ≤ max_tokens →
    Reads (printed program) program
