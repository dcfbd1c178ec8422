-- What holds of the words that programs are printed with.
use Rattle.std.specs.Prelude.{◌≡◌, None}
use Rattle.cob_tree.specs.declared.program.Program.{Program}
use Rattle.cobol_print.specs.Printed.{printed_tokens}
use Rattle.cobol_read.specs.LeftOut.{first_left_out}
use Rattle.round_trip.specs.printable.Whole.{IsPrintableProgram}
use Rattle.cobol_print.specs.units.Division.{program_units}

-- no word that a printable program is printed with is left out, be it a name or not, nor is the
-- sign of power
abbrev pub NoPrintedWordIsLeftOut : Type 0
NoPrintedWordIsLeftOut =
    (program : Program) → IsPrintableProgram program →
    first_left_out (printed_tokens 0 (program_units program)) ≡ None
