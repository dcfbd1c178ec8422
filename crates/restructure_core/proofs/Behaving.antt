-- What a program that is read is split into is structured, and behaves as it does.
use Rattle.std.proofs.Common.{ℕ, List}
use Rattle.cob_tree.specs.declared.program.Program.{Program}
use Rattle.struct_form.specs.Structured.{IsStructured}
use Rattle.cobol_theory.specs.cobol_meaning.Same.{SameBehaviour}
use Rattle.procedure_split.specs.declared.writing.Split.{Split}
use Rattle.end_to_end_laws.proofs.results_lemmas.read_headline_lemmas.WellMade.{read-alike, read-structured}
use Rattle.cobol_read.specs.Reading.{Reads}
use Rattle.restructure_core.specs.Made.{IsMadeOf}

pub made-structured : (bytes : List ℕ) (program : Program) (made : Split) →
    Reads bytes program → IsMadeOf program made → IsStructured made.program
made-structured bytes program made reads is =
    read-structured bytes program made.program is.summary reads
    is.clear.flow is.split.is

pub made-behaves : (bytes : List ℕ) (program : Program) (made : Split) →
    Reads bytes program → IsMadeOf program made → SameBehaviour program made.program
made-behaves bytes program made reads is =
    (read-alike bytes program made.program is.summary reads
    is.clear.flow is.split.is).1
