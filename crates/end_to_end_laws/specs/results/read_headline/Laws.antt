-- What holds of programs that are read.
use Rattle.std.specs.Prelude.{ℕ, List}
use Rattle.cob_tree.specs.declared.program.Program.{Program}
use Rattle.cobol_read.specs.Reading.{Reads}
use Rattle.control_flow_theory.specs.language.Control.{control_of}
use Rattle.control_flow_theory.specs.language.Structured.{IsStructuredControl}
use Rattle.struct_form.specs.Structured as tree
use Rattle.pending_returns.specs.declared.facts.Summary.{Summary}
use Rattle.cobol_theory.specs.cobol_meaning.Same.{SameBehaviour}
use Rattle.procedure_split.specs.Splitting.{IsSplit}
use Rattle.procedure_split.specs.split_behaviour.Alike.{IsWellMade}
use Rattle.pending_returns.specs.FaultFree.{IsFaultFree}

-- programs that are read are well made
abbrev pub ProgramsThatAreReadAreWellMade : Type 0
ProgramsThatAreReadAreWellMade =
    (bytes : List ℕ) (program : Program) → Reads bytes program → IsWellMade program

-- what the bytes of a program without a fault of flow are split into is structured, and behaves as
-- they do over all files
abbrev pub ProgramsThatAreReadBehaveAlike : Type 0
ProgramsThatAreReadBehaveAlike =
    (bytes : List ℕ) (program made : Program) (summary : Summary) → Reads bytes program →
    IsFaultFree program summary → IsSplit program summary made →
    IsStructuredControl (control_of made) × SameBehaviour program made

-- what a program that is read is split into is structured as the tests of the tree tell it, without
-- EXIT
abbrev pub ProgramsThatAreReadAreStructured : Type 0
ProgramsThatAreReadAreStructured =
    (bytes : List ℕ) (program made : Program) (summary : Summary) → Reads bytes program →
    IsFaultFree program summary → IsSplit program summary made → tree.IsStructured made
