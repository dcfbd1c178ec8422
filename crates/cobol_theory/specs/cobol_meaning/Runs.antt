-- How a program runs.
use Rattle.std.specs.Prelude.{ℕ, List, length, replicate}
use Rattle.cob_tree.specs.declared.program.Program.{Program}
use Rattle.cob_store.specs.Starting.{store_of}
use Rattle.file_model.specs.World.{World, Shelf}
use Rattle.file_model.specs.Attempts.{closed}
use Rattle.meanings.specs.statements.Filing.{Declared}
use Rattle.meanings.specs.statements.Does.{declared_in}
use Rattle.control_flow_theory.specs.runs.Machine.{iterate}
use Rattle.control_flow_theory.specs.language.Control.{control_of}
use Rattle.control_flow_theory.specs.semantics.Outcome.{Run}
use Rattle.control_flow_theory.specs.semantics.Doing.{Doing, alone}
use Rattle.control_flow_theory.specs.semantics.Source.{SourceState, source_step, source_begun}
use Rattle.control_flow_theory.specs.semantics.Structural.{structural}
use Rattle.cobol_theory.specs.cobol_meaning.Acting.{Memory, acting}

-- what a run leaves: the files on the devices
abbrev pub Files : Type 0
Files = List Shelf

-- the files that a memory leaves
abbrev pub files_left : Memory → Files
files_left memory = memory.world.shelves

-- these files, none of which is open
abbrev pub world_with : Declared → Files → World
world_with declared files =
    record { shelves = files; files = replicate (length declared.files) closed }

-- what a program stores at its start, over these files
abbrev pub first_memory : Declared → Files → Memory
first_memory declared files =
    record {
      store = store_of declared.entries declared.areas;
      world = world_with declared files;
    }

-- what the parts of a program do
abbrev pub doing_in : Declared → Doing Memory
doing_in declared = alone (acting declared)

-- a state of a source program's run
abbrev pub State : Type 0
State = SourceState Memory Files

-- one step of the program that declares this
abbrev pub step_in : Program → Declared → State → State
step_in program declared = source_step (doing_in declared) files_left (control_of program)

-- the state before the first step, over these files
abbrev pub begun_in : Program → Declared → Files → State
begun_in program declared files =
    source_begun (doing_in declared) files_left (control_of program) (first_memory declared files)

-- the source after so many steps, over these files
abbrev pub source_run : Program → Files → ℕ → Run Files
source_run program files steps =
    (iterate (step_in program (declared_in program)) steps (begun_in program
    (declared_in program) files)).run

-- what nested statements mean, within so many units
abbrev pub structural_run : Program → Files → ℕ → Run Files
structural_run program files units =
    structural (doing_in (declared_in program)) files_left (control_of program)
    (first_memory (declared_in program) files) units
