-- How far a run comes: so many steps, and so many operations of the next one.
use Rattle.std.specs.Prelude.{ℕ, true, List, [], ◌∷◌, take}
use Rattle.cob_tree.specs.declared.program.Program.{Program}
use Rattle.file_model.specs.World.{World}
use Rattle.cob_act.specs.files.Over.{world_behind}
use Rattle.control_flow_theory.specs.language.Items.{Do, Item}
use Rattle.control_flow_theory.specs.language.Language as language
use Rattle.control_flow_theory.specs.language.Language.{Chooser}
use Rattle.control_flow_theory.specs.runs.Run.{Going}
use Rattle.control_flow_theory.specs.semantics.Outcome.{Standing, Trace}
use Rattle.meanings.specs.statements.Does.{declared_in, does}
use Rattle.meanings.specs.statements.Filing as filing
use Rattle.meanings.specs.statements.Filing.{Declared, Operation}
use Rattle.cobol_theory.specs.cobol_meaning.Acting.{Memory, events_of}
use Rattle.cobol_theory.specs.cobol_meaning.Runs.{Files, State}
use Rattle.cobol_run.specs.Running.{after}

-- ---- the operations of a step: statements that act have them, and READ, which chooses

-- the operations of a choice; only READ has some
abbrev pub chooser_operations : Declared → Chooser → Memory → List Operation
chooser_operations declared (language.Read file into has_end) memory =
    (filing.read declared memory.store memory.world file into has_end true).operations
chooser_operations declared _ memory = []

-- the operations of a statement
abbrev pub stmt_operations : Declared → language.Stmt → Memory → List Operation
stmt_operations declared (language.Do (language.Own stmt)) memory =
    (does declared stmt memory.store memory.world).operations
stmt_operations declared (language.Choose (language.By chooser) arms) memory =
    chooser_operations declared chooser memory
stmt_operations declared _ memory = []

-- the operations of the step that is next; a run that is over makes none
abbrev pub next_operations : Declared → Standing Files → List Item → Memory → List Operation
next_operations declared Going (Do stmt ∷ rest) memory = stmt_operations declared stmt memory
next_operations declared _ rest memory = []

-- the operations of the next step of a state
abbrev pub operations_in : Declared → State → List Operation
operations_in declared state =
    next_operations declared state.run.standing state.rest state.memory

-- ---- points

-- the world after so many steps
abbrev pub world_after : Program → Files → ℕ → World
world_after program files steps = (after program files steps).memory.world

-- the world after so many steps and so many operations of the next
abbrev pub world_at : Program → Files → (steps some : ℕ) → World
world_at program files steps some =
    world_behind some (world_after program files steps)
    (operations_in (declared_in program) (after program files steps))

-- what these operations show
abbrev pub events_at : Program → Files → (steps some : ℕ) → Trace
events_at program files steps some =
    events_of (take some (operations_in (declared_in program) (after program files steps)))
