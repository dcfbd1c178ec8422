-- What a step shows, event by event, where what it does with files is kept.
use Rattle.std.specs.Prelude.{ℕ, suc, ◌≡◌, IsTrue, List, [], ◌∷◌, ◌++◌, map, take, Result, Ok, Err}
use Rattle.cob_act.specs.files.Work.{events_kept}
use Rattle.cob_base.specs.declared.memory.NoMemory.{NoMemory}
use Rattle.cob_tree.specs.declared.file.FileEntry.{FileEntry}
use Rattle.cob_tree.specs.declared.program.Program.{Program}
use Rattle.cob_tree.specs.declared.stmt.Stmt.{Stmt}
use Rattle.control_flow_theory.specs.language.Control.{seen}
use Rattle.control_flow_theory.specs.language.Language as language
use Rattle.control_flow_theory.specs.runs.Run.{Over}
use Rattle.control_flow_theory.specs.semantics.Outcome.{Trace}
use Rattle.cobol_theory.specs.cobol_meaning.Acting.{event_seen}
use Rattle.cobol_theory.specs.cobol_meaning.Runs.{Files, State, source_run}
use Rattle.file_model.specs.World.{World}
use Rattle.file_model.specs.declared.table.FileRow.{FileRow}
use Rattle.file_model.specs.operations.Calls.{addresses_of}
use Rattle.file_model.specs.operations.Falling.{AreShut, LeftOf, is_used}
use Rattle.file_model.specs.operations.Seen.{Seen}
use Rattle.file_model.specs.operations.Shutting.{LeavesFiles, StandsLeft}
use Rattle.meanings.specs.statements.Does.{declared_in}
use Rattle.cobol_run.specs.declared.machine.Ending.{Ending}
use Rattle.cobol_run.specs.declared.machine.Machine.{Machine}
use Rattle.cobol_run.specs.declared.machine.StepOutcome.{StepOutcome}
use Rattle.cobol_run.specs.declared.machine.StepOutcome.TheVariants as step
use Rattle.cobol_run.specs.declared.events.Finished.{Finished}
use Rattle.cobol_run.specs.declared.events.Finished.TheVariants as finished
use Rattle.cobol_run.specs.Falling.{FellNamed, NamesFit, SameBench}
use Rattle.cobol_run.specs.Machine.{ending_seen, state_in}
use Rattle.cobol_run.specs.Over.{StandsOver}
use Rattle.cobol_run.specs.Plan.{declared_by}
use Rattle.cobol_run.specs.Points.{world_after}
use Rattle.cobol_run.specs.Running.{after}

-- ---- the events of a step

-- what the statement shows is what its operations show: it acts, or is a READ
abbrev pub ShowsOperations : language.Stmt → Type 0
ShowsOperations (language.Do (language.Own stmt)) = Unit {0}
ShowsOperations (language.Choose (language.By (language.Read file into has_end)) arms) = Unit {0}
ShowsOperations _ = ⊥

-- the statement is so in each section
abbrev pub IsFiled : Stmt → Type 0
IsFiled stmt = (last : ℕ) → ShowsOperations (seen last stmt)

-- the operations on files of the machine's last step, as events of the theory of control
abbrev pub filed_events : Machine → Trace
filed_events machine = map event_seen (events_kept machine.work)

-- the events of the machine's last step, which came to this: what it displayed, or its operations
-- on files
abbrev pub step_events : StepOutcome → Machine → Trace
step_events step.Shown machine = (0 ∷ machine.held.shown) ∷ []
step_events _ machine = filed_events machine

-- the state showed this and then the events of the machine's last step; nothing is said where a
-- device failed
abbrev pub Shows : StepOutcome → Machine → Trace → State → Type 0
Shows step.On machine trace state = state.run.trace ≡ trace ++ step_events step.On machine
Shows step.Shown machine trace state = state.run.trace ≡ trace ++ step_events step.Shown machine
Shows (step.Over ending) machine trace state =
    state.run.trace ≡ trace ++ step_events (step.Over ending) machine
Shows step.Failed machine trace state = Unit {0}

-- ---- steps

-- the machine stands over the devices where the source stands after so many steps, having shown
-- this, and keeps what it does with files
pub record Tracks (program : Program) (files : Files) (machine : Machine) (devices : List Seen)
    (done : ℕ) (trace : Trace) : Type 0 where
  -- the machine has what the program declares
  pub declared : declared_by machine.plan ≡ declared_in program
  -- and the program itself
  pub same : machine.plan.program.now ≡ program
  -- what it does with files is kept
  pub keeps : IsTrue machine.work.keeps
  pub world : World
  -- the source's state is that of the machine
  pub reached : after program files done ≡ state_in machine world trace
  -- the files are over the devices as the world has them
  pub stands : StandsOver machine devices world

-- the run ended so after so many steps, having shown this, and the files of the machine's program
-- are over the devices as it left them
pub record Ended (program : Program) (files : Files) (machine : Machine) (devices : List Seen)
    (done : ℕ) (trace : Trace) (ending : Ending) : Type 0 where
  -- the source's run ended so
  pub reached : source_run program files done ≡ record {
    trace = trace;
    standing = Over (ending_seen ending (world_after program files done).shelves);
  }
  -- the files are over the devices as its world has them
  pub stands : StandsOver machine devices (world_after program files done)

-- what one more step comes to: it adds its events, or a device failed, or memory ran out
abbrev pub TracksOn : Program → Files → Result StepOutcome NoMemory → Machine → List Seen → ℕ →
    Trace → Type 0
TracksOn program files (Ok step.On) machine devices done trace =
    Tracks program files machine devices (suc done) (trace ++ step_events step.On machine)
TracksOn program files (Ok step.Shown) machine devices done trace =
    Tracks program files machine devices (suc done) (trace ++ step_events step.Shown machine)
TracksOn program files (Ok (step.Over ending)) machine devices done trace =
    Ended program files machine devices (suc done)
    (trace ++ step_events (step.Over ending) machine) ending
TracksOn program files (Ok step.Failed) machine devices done trace = Unit {0}
TracksOn program files (Err e) machine devices done trace = Unit {0}

-- ---- the bench

-- what is left of a bench on which devices may have failed, no file on these being open now
pub record LeftSoFar (files : List FileEntry) (left left_now : ℕ) (old new : List Seen)
    (table : List FileRow) : Type 0 where
  -- the devices that failed
  pub gone : List (List ℕ)
  -- what is left of the bench without them
  pub bench : LeftOf (is_used (addresses_of files)) gone left left_now old new
  -- no file on a device that failed is open
  pub apart : AreShut gone (addresses_of files) table

-- how the devices came out where one failed first: its name, for which there may be no room
abbrev pub finished_by : Result (List ℕ) NoMemory → Finished
finished_by (Ok name) = finished.DeviceFault name
finished_by (Err e) = finished.NoMemory

-- these devices failed, by how they came out: none, or first the one that is named
abbrev pub FinishNames : Finished → List (List ℕ) → Type 0
FinishNames finished.Whole gone = gone ≡ []
FinishNames (finished.DeviceFault name) gone =
    (later : List (List ℕ)) × (gone ≡ later ++ name ∷ [])
FinishNames finished.NoMemory gone = Unit {0}

-- what closing leaves of a bench of which these devices had failed, and of the files
pub record Finishes (came : Finished) (files : List FileEntry) (gone : List (List ℕ))
    (left left_now : ℕ) (old new before : List Seen) (table : List FileRow) : Type 0 where
  -- the devices that failed, before or now
  pub all : List (List ℕ)
  -- what is left of the bench without them
  pub bench : LeftOf (is_used (addresses_of files)) all left left_now old new
  -- the answer names the first of them
  pub names : FinishNames came all
  -- the devices that are left have the files of the world, and none is open
  pub leaves : (world : World) → StandsLeft (addresses_of files) gone before table world →
      LeavesFiles (addresses_of files) all (take left_now new) world

-- no device failed, or one of that name first; where its name has room in so many bytes, it is told
abbrev pub FinishFalls : Finished → ℕ → List FileEntry → (left left_now : ℕ) →
    (old new : List Seen) → Type 0
FinishFalls finished.Whole room files left left_now old new =
    SameBench files left left_now old new
FinishFalls (finished.DeviceFault name) room files left left_now old new =
    FellNamed name left left_now old new
FinishFalls finished.NoMemory room files left left_now old new = NamesFit room old → ⊥
