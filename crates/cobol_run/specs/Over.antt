-- Steps and runs over devices that tell their files, exact.
use Rattle.std.specs.Prelude.{ℕ, suc, ◌≡◌, ◌<◌, ◌≤◌, ◌==◌, List, [], ◌∷◌, ◌++◌, take, Result, Ok, Err}
use Rattle.cob_base.specs.Sink.{SinkCall}
use Rattle.cob_act.specs.declared.acting.ActOutcome.{ActOutcome}
use Rattle.cob_act.specs.declared.acting.ActOutcome.TheVariants as done
use Rattle.cob_store.specs.Store.{Roots}
use Rattle.cob_tree.specs.declared.file.FileEntry.{FileEntry}
use Rattle.cob_tree.specs.declared.program.Program.{Program}
use Rattle.cob_tree.specs.declared.stmt.Arms.{Arms}
use Rattle.cob_tree.specs.declared.stmt.Stmt.{Stmt}
use Rattle.file_model.specs.declared.table.FileRow.{FileRow}
use Rattle.file_model.specs.World.{World, shelf_found}
use Rattle.file_model.specs.operations.Calls.{addresses_of}
use Rattle.file_model.specs.operations.Seen.{Seen, device_found}
use Rattle.file_model.specs.operations.Standing.{SameShelf, TellUsed}
use Rattle.file_model.specs.declared.operations.fault.FileFault.{FileFault}
use Rattle.cob_act.specs.files.Over.{BrokeIn, IsOver, world_behind}
use Rattle.file_model.specs.declared.operations.fault.FileFault.TheVariants as faults
use Rattle.cob_act.specs.files.Ends.{gone_by}
use Rattle.cob_base.specs.declared.memory.NoMemory.{NoMemory}
use Rattle.meanings.specs.statements.Filing.{Operation}
use Rattle.file_model.specs.operations.Falling.{AreShut, LeftOf, is_used}
use Rattle.file_model.specs.operations.Shutting.{LeavesFiles, StandsLeft}
use Rattle.control_flow_theory.specs.runs.Run.{Going, Over}
use Rattle.control_flow_theory.specs.semantics.Items as control
use Rattle.control_flow_theory.specs.semantics.Items.{item_way}
use Rattle.control_flow_theory.specs.semantics.Outcome.{Abend, Trace}
use Rattle.control_flow_theory.specs.language.Control.{seen, seen_stmts}
use Rattle.control_flow_theory.specs.language.Items.{Do, Item, before}
use Rattle.meanings.specs.statements.Does.{declared_in}
use Rattle.cobol_theory.specs.cobol_meaning.Acting.{Memory, abend_number, events_of}
use Rattle.cobol_theory.specs.cobol_meaning.Runs.{Files, State, doing_in, source_run}
use Rattle.cob_base.specs.giving.Giving.{Gained, Gains}
use Rattle.cobol_run.specs.declared.frame.Frame.{Frame}
use Rattle.cobol_run.specs.declared.machine.Ending.{Ending}
use Rattle.cobol_run.specs.declared.machine.Ending.TheVariants as ending
use Rattle.cobol_run.specs.declared.machine.Machine.{Machine}
use Rattle.cobol_run.specs.declared.machine.StepOutcome.{StepOutcome}
use Rattle.cobol_run.specs.declared.machine.StepOutcome.TheVariants as step
use Rattle.cobol_run.specs.declared.running.Ran.{Ran}
use Rattle.cobol_run.specs.declared.running.Ran.TheVariants as ran
use Rattle.cobol_run.specs.Frames.{last_of, rest_of}
use Rattle.cobol_run.specs.Machine.{ending_seen, rest_in, state_in}
use Rattle.cobol_run.specs.Plan.{declared_by, memory_in}
use Rattle.cobol_run.specs.Falling.{Names}
use Rattle.cobol_run.specs.Own.{IsOwn}
use Rattle.cobol_run.specs.Points.{events_at, world_after, world_at}
use Rattle.cobol_run.specs.Running.{Stands, after, begun_sink, displayed}
use Rattle.cobol_run.specs.NextStep.{either}

-- ---- statements on files

-- the arm that was chosen is to be done first
abbrev pub armed_rest : ℕ → ActOutcome → Arms → List Item → List Item
armed_rest last (done.Chose arm) arms rest = before (seen_stmts last (either arms (arm == 1))) rest
armed_rest last _ arms rest = rest

-- the way of a statement on files: it went on with this rest, or ended the run
abbrev pub filed_way : ActOutcome → Trace → Memory → List Item → control.Way Memory
filed_way (done.Abended abend) events memory rest =
    control.Halts events (Abend (abend_number abend)) memory
filed_way _ events memory rest = control.On events memory rest

-- what was meant of the section's last paragraph is what was done; nothing was displayed
abbrev pub FiledOver : Result ActOutcome FileFault → List FileEntry → List Seen → List FileRow →
    Roots →
    List Frame → (ℕ → control.Way Memory) → Type 0
FiledOver (Ok done) files devices table store frames meant =
    (now : World) × (events : Trace) × (displayed events ≡ [])
    × ((last : ℕ) → filed_way done events (memory_in store now) (rest_of last frames) ≡ meant last)
    × IsOver files devices table now
FiledOver (Err fault) files devices table store frames meant = Unit {0}

-- the statement broke off after some of these operations, which display nothing
abbrev pub BrokeBehind : FileFault → List FileEntry → World → List Operation → (left : ℕ) →
    List Seen → List FileRow → Type 0
BrokeBehind fault files world operations left devices table = (some : ℕ)
    × BrokeIn fault files (world_behind some world operations) left devices table
    × (displayed (events_of (take some operations)) ≡ [])

-- where the statement broke off, it did so after some of its operations
abbrev pub FiledBreaks : Result ActOutcome FileFault → List FileEntry → World →
    (ℕ → List Operation) →
    (left : ℕ) → List Seen → List FileRow → Type 0
FiledBreaks (Ok done) files world operations left devices table = Unit {0}
FiledBreaks (Err fault) files world operations left devices table =
    (last : ℕ) → BrokeBehind fault files world (operations last) left devices table

-- what a step comes to whose statement did this
abbrev pub step_done : ActOutcome → StepOutcome
step_done (done.Abended abend) = step.Over (ending.Abended abend)
step_done _ = step.On

-- ---- a step

-- the files of the machine's program stand over the devices in a world
abbrev pub StandsOver : Machine → List Seen → World → Type 0
StandsOver machine devices world =
    IsOver machine.plan.program.now.files devices machine.table.rows world

-- what a statement comes to in a world, before the rest
abbrev pub stmt_meant : Machine → Stmt → World → control.Way Memory
stmt_meant machine stmt world =
    item_way (doing_in (declared_by machine.plan))
    (Do (seen (last_of machine.plan.program.now machine.paragraph) stmt)) (rest_in machine)
    (memory_in machine.held.store world)

-- the state is that of the machine, which stands over the devices, and goes on; or its run came to
-- this end. It displayed what the step showed, from this world, which a display leaves as it is.
abbrev pub FollowsOver : StepOutcome → Machine → List Seen → World → Trace → State → Type 0
FollowsOver step.On machine devices before trace state =
    (world : World) × (now : Trace) × (state ≡ state_in machine world now)
    × (displayed now ≡ displayed trace) × StandsOver machine devices world
FollowsOver step.Shown machine devices before trace state =
    (state ≡ state_in machine before (trace ++ (0 ∷ machine.held.shown) ∷ []))
    × StandsOver machine devices before
FollowsOver (step.Over ending) machine devices before trace state =
    (now : Trace)
    × (state.run ≡ record {
      trace = now;
      standing = Over (ending_seen ending state.memory.world.shelves);
    })
    × (displayed now ≡ displayed trace) × StandsOver machine devices state.memory.world
FollowsOver step.Failed machine devices before trace state = Unit {0}

-- a step that breaks off leaves the world after some of its operations
abbrev pub StepBreaks : Result StepOutcome NoMemory → Machine → World → List Operation →
    (left : ℕ) →
    List Seen → Type 0
StepBreaks (Ok step.On) machine world operations left devices = Unit {0}
StepBreaks (Ok step.Shown) machine world operations left devices = Unit {0}
StepBreaks (Ok (step.Over ending)) machine world operations left devices = Unit {0}
StepBreaks (Ok step.Failed) machine world operations left devices =
    BrokeBehind faults.Device machine.plan.program.now.files world operations left devices
    machine.table.rows
StepBreaks (Err e) machine world operations left devices =
    BrokeBehind faults.NoMemory machine.plan.program.now.files world operations left devices
    machine.table.rows

-- ---- steps

-- the machine stands over the devices where the source stands after so many steps, and the sink
-- gained what they displayed
pub record SoFarOver (program : Program) (files : Files) (machine : Machine) (devices : List Seen)
    (done : ℕ) (sink : SinkCall) : Type 0 where
  -- the machine has what the program declares
  pub declared : declared_by machine.plan ≡ declared_in program
  -- and the program itself
  pub same : machine.plan.program.now ≡ program
  -- the sink's count of failures doesn't fall
  pub later : sink.count ≤ sink.count_now
  pub world : World
  pub trace : Trace
  -- the source's state is that of the machine
  pub reached : after program files done ≡ state_in machine world trace
  -- the sink gained what the trace displays
  pub gained : Gained (displayed trace) sink.held sink.now
  -- the files are over the devices as the world has them
  pub stands : StandsOver machine devices world

-- ---- what a run comes to, by what it leaves of the world

-- the run ended so within so many steps, and the sink gained what they displayed
abbrev pub EndsAt : Program → Files → ℕ → SinkCall → (World → Type 0) → Ending → Type 0
EndsAt program files steps sink Left ending =
    Stands program files steps
    (Over (ending_seen ending (world_after program files steps).shelves)) sink
    × Left (world_after program files steps)

-- the run broke off after so many steps and so many operations of the next, which display nothing,
-- and the sink gained what was displayed up to there
abbrev pub BreaksAt : Program → Files → ℕ → SinkCall → (World → Type 0) → Type 0
BreaksAt program files steps sink Left =
    (done : ℕ) × (some : ℕ) × (done ≤ steps)
    × Gains (displayed (source_run program files done).trace) sink
    × (displayed (events_at program files done some) ≡ [])
    × Left (world_at program files done some)

-- the sink failed in the display of the step after so many, and gained a front of it
abbrev pub CutAt : Program → Files → ℕ → SinkCall → (World → Type 0) → Type 0
CutAt program files steps sink Left =
    (done : ℕ) × (done < steps) × (shown : List ℕ) × (front : ℕ)
    × ((source_run program files (suc done)).trace
    ≡ (source_run program files done).trace ++ (0 ∷ shown) ∷ [])
    × Gains (displayed (source_run program files done).trace ++ take front shown) sink
    × Left (world_after program files done)

-- a run that came to this did so after steps of the source
abbrev pub ComesTo : Program → Files → ℕ → SinkCall → (World → Type 0) → Ran → Type 0
ComesTo program files steps sink Left (ran.Ended ending) =
    EndsAt program files steps sink Left ending
ComesTo program files steps sink Left ran.Budget =
    Stands program files steps Going sink × Left (world_after program files steps)
ComesTo program files steps sink Left (ran.DeviceFault name) =
    BreaksAt program files steps sink Left
ComesTo program files steps sink Left ran.WriteFault = CutAt program files steps sink Left
ComesTo program files steps sink Left ran.NoMemory = BreaksAt program files steps sink Left

-- the files of the machine's program, which are open yet, stand so over what devices of these names
-- left
abbrev pub OpenYet : List (List ℕ) → Machine → List Seen → World → Type 0
OpenYet gone machine devices world =
    StandsLeft (addresses_of machine.plan.program.now.files) gone devices machine.table.rows world

-- what one more step, with its display, comes to
abbrev pub TurnsOver : Program → Files → Machine → (left : ℕ) → List Seen → ℕ → SinkCall →
    Result StepOutcome Ran → Type 0
TurnsOver program files machine left devices done sink (Ok step.On) =
    SoFarOver program files machine (take left devices) (suc done) sink
TurnsOver program files machine left devices done sink (Ok step.Shown) =
    SoFarOver program files machine (take left devices) (suc done) sink
TurnsOver program files machine left devices done sink (Ok (step.Over ending)) =
    (steps : ℕ) → done < steps →
    EndsAt program files steps sink (OpenYet [] machine (take left devices)) ending
TurnsOver program files machine left devices done sink (Ok step.Failed) =
    (steps : ℕ) → done < steps → BreaksAt program files steps sink
    (OpenYet (gone_by faults.Device left devices) machine (take left devices))
TurnsOver program files machine left devices done sink (Err came) =
    (steps : ℕ) → done < steps →
    ComesTo program files steps sink (OpenYet [] machine (take left devices)) came

-- ---- a run

-- the devices that a program uses tell their files; those that are told are these by the devices'
-- names, and no files are on a device that isn't there
pub record TellFiles (program : Program) (devices : List Seen) (files : Files) : Type 0 where
  -- each device that the program uses tells its files
  pub told : TellUsed (addresses_of program.files) devices
  -- the world has the files of each device that tells them
  pub same : (name : List ℕ) → SameShelf (device_found name devices) (shelf_found name files)

-- what the steps of a run come to, its files being open yet: what is left of the bench, and where
-- the devices told their files what is left of the world
pub record StepsEnd (machine machine_now : Machine) (steps : ℕ) (sink : SinkCall)
    (left left_now : ℕ) (old new : List Seen) (came : Ran) : Type 0 where
  -- the devices that failed
  pub gone : List (List ℕ)
  -- what is left of the bench without them
  pub bench : LeftOf (is_used (addresses_of machine.plan.program.now.files)) gone
      left left_now old new
  -- no file on a device that failed is open
  pub apart : AreShut gone (addresses_of machine.plan.program.now.files) machine_now.table.rows
  -- what the run came to names the first of them
  pub names : Names came gone
  -- what is left of the world, where the devices told their files
  pub files : (program : Program) (files : Files) → IsOwn program →
      SoFarOver program files machine (take left old) 0 (begun_sink sink) →
      ComesTo program files steps sink (OpenYet gone machine_now (take left_now new)) came

-- the same where the files that were open are closed
pub record FilesEnd (machine : Machine) (steps : ℕ) (sink : SinkCall) (left left_now : ℕ)
    (old new : List Seen) (came : Ran) : Type 0 where
  -- the devices that failed
  pub gone : List (List ℕ)
  -- what is left of the bench without them
  pub bench : LeftOf (is_used (addresses_of machine.plan.program.now.files)) gone
      left left_now old new
  -- what the run came to names the first of them
  pub names : Names came gone
  -- what is left of the world, where the devices told their files
  pub files : (program : Program) (files : Files) → IsOwn program →
      SoFarOver program files machine (take left old) 0 (begun_sink sink) →
      ComesTo program files steps sink
      (LeavesFiles (addresses_of machine.plan.program.now.files) gone (take left_now new)) came

-- what a run comes to: what is left of the bench, and where the devices that the program uses told
-- their files what is left of the world; its files that were open are closed
pub record RunEnds (program : Program) (steps : ℕ) (sink : SinkCall) (left left_now : ℕ)
    (old new : List Seen) (came : Ran) : Type 0 where
  -- the devices that failed
  pub gone : List (List ℕ)
  -- what is left of the bench without them
  pub bench : LeftOf (is_used (addresses_of program.files)) gone left left_now old new
  -- what the run came to names the first of them
  pub names : Names came gone
  -- what is left of the world, where the devices told their files
  pub files : (files : Files) → IsOwn program → TellFiles program (take left old) files →
      ComesTo program files steps sink
      (LeavesFiles (addresses_of program.files) gone (take left_now new)) came
