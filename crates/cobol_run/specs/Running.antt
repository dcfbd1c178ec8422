-- What a run comes to.
use Rattle.std.specs.Prelude.{ℕ, zero, suc, ◌≡◌, ◌<◌, ◌≤◌, List, [], ◌∷◌, ◌++◌, take, Option, Result, Ok, Err}
use Rattle.cob_base.specs.Sink.{SinkCall}
use Rattle.cob_tree.specs.declared.program.Program.{Program}
use Rattle.control_flow_theory.specs.runs.Run.{Going, Over}
use Rattle.control_flow_theory.specs.semantics.Outcome.{Event, Trace}
use Rattle.control_flow_theory.specs.semantics.Outcome as outcome
use Rattle.control_flow_theory.specs.runs.Machine.{iterate}
use Rattle.meanings.specs.statements.Does.{declared_in}
use Rattle.cobol_theory.specs.cobol_meaning.Runs.{Files, State, begun_in, source_run, step_in, world_with}
use Rattle.cob_base.specs.giving.Giving.{Gained, Gains}
use Rattle.cobol_run.specs.declared.running.Ran.{Ran}
use Rattle.cobol_run.specs.declared.running.Ran.TheVariants as ran
use Rattle.cobol_run.specs.declared.machine.Machine.{Machine}
use Rattle.cobol_run.specs.declared.machine.StepOutcome.{StepOutcome}
use Rattle.cobol_run.specs.declared.machine.StepOutcome.TheVariants as step
use Rattle.cobol_run.specs.Machine.{ending_seen, state_in}
use Rattle.cobol_run.specs.Plain.{IsPlain}
use Rattle.cobol_run.specs.Plan.{declared_by}

-- the bytes that an event displays; only a DISPLAY has some
abbrev pub shown_by : Event → List ℕ
shown_by [] = []
shown_by (zero ∷ bytes) = bytes
shown_by (suc verb ∷ bytes) = []

-- the bytes that a trace displays
abbrev pub displayed : Trace → List ℕ
displayed [] = []
displayed (event ∷ trace) = shown_by event ++ displayed trace

-- the run stands so after so many steps, and the sink gained what it displayed
abbrev pub Stands : Program → Files → ℕ → outcome.Standing Files → SinkCall → Type 0
Stands program files steps standing sink =
    ((source_run program files steps).standing ≡ standing)
    × Gains (displayed (source_run program files steps).trace) sink

-- the run broke off after at most so many steps, and the sink gained what they displayed
abbrev pub BreaksOff : Program → Files → ℕ → SinkCall → Type 0
BreaksOff program files steps sink =
    (done : ℕ) × (done ≤ steps) × Gains (displayed (source_run program files done).trace) sink

-- the sink gained what was displayed before a step, and a front of what that step displays
abbrev pub BreaksWithin : Program → Files → ℕ → SinkCall → Type 0
BreaksWithin program files steps sink =
    (done : ℕ) × (done < steps) × (shown : List ℕ) × (front : ℕ)
    × ((source_run program files (suc done)).trace
    ≡ (source_run program files done).trace ++ (0 ∷ shown) ∷ [])
    × Gains (displayed (source_run program files done).trace ++ take front shown) sink

-- a run over these files, which it leaves as they are
abbrev pub RunsAs : Program → Files → ℕ → SinkCall → Ran → Type 0
RunsAs program files steps sink (ran.Ended ending) =
    Stands program files steps (Over (ending_seen ending files)) sink
RunsAs program files steps sink ran.Budget = Stands program files steps Going sink
RunsAs program files steps sink (ran.DeviceFault name) = ⊥
RunsAs program files steps sink ran.WriteFault = BreaksWithin program files steps sink
RunsAs program files steps sink ran.NoMemory = BreaksOff program files steps sink

-- the state of the program after one step
abbrev pub next_state : Program → State → State
next_state program state = step_in program (declared_in program) state

-- the state of the source after so many steps
abbrev pub after : Program → Files → ℕ → State
after program files n =
    iterate (next_state program) n (begun_in program (declared_in program) files)

-- the machine stands where the source stands after so many steps, and the sink gained what they
-- displayed
pub record SoFar (program : Program) (machine : Machine) (done : ℕ) (sink : SinkCall) : Type 0 where
  -- the machine has what the program declares
  pub declared : declared_by machine.plan ≡ declared_in program
  -- and the program itself
  pub same : machine.plan.program.now ≡ program
  -- the sink's count of failures doesn't fall
  pub later : sink.count ≤ sink.count_now
  -- the source's state is that of the machine, and the sink gained what it displayed
  pub reached : (files : Files) → IsPlain program → (trace : Trace) ×
      (after program files done ≡ state_in machine (world_with (declared_in program) files) trace)
      × Gained (displayed trace) sink.held sink.now

-- what one more step, with its display, comes to
abbrev pub TurnsTo : Program → Machine → ℕ → SinkCall → Result StepOutcome Ran → Type 0
TurnsTo program machine done sink (Ok step.On) = SoFar program machine (suc done) sink
TurnsTo program machine done sink (Ok step.Shown) = SoFar program machine (suc done) sink
TurnsTo program machine done sink (Ok (step.Over ending)) =
    (steps : ℕ) (files : Files) → done < steps → IsPlain program →
    RunsAs program files steps sink (ran.Ended ending)
TurnsTo program machine done sink (Ok step.Failed) = (files : Files) → IsPlain program → ⊥
TurnsTo program machine done sink (Err came) =
    (steps : ℕ) (files : Files) → done < steps → IsPlain program →
    RunsAs program files steps sink came

-- a sink that held this, and failed so often, at the start of the run
abbrev pub since : Option (List ℕ) → ℕ → Option (List ℕ) → ℕ → SinkCall
since held count now count_now =
    record { held = held; now = now; count = count; count_now = count_now }

-- the sink at the start of a call
abbrev pub begun_sink : SinkCall → SinkCall
begun_sink sink = since sink.held sink.count sink.held sink.count
