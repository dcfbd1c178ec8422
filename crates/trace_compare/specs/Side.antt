-- One of two programs that run beside each other.
use Rattle.std.specs.Prelude.{ℕ, ◌≡◌, ◌+◌, if◌then◌else◌, List, [], ◌∷◌, ◌++◌, drop, Option, Some, None, Result, Ok, Err}
use Rattle.cob_base.specs.declared.memory.NoMemory.{NoMemory}
use Rattle.cob_tree.specs.declared.file.FileEntry.{FileEntry}
use Rattle.cob_tree.specs.declared.program.Program.{Program}
use Rattle.cobol_run.specs.declared.machine.Ending.{Ending}
use Rattle.cobol_run.specs.declared.machine.Machine.{Machine}
use Rattle.cobol_run.specs.declared.machine.StepOutcome.{StepOutcome}
use Rattle.cobol_run.specs.declared.machine.StepOutcome.TheVariants as step
use Rattle.cobol_run.specs.Events.{Ended, Tracks, filed_events, step_events}
use Rattle.cobol_run.specs.Falling.{SameBench}
use Rattle.cobol_theory.specs.cobol_meaning.Runs.{Files}
use Rattle.control_flow_theory.specs.semantics.Outcome.{Trace}
use Rattle.file_model.specs.declared.operations.fault.FileFault.TheVariants as faults
use Rattle.cob_act.specs.files.Ends.{BrokeOver}
use Rattle.file_model.specs.declared.table.FileRow.{FileRow}
use Rattle.file_model.specs.operations.Seen.{Seen}
use Rattle.trace_compare.specs.declared.side.ComparedSide.{ComparedSide}
use Rattle.trace_compare.specs.declared.side.Advance.{Advance}
use Rattle.trace_compare.specs.declared.side.Advance.TheVariants as advance
use Rattle.trace_compare.specs.Differing.{Way}
use Rattle.trace_compare.specs.Event.{way_if}

-- the events of its last step
abbrev pub last_events : ComparedSide → Trace
last_events side =
    if side.displayed then (0 ∷ side.machine.held.shown) ∷ [] else filed_events side.machine

-- those that aren't compared
abbrev pub pending_of : ComparedSide → Trace
pending_of side = drop side.compared (last_events side)

-- the way in which it ended, if it did
abbrev pub ended_of : ComparedSide → Option Way
ended_of side = way_if side.ended

-- the files of the program that runs
abbrev pub files_of : ComparedSide → List FileEntry
files_of side = side.machine.plan.program.now.files

-- the machine stands where the source stands after so many steps, having shown this; or the run
-- ended so
abbrev pub Reached : Program → Files → Machine → List Seen → ℕ → Trace → Option Ending → Type 0
Reached program files machine devices done trace None =
    Tracks program files machine devices done trace
Reached program files machine devices done trace (Some ending) =
    Ended program files machine devices done trace ending

-- the side has made some of so many steps of the source: it showed the events that are compared,
-- and then those that aren't
pub record StandsAt (program : Program) (files : Files) (side : ComparedSide) (devices : List Seen)
    (steps : ℕ) (compared : Trace) : Type 0 where
  -- how many it made
  pub done : ℕ
  -- the others are left to it
  pub counted : done + side.left ≡ steps
  -- it stands there
  pub reached : Reached program files side.machine devices done (compared ++ pending_of side)
      side.ended

-- the side has what a step came to: the events of the step, none of them compared, and its end
abbrev pub Took : Result StepOutcome NoMemory → Advance → (old new : ComparedSide) → Type 0
Took (Ok step.On) came old new = (came ≡ advance.On)
    × (pending_of new ≡ step_events step.On new.machine) × (new.ended ≡ old.ended)
Took (Ok step.Shown) came old new = (came ≡ advance.On)
    × (pending_of new ≡ step_events step.Shown new.machine) × (new.ended ≡ old.ended)
Took (Ok (step.Over ending)) came old new = (came ≡ advance.On)
    × (pending_of new ≡ step_events (step.Over ending) new.machine) × (new.ended ≡ Some ending)
Took (Ok step.Failed) came old new = came ≡ advance.Failed
Took (Err e) came old new = came ≡ advance.NoMemory

-- what one more step comes to
abbrev pub StepsOn : Advance → Program → Files → ComparedSide → List Seen → ℕ → Trace → Type 0
StepsOn advance.On program files side devices steps compared =
    StandsAt program files side devices steps compared
StepsOn advance.Failed program files side devices steps compared = Unit {0}
StepsOn advance.NoMemory program files side devices steps compared = Unit {0}

-- what one more step leaves of the devices
abbrev pub StepLeaves : Advance → List FileEntry → (left left_now : ℕ) → (old new : List Seen) →
    List FileRow → Type 0
StepLeaves advance.On files left left_now old new table = SameBench files left left_now old new
StepLeaves advance.Failed files left left_now old new table =
    BrokeOver faults.Device files left left_now old new table
StepLeaves advance.NoMemory files left left_now old new table =
    SameBench files left left_now old new
