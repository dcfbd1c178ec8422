-- What runs of structured programs come to, over devices whose files are known.
use Rattle.std.specs.Prelude.{ℕ, ◌≡◌, ◌+◌, ◌*◌, ◌≤◌, List, [], take}
use Rattle.cob_base.specs.Sink.{SinkCall}
use Rattle.cob_base.specs.giving.Giving.{Gains}
use Rattle.cob_tree.specs.declared.program.Program.{Program}
use Rattle.control_flow_theory.specs.language.Control.{control_of}
use Rattle.control_flow_theory.specs.language.Structured.{IsStructuredControl}
use Rattle.control_flow_theory.specs.runs.Run.{Over}
use Rattle.control_flow_theory.specs.semantics.Outcome.{How, Stopped, Trace}
use Rattle.file_model.specs.World.{shelf_found}
use Rattle.file_model.specs.operations.Seen.{Seen, device_found}
use Rattle.file_model.specs.operations.Standing.{SameShelf}
use Rattle.cobol_theory.specs.cobol_meaning.Runs.{Files, structural_run}
use Rattle.cobol_run.specs.declared.running.Ran.{Ran}
use Rattle.cobol_run.specs.declared.running.Ran.TheVariants as ran
use Rattle.cobol_run.specs.Machine.{ending_seen}
use Rattle.cobol_run.specs.Over.{RunEnds, TellFiles}
use Rattle.cobol_run.specs.Own.{IsOwn}
use Rattle.cobol_run.specs.Running.{displayed}
use Rattle.cobol_run.specs.structured_runs.Shown.{ShowsNestedOver}

-- what a run of a structured program comes to is what its nested statements mean, over the files
-- that the devices on the bench told, where those told theirs that the program uses: where it ended
-- they end so within some units, display what the sink gained, and leave the files that the devices
-- tell then; else they display at least what the sink gained. It never ends by a fault of its flow.
abbrev pub RunsShowNested : Type 0
RunsShowNested =
    (program : Program) (steps : ℕ) (sink : SinkCall) (left left_now : ℕ) (old new : List Seen)
    (came : Ran) → RunEnds program steps sink left left_now old new came →
    IsStructuredControl (control_of program) → IsOwn program →
    (files : Files) → TellFiles program (take left old) files →
    ShowsNestedOver program files sink [] (take left_now new) came

-- the run ended so, the sink gained what is displayed in this trace, and these devices tell these
-- files; or a device or the sink failed, or memory ran out
abbrev pub EndsSo : How → Files → Trace → SinkCall → List Seen → Ran → Type 0
EndsSo how left trace sink devices (ran.Ended ending) =
    (ending_seen ending left ≡ Stopped how left) × Gains (displayed trace) sink
    × ((name : List ℕ) → SameShelf (device_found name devices) (shelf_found name left))
EndsSo how left trace sink devices ran.Budget = ⊥
EndsSo how left trace sink devices _ = Unit {0}

-- what a run of these steps comes to, where nested statements stop so over the files that the
-- devices told
abbrev pub ReachesEnd : Program → (steps : ℕ) → Files → How → Files → Trace → Type 0
ReachesEnd program steps files how there trace =
    (sink : SinkCall) (left left_now : ℕ) (old new : List Seen) (came : Ran) →
    RunEnds program steps sink left left_now old new came →
    TellFiles program (take left old) files →
    EndsSo how there trace sink (take left_now new) came

-- where the nested statements of a structured program stop within some units, a run of steps enough
-- ends so; how many steps a unit takes is chosen before the files and the units
abbrev pub NestedEndsAreReached : Type 0
NestedEndsAreReached =
    (program : Program) → IsStructuredControl (control_of program) → IsOwn program →
    (steps_per_unit : ℕ) × ((files : Files) (units steps : ℕ) (how : How) (there : Files) →
    (structural_run program files units).standing ≡ Over (Stopped how there) →
    steps_per_unit * (units + 1) ≤ steps →
    ReachesEnd program steps files how there (structural_run program files units).trace)
