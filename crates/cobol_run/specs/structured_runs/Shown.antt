-- What runs of structured programs show.
use Rattle.std.specs.Prelude.{ℕ, ◌≡◌, false, List, ◌++◌}
use Rattle.cob_base.specs.Sink.{SinkCall}
use Rattle.cob_tree.specs.declared.program.Program.{Program}
use Rattle.control_flow_theory.specs.language.Control.{control_of}
use Rattle.control_flow_theory.specs.language.Structured.{IsStructuredControl}
use Rattle.file_model.specs.World.{shelf_found}
use Rattle.file_model.specs.operations.Calls.{addresses_of}
use Rattle.file_model.specs.operations.Falling.{is_among}
use Rattle.file_model.specs.operations.Seen.{Seen, device_found}
use Rattle.file_model.specs.operations.Shutting.{LeavesFiles}
use Rattle.file_model.specs.operations.Standing.{SameShelf}
use Rattle.control_flow_theory.specs.runs.Run.{Over}
use Rattle.cobol_theory.specs.cobol_meaning.Runs.{Files, structural_run}
use Rattle.cob_base.specs.giving.Giving.{Gains}
use Rattle.cobol_run.specs.declared.machine.Ending.{Ending}
use Rattle.cobol_run.specs.declared.machine.Ending.TheVariants as ending
use Rattle.cobol_run.specs.declared.running.Ran.{Ran}
use Rattle.cobol_run.specs.declared.running.Ran.TheVariants as ran
use Rattle.cobol_run.specs.Machine.{ending_seen}
use Rattle.cobol_run.specs.Over.{ComesTo}
use Rattle.cobol_run.specs.Running.{displayed, RunsAs}

-- the nested statements of the program end so within some units, and the sink gained what they
-- display
abbrev pub EndsNested : Program → Files → SinkCall → Ending → Type 0
EndsNested program files sink (ending.Faulted fault) = ⊥
EndsNested program files sink how =
    (units : ℕ)
    × ((structural_run program files units).standing ≡ Over (ending_seen how files))
    × Gains (displayed (structural_run program files units).trace) sink

-- the sink gained a front of what they display within some units
abbrev pub BeginsNested : Program → Files → SinkCall → Type 0
BeginsNested program files sink =
    (units : ℕ) × (bytes more : List ℕ)
    × (displayed (structural_run program files units).trace ≡ bytes ++ more) × Gains bytes sink

-- the sink gained what the nested statements display, as far as the run came
abbrev pub ShowsNested : Program → Files → SinkCall → Ran → Type 0
ShowsNested program files sink (ran.Ended how) = EndsNested program files sink how
ShowsNested program files sink _ = BeginsNested program files sink

-- a run of a structured program shows what its nested statements do, whatever steps it makes
abbrev pub RunsShowNestedStatements : Type 0
RunsShowNestedStatements =
    (program : Program) → IsStructuredControl (control_of program) → (files : Files) (steps : ℕ)
    (sink : SinkCall) (came : Ran) → RunsAs program files steps sink came →
    ShowsNested program files sink came

-- ---- over devices that tell their files

-- the nested statements of the program end so and leave the files that the devices tell, but for
-- those of these names, which failed
abbrev pub EndsNestedOver : Program → Files → SinkCall → List (List ℕ) → List Seen → Ending → Type 0
EndsNestedOver program files sink gone devices (ending.Faulted fault) = ⊥
EndsNestedOver program files sink gone devices how =
    (units : ℕ) × (left : Files)
    × ((structural_run program files units).standing ≡ Over (ending_seen how left))
    × Gains (displayed (structural_run program files units).trace) sink
    × ((name : List ℕ) → is_among gone name ≡ false →
    SameShelf (device_found name devices) (shelf_found name left))

-- the same, where the devices tell their files
abbrev pub ShowsNestedOver : Program → Files → SinkCall → List (List ℕ) → List Seen → Ran → Type 0
ShowsNestedOver program files sink gone devices (ran.Ended how) =
    EndsNestedOver program files sink gone devices how
ShowsNestedOver program files sink gone devices _ = BeginsNested program files sink

-- a run of a structured program over files shows what its nested statements show
abbrev pub RunsOverFilesShowNestedStatements : Type 0
RunsOverFilesShowNestedStatements =
    (program : Program) → IsStructuredControl (control_of program) → (files : Files) (steps : ℕ)
    (sink : SinkCall) (gone : List (List ℕ)) (devices : List Seen) (came : Ran) →
    ComesTo program files steps sink (LeavesFiles (addresses_of program.files) gone devices) came →
    ShowsNestedOver program files sink gone devices came
