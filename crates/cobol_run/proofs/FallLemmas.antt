-- What steps leave of the devices of a bench.
use Rattle.std.proofs.Common.{◌≡◌, ℕ, List, [], ◌-◌, IfErr, IfOk, Result, Ok, Err, refl}
use Rattle.cob_base.specs.declared.memory.NoMemory.{NoMemory}
use Rattle.cob_act.specs.declared.acting.ActOutcome.{ActOutcome}
use Rattle.cob_act.specs.declared.acting.ActOutcome.TheVariants as dones
use Rattle.cob_act.specs.files.Ends.{DoneOver}
use Rattle.file_model.specs.declared.operations.fault.FileFault.{FileFault}
use Rattle.file_model.specs.declared.operations.fault.FileFault.TheVariants as faults
use Rattle.cob_tree.specs.declared.file.FileEntry.{FileEntry}
use Rattle.file_model.specs.declared.table.FileRow.{FileRow}
use Rattle.file_model.specs.operations.Calls.{addresses_of}
use Rattle.file_model.specs.operations.Falling.{is_used}
use Rattle.file_model.specs.operations.Seen.{Seen}
use Rattle.file_model.proofs.operations_lemmas.FallLemmas.{left_same, left_then}
use Rattle.file_model.proofs.operations_lemmas.ShutLemmas.{nothing_shut}
use Rattle.cobol_run.specs.declared.machine.StepOutcome.{StepOutcome}
use Rattle.cobol_run.specs.declared.machine.StepOutcome.TheVariants as step
use Rattle.cobol_run.specs.declared.running.Ran.{Ran}
use Rattle.cobol_run.specs.Falling.{SameBench, StepFalls, TurnFalls}
use Rattle.cobol_run.specs.Over.{step_done}

-- an arm that is chosen asks no device
pub arm_asks_none : (result : Result ActOutcome FileFault) (files : List FileEntry) (left left_now : ℕ) (old new : List Seen) (table : List FileRow) → IfErr result (λ fault. fault ≡ faults.NoMemory) → SameBench files left left_now old new → DoneOver result files left left_now old new table
arm_asks_none (Ok done) files left left_now old new table only same = same
arm_asks_none (Err faults.NoMemory) files left left_now old new table only same = (same, nothing_shut (addresses_of files) table)
arm_asks_none (Err faults.Device) files left left_now old new table only same = absurd (let x : faults.Device ≡ faults.NoMemory = only in cc)

-- a statement on files that was done
pub done_falls : (done : ActOutcome) (files : List FileEntry) (left left_now : ℕ) (old new : List Seen) (table : List FileRow) → SameBench files left left_now old new → StepFalls (Ok (step_done done)) files left left_now old new table
done_falls dones.Went files left left_now old new table same = same
done_falls dones.Shown files left left_now old new table same = same
done_falls (dones.Chose arm) files left left_now old new table same = same
done_falls (dones.Abended abend) files left left_now old new table same = same

live_falls : (made : StepOutcome) (files : List FileEntry) (left : ℕ) (devices : List Seen) (table : List FileRow) → (made ≡ step.Failed → ⊥) → StepFalls (Ok made) files left left devices devices table
live_falls step.On files left devices table live = left_same (is_used (addresses_of files)) left devices
live_falls step.Shown files left devices table live = left_same (is_used (addresses_of files)) left devices
live_falls (step.Over ending) files left devices table live = left_same (is_used (addresses_of files)) left devices
live_falls step.Failed files left devices table live = absurd (live refl)

-- a step that asks no device
pub asks_none : (result : Result StepOutcome NoMemory) (files : List FileEntry) (left : ℕ) (devices : List Seen) (table : List FileRow) → IfOk result (λ made. made ≡ step.Failed → ⊥) → StepFalls result files left left devices devices table
asks_none (Ok made) files left devices table live = live_falls made files left devices table live
asks_none (Err e) files left devices table live = left_same (is_used (addresses_of files)) left devices

-- no device failed
pub none_fell : (files : List FileEntry) (left : ℕ) (devices : List Seen) → SameBench files left left devices devices
none_fell files left devices = left_same (is_used (addresses_of files)) left devices

-- a step and those before it
pub step_after : (result : Result StepOutcome NoMemory) (files : List FileEntry) (left mid now : ℕ) (old between new : List Seen) (table : List FileRow) → SameBench files left mid old between → StepFalls result files mid now between new table → StepFalls result files left now old new table
step_after (Ok step.On) files left mid now old between new table one two = left_then (is_used (addresses_of files)) [] left mid now old between new one two
step_after (Ok step.Shown) files left mid now old between new table one two = left_then (is_used (addresses_of files)) [] left mid now old between new one two
step_after (Ok (step.Over ending)) files left mid now old between new table one two = left_then (is_used (addresses_of files)) [] left mid now old between new one two
step_after (Ok step.Failed) files left mid now old between new table one two = (left_then (is_used (addresses_of files)) _ left mid now old between new one two.0, two.1)
step_after (Err e) files left mid now old between new table one two = left_then (is_used (addresses_of files)) [] left mid now old between new one two

-- a turn and those before it
pub turn_after : (made : Result StepOutcome Ran) (files : List FileEntry) (left mid now : ℕ) (old between new : List Seen) (table : List FileRow) → SameBench files left mid old between → TurnFalls made files mid now between new table → TurnFalls made files left now old new table
turn_after (Ok made) files left mid now old between new table one two = step_after (Ok made) files left mid now old between new table one two
turn_after (Err came) files left mid now old between new table one two = left_then (is_used (addresses_of files)) [] left mid now old between new one two
