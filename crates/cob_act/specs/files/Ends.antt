-- How a statement on files ended, as the code answers it.
use Rattle.std.specs.Prelude.{ℕ, List, [], ◌∷◌, Result, Ok, Err}
use Rattle.cob_tree.specs.declared.file.FileEntry.{FileEntry}
use Rattle.file_model.specs.declared.table.FileRow.{FileRow}
use Rattle.file_model.specs.operations.Calls.{addresses_of}
use Rattle.meanings.specs.statements.Filing.{Ended}
use Rattle.meanings.specs.statements.Filing as files
use Rattle.cob_act.specs.declared.acting.ActOutcome.{ActOutcome}
use Rattle.cob_act.specs.declared.acting.ActOutcome.TheVariants.{Went, Shown, Chose, Abended}
use Rattle.file_model.specs.declared.operations.fault.FileFault.{FileFault}
use Rattle.file_model.specs.declared.operations.fault.FileFault.TheVariants as faults
use Rattle.file_model.specs.operations.Seen.{Seen}
use Rattle.file_model.specs.operations.Falling.{AreShut, LeftOf, is_used, name_behind}

-- how a statement on files ends by this outcome; none shows bytes
abbrev pub ended_as : ActOutcome → Ended
ended_as Went = files.Went
ended_as Shown = files.Went
ended_as (Chose arm) = files.Chose arm
ended_as (Abended abend) = files.Abended abend

-- ---- the bench then

-- the names of the devices that failed: the one that comes right after the bench, or none
abbrev pub gone_by : FileFault → ℕ → List Seen → List (List ℕ)
gone_by faults.Device left devices = name_behind left devices ∷ []
gone_by faults.NoMemory left devices = []

-- it broke off: a device failed, on which no file is open now, or none did
abbrev pub BrokeOver : FileFault → List FileEntry → (left left_now : ℕ) → (old new : List Seen) →
    List FileRow → Type 0
BrokeOver fault files left left_now old new table =
    LeftOf (is_used (addresses_of files)) (gone_by fault left_now new) left left_now old new
    × AreShut (gone_by fault left_now new) (addresses_of files) table

-- no device failed where it was done, and else it broke off
abbrev pub DoneOver : {A : Type 0} → Result A FileFault → List FileEntry → (left left_now : ℕ) →
    (old new : List Seen) → List FileRow → Type 0
DoneOver (Ok a) files left left_now old new table =
    LeftOf (is_used (addresses_of files)) [] left left_now old new
DoneOver (Err fault) files left left_now old new table =
    BrokeOver fault files left left_now old new table
