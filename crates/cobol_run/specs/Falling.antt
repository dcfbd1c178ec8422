-- What a run leaves of the devices of its bench, whatever files they tell.
use Rattle.std.specs.Prelude.{ℕ, ◌≡◌, ◌<◌, ◌≤◌, ◌-◌, Bool, true, false, List, [], ◌∷◌, ◌++◌, length, take, Option, Some, IfSome, Result, Ok, Err, slice_get}
use Rattle.cob_base.specs.declared.memory.NoMemory.{NoMemory}
use Rattle.cob_tree.specs.declared.file.FileEntry.{FileEntry}
use Rattle.file_model.specs.declared.table.FileRow.{FileRow}
use Rattle.file_model.specs.Told.{Counts}
use Rattle.file_model.specs.operations.Calls.{addresses_of}
use Rattle.file_model.specs.operations.Seen.{Seen, device_found}
use Rattle.file_model.specs.operations.Falling.{LeftOf, is_used}
use Rattle.file_model.specs.declared.operations.fault.FileFault.TheVariants as faults
use Rattle.cob_act.specs.files.Ends.{BrokeOver}
use Rattle.cobol_run.specs.declared.machine.StepOutcome.{StepOutcome}
use Rattle.cobol_run.specs.declared.machine.StepOutcome.TheVariants as step
use Rattle.cobol_run.specs.declared.running.Ran.{Ran}
use Rattle.cobol_run.specs.declared.running.Ran.TheVariants as ran

-- no device failed
abbrev pub SameBench : List FileEntry → (left left_now : ℕ) → (old new : List Seen) → Type 0
SameBench files left left_now old new =
    LeftOf (is_used (addresses_of files)) [] left left_now old new

-- a step: where memory ran out no device failed
abbrev pub StepFalls : Result StepOutcome NoMemory → List FileEntry → (left left_now : ℕ) →
    (old new : List Seen) → List FileRow → Type 0
StepFalls (Ok step.On) files left left_now old new table = SameBench files left left_now old new
StepFalls (Ok step.Shown) files left left_now old new table = SameBench files left left_now old new
StepFalls (Ok (step.Over ending)) files left left_now old new table =
    SameBench files left left_now old new
StepFalls (Ok step.Failed) files left left_now old new table =
    BrokeOver faults.Device files left left_now old new table
StepFalls (Err e) files left left_now old new table = SameBench files left left_now old new

-- what one more step, with its display, leaves of the devices: where it broke off no device failed
abbrev pub TurnFalls : Result StepOutcome Ran → List FileEntry → (left left_now : ℕ) →
    (old new : List Seen) → List FileRow → Type 0
TurnFalls (Ok made) files left left_now old new table =
    StepFalls (Ok made) files left left_now old new table
TurnFalls (Err came) files left left_now old new table = SameBench files left left_now old new

-- ---- a device fault

-- a device of that name failed, which was the first of its name on the bench: it was the first that
-- failed, and is where the bench ended
pub record FellNamed (name : List ℕ) (left left_now : ℕ) (old new : List Seen) : Type 0 where
  -- the device before it failed
  pub before : Seen
  -- and after that
  pub after : Seen
  -- fewer devices are on the bench
  pub less : left_now < left
  -- it was the first of its name on the bench
  pub first : device_found name (take left old) ≡ Some before
  -- it is where the bench ended
  pub there : slice_get new (left - 1) ≡ Some after
  pub named : after.name ≡ name
  -- its count of failures rose
  pub counted : Counts true before.faults after.faults

-- the devices that failed, the first of them last, by what a run comes to: none, or first the one
-- that is named; where the sink failed or memory ran out some may have failed
abbrev pub Names : Ran → List (List ℕ) → Type 0
Names (ran.Ended ending) gone = gone ≡ []
Names ran.Budget gone = gone ≡ []
Names (ran.DeviceFault name) gone = (later : List (List ℕ)) × (gone ≡ later ++ name ∷ [])
Names ran.WriteFault gone = Unit {0}
Names ran.NoMemory gone = Unit {0}

-- what a run says of a device is so
abbrev pub RunFalls : Ran → (left left_now : ℕ) → (old new : List Seen) → Type 0
RunFalls (ran.DeviceFault name) left left_now old new = FellNamed name left left_now old new
RunFalls (ran.Ended ending) left left_now old new = Unit {0}
RunFalls ran.Budget left left_now old new = Unit {0}
RunFalls ran.WriteFault left left_now old new = Unit {0}
RunFalls ran.NoMemory left left_now old new = Unit {0}

-- the name of each of these devices has room in so many bytes
abbrev pub NamesFit : ℕ → List Seen → Type 0
NamesFit room devices = (at : ℕ) (device : Seen) → slice_get devices at ≡ Some device →
    length device.name ≤ room

-- the name of this device, or there was no room for it in so many bytes
abbrev pub NamesFault : ℕ → Result (List ℕ) NoMemory → Option Seen → Type 0
NamesFault room (Ok name) device = IfSome device (λ d. d.name ≡ name)
NamesFault room (Err e) device = IfSome device (λ d. room < length d.name)

-- a device fault with the name of this device, or there was no room for it in so many bytes
abbrev pub NamesDevice : ℕ → Ran → Option Seen → Type 0
NamesDevice room (ran.DeviceFault name) device = IfSome device (λ d. d.name ≡ name)
NamesDevice room (ran.Ended ending) device = ⊥
NamesDevice room ran.Budget device = ⊥
NamesDevice room ran.WriteFault device = ⊥
NamesDevice room ran.NoMemory device = IfSome device (λ d. room < length d.name)

-- a run that closes no more than what is left open
abbrev pub breaks_off : Ran → Bool
breaks_off (ran.Ended ending) = false
breaks_off ran.Budget = false
breaks_off (ran.DeviceFault name) = true
breaks_off ran.WriteFault = true
breaks_off ran.NoMemory = true
