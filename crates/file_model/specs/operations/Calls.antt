-- What a call makes of the devices of a bench.
use Rattle.std.specs.Prelude.{ℕ, suc, ◌≡◌, Bool, true, List, ◌∷◌, ◌++◌, map, take, drop, Option, Some, None, IsSome, slice_get, slice_set, Result, Ok, Err}
use Rattle.cob_tree.specs.declared.file.FileEntry.{FileEntry}
use Rattle.file_model.specs.declared.mem_file.MemFile.{MemFile}
use Rattle.file_model.specs.declared.table.FileRow.{FileRow}
use Rattle.file_model.specs.Attempts.{Address, Attempt, address_of}
use Rattle.file_model.specs.Told.{Counts}
use Rattle.file_model.specs.World.{World}
use Rattle.file_model.specs.declared.operations.fault.FileFault.{FileFault}
use Rattle.file_model.specs.declared.operations.fault.FileFault.TheVariants as faults
use Rattle.file_model.specs.operations.Seen.{Seen, device_found, device_put, device_taken}
use Rattle.file_model.specs.operations.Standing.{Stands, rows_closed_on, without}

-- where each file of a program is
abbrev pub addresses_of : List FileEntry → List Address
addresses_of files = map (λ file. address_of file.assign) files

-- the device at a place was called, and what its call says of the files holds; where it told them
-- it still does
pub record Called (at : ℕ) (Tells : Option (List MemFile) → Option (List MemFile) → Type 0)
    (fails : Bool) (old new : List Seen) : Type 0 where
  pub before : Seen
  pub after : Seen
  -- the device at the place, before the call
  pub here : slice_get old at ≡ Some before
  -- and the device there after it
  pub there : new ≡ slice_set old at after
  -- its name is the same
  pub named : after.name ≡ before.name
  -- what the call says of its files holds
  pub tells : Tells before.files after.files
  -- where it told its files, it still does
  pub telling : IsSome before.files → IsSome after.files
  -- its count of failures is as the call says
  pub counted : Counts fails before.faults after.faults

-- the device at a place was taken off: it comes right after the bench
pub record TakenOff (at left left_now : ℕ) (old new : List Seen) : Type 0 where
  pub device : Seen
  -- one device fewer is on the bench
  pub less : suc left_now ≡ left
  -- the device at the place
  pub here : slice_get old at ≡ Some device
  -- the others are on the bench, in their order
  pub bench : take left_now new ≡ take at (take left old) ++ drop (suc at) (take left old)
  -- it comes right after them
  pub behind : drop left_now new ≡ device ∷ drop left old

-- ---- the devices after an operation

-- a device's name and its count stay, and where it told its files it still does
abbrev pub SameDevice : Seen → Seen → Type 0
SameDevice device now =
    (now.name ≡ device.name) × (now.faults ≡ device.faults)
    × (IsSome device.files → IsSome now.files)

-- the device, if there was one, is the same but for its files
abbrev pub SameBut : Option Seen → Seen → Type 0
SameBut None now = Unit {0}
SameBut (Some device) now = SameDevice device now

-- the files of the first device of that name changed at most
pub record Kept (name : List ℕ) (left left_now : ℕ) (old new : List Seen) : Type 0 where
  pub device : Seen
  -- as many devices are on the bench
  pub count : left_now ≡ left
  -- the first device of the name is this one now
  pub bench : take left new ≡ device_put name device (take left old)
  -- what comes after the bench is the same
  pub behind : drop left new ≡ drop left old
  -- at most its files changed
  pub same : SameBut (device_found name (take left old)) device

-- the first device of that name failed: it comes right after the bench
pub record TookOff (name : List ℕ) (left left_now : ℕ) (old new : List Seen) : Type 0 where
  pub before : Seen
  pub after : Seen
  -- one device fewer is on the bench
  pub less : suc left_now ≡ left
  -- it was the first of its name
  pub found : device_found name (take left old) ≡ Some before
  -- the others are on the bench, in their order
  pub bench : take left_now new ≡ device_taken name (take left old)
  -- it comes right after them
  pub behind : drop left_now new ≡ after ∷ drop left old
  -- its name is the same
  pub named : after.name ≡ before.name
  -- its count of failures rose
  pub counted : Counts true before.faults after.faults

-- what an operation leaves of the devices, by how it came out
abbrev pub Leaves : Result ℕ FileFault → List ℕ → (left left_now : ℕ) → (old new : List Seen) → Type 0
Leaves (Err faults.Device) name left left_now old new = TookOff name left left_now old new
Leaves (Ok status) name left left_now old new = Kept name left left_now old new
Leaves (Err faults.NoMemory) name left left_now old new = Kept name left left_now old new

-- ---- the table after an operation

-- the file's row alone is another, or the device failed and the files on it are closed
abbrev pub Notes : Result ℕ FileFault → ℕ → List ℕ → List Address → (before now : List FileRow) → Type 0
Notes (Err faults.Device) file name addresses before now = now ≡ rows_closed_on name addresses before
Notes (Ok status) file name addresses before now =
    (row : FileRow) × (now ≡ slice_set before file row)
Notes (Err faults.NoMemory) file name addresses before now = now ≡ before

-- ---- what an operation comes to in a world

-- the attempt, or a device that is gone, or nothing
abbrev pub Comes : Result ℕ FileFault → List Address → List ℕ → List Seen → List FileRow → World → Attempt → Type 0
Comes (Ok status) addresses name devices table world attempt =
    (status ≡ attempt.status) × Stands addresses devices table attempt.world
Comes (Err faults.Device) addresses name devices table world attempt =
    Stands addresses devices table (without name (device_found name devices) addresses world)
Comes (Err faults.NoMemory) addresses name devices table world attempt =
    Stands addresses devices table world

-- the same of what breaks off alone: a device that is gone, or nothing
abbrev pub Breaks : Result ℕ FileFault → List Address → List ℕ → List Seen → List FileRow → World → Type 0
Breaks (Ok status) addresses name devices table world = Unit {0}
Breaks (Err faults.Device) addresses name devices table world =
    Stands addresses devices table (without name (device_found name devices) addresses world)
Breaks (Err faults.NoMemory) addresses name devices table world = Stands addresses devices table world
