-- What the devices of a bench come to, whatever files they tell.
use Rattle.std.specs.Prelude.{ℕ, ◌≡◌, ◌+◌, ◌&&◌, not, Bool, true, false, List, [], ◌∷◌, ◌++◌, length, take, drop, Option, Some, None, slice_get, Result, Ok, Err}
use Rattle.std.specs.List.{list_any}
use Rattle.std.specs.Str.{bytes_eq}
use Rattle.file_model.specs.declared.table.FileRow.{FileRow}
use Rattle.file_model.specs.Attempts.{Address}
use Rattle.file_model.specs.Told.{Counts}
use Rattle.file_model.specs.declared.operations.fault.FileFault.{FileFault}
use Rattle.file_model.specs.declared.operations.fault.FileFault.TheVariants as faults
use Rattle.file_model.specs.operations.Calls.{SameDevice}
use Rattle.file_model.specs.operations.Seen.{Seen, device_found, device_taken}

-- ---- names

-- a file of the program is on a device of that name
abbrev pub is_used : List Address → List ℕ → Bool
is_used addresses name = list_any (λ (address : Address). bytes_eq address.device name) addresses

-- the name is one of these
abbrev pub is_among : List (List ℕ) → List ℕ → Bool
is_among names name = list_any (λ (other : List ℕ). bytes_eq other name) names

-- ---- devices of which none failed

-- a device that was used changed at most by its files, and any other not at all
abbrev pub TouchedOne : Bool → Seen → Seen → Type 0
TouchedOne true device now = SameDevice device now
TouchedOne false device now = now ≡ device

-- the first device of each name that is used changed at most, and only its files
abbrev pub Touched : (List ℕ → Bool) → (old new : List Seen) → Type 0
Touched used [] [] = Unit {0}
Touched used (device ∷ old) (now ∷ new) =
    TouchedOne (used device.name) device now
    × Touched (λ name. used name && not (bytes_eq device.name name)) old new
Touched used [] (now ∷ new) = ⊥
Touched used (device ∷ old) [] = ⊥

-- ---- devices that failed

-- the devices without the first of each of these names, the last of which was taken off first
abbrev pub all_taken : List (List ℕ) → List Seen → List Seen
all_taken [] devices = devices
all_taken (name ∷ names) devices = device_taken name (all_taken names devices)

-- the first device of that name, which failed: its count rose
pub record FailedAs (name : List ℕ) (devices : List Seen) (after : Seen) : Type 0 where
  pub before : Seen
  -- it was the first of its name
  pub first : device_found name devices ≡ Some before
  pub named : after.name ≡ name
  -- its count of failures rose
  pub counted : Counts true before.faults after.faults

-- the devices of these names, which are used, failed, each once; the last of them failed first
abbrev pub Failed : (List ℕ → Bool) → List (List ℕ) → (old fallen : List Seen) → Type 0
Failed used [] old [] = Unit {0}
Failed used (name ∷ names) old (after ∷ fallen) =
    FailedAs name old after × (used name ≡ true) × (is_among names name ≡ false)
    × Failed used names old fallen
Failed used [] old (after ∷ fallen) = ⊥
Failed used (name ∷ names) old [] = ⊥

-- what is left of a bench: the devices of these names failed and follow it, and the others
-- are in their order, of which at most the first of each name that is used changed, by its files
pub record LeftOf (used : List ℕ → Bool) (gone : List (List ℕ)) (left left_now : ℕ)
    (old new : List Seen) : Type 0 where
  -- the devices before those that failed are taken off
  pub still : List Seen
  -- the devices that failed
  pub fallen : List Seen
  -- at most the files of devices that are used changed
  pub touched : Touched used (take left old) still
  -- the others are on the bench
  pub count : left_now + length gone ≡ left
  -- without those that failed, in their order
  pub bench : take left_now new ≡ all_taken gone still
  -- those of these names failed
  pub failed : Failed used gone (take left old) fallen
  -- and come after the bench
  pub behind : drop left_now new ≡ fallen ++ drop left old

-- the name of the device right after the bench
abbrev pub name_of : Option Seen → List ℕ
name_of None = []
name_of (Some device) = device.name

-- the name of the first device after so many on the bench
abbrev pub name_behind : ℕ → List Seen → List ℕ
name_behind left devices = name_of (slice_get devices left)

-- the names of those that failed, by how an operation on a device of that name came out
abbrev pub gone_with : Result ℕ FileFault → List ℕ → List (List ℕ) → List (List ℕ)
gone_with (Err faults.Device) name gone = name ∷ gone
gone_with (Ok status) name gone = gone
gone_with (Err faults.NoMemory) name gone = gone

-- ---- the files of the program on devices that failed

-- the file isn't open, where that is asked
abbrev pub IsShut : Bool → FileRow → Type 0
IsShut true row = row.how ≡ None
IsShut false row = Unit {0}

-- no file of the program on a device of these names is open
abbrev pub AreShut : List (List ℕ) → List Address → List FileRow → Type 0
AreShut gone [] rows = Unit {0}
AreShut gone (address ∷ addresses) [] = Unit {0}
AreShut gone (address ∷ addresses) (row ∷ rows) =
    IsShut (is_among gone address.device) row × AreShut gone addresses rows
