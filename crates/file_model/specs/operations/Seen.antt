-- What contracts see of the devices of a bench.
use Rattle.std.specs.Prelude.{ℕ, ◌<◌, ◌≡◌, true, false, if◌then◌else◌, List, [], ◌∷◌, length, Option, Some, None, IfSome, slice_get}
use Rattle.std.specs.Str.{bytes_eq}
use Rattle.file_model.specs.declared.mem_file.MemFile.{MemFile}

-- a device: its name, its files, where it tells them, and how often it failed
pub record Seen : Type 0 where
  pub name : List ℕ
  -- the files, if the device tells them
  pub files : Option (List MemFile)
  -- how often it failed
  pub faults : ℕ

-- ---- the devices of a name, of which the first counts

-- the first device of that name
abbrev pub device_found : List ℕ → List Seen → Option Seen
device_found name [] = None
device_found name (device ∷ devices) =
    if bytes_eq device.name name then Some device else device_found name devices

-- the first device of that name, replaced
abbrev pub device_put : List ℕ → Seen → List Seen → List Seen
device_put name new [] = []
device_put name new (device ∷ devices) =
    if bytes_eq device.name name then new ∷ devices else device ∷ device_put name new devices

-- the devices without the first of that name
abbrev pub device_taken : List ℕ → List Seen → List Seen
device_taken name [] = []
device_taken name (device ∷ devices) =
    if bytes_eq device.name name then devices else device ∷ device_taken name devices

-- no device has the name
abbrev pub Nowhere : List ℕ → List Seen → Type 0
Nowhere name devices = device_found name devices ≡ None

-- the first device of that name is at that place
pub record IsFirstAt (name : List ℕ) (devices : List Seen) (at : ℕ) : Type 0 where
  pub within : at < length devices
  -- the device there has the name
  pub here : IfSome (slice_get devices at) (λ device. bytes_eq device.name name ≡ true)
  -- none before it has
  pub others : (k : ℕ) → k < at →
      IfSome (slice_get devices k) (λ device. bytes_eq device.name name ≡ false)
