-- How the files of a program stand over the devices on a bench, in a world.
use Rattle.std.specs.Prelude.{ℕ, ◌≡◌, ◌≤◌, Bool, false, ◌&&◌, ◌||◌, IsTrue, if◌then◌else◌, List, [], ◌∷◌, ◌++◌, map, length, Option, Some, None, is_some, IsSome, IsSomeAnd, slice_get}
use Rattle.std.specs.Str.{bytes_eq}
use Rattle.cob_tree.specs.declared.file.How.{How}
use Rattle.file_model.specs.declared.mem_file.MemFile.{MemFile}
use Rattle.file_model.specs.declared.table.FileRow.{FileRow}
use Rattle.file_model.specs.Attempts.{Address, closed, same_address}
use Rattle.file_model.specs.Status.{closed_row}
use Rattle.file_model.specs.Told.{found}
use Rattle.file_model.specs.World.{File, FileState, Shelf, World, shelf_found}
use Rattle.file_model.specs.operations.Seen.{Seen, device_found}

-- ---- files of a device

-- a file that a device tells, by its name and bytes
abbrev pub as_file : MemFile → File
as_file file = record { name = file.name; bytes = file.bytes }

-- the shelf has the files that the device tells
abbrev pub SameFiles : Option (List MemFile) → Option Shelf → Type 0
SameFiles None shelf = Unit {0}
SameFiles (Some files) None = ⊥
SameFiles (Some files) (Some shelf) = shelf.files ≡ map as_file files

-- the device, if there is one, has the files of the world's device
abbrev pub SameShelf : Option Seen → Option Shelf → Type 0
SameShelf None shelf = shelf ≡ None
SameShelf (Some device) shelf = SameFiles device.files shelf

-- the device, if there is one, tells its files
abbrev pub IsTold : Option Seen → Type 0
IsTold None = Unit {0}
IsTold (Some device) = IsSome device.files

-- the devices on which files of a program are, the first of each name, tell their files
abbrev pub TellUsed : List Address → List Seen → Type 0
TellUsed addresses devices =
    (file : ℕ) (address : Address) → slice_get addresses file ≡ Some address →
    IsTold (device_found address.device devices)

-- ---- open files

-- the record that was read last begins there
pub record LastAt (start : ℕ) (file : MemFile) : Type 0 where
  -- it is the place of the last READ
  pub last : file.last ≡ Some start
  pub within : start ≤ length file.bytes

-- the device has the file open so, at the world's position
pub record OpenAs (mode : How) (state : FileState) (file : MemFile) : Type 0 where
  -- the file is open so
  pub how : file.how ≡ Some mode
  -- at the world's position
  pub place : file.at ≡ state.at
  -- which is within the file
  pub within : state.at ≤ length file.bytes
  -- and knows the record that was read last
  pub read : IsTrue state.row.has_record → LastAt state.start file

-- the device, where it tells its files, has the file open so
abbrev pub OpenAmong : Option (List MemFile) → List ℕ → How → FileState → Type 0
OpenAmong None name mode state = Unit {0}
OpenAmong (Some files) name mode state = IsSomeAnd (found name files) (OpenAs mode state)

-- there is a device, and it has the file open so
abbrev pub OpenOn : Option Seen → List ℕ → How → FileState → Type 0
OpenOn None name mode state = ⊥
OpenOn (Some device) name mode state = OpenAmong device.files name mode state

-- a file that is open is open so on its device
abbrev pub StandsOn : Option How → Option Seen → List ℕ → FileState → Type 0
StandsOn None device name state = Unit {0}
StandsOn (Some mode) device name state = OpenOn device name mode state

-- a file of the program is open there
abbrev pub is_open_there : Address → List Address → List FileRow → Bool
is_open_there address (other ∷ others) (row ∷ rows) =
    is_some row.how && same_address address other || is_open_there address others rows
is_open_there address _ _ = false

-- ---- the whole

-- what a program knows of how its file stands
abbrev pub row_of : FileState → FileRow
row_of state = state.row

-- the table has the world's rows; the first device of each name has the files of the world's shelf,
-- where it tells them; each file of the program that is open has its device on the bench, which has
-- it open so; and no two of them are one
pub record Stands (addresses : List Address) (devices : List Seen) (table : List FileRow)
    (world : World) : Type 0 where
  -- the rows are the world's
  pub rows : table ≡ map row_of world.files
  -- each device that tells its files has those of the world
  pub shelves : (name : List ℕ) →
      SameShelf (device_found name devices) (shelf_found name world.shelves)
  -- each file that is open is open so on its device
  pub standing : (file : ℕ) (address : Address) (state : FileState) →
      slice_get addresses file ≡ Some address → slice_get world.files file ≡ Some state →
      StandsOn state.row.how (device_found address.device devices) address.name state
  -- no two files that are open have one address
  pub apart : (file other : ℕ) (address : Address) (state state_there : FileState) →
      slice_get addresses file ≡ Some address → slice_get addresses other ≡ Some address →
      slice_get world.files file ≡ Some state → slice_get world.files other ≡ Some state_there →
      IsTrue (is_some state.row.how) → IsTrue (is_some state_there.row.how) → file ≡ other

-- ---- a device that is gone

-- what the next device of the name tells
abbrev pub next_shelf : List ℕ → Option Seen → List Shelf
next_shelf name None = []
next_shelf name (Some device) = shelf_by name device.files
  where
    shelf_by : List ℕ → Option (List MemFile) → List Shelf
    shelf_by name None = []
    shelf_by name (Some files) = record { name = name; files = map as_file files } ∷ []

-- the devices but those of that name
abbrev pub shelves_without : List ℕ → List Shelf → List Shelf
shelves_without name [] = []
shelves_without name (shelf ∷ shelves) =
    if bytes_eq shelf.name name
    then shelves_without name shelves
    else shelf ∷ shelves_without name shelves

-- the files of the program on the device are closed
abbrev pub closed_on : List ℕ → List Address → List FileState → List FileState
closed_on name (address ∷ addresses) (state ∷ states) =
    (if bytes_eq address.device name then closed else state) ∷ closed_on name addresses states
closed_on name _ states = states

-- the rows, in which the files on the device are closed
abbrev pub rows_closed_on : List ℕ → List Address → List FileRow → List FileRow
rows_closed_on name (address ∷ addresses) (row ∷ rows) =
    (if bytes_eq address.device name then closed_row else row) ∷ rows_closed_on name addresses rows
rows_closed_on name _ rows = rows

-- the world in which that device is gone, and the next of its name, if any, is the first
abbrev pub without : List ℕ → Option Seen → List Address → World → World
without name next addresses world = record {
  shelves = next_shelf name next ++ shelves_without name world.shelves;
  files = closed_on name addresses world.files;
}
