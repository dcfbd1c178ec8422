-- What becomes of the files of a program where a run ends: those that are open are closed, in their
-- order.
use Rattle.std.specs.Prelude.{ℕ, ◌≡◌, ◌<◌, ◌≤◌, Bool, true, false, List, [], ◌∷◌, ◌++◌, length, take, Option, Some, None, IfSome, IsSome, IsSomeAnd, slice_get}
use Rattle.file_model.specs.declared.mem_file.MemFile.{MemFile}
use Rattle.file_model.specs.declared.table.FileRow.{FileRow}
use Rattle.file_model.specs.Attempts.{Address}
use Rattle.file_model.specs.Told.{found}
use Rattle.file_model.specs.World.{FileState, World, shelf_found}
use Rattle.file_model.specs.operations.Falling.{AreShut, LeftOf, is_among, is_used}
use Rattle.file_model.specs.operations.Seen.{Seen, device_found}
use Rattle.file_model.specs.operations.Standing.{SameShelf, Stands}

-- ---- files that aren't open

-- the device, where it tells its files, has no file of that name open
abbrev pub IsShutAmong : Option (List MemFile) → List ℕ → Type 0
IsShutAmong None name = Unit {0}
IsShutAmong (Some files) name = IfSome (found name files) (λ (file : MemFile). file.how ≡ None)

-- the device, if there is one, has no file of that name open
abbrev pub IsShutOn : Option Seen → List ℕ → Type 0
IsShutOn None name = Unit {0}
IsShutOn (Some device) name = IsShutAmong device.files name

-- the file of the program is at that address, which is on no device of these names, and in the
-- world it is open
pub record OpenIn (world : World) (addresses : List Address) (gone : List (List ℕ)) (file : ℕ)
    (address : Address) : Type 0 where
  pub state : FileState
  -- its address
  pub here : slice_get addresses file ≡ Some address
  -- how the world has it
  pub there : slice_get world.files file ≡ Some state
  -- it is open
  pub open_so : IsSome state.row.how
  -- its device hasn't failed
  pub left : is_among gone address.device ≡ false

-- ---- the files, and the devices that are left

-- where devices of these names failed the others have the files of the world, and what is open in
-- it still is
pub record StandsLeft (addresses : List Address) (gone : List (List ℕ)) (devices : List Seen)
    (table : List FileRow) (world : World) : Type 0 where
  -- there is a row for each file of the program
  pub rows : length table ≡ length addresses
  -- the world as the devices have it
  pub now : World
  -- the other devices have the files of the world
  pub shelves : (name : List ℕ) → is_among gone name ≡ false →
      shelf_found name now.shelves ≡ shelf_found name world.shelves
  -- the files are over the devices as that world has them
  pub stands : Stands addresses devices table now
  -- what is open in the world is open
  pub still : (file : ℕ) (address : Address) → OpenIn world addresses gone file address →
      IsSomeAnd (slice_get table file) (λ (row : FileRow). IsSome row.how)

-- the others have the files of the world, of which those that are open in it are closed
pub record LeavesFiles (addresses : List Address) (gone : List (List ℕ)) (devices : List Seen)
    (world : World) : Type 0 where
  -- the other devices have the files of the world
  pub same : (name : List ℕ) → is_among gone name ≡ false →
      SameShelf (device_found name devices) (shelf_found name world.shelves)
  -- what is open in the world is closed
  pub shut : (file : ℕ) (address : Address) → OpenIn world addresses gone file address →
      IsShutOn (device_found address.device devices) address.name

-- so many files are closed, and those after them are still open where the world says so
pub record ShutTo (count : ℕ) (addresses : List Address) (gone : List (List ℕ))
    (devices : List Seen) (table : List FileRow) (world : World) : Type 0 where
  -- there is a row for each file of the program
  pub rows : length table ≡ length addresses
  -- the world as the devices have it
  pub now : World
  -- the other devices have the files of the world
  pub shelves : (name : List ℕ) → is_among gone name ≡ false →
      shelf_found name now.shelves ≡ shelf_found name world.shelves
  -- the files are over the devices as that world has them
  pub stands : Stands addresses devices table now
  -- the files from there on are open where the world says so
  pub still : (file : ℕ) (address : Address) → count ≤ file →
      OpenIn world addresses gone file address →
      IsSomeAnd (slice_get table file) (λ (row : FileRow). IsSome row.how)
  -- the files before are closed
  pub shut : (file : ℕ) (address : Address) → file < count →
      OpenIn world addresses gone file address →
      IsShutOn (device_found address.device devices) address.name

-- ---- closing

-- there are some names
abbrev pub are_some : List (List ℕ) → Bool
are_some [] = false
are_some (name ∷ names) = true

-- files are closed where devices of these names were gone, from a number to another: more devices
-- may have failed, and what is left is as above
pub record Shuts (from to : ℕ) (failed : Bool) (addresses : List Address) (gone : List (List ℕ))
    (left mid now : ℕ) (old between new : List Seen) (before rows : List FileRow) : Type 0 where
  -- the devices that failed on the way
  pub more : List (List ℕ)
  -- there are some just where a failure was answered
  pub some : are_some more ≡ failed
  -- no file on a device that failed is open
  pub apart : AreShut (more ++ gone) addresses rows
  -- what is left of the bench
  pub left_of : LeftOf (is_used addresses) (more ++ gone) left now old new
  -- so many files are closed now
  pub files : (world : World) → ShutTo from addresses gone (take mid between) before world →
      ShutTo to addresses (more ++ gone) (take now new) rows world

-- all are closed: more devices may have failed, and what is left is as the world has it
pub record Closes (failed : Bool) (addresses : List Address) (gone : List (List ℕ))
    (left mid now : ℕ) (old between new : List Seen) (before : List FileRow) : Type 0 where
  -- the devices that failed on the way
  pub more : List (List ℕ)
  -- there are some just where a failure was answered
  pub some : are_some more ≡ failed
  -- what is left of the bench
  pub left_of : LeftOf (is_used addresses) (more ++ gone) left now old new
  -- the others have the files of the world, and none is open
  pub files : (world : World) → StandsLeft addresses gone (take mid between) before world →
      LeavesFiles addresses (more ++ gone) (take now new) world
