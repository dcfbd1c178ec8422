-- What each operation on a file does, and its status.
use Rattle.std.specs.Prelude.{ℕ, suc, ◌+◌, ◌-◌, Bool, true, false, ◌&&◌, ◌||◌, not, if◌then◌else◌, nat_le, ◌==◌, List, [], ◌∷◌, ◌++◌, length, take, drop, Option, Some, None, is_some, unwrap_or, slice_get, slice_set, replicate}
use Rattle.std.specs.Str.{bytes_eq}
use Rattle.std.specs.List.{list_all}
use Rattle.cob_tree.specs.declared.file.How.{How}
use Rattle.cob_tree.specs.declared.file.How.TheVariants as how
use Rattle.file_model.specs.Status.{closed_row, opened_row, read_row, other_row, may_open, may_close, may_read, may_write, may_rewrite}
use Rattle.file_model.specs.World.{World, Shelf, File, FileState, file_found, file_put, shelf_found, shelf_put, bytes_of_file, files_of_shelf}

-- ---- names

-- where a file is: a device, and its name there
pub record Address : Type 0 where
  pub device : List ℕ
  pub name : List ℕ

-- the bytes before the first colon
abbrev pub before_colon : List ℕ → List ℕ
before_colon [] = []
before_colon (byte ∷ bytes) = if byte == 58 then [] else byte ∷ before_colon bytes

-- the device DISK
abbrev pub disk : List ℕ
disk = 68 ∷ 73 ∷ 83 ∷ 75 ∷ []

-- the address that ASSIGN names, cut at the first colon; without a colon the device is DISK
abbrev pub address_of : List ℕ → Address
address_of assign =
    if length (before_colon assign) == length assign
    then record { device = disk; name = assign }
    else record {
      device = before_colon assign;
      name = drop (suc (length (before_colon assign))) assign;
    }

-- the byte may be in a file's name
abbrev pub name_byte : ℕ → Bool
name_byte byte =
    nat_le 48 byte && nat_le byte 57 || nat_le 65 byte && nat_le byte 90
    || nat_le 97 byte && nat_le byte 122 || byte == 46 || byte == 45 || byte == 95

-- a file may have this name: 1 to 60 letters, digits, periods, hyphens and underlines, without a
-- period first
abbrev pub can_be_opened : List ℕ → Bool
can_be_opened [] = false
can_be_opened (first ∷ others) =
    not (first == 46) && name_byte first && list_all name_byte others && nat_le (length others) 59

-- both are one file of one device
abbrev pub same_address : Address → Address → Bool
same_address a b = bytes_eq a.device b.device && bytes_eq a.name b.name

-- ---- states

-- a file that isn't open
abbrev pub closed : FileState
closed = record { row = closed_row; at = 0; start = 0 }

-- how the file with this number stands
abbrev pub state_of : World → ℕ → FileState
state_of world file = unwrap_or (slice_get world.files file) closed

-- the world in which the file with this number stands so
abbrev pub with_state : World → ℕ → FileState → World
with_state world file state = record world { files = slice_set world.files file state }

-- the world after an operation that gave no record
abbrev pub noted : World → ℕ → World
noted world file =
    with_state world file (record (state_of world file) {
      row = other_row
          (state_of world file).row;
    })

-- the bytes of the file at an address; one that isn't there has none
abbrev pub bytes_at : World → Address → List ℕ
bytes_at world address =
    bytes_of_file (file_found address.name
    (files_of_shelf (shelf_found address.device world.shelves)))

-- the world in which the file at an address has these bytes
abbrev pub with_bytes : World → Address → List ℕ → World
with_bytes world address bytes =
    record world { shelves = shelf_put address.device (file_put address.name bytes) world.shelves }

-- what an operation leaves: the world, the bytes that it moved, and its status
pub record Attempt : Type 0 where
  pub world : World
  pub bytes : List ℕ
  pub status : ℕ

-- an operation that isn't done, with this status
abbrev pub refused : World → ℕ → ℕ → Attempt
refused world file status = record { world = noted world file; bytes = []; status = status }

-- an operation that is tried where its status so far is 0
abbrev pub permitted : World → ℕ → ℕ → Attempt → Attempt
permitted world file status tried = if status == 0 then tried else refused world file status

-- ---- OPEN and CLOSE

-- another file of the program is open at this address
abbrev pub is_taken : Address → List Address → List FileState → Bool
is_taken address (other ∷ others) (state ∷ states) =
    is_some state.row.how && same_address address other || is_taken address others states
is_taken address _ _ = false

-- where a file is opened: EXTEND at its end, else at its start
abbrev pub start_at : How → List ℕ → ℕ
start_at how.Extend bytes = length bytes
start_at _ bytes = 0

-- the mode is OUTPUT
abbrev pub is_output : How → Bool
is_output how.Output = true
is_output _ = false

-- the file is open in this mode, over these bytes
abbrev pub opened_with : World → ℕ → How → List ℕ → Attempt
opened_with world file mode bytes =
    record {
      world = with_state world file
          (record {
            row = opened_row mode;
            at = start_at mode bytes;
            start = 0;
          });
      bytes = [];
      status = 0;
    }

-- OUTPUT makes or empties the file; 35 where it is missing
abbrev pub opened_from : World → ℕ → Address → How → Option File → Attempt
opened_from world file address mode None =
    if is_output mode
    then opened_with (with_bytes world address []) file mode []
    else refused world file 35
opened_from world file address mode (Some found) =
    if is_output mode
    then opened_with (with_bytes world address []) file mode []
    else opened_with world file mode found.bytes

-- 30 where the device isn't on the bench
abbrev pub opened_on : World → ℕ → Address → How → Option Shelf → Attempt
opened_on world file address mode None = refused world file 30
opened_on world file address mode (Some shelf) =
    opened_from world file address mode (file_found address.name shelf.files)

-- what OPEN comes to; status 30 where the name can't be opened, or another file of the program is
-- open there
abbrev pub opened_at : World → List Address → ℕ → Address → How → Attempt
opened_at world addresses file address mode =
    permitted world file (may_open (state_of world file).row) (
    if not (can_be_opened address.name) || is_taken address addresses world.files
    then refused world file 30
    else opened_on world file address mode (shelf_found address.device world.shelves))

-- CLOSE of a file
abbrev pub closed_at : World → ℕ → Attempt
closed_at world file =
    permitted world file (may_close (state_of world file).row)
    (record { world = with_state world file closed; bytes = []; status = 0 })

-- ---- READ

-- a short record is padded with spaces
abbrev pub padded_to : ℕ → List ℕ → List ℕ
padded_to size bytes = bytes ++ replicate (size - length bytes) 32

-- what READ comes to, which moves the bytes that the file gives; status 10 where it gives none
abbrev pub read_of : World → ℕ → FileState → ℕ → List ℕ → Attempt
read_of world file state size [] =
    record {
      world = with_state world file (record state { row = read_row true state.row });
      bytes = [];
      status = 10;
    }
read_of world file state size (byte ∷ bytes) = record {
  world = with_state world file (record {
    row = read_row false state.row;
    at = state.at + length
        (byte ∷ bytes);
    start = state.at;
  });
  bytes = padded_to size (byte ∷ bytes);
  status = 0;
}

-- READ of one record from the file at an address
abbrev pub read_at : World → ℕ → Address → ℕ → Attempt
read_at world file address size =
    permitted world file (may_read (state_of world file).row)
    (read_of world file (state_of world file) size
    (take size (drop (state_of world file).at (bytes_at world address))))

-- ---- WRITE and REWRITE

-- the record follows the file's bytes
abbrev pub written_at : World → ℕ → Address → List ℕ → Attempt
written_at world file address bytes =
    permitted world file (may_write (state_of world file).row)
    (record {
      world = noted (with_bytes world address (bytes_at world address ++ bytes)) file;
      bytes = bytes;
      status = 0;
    })

-- bytes over those from a place on; what is short grows
abbrev pub over : List ℕ → ℕ → List ℕ → List ℕ
over old start bytes = take start old ++ bytes ++ drop (start + length bytes) old

-- what REWRITE comes to: the record takes the place of the one that was read last
abbrev pub rewritten_of : World → ℕ → FileState → Address → List ℕ → Attempt
rewritten_of world file state address bytes = record {
  world = with_state (with_bytes world address
      (over (bytes_at world address) state.start bytes)) file
      (record { row = other_row state.row; at = state.start + length bytes; start = state.start });
  bytes = bytes;
  status = 0;
}

-- REWRITE of one record of the file at an address
abbrev pub rewritten_at : World → ℕ → Address → List ℕ → Attempt
rewritten_at world file address bytes =
    permitted world file (may_rewrite (state_of world file).row) (rewritten_of world file
    (state_of world file) address bytes)
