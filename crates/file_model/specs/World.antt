-- What is outside of a run: devices with their files, and how the files of the program stand.
use Rattle.std.specs.Prelude.{ℕ, if◌then◌else◌, List, [], ◌∷◌, Option, Some, None}
use Rattle.std.specs.Str.{bytes_eq}
use Rattle.file_model.specs.declared.table.FileRow.{FileRow}

-- a file, by its name and its bytes
pub record File : Type 0 where
  pub name : List ℕ
  pub bytes : List ℕ

-- a device that tells its files
pub record Shelf : Type 0 where
  pub name : List ℕ
  pub files : List File

-- how a file of the program stands, where its next READ begins, and where the record begins that
-- was read last
pub record FileState : Type 0 where
  -- whether it is open and how
  pub row : FileRow
  -- where its next READ begins
  pub at : ℕ
  -- where the record begins that was read last
  pub start : ℕ

-- the devices on the bench, the first of each name, and how each file of the program stands
pub record World : Type 0 where
  -- the devices on the bench
  pub shelves : List Shelf
  pub files : List FileState

-- what is done with a file
pub data Verb : Type 0 where
  Open : Verb
  Read : Verb
  Write : Verb
  Rewrite : Verb
  Close : Verb

-- what is seen from outside: what is displayed, and each operation on a file
pub data Event : Type 0 where
  Display : (bytes : List ℕ) → Event
  Filed : (verb : Verb) → (file : ℕ) → (bytes : List ℕ) → (status : ℕ) → Event

-- what was seen, in order
abbrev pub Trace : Type 0
Trace = List Event

-- ---- files of a device

-- the first file of that name
abbrev pub file_found : List ℕ → List File → Option File
file_found name [] = None
file_found name (file ∷ files) =
    if bytes_eq file.name name then Some file else file_found name files

-- a file with these bytes, a new one after the others
abbrev pub file_put : List ℕ → List ℕ → List File → List File
file_put name bytes [] = record { name = name; bytes = bytes } ∷ []
file_put name bytes (file ∷ files) =
    if bytes_eq file.name name
    then record file { bytes = bytes } ∷ files
    else file ∷ file_put name bytes files

-- the first device of that name
abbrev pub shelf_found : List ℕ → List Shelf → Option Shelf
shelf_found name [] = None
shelf_found name (shelf ∷ shelves) =
    if bytes_eq shelf.name name then Some shelf else shelf_found name shelves

-- the devices with the files of the first of that name changed
abbrev pub shelf_put : List ℕ → (List File → List File) → List Shelf → List Shelf
shelf_put name change [] = []
shelf_put name change (shelf ∷ shelves) =
    if bytes_eq shelf.name name
    then record shelf { files = change shelf.files } ∷ shelves
    else shelf ∷ shelf_put name change shelves

-- the bytes of a file; one that isn't there has none
abbrev pub bytes_of_file : Option File → List ℕ
bytes_of_file None = []
bytes_of_file (Some file) = file.bytes

-- the files of a device; one that isn't there has none
abbrev pub files_of_shelf : Option Shelf → List File
files_of_shelf None = []
files_of_shelf (Some shelf) = shelf.files
