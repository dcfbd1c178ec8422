-- The first file of a name, as the code finds it.
use Rattle.std.specs.Prelude.{ℕ, ◌≡◌, ◌<◌, List, [], ◌++◌, length, drop, Some, None, slice_get, slice_set}
use Rattle.file_model.specs.declared.device.Got.{Got}
use Rattle.file_model.specs.declared.device.Got.TheVariants as got
use Rattle.file_model.specs.declared.mem_file.MemFile.{MemFile}
use Rattle.file_model.specs.Told.{changed, found, next_of, read_on}

-- no file has the name, so none is changed by it
pub record HasNone (name : List ℕ) (files : List MemFile) : Type 0 where
  -- no file is found by the name
  pub none : found name files ≡ None
  -- what is done to the file of that name changes nothing
  pub stays : (change : MemFile → MemFile) → changed name change files ≡ files

-- the file at that place is the one of the name, and is changed by it
pub record IsFirst (name : List ℕ) (files : List MemFile) (at : ℕ) : Type 0 where
  pub within : at < length files
  -- it is the one that is found by the name
  pub here : found name files ≡ slice_get files at
  -- what is done to the file of that name is done to it
  pub changes : (change : MemFile → MemFile)
      (file : MemFile) → slice_get files at ≡ Some file →
      changed name change files ≡ slice_set files at (change file)

-- what a read makes of the file
abbrev pub GivesNext : MemFile → Got → (old new : List ℕ) → MemFile → Type 0
GivesNext file (got.Bytes n) old new now =
    (n ≡ length (next_of (length old) file)) × (new ≡ next_of (length old) file ++ drop n old)
    × (now ≡ read_on n file) × (n ≡ 0 → length old ≡ 0)
GivesNext file got.End old new now = (drop file.at file.bytes ≡ []) × (now ≡ file)
GivesNext file got.Failed old new now = now ≡ file
