-- What a call of a device makes of the files that it tells.
use Rattle.std.specs.Prelude.{ℕ, ◌≡◌, ◌+◌, ◌≤◌, Bool, true, false, if◌then◌else◌, List, [], ◌∷◌, ◌++◌, length, take, drop, Option, Some, None, IsSome}
use Rattle.std.specs.Str.{bytes_eq}
use Rattle.cob_base.specs.Faults.{Rose}
use Rattle.cob_tree.specs.declared.file.How.{How}
use Rattle.cob_tree.specs.declared.file.How.TheVariants as how
use Rattle.file_model.specs.declared.device.Opened.{Opened}
use Rattle.file_model.specs.declared.device.Opened.TheVariants as opened
use Rattle.file_model.specs.declared.device.Got.{Got}
use Rattle.file_model.specs.declared.device.Got.TheVariants as got
use Rattle.file_model.specs.declared.device.Put.{Put}
use Rattle.file_model.specs.declared.device.Put.TheVariants as put
use Rattle.file_model.specs.declared.mem_file.MemFile.{MemFile}
use Rattle.file_model.specs.Attempts.{over, start_at, is_output}

-- ---- the files of a device, of which the first of a name counts

-- the first file of that name
abbrev pub found : List ℕ → List MemFile → Option MemFile
found name [] = None
found name (file ∷ files) = if bytes_eq file.name name then Some file else found name files

-- the first file of that name, changed
abbrev pub changed : List ℕ → (MemFile → MemFile) → List MemFile → List MemFile
changed name change [] = []
changed name change (file ∷ files) =
    if bytes_eq file.name name then change file ∷ files else file ∷ changed name change files

-- ---- what becomes of a file

-- OUTPUT empties it; Input and InOut are at its start, and Extend at its end
abbrev pub opened_as : How → MemFile → MemFile
opened_as mode file =
    record {
      name = file.name;
      bytes = if is_output mode then [] else file.bytes;
      how = Some mode;
      at = start_at mode file.bytes;
      last = None;
    }

-- a new one, which is empty
abbrev pub made : List ℕ → MemFile
made name = record { name = name; bytes = []; how = Some how.Output; at = 0; last = None }

-- the file after so many bytes were read
abbrev pub read_on : ℕ → MemFile → MemFile
read_on size file =
    record {
      name = file.name;
      bytes = file.bytes;
      how = file.how;
      at = file.at + size;
      last = Some file.at;
    }

-- the file with these bytes after its own
abbrev pub appended : List ℕ → MemFile → MemFile
appended bytes file =
    record {
      name = file.name;
      bytes = file.bytes ++ bytes;
      how = file.how;
      at = file.at;
      last = file.last;
    }

-- the file with the record replaced that was read last; a short one grows
abbrev pub replaced_from : Option ℕ → List ℕ → MemFile → MemFile
replaced_from None bytes file = file
replaced_from (Some start) bytes file =
    record {
      name = file.name;
      bytes = over file.bytes start bytes;
      how = file.how;
      at = length (take start file.bytes ++ bytes);
      last = file.last;
    }

-- the record that was read last is replaced, if there is one
abbrev pub replaced : List ℕ → MemFile → MemFile
replaced bytes file = replaced_from file.last bytes file

-- the file isn't open
abbrev pub shut : MemFile → MemFile
shut file =
    record { name = file.name; bytes = file.bytes; how = None; at = file.at; last = file.last }

-- ---- calls: the files before, what is asked, the answer, the files then

-- the files after OPEN, where the name can be opened so, or none where it is missing
abbrev pub opening : How → List ℕ → List MemFile → Option MemFile → Option (List MemFile)
opening mode name files (Some file) = Some (changed name (opened_as mode) files)
opening mode name files None = if is_output mode then Some (files ++ made name ∷ []) else None

-- what OPEN answers, and the files then
abbrev pub Opens : Option (List MemFile) → List ℕ → How → Opened → Option (List MemFile) → Type 0
Opens None name mode answer now = now ≡ None
Opens (Some files) name mode opened.Ready now =
    (now ≡ opening mode name files (found name files)) × IsSome now
Opens (Some files) name mode opened.Missing now =
    (opening mode name files (found name files) ≡ None) × (now ≡ Some files)
Opens (Some files) name mode opened.Failed now = now ≡ Some files
Opens (Some files) name mode opened.NoMemory now = now ≡ Some files

-- the bytes after the position, as many as fit
abbrev pub next_of : ℕ → MemFile → List ℕ
next_of size file = take size (drop file.at file.bytes)

-- the answer of READ on that file: as many bytes as there are and fit, or the end where none are
-- left; no bytes come into an empty buffer alone
abbrev pub Gives : List ℕ → MemFile → List MemFile → Got → (old new : List ℕ) →
    Option (List MemFile) → Type 0
Gives name file files (got.Bytes n) old new now =
    (n ≡ length (next_of (length old) file)) × (new ≡ next_of (length old) file ++ drop n old)
    × (now ≡ Some (changed name (read_on n) files)) × (n ≡ 0 → length old ≡ 0)
Gives name file files got.End old new now = (drop file.at file.bytes ≡ []) × (now ≡ Some files)
Gives name file files got.Failed old new now = now ≡ Some files

-- what READ answers of the file, if there is one, with the buffer and the files then
abbrev pub ReadsFrom : List ℕ → Option MemFile → List MemFile → Got → (old new : List ℕ) →
    Option (List MemFile) → Type 0
ReadsFrom name None files answer old new now = now ≡ Some files
ReadsFrom name (Some file) files answer old new now = Gives name file files answer old new now

-- what READ answers, with the buffer and the files then
abbrev pub Reads : Option (List MemFile) → List ℕ → Got → (old new : List ℕ) →
    Option (List MemFile) → Type 0
Reads None name answer old new now = now ≡ None
Reads (Some files) name answer old new now =
    ReadsFrom name (found name files) files answer old new now

-- the number is at most the length of the buffer
abbrev pub GivesAtMost : ℕ → Got → Type 0
GivesAtMost most (got.Bytes n) = n ≤ most
GivesAtMost most got.End = Unit {0}
GivesAtMost most got.Failed = Unit {0}

-- the buffer stays as it was where no bytes were given
abbrev pub StaysUngiven : Got → (old new : List ℕ) → Type 0
StaysUngiven (got.Bytes n) old new = n ≡ 0 → new ≡ old
StaysUngiven got.End old new = new ≡ old
StaysUngiven got.Failed old new = Unit {0}

-- the first file of that name is changed where it was done, and else the files stay
abbrev pub Changes : Option (List MemFile) → List ℕ → (MemFile → MemFile) → Put →
    Option (List MemFile) → Type 0
Changes None name change answer now = now ≡ None
Changes (Some files) name change put.Done now = now ≡ Some (changed name change files)
Changes (Some files) name change put.Failed now = now ≡ Some files
Changes (Some files) name change put.NoMemory now = now ≡ Some files

-- ---- counts of failures

-- OPEN failed
abbrev pub open_fails : Opened → Bool
open_fails opened.Ready = false
open_fails opened.Missing = false
open_fails opened.Failed = true
open_fails opened.NoMemory = false

-- READ failed
abbrev pub read_fails : Got → Bool
read_fails (got.Bytes n) = false
read_fails got.End = false
read_fails got.Failed = true

-- a call that writes failed
abbrev pub put_fails : Put → Bool
put_fails put.Done = false
put_fails put.Failed = true
put_fails put.NoMemory = false

-- the count rises where a call failed, and else stays
abbrev pub Counts : Bool → (before now : ℕ) → Type 0
Counts true before now = (before ≤ now) × Rose before now
Counts false before now = now ≡ before
