-- What a statement on files makes of a world that stands over devices, where those that it may use
-- tell their files.
use Rattle.std.specs.Prelude.{ℕ, ◌≡◌, ◌⊎◌, ◌<◌, ◌^◌, ◌==◌, Bool, if◌then◌else◌, List, [], drop, length, take, Option, Result, Ok, Err, IfOk, slice_get}
use Rattle.cob_tree.specs.declared.place.Place.{Place}
use Rattle.cob_tree.specs.declared.file.FileEntry.{FileEntry}
use Rattle.cob_store.specs.declared.spot.Spot.{Spot}
use Rattle.cob_store.specs.Answer.{Answer, and_then}
use Rattle.cob_store.specs.Store.{Roots}
use Rattle.file_model.specs.declared.table.FileRow.{FileRow}
use Rattle.file_model.specs.Attempts.{Attempt}
use Rattle.file_model.specs.World.{World}
use Rattle.meanings.specs.statements.Filing.{Chose, Declared, Effect, Operation, Went, after, each_file, entry_bytes, file_of, into, last_world, no_effect, status_place, status_spot}
use Rattle.meanings.specs.statements.Outcome.{Outcome}
use Rattle.cob_act.specs.declared.acting.ActOutcome.{ActOutcome}
use Rattle.file_model.specs.operations.Calls.{addresses_of}
use Rattle.file_model.specs.operations.Seen.{Seen}
use Rattle.file_model.specs.operations.Standing.{Stands, TellUsed}
use Rattle.file_model.specs.operations.Shutting.{StandsLeft}
use Rattle.cob_act.specs.files.Ends.{ended_as, gone_by}
use Rattle.file_model.specs.declared.operations.fault.FileFault.{FileFault}

-- the devices that the files of a program use tell their files, and the files of the program stand
-- over them in a world
pub record IsOver (files : List FileEntry) (devices : List Seen) (table : List FileRow)
    (world : World) : Type 0 where
  pub rows : length table ≡ length files
  -- the program has few files
  pub few : length files < 2 ^ 32
  -- each device that the program uses tells its files
  pub told : TellUsed (addresses_of files) devices
  -- the files are over the devices as the world has them
  pub stands : Stands (addresses_of files) devices table world

-- an operation has the status of the attempt, in its world
abbrev pub Tries : List FileEntry → Result ℕ FileFault → Attempt → List Seen → List FileRow → Type 0
Tries files (Ok status) attempt devices table =
    (status ≡ attempt.status) × IsOver files devices table attempt.world
Tries files (Err fault) attempt devices table = Unit {0}

-- a statement had that effect in a world
abbrev pub Did : List FileEntry → Result ActOutcome FileFault → World → Effect → Roots → List Seen →
    List FileRow → Type 0
Did files (Ok done) world effect store devices table =
    (ended_as done ≡ effect.end) × (store ≡ effect.store)
    × IsOver files devices table (last_world world effect.operations)
Did files (Err fault) world effect store devices table = Unit {0}

-- ---- what breaks off

-- the devices that are left have the files of the world, and what is open in it still is
abbrev pub BrokeIn : FileFault → List FileEntry → World → (left : ℕ) → List Seen → List FileRow →
    Type 0
BrokeIn fault files world left devices table =
    StandsLeft (addresses_of files) (gone_by fault left devices) (take left devices) table world

-- an operation that breaks off leaves the world as it was
abbrev pub Stays : {A : Type 0} → Result A FileFault → List FileEntry → World → (left : ℕ) →
    List Seen → List FileRow → Type 0
Stays (Ok a) files world left devices table = Unit {0}
Stays (Err fault) files world left devices table = BrokeIn fault files world left devices table

-- the world after so many of these operations
abbrev pub world_behind : ℕ → World → List Operation → World
world_behind some world operations = last_world world (take some operations)

-- a statement that breaks off leaves the world after its first operations, so many
abbrev pub BreaksIn : {A : Type 0} → Result A FileFault → List FileEntry → World → Effect →
    (left : ℕ) → List Seen → List FileRow → Type 0
BreaksIn (Ok a) files world effect left devices table = Unit {0}
BreaksIn (Err fault) files world effect left devices table = (some : ℕ)
    × BrokeIn fault files (world_behind some world effect.operations) left devices table

-- ---- the store where it broke off

-- so many were done: all that is meant is what they did, and then the same for the others, from
-- this store
abbrev pub StopsAmong : {A : Type 0} → (Roots → World → A → Effect) → Effect → World → List A →
    Roots → Type 0
StopsAmong does whole world items store = (done : ℕ) × (operations : List Operation)
    × (whole ≡ after operations
    (each_file does store (last_world world operations) (drop done items)))

-- the store is as it was, or as FROM left it
abbrev pub MovedFrom : Outcome (Unit {0}) → (old new : Roots) → Type 0
MovedFrom from old new = (new ≡ old) ⊎ (new ≡ from.store)

-- ---- parts that ask no device

-- it ended so in a store, without an operation
pub record EndsAs (done : ActOutcome) (store : Roots) (effect : Effect) : Type 0 where
  -- it ended so
  pub end : ended_as done ≡ effect.end
  -- the store is this one
  pub same : store ≡ effect.store
  -- no operation was done
  pub none : effect.operations ≡ []

-- what follows the status of a READ: INTO where a record came, and an arm where there are arms
abbrev pub read_then : Declared → ℕ → Option Place → Bool → ℕ → Roots → Effect
read_then declared file place arms status store =
    if status == 0
    then into declared file store place (if arms then Chose 2 else Went)
    else no_effect store (if arms then Chose 1 else Went)

-- what FROM left, and where it went on the status item and the bytes of the record
abbrev pub PutsOut : Declared → ℕ → Outcome (Unit {0}) → Answer (Option Spot) → Roots → List ℕ →
    Type 0
PutsOut declared entry from answer store bytes =
    (store ≡ from.store) × (answer ≡ and_then from.answer (λ u. status_spot declared from.store
    (status_place declared (file_of declared entry)))) × IfOk from.answer (λ u.
    bytes ≡ entry_bytes declared (file_of declared entry) from.store
    (slice_get declared.areas.items entry))
