-- What OPEN, CLOSE, READ, WRITE and REWRITE do.
use Rattle.std.specs.Prelude.{ℕ, ◌+◌, ◌/◌, ◌%◌, Bool, false, ◌&&◌, ◌||◌, not, if◌then◌else◌, ◌==◌, List, [], ◌∷◌, ◌++◌, map, Option, Some, None, is_some, Ok, Err, slice_get, unwrap_or}
use Rattle.cob_tree.specs.declared.ending.Abend.{Abend}
use Rattle.cob_tree.specs.declared.ending.Abend.TheVariants.{Io}
use Rattle.cob_tree.specs.declared.file.Opening.{Opening}
use Rattle.cob_tree.specs.declared.entry.Entry.{Entry}
use Rattle.cob_tree.specs.declared.file.FileEntry.{FileEntry}
use Rattle.cob_tree.specs.declared.place.Operand.{Operand}
use Rattle.cob_tree.specs.declared.place.Place.{Place, out-Place}
use Rattle.cob_store.specs.declared.area.Area.{Area}
use Rattle.cob_store.specs.declared.area.Form.{Form}
use Rattle.cob_store.specs.declared.spot.Spot.{Spot}
use Rattle.cob_store.specs.Answer.{Answer, and_then}
use Rattle.cob_store.specs.declared.area.Areas.{Areas}
use Rattle.cob_store.specs.Store.{Roots, fitted, spot_bytes, put_at}
use Rattle.cob_store.specs.Place.{memory_of, reached, reach_of}
use Rattle.file_model.specs.World.{World, Event, Verb, Filed, Open, Read, Write, Rewrite, Close}
use Rattle.file_model.specs.Attempts.{Address, address_of, Attempt, opened_at, closed_at, read_at, written_at, rewritten_at, padded_to}
use Rattle.meanings.specs.statements.Outcome.{Outcome, done}
use Rattle.meanings.specs.statements.Moving.{area_form, item_reached, operand_sent, place_sent, sent_on, form_of, is_group}

-- what a program declares, and where its items lie
pub record Declared : Type 0 where
  pub files : List FileEntry
  pub entries : List Entry
  pub areas : Areas

-- one operation: the world and the event after it
pub record Operation : Type 0 where
  pub world : World
  pub event : Event

-- how a statement ended
pub data Ended : Type 0 where
  Went : Ended
  Chose : (arm : ℕ) → Ended
  Abended : Abend → Ended

-- the operations in order, then the store and the end
pub record Effect : Type 0 where
  pub operations : List Operation
  pub store : Roots
  pub end : Ended

-- the effect of a statement that ended so without an operation
abbrev pub no_effect : Roots → Ended → Effect
no_effect store end = record { operations = []; store = store; end = end }

-- the effect after operations that were done first
abbrev pub after : List Operation → Effect → Effect
after operations effect = record effect { operations = operations ++ effect.operations }

-- ---- files of the program

-- the address of a file by its entry; an empty one where there is no entry
abbrev pub address_by : Option FileEntry → Address
address_by None = address_of []
address_by (Some entry) = address_of entry.assign

-- the address of the file with this number
abbrev pub address_at : Declared → ℕ → Address
address_at declared file = address_by (slice_get declared.files file)

-- the addresses of all files of the program
abbrev pub addresses : Declared → List Address
addresses declared = map (λ file. address_of file.assign) declared.files

-- the status item of a file by its entry
abbrev pub status_by : Option FileEntry → Option Place
status_by None = None
status_by (Some entry) = entry.status

-- the status item of the file with this number
abbrev pub status_place : Declared → ℕ → Option Place
status_place declared file = status_by (slice_get declared.files file)

-- the entry is of this file
abbrev pub is_of_file : ℕ → Option ℕ → Bool
is_of_file file None = false
is_of_file file (Some other) = other == file

-- the number of the first entry of the file among these; one past the last where it has none
abbrev pub first_entry : ℕ → ℕ → List Entry → ℕ
first_entry file number [] = number
first_entry file number (entry ∷ entries) =
    if is_of_file file entry.file then number else first_entry file (number + 1) entries

-- the number of the first record entry of a file
abbrev pub record_entry : Declared → ℕ → ℕ
record_entry declared file = first_entry file 0 declared.entries

-- the whole root of a file's records, which is as long as the longest of them
abbrev pub root_by : List ℕ → Option Area → Spot
root_by roots None = record { root = 0; start = 0; length = 0 }
root_by roots (Some area) =
    record { root = area.root; start = 0; length = unwrap_or (slice_get roots area.root) 0 }

-- where the records of a file lie
abbrev pub record_spot : Declared → ℕ → Spot
record_spot declared file =
    root_by declared.areas.roots (slice_get declared.areas.items (record_entry declared file))

-- the file that an entry is of
abbrev pub file_by : Option Entry → Option ℕ
file_by None = None
file_by (Some entry) = entry.file

-- the number of the file whose record an entry is
abbrev pub file_of : Declared → ℕ → ℕ
file_of declared entry = unwrap_or (file_by (slice_get declared.entries entry)) 0

-- ---- statuses

-- a status as two digits
abbrev pub status_bytes : ℕ → List ℕ
status_bytes status = (48 + status / 10) ∷ (48 + status % 10) ∷ []

-- the status item, which is reached before the operation
abbrev pub status_spot : Declared → Roots → Option Place → Answer (Option Spot)
status_spot declared store None = Ok None
status_spot declared store (Some place) =
    and_then (reach_of (memory_of declared.areas.items store) place) (λ spot. Ok (Some spot))

-- the item takes it as text: cut, or padded with spaces
abbrev pub with_status : Roots → Option Spot → ℕ → Roots
with_status store None status = store
with_status store (Some spot) status =
    put_at store spot (fitted spot.length (status_bytes status))

-- a status other than 00 that nothing takes care of ends the run
abbrev pub end_by : Bool → ℕ → Ended
end_by cared status = if status == 0 || cared then Went else Abended (Io status)

-- 46 and 47 always do
abbrev pub always_ends : ℕ → Bool
always_ends status = status == 46 || status == 47

-- the status is stored, then the event is given
abbrev pub settled : Verb → ℕ → Bool → Option Spot → Roots → Attempt → Effect
settled verb file cared item store attempt = record {
  operations = record {
    world = attempt.world;
    event = Filed verb file attempt.bytes attempt.status;
  } ∷ [];
  store = with_status store item attempt.status;
  end = end_by ((is_some item || cared) && not (always_ends attempt.status)) attempt.status;
}

-- an operation on a file: its status item is reached in the store before it, and else it isn't
-- tried
abbrev pub operated_to : Declared → Verb → ℕ → Bool → (before after : Roots) → Attempt → Effect
operated_to declared verb file cared before after attempt =
    elim (status_spot declared before (status_place declared file)) [
      | Ok item ↦ settled verb file cared item after attempt
      | Err abend ↦ no_effect before (Abended abend)
    ]

-- the effect of an operation that puts nothing into the store
abbrev pub operated : Declared → Verb → ℕ → Bool → Roots → Attempt → Effect
operated declared verb file cared store attempt =
    operated_to declared verb file cared store store attempt

-- ---- statements

-- OPEN of one file
abbrev pub opened : Declared → Roots → World → Opening → Effect
opened declared store world opening =
    operated declared Open opening.file false store (opened_at world
    (addresses declared) opening.file (address_at declared opening.file) opening.how)

-- CLOSE of one file
abbrev pub shut : Declared → Roots → World → ℕ → Effect
shut declared store world file = operated declared Close file false store (closed_at world file)

-- the world after these operations
abbrev pub last_world : World → List Operation → World
last_world world [] = world
last_world world (operation ∷ operations) = last_world operation.world operations

-- goes on where the run didn't end
abbrev pub then_by : World → Effect → Ended → (Roots → World → Effect) → Effect
then_by world effect (Abended abend) next = effect
then_by world effect _ next =
    after effect.operations (next effect.store (last_world world effect.operations))

-- goes on in the store and the world that the first left, where the run didn't end
abbrev pub then_do : World → Effect → (Roots → World → Effect) → Effect
then_do world effect next = then_by world effect effect.end next

-- the effect of this for each file in turn, as far as the run goes on
abbrev pub each_file : {A : Type 0} → (Roots → World → A → Effect) → Roots → World → List A → Effect
each_file does store world [] = no_effect store Went
each_file does store world (a ∷ others) =
    then_do world (does store world a) (λ now later. each_file does now later others)

-- nothing but the store changed, and the statement ended so, or the run ended
abbrev pub of_outcome : Roots → Answer (Unit {0}) → Ended → Effect
of_outcome store (Ok _) end = no_effect store end
of_outcome store (Err abend) end = no_effect store (Abended abend)

-- the store after INTO, a MOVE from the file's first record
abbrev pub into_by : Declared → ℕ → Roots → Option Place → Outcome (Unit {0})
into_by declared file store None = done store tt
into_by declared file store (Some place) =
    sent_on declared.areas.items (place_sent (memory_of declared.areas.items store)
    (not (is_group (form_of declared.areas.items place))) (item_reached
    (record_entry declared file))) (out-Place place).item (reached place) store

-- the record is moved to the item of INTO, if there is one
abbrev pub into : Declared → ℕ → Roots → Option Place → Ended → Effect
into declared file store place end =
    of_outcome (into_by declared file store place).store
    (into_by declared file store place).answer end

-- the area has the record before the status is stored
abbrev pub record_put : Declared → ℕ → Roots → Attempt → Roots
record_put declared file store attempt =
    if attempt.status == 0 then put_at store (record_spot declared file) attempt.bytes else store

-- the end of READ: where it gave a record, INTO follows; and an arm is chosen where there are arms
abbrev pub read_end : Declared → ℕ → Option Place → Bool → ℕ → World → Effect → Effect
read_end declared file place arms status before effect =
    if status == 0
    then then_do before effect (λ store world.
    into declared file store place (if arms then Chose 2 else Went))
    else then_do before effect (λ store world. no_effect store (if arms then Chose 1 else Went))

-- READ after the attempt; at the end of the file its AT END takes care of the status
abbrev pub read_by : Declared → Roots → ℕ → Option Place → Bool → Bool → Attempt → Effect
read_by declared store file place at_end arms attempt =
    read_end declared file place arms attempt.status attempt.world
    (operated_to declared Read file (at_end && attempt.status == 10) store
    (record_put declared file store attempt) attempt)

-- READ of one record
abbrev pub read : Declared → Roots → World → ℕ → Option Place → Bool → Bool → Effect
read declared store world file place at_end arms =
    read_by declared store file place at_end arms (read_at world file (address_at declared file)
    (record_spot declared file).length)

-- the form of an item
abbrev pub item_form : List Area → ℕ → Form
item_form areas item = area_form false (slice_get areas item)

-- the item of FROM is moved to the record, if there is one
abbrev pub from_by : Declared → ℕ → Roots → Option Operand → Outcome (Unit {0})
from_by declared entry store None = done store tt
from_by declared entry store (Some operand) =
    sent_on declared.areas.items (operand_sent (memory_of declared.areas.items store)
    (not (is_group (item_form declared.areas.items entry))) operand)
    entry (item_reached entry) store

-- the bytes of a record, padded to the length of the file's area
abbrev pub entry_bytes : Declared → ℕ → Roots → Option Area → List ℕ
entry_bytes declared file store None = []
entry_bytes declared file store (Some area) =
    padded_to (record_spot declared file).length (spot_bytes store
    (record { root = area.root; start = area.start; length = area.size }))

-- the attempt with the record's bytes, where FROM was moved without a fault
abbrev pub put_out : Declared → Verb → (ℕ → Address → List ℕ → Attempt) → ℕ → ℕ → Roots →
    Answer (Unit {0}) → Effect
put_out declared verb attempts entry file store (Err abend) = no_effect store (Abended abend)
put_out declared verb attempts entry file store (Ok _) =
    operated declared verb file false store (attempts file (address_at declared file)
    (entry_bytes declared file store (slice_get declared.areas.items entry)))

-- WRITE of one record
abbrev pub written : Declared → Roots → World → ℕ → Option Operand → Effect
written declared store world entry from =
    put_out declared Write (written_at world) entry (file_of declared entry)
    (from_by declared entry store from).store (from_by declared entry store from).answer

-- REWRITE of one record
abbrev pub rewritten : Declared → Roots → World → ℕ → Option Operand → Effect
rewritten declared store world entry from =
    put_out declared Rewrite (rewritten_at world) entry (file_of declared entry)
    (from_by declared entry store from).store (from_by declared entry store from).answer
