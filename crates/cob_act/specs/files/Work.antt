-- What statements on files did, where it is kept.
use Rattle.std.specs.Prelude.{ℕ, ◌≡◌, ◌==◌, if◌then◌else◌, IsTrue, List, [], ◌++◌, map, Result, Ok, Err}
use Rattle.file_model.specs.World.{Event, Filed, Verb}
use Rattle.file_model.specs.World as model
use Rattle.meanings.specs.statements.Filing.{Operation}
use Rattle.cob_act.specs.declared.files.work.FileVerb.{FileVerb}
use Rattle.cob_act.specs.declared.files.work.FileVerb.TheVariants as verbs
use Rattle.cob_act.specs.declared.files.work.FileDone.{FileDone}
use Rattle.cob_act.specs.declared.files.work.FileWork.{FileWork}
use Rattle.file_model.specs.declared.operations.fault.FileFault.{FileFault}

-- what is done with a file, as the model has it
abbrev pub verb_seen : FileVerb → Verb
verb_seen verbs.Open = model.Open
verb_seen verbs.Read = model.Read
verb_seen verbs.Write = model.Write
verb_seen verbs.Rewrite = model.Rewrite
verb_seen verbs.Close = model.Close

-- the bytes that an operation with this status moved, these being the record: OPEN and CLOSE
-- move none
abbrev pub bytes_moved : FileVerb → ℕ → List ℕ → List ℕ
bytes_moved verbs.Open status bytes = []
bytes_moved verbs.Close status bytes = []
bytes_moved verb status bytes = if status == 0 then bytes else []

-- an operation that was done, these being the record, as an event
abbrev pub event_done : List ℕ → FileDone → Event
event_done bytes done =
    Filed (verb_seen done.verb) done.file (bytes_moved done.verb done.status bytes) done.status

-- the events that are kept, in order
abbrev pub events_kept : FileWork → List Event
events_kept work = map (event_done work.bytes.items) work.done.items

-- the events of these operations
abbrev pub events_made : List Operation → List Event
events_made operations = map (λ operation. operation.event) operations

-- a statement that went on kept its operations, where operations are kept and none was kept before
abbrev pub Keeps : {A : Type 0} → Result A FileFault → (old new : FileWork) → List Operation →
    Type 0
Keeps (Ok a) old new operations =
    IsTrue old.keeps → old.done.items ≡ [] → events_kept new ≡ events_made operations
Keeps (Err fault) old new operations = Unit {0}

-- it kept its operations after those that were kept before
abbrev pub KeepsMore : {A : Type 0} → Result A FileFault → (old new : FileWork) →
    List Operation → Type 0
KeepsMore (Ok a) old new operations =
    IsTrue old.keeps → events_kept new ≡ events_kept old ++ events_made operations
KeepsMore (Err fault) old new operations = Unit {0}
