-- What a sink gains.
use Rattle.std.specs.Prelude.{ℕ, ◌≡◌, ◌⊎◌, List, Option, Some, None, Result, Ok, Err}
use Rattle.cob_base.specs.Faults.{Rose}
use Rattle.cob_base.specs.giving.Giving.{Gains, Keeps, Takes}
use Rattle.cob_base.specs.Sink.{SinkCall}
use Rattle.restructure_asks.specs.declared.texts.Texts.{Texts}
use Rattle.restructure_asks.specs.declared.refusal.Refusal.{Refusal}
use Rattle.restructure_asks.specs.declared.refusal.Refusal.TheVariants as refusal
use Rattle.restructure_asks.specs.declared.status.Status.{Status}
use Rattle.restructure_asks.specs.declared.status.Status.TheVariants as status
use Rattle.restructure_asks.specs.Refusal.{status_of, line_of}

-- the line that says that memory ran out went to the notes, or nothing did
abbrev pub NotesNoMemory : SinkCall → Type 0
NotesNoMemory notes = Takes (line_of refusal.NoMemory) notes ⊎ Keeps notes

-- the line went to the notes; where there was no room for it, memory ran out
abbrev pub NotesLine : List ℕ → Status → SinkCall → Status → Type 0
NotesLine line wanted notes answer =
    ((answer ≡ wanted) × Takes line notes) ⊎ ((answer ≡ status.NoMemory) × Keeps notes)

-- the line of the refusal went to the notes, or memory ran out
abbrev pub Notes : Refusal → SinkCall → Status → Type 0
Notes refusal notes answer =
    ((answer ≡ status_of refusal) × Takes (line_of refusal) notes)
    ⊎ ((answer ≡ status.NoMemory) × NotesNoMemory notes)

-- the line of the refusal went to the notes, or nothing did
abbrev pub NotesOrNot : Refusal → SinkCall → Type 0
NotesOrNot refusal notes = Takes (line_of refusal) notes ⊎ Keeps notes

-- the notes gained the report, where there is one, and nothing else
abbrev pub GainsReport : Option (List ℕ) → SinkCall → Type 0
GainsReport None notes = Keeps notes
GainsReport (Some report) notes = Gains report notes

-- the sink failed, a front of the text was written, and its line went to the notes
pub record IsTextCut (text : List ℕ) (out notes : SinkCall) : Type 0 where
  -- the sink's count of failures rose
  pub rose : Rose out.count out.count_now
  -- the sink gained a front of the text
  pub written : Takes text out
  -- the line of a write fault went to the notes, as far as they took it
  pub noted : Takes (line_of refusal.WriteFault) notes

-- the text was written, the notes failed, and a front of the report was written
pub record IsCutBehind (text report : List ℕ) (out notes : SinkCall) : Type 0 where
  -- the count of failures of the notes rose
  pub rose : Rose notes.count notes.count_now
  -- the sink gained the text
  pub written : Gains text out
  -- the notes gained a front of the report
  pub noted : Takes report notes

-- the same, where there is a report
abbrev pub IsReportCut : List ℕ → Option (List ℕ) → SinkCall → SinkCall → Type 0
IsReportCut text None out notes = ⊥
IsReportCut text (Some report) out notes = IsCutBehind text report out notes

-- a sink failed that was written to
abbrev pub IsWriteFault : Texts → SinkCall → SinkCall → Type 0
IsWriteFault texts out notes =
    IsTextCut texts.text out notes ⊎ IsReportCut texts.text texts.report out notes

-- writing these ends so
abbrev pub Writes : Texts → SinkCall → SinkCall → Status → Type 0
Writes texts out notes status.Done = Gains texts.text out × GainsReport texts.report notes
Writes texts out notes status.WriteFault = IsWriteFault texts out notes
Writes texts out notes status.NoMemory = Keeps out × NotesNoMemory notes
Writes texts out notes _ = ⊥

-- an answer is given so: its texts are written, or its refusal is noted
abbrev pub IsGiven : Result Texts Refusal → SinkCall → SinkCall → Status → Type 0
IsGiven (Ok texts) out notes answer = Writes texts out notes answer
IsGiven (Err refusal) out notes answer = Keeps out × Notes refusal notes answer
