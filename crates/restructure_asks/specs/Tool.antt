-- How a call of the top call ends: the answer that is due was given, or why it wasn't.
use Rattle.std.specs.Prelude.{ℕ, ◌≡◌, ◌⊎◌, List, Option, Some, None, Ok, Err}
use Rattle.cob_base.specs.Source.{SourceCall}
use Rattle.cob_base.specs.Sink.{SinkCall}
use Rattle.restructure_core.specs.run.Bench.{BenchCall}
use Rattle.restructure_asks.specs.declared.ask.Ask.{Ask}
use Rattle.restructure_asks.specs.declared.ask.Ask.TheVariants.{Restructure, Report, Check, Run, Compare, Generate, Trial}
use Rattle.restructure_asks.specs.declared.texts.Texts.{Texts}
use Rattle.restructure_asks.specs.declared.refusal.Refusal.{Refusal}
use Rattle.restructure_asks.specs.declared.refusal.Refusal.TheVariants as refusal
use Rattle.restructure_asks.specs.declared.status.Status.{Status}
use Rattle.restructure_asks.specs.declared.status.Status.TheVariants as status
use Rattle.restructure_asks.specs.Ask.{reads}
use Rattle.restructure_asks.specs.Answer.{IsAnswered}
use Rattle.restructure_asks.specs.Reading.{IsReadWithin, IsReadFault}
use Rattle.restructure_asks.specs.Comparing.{EndsOfComparing, IsSecondDeviceTold}
use Rattle.restructure_asks.specs.Running.{EndsOfRun, EndsOfRunWithFiles, IsDeviceTold}
use Rattle.restructure_asks.specs.Refusal.{line_of, status_of}
use Rattle.cob_base.specs.giving.Giving.{Gains, Takes, Keeps}
use Rattle.restructure_asks.specs.Writing.{GainsReport, NotesNoMemory, IsWriteFault}

-- the text that is due was written, and nothing was noted but the report that is due
pub record IsDone (ask : Option Ask) (source : SourceCall) (out notes : SinkCall) : Type 0 where
  pub texts : Texts
  -- the texts are due
  pub answered : IsAnswered ask source (Ok texts)
  pub written : Gains texts.text out
  pub noted : GainsReport texts.report notes

-- the refusal that is due was noted, and nothing was written; the status is that of the refusal
pub record IsRefused (ask : Option Ask) (source : SourceCall) (out notes : SinkCall)
    (answer : Status) : Type 0 where
  pub refusal : Refusal
  -- the refusal is due
  pub answered : IsAnswered ask source (Err refusal)
  pub status : answer ≡ status_of refusal
  -- nothing was written
  pub kept : Keeps out
  -- the refusal went to the notes
  pub noted : Takes (line_of refusal) notes

-- the source failed, which was noted, and nothing was written
pub record IsUnread (ask : Option Ask) (source : SourceCall) (out notes : SinkCall) : Type 0 where
  pub fault : IsReadFault (reads ask) source
  -- nothing was written
  pub kept : Keeps out
  -- the line of a read fault went to the notes
  pub noted : Takes (line_of refusal.ReadFault) notes

-- a front of the text that is due was written, until the sink failed, which was noted; or a front
-- of the report that is due after it, until the notes failed
pub record IsCut (ask : Option Ask) (source : SourceCall) (out notes : SinkCall) : Type 0 where
  pub texts : Texts
  -- the texts are due
  pub answered : IsAnswered ask source (Ok texts)
  -- the sink or the notes failed on the way
  pub fault : IsWriteFault texts out notes

-- memory ran out, and nothing was written
pub record IsStarved (ask : Option Ask) (source : SourceCall) (out notes : SinkCall) : Type 0 where
  -- no more of the source was read than the ask reads
  pub read : IsReadWithin (reads ask) source
  -- nothing was written
  pub kept : Keeps out
  -- that memory ran out went to the notes, or nothing did
  pub noted : NotesNoMemory notes

-- what each status tells, of an ask for a text
abbrev pub EndsOfText : Option Ask → SourceCall → SinkCall → SinkCall → Status → Type 0
EndsOfText ask source out notes status.Done = IsDone ask source out notes
EndsOfText ask source out notes status.Usage = IsRefused ask source out notes status.Usage
EndsOfText ask source out notes status.NotSubset = IsRefused ask source out notes status.NotSubset
EndsOfText ask source out notes status.Flow = IsRefused ask source out notes status.Flow
EndsOfText ask source out notes status.Limit = IsRefused ask source out notes status.Limit
EndsOfText ask source out notes status.ReadFault = IsUnread ask source out notes
EndsOfText ask source out notes status.WriteFault = IsCut ask source out notes
EndsOfText ask source out notes status.DeviceFault = ⊥
EndsOfText ask source out notes status.Abend = ⊥
EndsOfText ask source out notes status.Budget = ⊥
EndsOfText ask source out notes status.NoMemory = IsStarved ask source out notes
EndsOfText ask source out notes status.Differ = ⊥

-- how a call ends, by its ask; how one that compares two programs does, `EndsCompared` says
abbrev pub Ends : Option Ask → SourceCall → SinkCall → SinkCall → Status → Type 0
Ends None source out notes answer = EndsOfText None source out notes answer
Ends (Some Restructure) source out notes answer =
    EndsOfText (Some Restructure) source out notes answer
Ends (Some Report) source out notes answer = EndsOfText (Some Report) source out notes answer
Ends (Some Check) source out notes answer = EndsOfText (Some Check) source out notes answer
Ends (Some (Run steps)) source out notes answer = EndsOfRun steps source out notes answer
Ends (Some (Compare steps)) source out notes answer = Unit {0}
Ends (Some (Generate n)) source out notes answer =
    EndsOfText (Some (Generate n)) source out notes answer
Ends (Some (Trial n)) source out notes answer =
    EndsOfText (Some (Trial n)) source out notes answer

-- how a call that runs a source ends over the devices of a bench
abbrev pub EndsWithFiles : Option Ask → SourceCall → SinkCall → SinkCall → BenchCall → Status →
    Type 0
EndsWithFiles (Some (Run steps)) source out notes bench answer =
    EndsOfRunWithFiles steps source out notes bench answer
EndsWithFiles _ source out notes bench answer = Unit {0}

-- how a call that compares two programs ends over both benches
abbrev pub EndsCompared : Option Ask → SourceCall → SinkCall → SinkCall → (bench second : BenchCall) →
    Status → Type 0
EndsCompared (Some (Compare steps)) source out notes bench second answer =
    EndsOfComparing steps source out notes bench second answer
EndsCompared _ source out notes bench second answer = Unit {0}

-- a device of one of both benches failed and is off its bench, and the notes got its name
abbrev pub IsEitherTold : SinkCall → (bench second : BenchCall) → Type 0
IsEitherTold notes bench second = IsDeviceTold notes bench ⊎ IsSecondDeviceTold notes second

-- how a call ends that leaves the source as it was, whatever the source
abbrev pub EndsUnread : Option Ask → SinkCall → SinkCall → Status → Type 0
EndsUnread ask out notes answer =
    (source : SourceCall) → source.left ≡ source.told → Ends ask source out notes answer
