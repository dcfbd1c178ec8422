-- How a call that runs a source ends.
use Rattle.std.specs.Prelude.{ℕ, ◌≡◌, ◌+◌, ◌⊎◌, true, List, Option, Some, None, Ok, Err}
use Rattle.cob_base.specs.Faults.{Rose}
use Rattle.cob_base.specs.Source.{SourceCall}
use Rattle.cob_base.specs.Sink.{SinkCall}
use Rattle.cob_tree.specs.declared.program.Program.{Program}
use Rattle.control_flow_theory.specs.runs.Run.{Going, Over}
use Rattle.control_flow_theory.specs.semantics.Outcome.{Standing}
use Rattle.cobol_theory.specs.cobol_meaning.Runs.{Files, source_run}
use Rattle.cobol_read.specs.declared.refusal.ReadRefusal.{ReadRefusal}
use Rattle.cobol_read.specs.Reading.{Reads}
use Rattle.cob_base.specs.Limit.{max_source}
use Rattle.cobol_run.specs.declared.machine.Ending.{Ending}
use Rattle.cobol_run.specs.declared.machine.Ending.TheVariants as ending
use Rattle.cobol_run.specs.declared.running.Ran.{Ran}
use Rattle.cobol_run.specs.declared.running.Ran.TheVariants as ran
use Rattle.cobol_run.specs.Falling.{FellNamed}
use Rattle.cobol_run.specs.Machine.{ending_seen}
use Rattle.cobol_run.specs.PlainTests.{is_plain}
use Rattle.restructure_core.specs.Pipeline.{IsUnread}
use Rattle.restructure_core.specs.Fault.{of_read_refusal}
use Rattle.restructure_core.specs.run.Answers.{Came, Comes, ComesOver, IsWriteFault}
use Rattle.restructure_core.specs.run.Bench.{BenchCall, StaysAsWas}
use Rattle.restructure_asks.specs.declared.refusal.Refusal.{Refusal}
use Rattle.restructure_asks.specs.declared.refusal.Refusal.TheVariants as refusals
use Rattle.restructure_asks.specs.declared.status.Status.{Status}
use Rattle.restructure_asks.specs.declared.status.Status.TheVariants as status
use Rattle.restructure_asks.specs.Reading.{Tells, left_after, IsReadWithin, IsReadFault}
use Rattle.restructure_asks.specs.Refusal.{line_of, of_refused}
use Rattle.cob_base.specs.giving.Giving.{Takes, Keeps}
use Rattle.restructure_asks.specs.Writing.{Notes, NotesOrNot}

-- the refusal of a source that isn't read, or for which memory was wanted
abbrev pub unread : ReadRefusal → Refusal
unread why = of_refused (of_read_refusal why)

-- the refusal of a run that came to this end; none where it stopped normally
abbrev pub refusal_of_ending : Program → Ending → Option Refusal
refusal_of_ending program ending.Stopped = None
refusal_of_ending program (ending.Abended abend) = Some (refusals.Abend abend)
refusal_of_ending program (ending.Faulted fault) = Some (refusals.Fault program fault)

-- the refusal of a run of this program; none where it stopped normally
abbrev pub refusal_of_run : ℕ → Program → Ran → Option Refusal
refusal_of_run steps program (ran.Ended ending) = refusal_of_ending program ending
refusal_of_run steps program ran.Budget = Some (refusals.Budget steps)
refusal_of_run steps program (ran.DeviceFault name) = Some (refusals.Device name)
refusal_of_run steps program ran.WriteFault = Some refusals.WriteFault
refusal_of_run steps program ran.NoMemory = Some refusals.NoMemory

-- the refusal that tells what came of a source; none where its run stopped normally
abbrev pub refusal_of : ℕ → Came → Option Refusal
refusal_of steps (Ok run) = refusal_of_run steps run.program run.ran
refusal_of steps (Err why) = Some (unread why)

-- the bytes are this program, which has no statements on files, and over all files its run stands
-- so after so many steps
pub record StandsSo (bytes : List ℕ) (steps : ℕ) (program : Program)
    (standing : Files → Standing Files) : Type 0 where
  pub reads : Reads bytes program
  -- it has no statement on files
  pub plain : is_plain program ≡ true
  -- over any files its run stands so
  pub stands : (files : Files) → (source_run program files steps).standing ≡ standing files

-- the run came to this end within so many steps
abbrev pub EndsAs : List ℕ → ℕ → Program → Ending → Type 0
EndsAs bytes steps program ending =
    StandsSo bytes steps program (λ files. Over (ending_seen ending files))

-- what is due to bytes that are to be run: their run stops normally, or why it doesn't; of a
-- program with statements on files nothing is claimed
abbrev pub IsRunDue : ℕ → List ℕ → Option Refusal → Type 0
IsRunDue steps bytes None = (program : Program) × EndsAs bytes steps program ending.Stopped
IsRunDue steps bytes (Some (refusals.Refused why)) = IsUnread bytes why
IsRunDue steps bytes (Some (refusals.Fault program fault)) =
    EndsAs bytes steps program (ending.Faulted fault)
IsRunDue steps bytes (Some (refusals.Abend abend)) =
    (program : Program) × EndsAs bytes steps program (ending.Abended abend)
IsRunDue steps bytes (Some (refusals.Budget most)) = (most ≡ steps) × ((program : Program)
    × StandsSo bytes steps program (λ files. Going))
IsRunDue steps bytes (Some _) = ⊥

-- the bytes are this program, and over these files its run stands so after so many steps
pub record StandsOnFiles (bytes : List ℕ) (steps : ℕ) (files : Files) (program : Program)
    (standing : Standing Files) : Type 0 where
  pub reads : Reads bytes program
  -- over these files its run stands so
  pub stands : (source_run program files steps).standing ≡ standing

-- the run came to this end over these files within so many steps, and left some files
abbrev pub EndsOnFiles : List ℕ → ℕ → Files → Program → Ending → Type 0
EndsOnFiles bytes steps files program ending = (left : Files)
    × StandsOnFiles bytes steps files program (Over (ending_seen ending left))

-- what is due to bytes that are to be run over these files: their run stops normally, or why it
-- doesn't
abbrev pub IsRunDueOnFiles : ℕ → List ℕ → Files → Option Refusal → Type 0
IsRunDueOnFiles steps bytes files None =
    (program : Program) × EndsOnFiles bytes steps files program ending.Stopped
IsRunDueOnFiles steps bytes files (Some (refusals.Refused why)) = IsUnread bytes why
IsRunDueOnFiles steps bytes files (Some (refusals.Fault program fault)) =
    EndsOnFiles bytes steps files program (ending.Faulted fault)
IsRunDueOnFiles steps bytes files (Some (refusals.Abend abend)) =
    (program : Program) × EndsOnFiles bytes steps files program (ending.Abended abend)
IsRunDueOnFiles steps bytes files (Some (refusals.Budget most)) = (most ≡ steps)
    × ((program : Program) × StandsOnFiles bytes steps files program Going)
IsRunDueOnFiles steps bytes files (Some _) = ⊥

-- the notes tell that the sink of a run failed, or gain nothing; the status tells it
abbrev pub TellsWriteFault : SinkCall → Status → Type 0
TellsWriteFault notes answer =
    (answer ≡ status.WriteFault) × NotesOrNot refusals.WriteFault notes

-- the status and the notes tell why the run didn't stop normally, or that it did
abbrev pub TellsCame : Option Refusal → SinkCall → Status → Type 0
TellsCame None notes answer = (answer ≡ status.Done) × Keeps notes
TellsCame (Some refusals.WriteFault) notes answer = TellsWriteFault notes answer
TellsCame (Some refusal) notes answer = Notes refusal notes answer

-- the bytes of the source, which was read to its end or past the limit, were run, and this came of
-- them: what they display went to the sink
pub record IsRun (steps : ℕ) (source : SourceCall) (out : SinkCall) (came : Came) : Type 0 where
  pub bytes : List ℕ
  -- these are the bytes, where the source tells them
  pub told : Tells source.told bytes
  -- this came of running them
  pub comes : Comes bytes steps out came
  -- the source was read to its end or past the limit
  pub left : source.left ≡ left_after (max_source + 1) source.told

-- the source was run, and what came of it is reported; at a write fault the sink failed
pub record IsRunTold (steps : ℕ) (source : SourceCall) (out notes : SinkCall) (answer : Status)
    : Type 0 where
  -- what came of it
  pub came : Came
  pub run : IsRun steps source out came
  -- the status and the notes say what came of it
  pub told : TellsCame (refusal_of steps came) notes answer
  -- at a write fault the sink's count of failures rose
  pub fault : IsWriteFault came → Rose out.count out.count_now

-- the source failed, or memory ran out before anything ran, which was noted
pub record IsUnrun (source : SourceCall) (out notes : SinkCall) (answer : Status) : Type 0 where
  pub refusal : Refusal
  -- the source failed, or memory ran out
  pub why : (refusal ≡ refusals.ReadFault) × IsReadFault (max_source + 1) source
      ⊎ (refusal ≡ refusals.NoMemory) × IsReadWithin (max_source + 1) source
  -- nothing was written
  pub kept : Keeps out
  -- the refusal went to the notes
  pub noted : Notes refusal notes answer

-- how a call that runs a source for at most so many steps ends
abbrev pub EndsOfRun : ℕ → SourceCall → SinkCall → SinkCall → Status → Type 0
EndsOfRun steps source out notes answer =
    IsRunTold steps source out notes answer ⊎ IsUnrun source out notes answer

-- the same, and what the run leaves of the bench, and of the files where the devices tell them that
-- its program uses
pub record IsRunWithFiles (steps : ℕ) (source : SourceCall) (out notes : SinkCall)
    (bench : BenchCall) (answer : Status) : Type 0 where
  pub told : IsRunTold steps source out notes answer
  -- the run left so much of the bench and the files
  pub over : ComesOver told.run.bytes steps out bench told.came

-- how such a call ends over the devices of a bench
abbrev pub EndsOfRunWithFiles : ℕ → SourceCall → SinkCall → SinkCall → BenchCall → Status → Type 0
EndsOfRunWithFiles steps source out notes bench answer =
    IsRunWithFiles steps source out notes bench answer
    ⊎ IsUnrun source out notes answer × StaysAsWas bench

-- a device failed and is gone from the bench, and its name was noted in the line of such a refusal
pub record IsToldBy (tells : List ℕ → Refusal) (notes : SinkCall) (bench : BenchCall) : Type 0 where
  -- the name of the device
  pub name : List ℕ
  -- the first device of that name failed
  pub fell : FellNamed name bench.left bench.left_now bench.old bench.new
  -- its name went to the notes
  pub noted : Takes (line_of (tells name)) notes

-- a device of the bench failed, and its name was noted
abbrev pub IsDeviceTold : SinkCall → BenchCall → Type 0
IsDeviceTold notes bench = IsToldBy (λ name. refusals.Device name) notes bench
