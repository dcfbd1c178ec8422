-- What follows of how a call ends.
use Rattle.std.specs.Prelude.{ℕ, ◌≡◌, ◌≤◌, ◌↔◌, ◌⊎◌, List, [], ◌∷◌, ◌++◌, length, Option, Some, None, Ok, Err, codes}
use Rattle.cob_base.specs.Source.{SourceCall}
use Rattle.cob_base.specs.Sink.{SinkCall}
use Rattle.cob_tree.specs.declared.program.Program.{Program}
use Rattle.program_points.specs.declared.paths.trail.Trail.{Trail}
use Rattle.file_model.specs.World.{World}
use Rattle.file_model.specs.operations.Calls.{addresses_of}
use Rattle.file_model.specs.operations.Falling.{LeftOf, is_used}
use Rattle.file_model.specs.operations.Shutting.{LeavesFiles}
use Rattle.cobol_theory.specs.cobol_meaning.Runs.{Files}
use Rattle.cobol_run.specs.Over.{TellFiles}
use Rattle.cob_base.specs.Limit.{max_source}
use Rattle.cobol_read.specs.Reading.{Reads}
use Rattle.restructure_core.specs.declared.fault.Refused.TheVariants as refused
use Rattle.restructure_core.specs.Pipeline.{IsRestructurable, IsFaultySource, IsResultText}
use Rattle.restructure_core.specs.run.Bench.{BenchCall, StaysAsWas, devices_after, devices_before}
use Rattle.restructure_asks.specs.declared.ask.Ask.{Ask}
use Rattle.restructure_asks.specs.declared.ask.Ask.TheVariants.{Restructure, Report, Check, Run, Compare, Generate, Trial}
use Rattle.restructure_asks.specs.declared.refusal.Refusal.{Refusal}
use Rattle.restructure_asks.specs.declared.refusal.Refusal.TheVariants as refusal
use Rattle.restructure_asks.specs.declared.status.Status.{Status}
use Rattle.restructure_asks.specs.declared.status.Status.TheVariants as status
use Rattle.restructure_asks.specs.Ask.{ask_of, number_of, program_number, reads}
use Rattle.restructure_asks.specs.Reading.{Tells, left_after}
use Rattle.restructure_asks.specs.Status.{IsOneOf}
use Rattle.restructure_asks.specs.Refusal.{line_of, refused_status, status_of}
use Rattle.restructure_asks.specs.Answer.{Answer, IsDue}
use Rattle.restructure_asks.specs.Running.{IsRunDue, IsRunDueOnFiles}
use Rattle.restructure_asks.specs.Comparing.{HaveAnswer, IsComparisonDue, of_pair, same_line}
use Rattle.restructure_asks.specs.Tool.{Ends, EndsCompared, EndsWithFiles}
use Rattle.source_pairs.specs.declared.pair.PairRefusal.{PairRefusal}
use Rattle.source_pairs.specs.Pair.{HasPairCause, ReadsTwo}
use Rattle.trace_compare.specs.declared.compared.Compared.TheVariants as compared
use Rattle.cob_base.specs.giving.Giving.{Gains, Takes}

-- these are the words of the ask
abbrev pub AreWordsOf : Ask → List (List ℕ) → Type 0
AreWordsOf Restructure words = words ≡ codes "restructure" ∷ []
AreWordsOf Report words = words ≡ codes "restructure" ∷ codes "--report" ∷ []
AreWordsOf Check words = words ≡ codes "check" ∷ []
AreWordsOf (Run steps) words = (number : List ℕ) ×
    (words ≡ codes "run" ∷ codes "--steps" ∷ number ∷ []) × (number_of number ≡ Some steps)
AreWordsOf (Compare steps) words = (number : List ℕ) ×
    (words ≡ codes "compare" ∷ codes "--steps" ∷ number ∷ []) × (number_of number ≡ Some steps)
AreWordsOf (Generate n) words = (number : List ℕ) ×
    (words ≡ codes "generate" ∷ number ∷ []) × (program_number number ≡ Some n)
AreWordsOf (Trial n) words = (number : List ℕ) ×
    (words ≡ codes "trial" ∷ number ∷ []) × (program_number number ≡ Some n)

-- words are an ask exactly where they are its own
abbrev pub WordsAreOfTheirAsk : Type 0
WordsAreOfTheirAsk =
    (words : List (List ℕ)) (ask : Ask) → (ask_of words ≡ Some ask) ↔ AreWordsOf ask words

-- the refusal of a program by a trail to its fault
abbrev pub trail_answer : Program → Trail → Answer
trail_answer program trail = Err (refusal.Refused (refused.Flow program trail))

-- the same answer, or the refusal of one program by two trails
abbrev pub AreAlike : Answer → Answer → Type 0
AreAlike one other = (one ≡ other) ⊎ ((program : Program) × (first : Trail) × (second : Trail)
    × (one ≡ trail_answer program first) × (other ≡ trail_answer program second))

-- no two answers are due to an ask and bytes, but for the trail of a program
abbrev pub OneAnswerIsDue : Type 0
OneAnswerIsDue =
    (ask : Option Ask) (bytes : List ℕ) (one other : Answer) →
    IsDue ask bytes one → IsDue ask bytes other → AreAlike one other

-- the statuses with which a call ends where this answer is due
abbrev pub statuses_of : Answer → List Status
statuses_of (Ok texts) = status.Done ∷ status.WriteFault ∷ status.ReadFault ∷ status.NoMemory ∷ []
statuses_of (Err refusal) = status_of refusal ∷ status.ReadFault ∷ status.NoMemory ∷ []

-- where a source tells its bytes, a call ends with the answer that is due to them, or with a fault
-- of the outside or out of memory
abbrev pub DueAnswerComes : Type 0
DueAnswerComes =
    (ask : Option Ask) (source : SourceCall) (out notes : SinkCall) (answer : Status) →
    Ends ask source out notes answer →
    (bytes : List ℕ) (due : Answer) → source.told ≡ Some bytes → IsDue ask bytes due →
    IsOneOf (statuses_of due) answer

-- the ask is to restructure a source, or to report on it
abbrev pub IsOfSource : Ask → Type 0
IsOfSource Restructure = Unit {0}
IsOfSource Report = Unit {0}
IsOfSource Check = Unit {0}
IsOfSource other = ⊥

-- where a source tells the bytes of a program without a fault of flow that passes no limit, such a
-- call is done, but for a fault of the outside or out of memory
abbrev pub AcceptedSourceIsDone : Type 0
AcceptedSourceIsDone =
    (ask : Ask) (source : SourceCall) (out notes : SinkCall) (answer : Status) → IsOfSource ask →
    Ends (Some ask) source out notes answer →
    (bytes : List ℕ) → source.told ≡ Some bytes → IsRestructurable bytes → IsOneOf
    (status.Done ∷ status.WriteFault ∷ status.ReadFault ∷ status.NoMemory ∷ []) answer

-- where a source tells the bytes of a program some flow path of which comes to a fault, such a call
-- ends with FLOW, but for a fault of the outside or out of memory
abbrev pub FaultySourceIsRefused : Type 0
FaultySourceIsRefused =
    (ask : Ask) (source : SourceCall) (out notes : SinkCall) (answer : Status) → IsOfSource ask →
    Ends (Some ask) source out notes answer →
    (bytes : List ℕ) (program : Program) → source.told ≡ Some bytes →
    IsFaultySource bytes program →
    IsOneOf (status.Flow ∷ status.ReadFault ∷ status.NoMemory ∷ []) answer

-- only a program with a fault of flow ends with FLOW
abbrev pub RefusedForFlowIsFaulty : Type 0
RefusedForFlowIsFaulty =
    (ask : Ask) (source : SourceCall) (out notes : SinkCall) → IsOfSource ask →
    Ends (Some ask) source out notes status.Flow →
    (bytes : List ℕ) → source.told ≡ Some bytes → (program : Program) × IsFaultySource bytes program

-- no two ends of a run are due to bytes and a number of steps
abbrev pub OneRunIsDue : Type 0
OneRunIsDue =
    (steps : ℕ) (bytes : List ℕ) (one other : Option Refusal) →
    IsRunDue steps bytes one → IsRunDue steps bytes other → one ≡ other

-- the statuses with which a call to run ends where this is due
abbrev pub statuses_of_run : Option Refusal → List Status
statuses_of_run None = status.Done ∷ status.WriteFault ∷ status.ReadFault ∷ status.NoMemory ∷ []
statuses_of_run (Some (refusal.Refused why)) =
    refused_status why ∷ status.ReadFault ∷ status.NoMemory ∷ []
statuses_of_run (Some refusal) =
    status_of refusal ∷ status.WriteFault ∷ status.ReadFault ∷ status.NoMemory ∷ []

-- where a source tells its bytes, a call to run ends as their run does, or with a fault of the
-- outside or out of memory
abbrev pub DueRunComes : Type 0
DueRunComes =
    (steps : ℕ) (source : SourceCall) (out notes : SinkCall) (answer : Status) →
    Ends (Some (Run steps)) source out notes answer →
    (bytes : List ℕ) (due : Option Refusal) → source.told ≡ Some bytes →
    IsRunDue steps bytes due → IsOneOf (statuses_of_run due) answer

-- no two ends of a run are due to bytes, files and a number of steps
abbrev pub OneRunIsDueOnFiles : Type 0
OneRunIsDueOnFiles =
    (steps : ℕ) (bytes : List ℕ) (files : Files) (one other : Option Refusal) →
    IsRunDueOnFiles steps bytes files one → IsRunDueOnFiles steps bytes files other → one ≡ other

-- the statuses of a call to run, or that a device failed
abbrev pub statuses_over : Option Refusal → List Status
statuses_over due = status.DeviceFault ∷ statuses_of_run due

-- where a source tells its bytes, and the devices that its program uses their files, a call to run
-- ends as the run over these files does, or with a fault of the outside or out of memory
abbrev pub DueRunComesOnFiles : Type 0
DueRunComesOnFiles =
    (steps : ℕ) (source : SourceCall) (out notes : SinkCall) (bench : BenchCall)
    (answer : Status) → EndsWithFiles (Some (Run steps)) source out notes bench answer →
    (bytes : List ℕ) (files : Files) (due : Option Refusal) → source.told ≡ Some bytes →
    ((program : Program) → Reads bytes program →
    TellFiles program (devices_before bench) files) →
    IsRunDueOnFiles steps bytes files due → IsOneOf (statuses_over due) answer

-- the devices that failed in a run, the first of them last, by its status: none, or first the one
-- whose line went to the notes; where the sink failed or memory ran out some may have
abbrev pub FailedAt : Status → SinkCall → List (List ℕ) → Type 0
FailedAt status.DeviceFault notes gone = (name : List ℕ) × (later : List (List ℕ))
    × (gone ≡ later ++ name ∷ []) × Takes (line_of (refusal.Device name)) notes
FailedAt status.WriteFault notes gone = Unit {0}
FailedAt status.NoMemory notes gone = Unit {0}
FailedAt _ notes gone = gone ≡ []

-- what a run leaves of the bench, at this status
pub record LeavesBench (source : SourceCall) (notes : SinkCall) (bench : BenchCall)
    (answer : Status) : Type 0 where
  pub bytes : List ℕ
  -- these are the bytes, where the source tells them
  pub told : Tells source.told bytes
  pub program : Program
  -- they are this program, which was run
  pub reads : Reads bytes program
  -- the devices that failed
  pub gone : List (List ℕ)
  -- which they are, by the status
  pub failed : FailedAt answer notes gone
  -- each of them is behind the bench and its count of failures rose; the others are on the bench in
  -- their order, and of these at most files changed, of the first of each name that is used
  pub left : LeftOf (is_used (addresses_of program.files)) gone
      bench.left bench.left_now bench.old bench.new
  -- where the devices that the program uses told their files, those that are left have the files of
  -- some world, and what is open in it is closed on them
  pub closed : (files : Files) → TellFiles program (devices_before bench) files →
      (world : World) × LeavesFiles (addresses_of program.files) gone (devices_after bench) world

-- at each status of a call to run the bench is as it was, where nothing ran, or what a run leaves
abbrev pub BenchIsLeft : Type 0
BenchIsLeft =
    (steps : ℕ) (source : SourceCall) (out notes : SinkCall) (bench : BenchCall)
    (answer : Status) → EndsWithFiles (Some (Run steps)) source out notes bench answer →
    StaysAsWas bench ⊎ LeavesBench source notes bench answer

-- no two answers are due to bytes that are to be compared, files and a number of steps
abbrev pub OneComparisonIsDue : Type 0
OneComparisonIsDue =
    (steps : ℕ) (bytes : List ℕ) (files others : Files) (one other : Answer) →
    IsComparisonDue steps bytes files others one → IsComparisonDue steps bytes files others other →
    one ≡ other

-- the devices of both benches that the two programs use told these files
abbrev pub BothTell : List ℕ → (bench second : BenchCall) → (files others : Files) → Type 0
BothTell bytes bench second files others =
    (p q : Program) → ReadsTwo bytes p q →
    TellFiles p (devices_before bench) files × TellFiles q (devices_before second) others

-- where a source tells its bytes, and the devices that the two programs use their files, a call to
-- compare them ends with the answer that is due, or with a fault of the outside or out of memory
abbrev pub DueComparisonComes : Type 0
DueComparisonComes =
    (steps : ℕ) (source : SourceCall) (out notes : SinkCall) (bench second : BenchCall)
    (end : Status) → EndsCompared (Some (Compare steps)) source out notes bench second end →
    (bytes : List ℕ) (files others : Files) (due : Answer) → source.told ≡ Some bytes →
    BothTell bytes bench second files others → IsComparisonDue steps bytes files others due →
    IsOneOf (status.DeviceFault ∷ statuses_of due) end

-- what each status tells of two programs that were compared: the line that went out or to the notes
-- is true of their runs; or why they weren't compared
abbrev pub TellsCompared : ℕ → List ℕ → (files others : Files) → (out notes : SinkCall) → Status →
    Type 0
TellsCompared steps bytes files others out notes status.Done = (count : ℕ)
    × HaveAnswer bytes steps files others (compared.Same count) × Gains (same_line count) out
TellsCompared steps bytes files others out notes status.Differ = (number : ℕ)
    × HaveAnswer bytes steps files others (compared.Differ number)
    × Takes (line_of (refusal.Differ number)) notes
TellsCompared steps bytes files others out notes status.Budget =
    HaveAnswer bytes steps files others compared.Budget
    × Takes (line_of (refusal.Budget steps)) notes
TellsCompared steps bytes files others out notes status.NotSubset =
    (why : PairRefusal) × HasPairCause bytes why × Takes (line_of (of_pair why)) notes
TellsCompared steps bytes files others out notes status.Limit =
    (why : PairRefusal) × HasPairCause bytes why × Takes (line_of (of_pair why)) notes
TellsCompared steps bytes files others out notes status.Usage = ⊥
TellsCompared steps bytes files others out notes status.Flow = ⊥
TellsCompared steps bytes files others out notes status.Abend = ⊥
TellsCompared steps bytes files others out notes _ = Unit {0}

-- so it is where the source tells its bytes and the devices that the two programs use their files
abbrev pub ComparisonsTell : Type 0
ComparisonsTell =
    (steps : ℕ) (source : SourceCall) (out notes : SinkCall) (bench second : BenchCall)
    (end : Status) → EndsCompared (Some (Compare steps)) source out notes bench second end →
    (bytes : List ℕ) (files others : Files) → source.told ≡ Some bytes →
    BothTell bytes bench second files others →
    TellsCompared steps bytes files others out notes end

-- a call without an ask ends with USAGE or out of memory
abbrev pub UsageComes : Type 0
UsageComes =
    (source : SourceCall) (out notes : SinkCall) (answer : Status) →
    Ends None source out notes answer → IsOneOf (status.Usage ∷ status.NoMemory ∷ []) answer

-- generate ends with its program, a write fault or out of memory, whatever the source
abbrev pub GeneratedComes : Type 0
GeneratedComes =
    (n : ℕ) (source : SourceCall) (out notes : SinkCall) (answer : Status) →
    Ends (Some (Generate n)) source out notes answer →
    IsOneOf (status.Done ∷ status.WriteFault ∷ status.NoMemory ∷ []) answer

-- trial ends with the report of its program, a write fault or out of memory, or with LIMIT, whatever
-- the source: the program is read, and no flow path of it comes to a fault
abbrev pub TrialComes : Type 0
TrialComes =
    (n : ℕ) (source : SourceCall) (out notes : SinkCall) (answer : Status) →
    Ends (Some (Trial n)) source out notes answer → IsOneOf
    (status.Done ∷ status.Limit ∷ status.WriteFault ∷ status.NoMemory ∷ []) answer

-- nothing is left of bytes within the limit
abbrev pub WithinLimitAllIsRead : Type 0
WithinLimitAllIsRead =
    (bytes : List ℕ) → length bytes ≤ max_source →
    left_after (reads (Some Restructure)) (Some bytes) ≡ Some []

-- where a source tells the text of some program that was restructured, a call to restructure it is
-- done, but for a fault of the outside or out of memory; and what it writes then is that very text
abbrev pub ResultComesAgain : Type 0
ResultComesAgain =
    (source : SourceCall) (out notes : SinkCall) (answer : Status) →
    Ends (Some Restructure) source out notes answer →
    (bytes : List ℕ) → source.told ≡ Some bytes → IsResultText bytes →
    IsOneOf (status.Done ∷ status.WriteFault ∷ status.ReadFault ∷ status.NoMemory ∷ []) answer
    × (answer ≡ status.Done → Gains bytes out)
