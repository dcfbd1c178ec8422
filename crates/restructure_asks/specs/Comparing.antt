-- How a call that compares two programs ends.
use Rattle.std.specs.Prelude.{ℕ, ◌≡◌, ◌≢◌, ◌+◌, ◌⊎◌, List, [], ◌∷◌, ◌++◌, Result, Ok, Err, codes}
use Rattle.std.specs.Fmt.{decimal}
use Rattle.cob_base.specs.Bytes.{line_feed}
use Rattle.cob_base.specs.Limit.{max_source}
use Rattle.cob_base.specs.Sink.{SinkCall}
use Rattle.cob_base.specs.Source.{SourceCall}
use Rattle.cob_tree.specs.declared.program.Program.{Program}
use Rattle.cobol_read.specs.Limit.{past_source}
use Rattle.cobol_run.specs.Own.{IsOwn}
use Rattle.cobol_theory.specs.cobol_meaning.Runs.{Files}
use Rattle.restructure_core.specs.declared.fault.Refused.TheVariants as refused
use Rattle.restructure_core.specs.Fault.{of_read_refusal}
use Rattle.restructure_core.specs.run.Bench.{BenchCall, StaysAsWas}
use Rattle.source_pairs.specs.declared.pair.PairRefusal.{PairRefusal}
use Rattle.source_pairs.specs.declared.pair.PairRefusal.TheVariants as pairs
use Rattle.source_pairs.specs.Pair.{HasPairCause, ReadsTwo}
use Rattle.trace_compare.specs.declared.compared.Compared.{Compared}
use Rattle.trace_compare.specs.declared.compared.Compared.TheVariants as compared
use Rattle.trace_compare.specs.Comparing.{Compares}
use Rattle.trace_compare.specs.Differing.{IsAnswer}
use Rattle.trace_compare.specs.Pair.{course_in}
use Rattle.restructure_asks.specs.declared.refusal.Refusal.{Refusal}
use Rattle.restructure_asks.specs.declared.refusal.Refusal.TheVariants as refusal
use Rattle.restructure_asks.specs.declared.status.Status.{Status}
use Rattle.restructure_asks.specs.Answer.{Answer}
use Rattle.restructure_asks.specs.Reading.{Tells, left_after}
use Rattle.restructure_asks.specs.Running.{IsToldBy, IsUnrun}
use Rattle.restructure_asks.specs.Texts.{text_alone}
use Rattle.restructure_asks.specs.Writing.{IsGiven}

-- ---- the answer

-- the line of two programs that are the same, with so many events
abbrev pub same_line : ℕ → List ℕ
same_line count = codes "SAME " ++ decimal count ++ line_feed ∷ []

-- what is answered where two programs came to this
abbrev pub told : ℕ → Compared → Answer
told steps (compared.Same count) = Ok (text_alone (same_line count))
told steps (compared.Differ number) = Err (refusal.Differ number)
told steps compared.Budget = Err (refusal.Budget steps)
told steps (compared.FirstFault name) = Err (refusal.Device name)
told steps (compared.SecondFault name) = Err (refusal.SecondDevice name)
told steps compared.NoMemory = Err refusal.NoMemory

-- the refusal of bytes that aren't two programs
abbrev pub of_pair : PairRefusal → Refusal
of_pair pairs.TooLong = refusal.Refused (refused.Limit past_source)
of_pair pairs.NoSecond = refusal.NoSecond
of_pair (pairs.First why) = refusal.Refused (of_read_refusal why)
of_pair (pairs.Second why) = refusal.Second (of_read_refusal why)
of_pair pairs.NoMemory = refusal.NoMemory

-- this is told of what two programs came to, or memory ran out for it
abbrev pub IsTold : ℕ → Compared → Answer → Type 0
IsTold steps came answer = (answer ≡ told steps came) ⊎ (answer ≡ Err refusal.NoMemory)

-- ---- what comes of the bytes of a source

-- the two programs that the bytes are were compared within so many steps, each over its bench
pub record IsCompared (bytes : List ℕ) (steps : ℕ) (bench second : BenchCall) (answer : Answer)
    : Type 0 where
  pub p : Program
  pub q : Program
  -- the bytes are these two
  pub reads : ReadsTwo bytes p q
  -- no word on an added item is in them, as in no program that is read
  pub own : IsOwn p
  pub own_too : IsOwn q
  -- this came of comparing them
  pub came : Compared
  -- and is that of their runs; so much is left of both benches
  pub compares : Compares p q steps bench.left bench.left_now bench.old bench.new
      second.left second.left_now second.old second.new came
  -- it is told
  pub tells : IsTold steps came answer

-- the bytes aren't two programs for this reason, or memory ran out, and both benches are as they
-- were
pub record IsUnpaired (bytes : List ℕ) (bench second : BenchCall) (answer : Answer) : Type 0 where
  pub why : PairRefusal
  pub cause : HasPairCause bytes why
  pub tells : answer ≡ Err (of_pair why)
  pub stays : StaysAsWas bench
  pub stays_too : StaysAsWas second

-- what comes of the bytes of two programs
abbrev pub AnswersTwo : List ℕ → ℕ → (bench second : BenchCall) → Answer → Type 0
AnswersTwo bytes steps bench second answer =
    IsCompared bytes steps bench second answer ⊎ IsUnpaired bytes bench second answer

-- ---- a call

-- the source was read to its end or past the limit, and what came of its bytes was given: a line to
-- the sink, or one to the notes
pub record IsComparedTold (steps : ℕ) (source : SourceCall) (out notes : SinkCall)
    (bench second : BenchCall) (status : Status) : Type 0 where
  pub bytes : List ℕ
  -- these are the bytes, where the source tells them
  pub told : Tells source.told bytes
  -- the source was read to its end or past the limit
  pub left : source.left ≡ left_after (max_source + 1) source.told
  pub answer : Answer
  -- this came of the bytes
  pub comes : AnswersTwo bytes steps bench second answer
  -- and was given
  pub given : IsGiven answer out notes status

-- how a call that compares two programs ends; where the source failed, or memory ran out before,
-- both benches are as they were
abbrev pub EndsOfComparing : ℕ → SourceCall → SinkCall → SinkCall → (bench second : BenchCall) →
    Status → Type 0
EndsOfComparing steps source out notes bench second status =
    IsComparedTold steps source out notes bench second status
    ⊎ IsUnrun source out notes status × StaysAsWas bench × StaysAsWas second

-- ---- what is due

-- the bytes are two programs whose runs of so many steps, each over these files, have this answer
pub record HaveAnswer (bytes : List ℕ) (steps : ℕ) (files others : Files) (came : Compared)
    : Type 0 where
  pub p : Program
  pub q : Program
  -- the bytes are these two
  pub reads : ReadsTwo bytes p q
  -- the answer is that of their runs
  pub is : IsAnswer came (course_in p files steps) (course_in q others steps)

-- what is due to bytes that are to be compared over these files: the answer of the runs of the two
-- programs that they are, or why they aren't two
abbrev pub IsComparisonDue : ℕ → List ℕ → (files others : Files) → Answer → Type 0
IsComparisonDue steps bytes files others answer =
    ((came : Compared) × HaveAnswer bytes steps files others came × (answer ≡ told steps came))
    ⊎ ((why : PairRefusal) × (why ≢ pairs.NoMemory) × HasPairCause bytes why
    × (answer ≡ Err (of_pair why)))

-- ---- a device that failed

-- a device of the second bench failed, and its name was noted as one of the second
abbrev pub IsSecondDeviceTold : SinkCall → BenchCall → Type 0
IsSecondDeviceTold notes second = IsToldBy (λ name. refusal.SecondDevice name) notes second
