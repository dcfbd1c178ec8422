-- Laws of comparing runs.
use Rattle.std.specs.Prelude.{ℕ, ◌≡◌, List, [], ◌∷◌, None, Some, take}
use Rattle.cob_tree.specs.declared.program.Program.{Program}
use Rattle.control_flow_theory.specs.language.Control.{control_of}
use Rattle.control_flow_theory.specs.language.Structured.{IsStructuredControl}
use Rattle.control_flow_theory.specs.runs.Run.{Covers}
use Rattle.control_flow_theory.specs.semantics_agree.Same.{EndsFairly}
use Rattle.cobol_theory.specs.cobol_meaning.Runs.{Files, source_run}
use Rattle.cobol_theory.specs.cobol_meaning.Same.{SameBehaviour}
use Rattle.control_flow_theory.specs.semantics.Outcome.{Abend, Normally, Run, Stopped, Trace}
use Rattle.trace_compare.specs.declared.compared.Compared.{Compared}
use Rattle.trace_compare.specs.declared.compared.Compared.TheVariants as compared
use Rattle.cobol_run.specs.Over.{TellFiles}
use Rattle.cobol_run.specs.Own.{IsOwn}
use Rattle.file_model.specs.operations.Seen.{Seen}
use Rattle.trace_compare.specs.Comparing.{Compares}
use Rattle.trace_compare.specs.Differing.{Course, DifferAt, IsAnswer, SameWith, answer_of, course_of}

-- each two runs have an answer
abbrev pub EachTwoHaveAnAnswer : Type 0
EachTwoHaveAnAnswer =
    (first second : Course) → IsAnswer (answer_of first second) first second

-- and only one: they are the same, differ or neither, and the number is one
abbrev pub NoTwoHaveTwo : Type 0
NoTwoHaveTwo =
    (one other : Compared) (first second : Course) → IsAnswer one first second →
    IsAnswer other first second → one ≡ other

-- a run doesn't differ from itself
abbrev pub NoneDiffersFromItself : Type 0
NoneDiffersFromItself = (number : ℕ) (course : Course) → DifferAt number course course → ⊥

-- the answer is the same the other way round
abbrev pub TheOtherWayRound : Type 0
TheOtherWayRound =
    (answer : Compared) (first second : Course) → IsAnswer answer first second →
    IsAnswer answer second first

-- runs that are the same, or differ, are or do so after more steps too
abbrev pub MoreStepsKeep : Type 0 → Type 0
MoreStepsKeep Left = (number : ℕ) (first second first_later second_later : Run Left) →
    Covers first first_later → Covers second second_later →
    (SameWith number (course_of first) (course_of second) →
    SameWith number (course_of first_later) (course_of second_later))
    × (DifferAt number (course_of first) (course_of second) →
    DifferAt number (course_of first_later) (course_of second_later))

-- a program that meets no fault of its flow, and a structured one that behaves as it does, differ at
-- no event, over the same files and however many steps each makes
abbrev pub ResultsNeverDiffer : Type 0
ResultsNeverDiffer =
    (source result : Program) → SameBehaviour source result →
    IsStructuredControl (control_of result) → (files : Files) →
    ((steps : ℕ) → EndsFairly (source_run source files steps).standing) →
    (number steps other_steps : ℕ) →
    DifferAt number (course_of (source_run source files steps))
    (course_of (source_run result files other_steps)) → ⊥

-- so where both benches have the same files, comparing them never answers that they differ
abbrev pub ComparedResultsNeverDiffer : Type 0
ComparedResultsNeverDiffer =
    (source result : Program) → SameBehaviour source result →
    IsStructuredControl (control_of result) → IsOwn source → IsOwn result → (files : Files) →
    ((steps : ℕ) → EndsFairly (source_run source files steps).standing) →
    (steps left left_now : ℕ) (old new : List Seen) (other other_now : ℕ)
    (other_old other_new : List Seen) (came : Compared) →
    TellFiles source (take left old) files → TellFiles result (take other other_old) files →
    Compares source result steps left left_now old new other other_now other_old other_new came →
    (number : ℕ) → came ≡ compared.Differ number → ⊥

-- ---- examples

-- a run that stopped normally, having shown these
abbrev stopped : Trace → Course
stopped events = record { events = events; ended = Some (Stopped Normally tt) }

-- a run that stopped by a fault of its data
abbrev failed : Trace → Course
failed events = record { events = events; ended = Some (Stopped (Abend 1) tt) }

-- a run that goes on
abbrev going : Trace → Course
going events = record { events = events; ended = None }

-- A, B and C displayed
abbrev a_b_c : Trace
a_b_c = (0 ∷ 65 ∷ []) ∷ (0 ∷ 66 ∷ []) ∷ (0 ∷ 67 ∷ []) ∷ []

-- A, B and D displayed
abbrev a_b_d : Trace
a_b_d = (0 ∷ 65 ∷ []) ∷ (0 ∷ 66 ∷ []) ∷ (0 ∷ 68 ∷ []) ∷ []

-- A and B displayed
abbrev a_b : Trace
a_b = (0 ∷ 65 ∷ []) ∷ (0 ∷ 66 ∷ []) ∷ []

-- small runs compared
pub record SmallRunsCompareAs : Type 0 where
  -- both show the same and stop
  pub same : answer_of (stopped a_b_c) (stopped a_b_c) ≡ compared.Same 3
  -- the third event is another one
  pub other : answer_of (stopped a_b_c) (stopped a_b_d) ≡ compared.Differ 3
  -- one has an event more
  pub longer : answer_of (stopped a_b) (stopped a_b_c) ≡ compared.Differ 3
  -- one stops by a fault
  pub fault : answer_of (stopped a_b) (failed a_b) ≡ compared.Differ 3
  -- one goes on after what the other has shown
  pub on : answer_of (stopped a_b) (going a_b) ≡ compared.Budget
  -- one that goes on differs where it showed another event
  pub apart : answer_of (going a_b_c) (going a_b_d) ≡ compared.Differ 3
