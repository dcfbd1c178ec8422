-- What comes of comparing two programs.
use Rattle.std.specs.Prelude.{ℕ, ◌≡◌, ◌≤◌, List, [], ◌∷◌, ◌++◌, take}
use Rattle.cob_tree.specs.declared.program.Program.{Program}
use Rattle.cobol_run.specs.declared.events.Finished.{Finished}
use Rattle.cobol_run.specs.declared.events.Finished.TheVariants as finished
use Rattle.cobol_run.specs.Over.{TellFiles}
use Rattle.cobol_run.specs.Own.{IsOwn}
use Rattle.cobol_run.specs.Points.{world_after}
use Rattle.cobol_theory.specs.cobol_meaning.Runs.{Files}
use Rattle.file_model.specs.operations.Calls.{addresses_of}
use Rattle.file_model.specs.operations.Falling.{LeftOf, is_used}
use Rattle.file_model.specs.operations.Seen.{Seen}
use Rattle.file_model.specs.operations.Shutting.{LeavesFiles}
use Rattle.trace_compare.specs.declared.compared.Compared.{Compared}
use Rattle.trace_compare.specs.declared.compared.Compared.TheVariants as compared
use Rattle.trace_compare.specs.declared.pair.Verdict.{Verdict}
use Rattle.trace_compare.specs.declared.pair.Verdict.TheVariants as verdict
use Rattle.trace_compare.specs.Differing.{Course, IsAnswer}
use Rattle.trace_compare.specs.Pair.{course_in}

-- ---- the answer, by what both came to and what closing their files did

-- the answer where a device of the first bench failed
abbrev pub first_fault : Finished → Compared
first_fault (finished.DeviceFault name) = compared.FirstFault name
first_fault finished.Whole = compared.NoMemory
first_fault finished.NoMemory = compared.NoMemory

-- the answer where a device of the second bench failed
abbrev pub second_fault : Finished → Compared
second_fault (finished.DeviceFault name) = compared.SecondFault name
second_fault finished.Whole = compared.NoMemory
second_fault finished.NoMemory = compared.NoMemory

-- this answer, unless a device of the second bench failed while files were closed
abbrev pub unless_second : Compared → Finished → Compared
unless_second answer finished.Whole = answer
unless_second answer (finished.DeviceFault name) = compared.SecondFault name
unless_second answer finished.NoMemory = compared.NoMemory

-- the same of both benches, the first before the second
abbrev pub unless_failed : Compared → (first second : Finished) → Compared
unless_failed answer finished.Whole second = unless_second answer second
unless_failed answer (finished.DeviceFault name) second = compared.FirstFault name
unless_failed answer finished.NoMemory second = compared.NoMemory

-- the answer
abbrev pub answered : Verdict → (first second : Finished) → Compared
answered (verdict.Same count) first second = unless_failed (compared.Same count) first second
answered (verdict.Differ number) first second =
    unless_failed (compared.Differ number) first second
answered verdict.Budget first second = unless_failed compared.Budget first second
answered verdict.FirstFailed first second = first_fault first
answered verdict.SecondFailed first second = second_fault second
answered verdict.NoMemory first second = compared.NoMemory

-- ---- what an answer tells

-- the answer is that of these runs; where a device failed or memory ran out nothing is said of them
abbrev pub IsOf : Compared → (first second : Course) → Type 0
IsOf (compared.Same count) first second = IsAnswer (compared.Same count) first second
IsOf (compared.Differ number) first second = IsAnswer (compared.Differ number) first second
IsOf compared.Budget first second = IsAnswer compared.Budget first second
IsOf _ first second = Unit {0}

-- these devices of the first bench failed, the first of them last: none where the runs were
-- compared to the end; at a fault of the first the one that is named failed first
abbrev pub FirstNames : Compared → List (List ℕ) → Type 0
FirstNames (compared.FirstFault name) gone = (later : List (List ℕ)) × (gone ≡ later ++ name ∷ [])
FirstNames (compared.SecondFault name) gone = Unit {0}
FirstNames compared.NoMemory gone = Unit {0}
FirstNames _ gone = gone ≡ []

-- the same of the second bench
abbrev pub SecondNames : Compared → List (List ℕ) → Type 0
SecondNames (compared.FirstFault name) gone = Unit {0}
SecondNames (compared.SecondFault name) gone = (later : List (List ℕ)) × (gone ≡ later ++ name ∷ [])
SecondNames compared.NoMemory gone = Unit {0}
SecondNames _ gone = gone ≡ []

-- the program made some of so many steps, and the devices that are left have the files as it left
-- them then, all of them closed
abbrev pub LeavesSome : Program → Files → ℕ → List (List ℕ) → List Seen → Type 0
LeavesSome program files steps gone devices = (done : ℕ) × (done ≤ steps)
    × LeavesFiles (addresses_of program.files) gone devices (world_after program files done)

-- the first program's files are so, unless its devices failed or memory ran out
abbrev pub FirstLeaves : Compared → Program → Files → ℕ → List (List ℕ) → List Seen → Type 0
FirstLeaves (compared.FirstFault name) program files steps gone devices = Unit {0}
FirstLeaves compared.NoMemory program files steps gone devices = Unit {0}
FirstLeaves _ program files steps gone devices = LeavesSome program files steps gone devices

-- the same of the second program's
abbrev pub SecondLeaves : Compared → Program → Files → ℕ → List (List ℕ) → List Seen → Type 0
SecondLeaves (compared.SecondFault name) program files steps gone devices = Unit {0}
SecondLeaves compared.NoMemory program files steps gone devices = Unit {0}
SecondLeaves _ program files steps gone devices = LeavesSome program files steps gone devices

-- what comes of comparing two programs, each over a bench of so many devices, within so many steps:
-- what is left of each bench, and where the devices that the programs use told their files that the
-- answer is that of their runs, and what is left of the files
pub record Compares (p q : Program) (steps : ℕ) (left left_now : ℕ) (old new : List Seen)
    (other other_now : ℕ) (other_old other_new : List Seen) (came : Compared) : Type 0 where
  -- the devices of the first bench that failed
  pub gone : List (List ℕ)
  -- those of the second
  pub other_gone : List (List ℕ)
  -- what is left of the first bench without them
  pub bench : LeftOf (is_used (addresses_of p.files)) gone left left_now old new
  -- what is left of the second
  pub other_bench : LeftOf (is_used (addresses_of q.files)) other_gone
      other other_now other_old other_new
  -- the answer names the first that failed
  pub names : FirstNames came gone
  pub other_names : SecondNames came other_gone
  -- where the devices told their files
  pub files : (files other_files : Files) → IsOwn p → IsOwn q →
      TellFiles p (take left old) files → TellFiles q (take other other_old) other_files →
      -- the answer is that of the two runs of so many steps
      IsOf came (course_in p files steps) (course_in q other_files steps)
      × FirstLeaves came p files steps gone (take left_now new)
      × SecondLeaves came q other_files steps other_gone (take other_now other_new)
