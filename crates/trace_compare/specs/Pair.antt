-- Two programs that run beside each other, step by step.
use Rattle.std.specs.Prelude.{ℕ, ◌≡◌, ◌+◌, ◌*◌, ◌-◌, ◌<◌, ◌≤◌, ◌^◌, List, length}
use Rattle.cob_tree.specs.declared.file.FileEntry.{FileEntry}
use Rattle.cob_tree.specs.declared.program.Program.{Program}
use Rattle.file_model.specs.declared.operations.fault.FileFault.TheVariants as faults
use Rattle.cob_act.specs.files.Ends.{BrokeOver}
use Rattle.cobol_run.specs.Falling.{SameBench}
use Rattle.cobol_theory.specs.cobol_meaning.Runs.{Files, source_run}
use Rattle.control_flow_theory.specs.semantics.Outcome.{Trace}
use Rattle.file_model.specs.declared.table.FileRow.{FileRow}
use Rattle.file_model.specs.operations.Seen.{Seen}
use Rattle.trace_compare.specs.declared.compared.Compared.TheVariants as compared
use Rattle.trace_compare.specs.declared.pair.Pair.{Pair}
use Rattle.trace_compare.specs.declared.pair.Turn.{Turn}
use Rattle.trace_compare.specs.declared.pair.Turn.TheVariants as turn
use Rattle.trace_compare.specs.declared.pair.Verdict.{Verdict}
use Rattle.trace_compare.specs.declared.pair.Verdict.TheVariants as verdict
use Rattle.trace_compare.specs.Differing.{Course, IsAnswer, course_of}
use Rattle.trace_compare.specs.declared.side.ComparedSide.{ComparedSide}
use Rattle.trace_compare.specs.Side.{StandsAt, pending_of}

-- ---- where both stand

-- there is room for the count of events, whatever one program shows in the steps that are left
abbrev pub HasRoom : Pair → Type 0
HasRoom pair =
    pair.same + length (pending_of pair.first) + pair.first.left * 2 ^ 64 ≤ 2 ^ 128 - 2 ^ 64

-- both have made some of so many steps, and showed the same events, which are counted
pub record BothStand (p q : Program) (files other_files : Files) (pair : Pair)
    (devices others : List Seen) (steps : ℕ) : Type 0 where
  -- the events that were compared
  pub compared : Trace
  pub count : length compared ≡ pair.same
  -- the first showed them
  pub first : StandsAt p files pair.first devices steps compared
  -- and so did the second
  pub second : StandsAt q other_files pair.second others steps compared

-- what is compared of a program's run of so many steps over these files
abbrev pub course_in : Program → Files → ℕ → Course
course_in program files steps = course_of (source_run program files steps)

-- the side has made some of so many steps
abbrev pub StandsStill : Program → Files → ComparedSide → List Seen → ℕ → Type 0
StandsStill program files side devices steps =
    (compared : Trace) × StandsAt program files side devices steps compared

-- the verdict is that of both runs, and both still stand; where a device failed the other one does
abbrev pub IsVerdict : Verdict → Program → Program → (files other_files : Files) → Pair →
    (devices others : List Seen) → ℕ → Type 0
IsVerdict (verdict.Same count) p q files other_files pair devices others steps =
    IsAnswer (compared.Same count) (course_in p files steps) (course_in q other_files steps)
    × BothStand p q files other_files pair devices others steps
IsVerdict (verdict.Differ number) p q files other_files pair devices others steps =
    IsAnswer (compared.Differ number) (course_in p files steps) (course_in q other_files steps)
    × BothStand p q files other_files pair devices others steps
IsVerdict verdict.Budget p q files other_files pair devices others steps =
    IsAnswer compared.Budget (course_in p files steps) (course_in q other_files steps)
    × BothStand p q files other_files pair devices others steps
IsVerdict verdict.FirstFailed p q files other_files pair devices others steps =
    StandsStill q other_files pair.second others steps
IsVerdict verdict.SecondFailed p q files other_files pair devices others steps =
    StandsStill p files pair.first devices steps
IsVerdict verdict.NoMemory p q files other_files pair devices others steps = Unit {0}

-- what one more turn comes to
abbrev pub TurnsTo : Turn → Program → Program → (files other_files : Files) → Pair →
    (devices others : List Seen) → ℕ → Type 0
TurnsTo turn.On p q files other_files pair devices others steps =
    BothStand p q files other_files pair devices others steps
TurnsTo (turn.Over verdict) p q files other_files pair devices others steps =
    IsVerdict verdict p q files other_files pair devices others steps

-- ---- the benches

-- no device of the first bench failed, or it broke off there
abbrev pub FirstFalls : Verdict → List FileEntry → (left left_now : ℕ) → (old new : List Seen) →
    List FileRow → Type 0
FirstFalls verdict.FirstFailed files left left_now old new table =
    BrokeOver faults.Device files left left_now old new table
FirstFalls _ files left left_now old new table = SameBench files left left_now old new

-- no device of the second bench failed, or it broke off there
abbrev pub SecondFalls : Verdict → List FileEntry → (left left_now : ℕ) → (old new : List Seen) →
    List FileRow → Type 0
SecondFalls verdict.SecondFailed files left left_now old new table =
    BrokeOver faults.Device files left left_now old new table
SecondFalls _ files left left_now old new table = SameBench files left left_now old new

-- the same of one more turn
abbrev pub FirstTurns : Turn → List FileEntry → (left left_now : ℕ) → (old new : List Seen) →
    List FileRow → Type 0
FirstTurns turn.On files left left_now old new table = SameBench files left left_now old new
FirstTurns (turn.Over verdict) files left left_now old new table =
    FirstFalls verdict files left left_now old new table

-- the same of the second bench
abbrev pub SecondTurns : Turn → List FileEntry → (left left_now : ℕ) → (old new : List Seen) →
    List FileRow → Type 0
SecondTurns turn.On files left left_now old new table = SameBench files left left_now old new
SecondTurns (turn.Over verdict) files left left_now old new table =
    SecondFalls verdict files left left_now old new table

-- how many steps both may still make
abbrev pub steps_left : Pair → ℕ
steps_left pair = pair.first.left + pair.second.left

-- one more turn is followed by another one only where a step was made
abbrev pub Fewer : Turn → (old new : Pair) → Type 0
Fewer turn.On old new = (steps_left new < steps_left old) × HasRoom new
Fewer (turn.Over verdict) old new = Unit {0}
