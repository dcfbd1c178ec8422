-- What is said of a turn, by what it made.
use Rattle.std.proofs.Common.{◌≡◌, ◌⊎◌, inl, inr, ℕ, suc, List, Ok, subst, take}
use Rattle.cob_base.specs.Sink.{SinkCall}
use Rattle.cob_tree.specs.declared.file.FileEntry.{FileEntry}
use Rattle.cob_tree.specs.declared.program.Program.{Program}
use Rattle.cobol_theory.specs.cobol_meaning.Runs.{Files}
use Rattle.file_model.specs.declared.table.FileRow.{FileRow}
use Rattle.file_model.specs.operations.Seen.{Seen}
use Rattle.cobol_run.specs.declared.machine.Machine.{Machine}
use Rattle.cobol_run.specs.declared.machine.StepOutcome.{StepOutcome}
use Rattle.cobol_run.specs.declared.machine.StepOutcome.TheVariants as step
use Rattle.cobol_run.specs.Falling.{SameBench, TurnFalls}
use Rattle.cobol_run.specs.Over.{SoFarOver, TurnsOver}
use Rattle.cobol_run.specs.Running.{SoFar, TurnsTo}

pub turned_as : (program : Program) (machine : Machine) (done : ℕ) (sink : SinkCall) (made other : StepOutcome) → made ≡ other → TurnsTo program machine done sink (Ok made) → TurnsTo program machine done sink (Ok other)
turned_as program machine done sink made other is turns = subst (λ (m : StepOutcome). TurnsTo program machine done sink (Ok m)) is turns

pub turned_over_as : (program : Program) (files : Files) (machine : Machine) (left : ℕ) (devices : List Seen) (done : ℕ) (sink : SinkCall) (made other : StepOutcome) → made ≡ other → TurnsOver program files machine left devices done sink (Ok made) → TurnsOver program files machine left devices done sink (Ok other)
turned_over_as program files machine left devices done sink made other is turns = subst (λ (m : StepOutcome). TurnsOver program files machine left devices done sink (Ok m)) is turns

pub falls_as : (made other : StepOutcome) (files : List FileEntry) (left now : ℕ) (old new : List Seen) (table : List FileRow) → made ≡ other → TurnFalls (Ok made) files left now old new table → TurnFalls (Ok other) files left now old new table
falls_as made other files left now old new table is falls = subst (λ (m : StepOutcome). TurnFalls (Ok m) files left now old new table) is falls

-- ---- a turn after which the run goes on

abbrev pub GoesOn : StepOutcome → Type 0
GoesOn made = (made ≡ step.On) ⊎ (made ≡ step.Shown)

pub turned_on : (program : Program) (machine : Machine) (done : ℕ) (sink : SinkCall) (made : StepOutcome) → GoesOn made → TurnsTo program machine done sink (Ok made) → SoFar program machine (suc done) sink
turned_on program machine done sink made (inl is) turns = turned_as program machine done sink made step.On is turns
turned_on program machine done sink made (inr is) turns = turned_as program machine done sink made step.Shown is turns

pub turned_over_on : (program : Program) (files : Files) (machine : Machine) (left : ℕ) (devices : List Seen) (done : ℕ) (sink : SinkCall) (made : StepOutcome) → GoesOn made → TurnsOver program files machine left devices done sink (Ok made) → SoFarOver program files machine (take left devices) (suc done) sink
turned_over_on program files machine left devices done sink made (inl is) turns = turned_over_as program files machine left devices done sink made step.On is turns
turned_over_on program files machine left devices done sink made (inr is) turns = turned_over_as program files machine left devices done sink made step.Shown is turns

pub falls_on : (made : StepOutcome) (files : List FileEntry) (left now : ℕ) (old new : List Seen) (table : List FileRow) → GoesOn made → TurnFalls (Ok made) files left now old new table → SameBench files left now old new
falls_on made files left now old new table (inl is) falls = falls_as made step.On files left now old new table is falls
falls_on made files left now old new table (inr is) falls = falls_as made step.Shown files left now old new table is falls
