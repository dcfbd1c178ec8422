-- Paragraphs that are dropped.
use Rattle.std.specs.Prelude.{ℕ, ◌<◌, ◌↔◌, Bool, List, length}
use Rattle.control_flow_theory.specs.language.Language.{Chooser, Program}
use Rattle.program_points.specs.paths.Flow.{IsReached}
use Rattle.pending_returns.specs.levels.Reach.{Holds}
use Rattle.pending_returns.specs.Summary.{Rises}

-- the paragraphs to which no free flow path comes, rising
pub record AreDropped (never_first : Chooser → Bool) (program : Program) (numbers : List ℕ)
    : Type 0 where
  pub rises : Rises numbers
  -- a paragraph is in the list just where it is there and no free flow path comes to it
  pub dropped : (paragraph : ℕ) → Holds numbers paragraph ↔ ((paragraph < length program.paragraphs)
      × (IsReached never_first program paragraph → ⊥))
