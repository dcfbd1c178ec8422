-- What holds of summaries.
use Rattle.std.specs.Prelude.{◌≡◌, Bool}
use Rattle.control_flow_theory.specs.language.Language.{Chooser, Program}
use Rattle.pending_returns.specs.declared.facts.Summary.{Summary}
use Rattle.pending_returns.specs.Summary.{IsSummary}

-- two of one program have the same ranges, with the same facts
abbrev pub SummariesAreOne : Type 0
SummariesAreOne = (never_first : Chooser → Bool) (program : Program) (one other : Summary) →
    IsSummary never_first program one → IsSummary never_first program other →
    one.ranges ≡ other.ranges
