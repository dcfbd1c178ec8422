-- What holds of split programs.
use Rattle.std.specs.Prelude.{◌≡◌}
use Rattle.cob_base.specs.declared.limit.Limit.{Limit}
use Rattle.cob_tree.specs.declared.fault.SplitFault.TheVariants as fault
use Rattle.cob_tree.specs.declared.program.Program.{Program}
use Rattle.pending_returns.specs.declared.facts.Summary.{Summary}
use Rattle.procedure_split.specs.declared.writing.Split.{Split}
use Rattle.procedure_split.specs.Splitting.{IsSplit, IsSplitFault, IsSplitWith}
use Rattle.procedure_split.specs.split_behaviour.Alike.{IsWellMade}
use Rattle.pending_returns.specs.FaultFree.{IsFaultFree}

-- two summaries of one flow split the program alike: into one structured program, or past one
-- limit; where one splits it, the other passes no limit
pub record IsSplitOnce (program : Program) (one other : Summary) : Type 0 where
  -- both split it into one program
  pub made : (first second : Split) → IsSplitWith program one first →
      IsSplitWith program other second → first ≡ second
  -- both pass one limit
  pub limit : (first second : Limit) → IsSplitFault program one (fault.Limit first) →
      IsSplitFault program other (fault.Limit second) → first ≡ second
  -- where one splits it, the other passes no limit
  pub within : (made : Program) (limit : Limit) → IsSplit program one made →
      IsSplitFault program other (fault.Limit limit) → ⊥

-- a program is split alike by any two summaries of its flow
abbrev pub SplitsAreOne : Type 0
SplitsAreOne = (program : Program) (one other : Summary) → IsWellMade program →
    IsFaultFree program one → IsFaultFree program other → IsSplitOnce program one other
