-- The structured program that a program is restructured to.
use Rattle.std.specs.Prelude.{◌≤◌, length}
use Rattle.cob_base.specs.Limit.{max_ranges}
use Rattle.cob_base.specs.declared.limit.Limit.{Limit}
use Rattle.cob_tree.specs.declared.fault.SplitFault.TheVariants as split
use Rattle.cob_tree.specs.declared.program.Program.{Program}
use Rattle.pending_returns.specs.declared.facts.Summary.{Summary}
use Rattle.pending_returns.specs.FaultFree.{IsFaultFree}
use Rattle.pending_returns.specs.Summary.{IsWithin}
use Rattle.procedure_split.specs.declared.writing.Split.{Split}
use Rattle.procedure_split.specs.Splitting.{IsSplitFault, IsSplitWith}
use Rattle.restructure_core.specs.declared.flow.Flow.{Flow}
use Rattle.restructure_core.specs.declared.flow.Flow.TheVariants as flow
use Rattle.restructure_core.specs.Flow.{IsFaultyBy}

-- the flow of a program that is within the limits on ranges
pub record IsClear (program : Program) (summary : Summary) : Type 0 where
  -- its text names no more ranges than their limit
  pub within : IsWithin program
  -- this is the summary of its flow, without a fault
  pub flow : IsFaultFree program summary
  -- no more than a text may name
  pub few : length summary.ranges ≤ max_ranges

-- what control of the program comes to
abbrev pub IsFlowOf : Program → Flow → Type 0
IsFlowOf program (flow.Clear summary) = IsClear program summary
IsFlowOf program (flow.Faulty trail) = IsFaultyBy program trail

-- the program is split into this one by its summary, with items that are counted
pub record IsMadeOf (program : Program) (made : Split) : Type 0 where
  -- what each range does
  pub summary : Summary
  -- the summary is the program's
  pub clear : IsClear program summary
  -- by it the program is split so
  pub split : IsSplitWith program summary made

-- the program passes a limit before it is split, by its summary
pub record PassesBefore (program : Program) (limit : Limit) : Type 0 where
  -- what each range does
  pub summary : Summary
  -- the summary is the program's
  pub clear : IsClear program summary
  -- by it the program passes this limit
  pub past : IsSplitFault program summary (split.Limit limit)
