-- The structured program of a program without a fault.
use Rattle.std.specs.Prelude.{ℕ, ◌≡◌, ◌⊎◌, List}
use Rattle.cob_base.specs.declared.limit.Limit.{Limit}
use Rattle.cob_tree.specs.declared.fault.SplitFault.{SplitFault}
use Rattle.cob_tree.specs.declared.fault.SplitFault.TheVariants as fault
use Rattle.cob_tree.specs.declared.program.Program.{Program}
use Rattle.cob_tree.specs.declared.program.Range.{Range}
use Rattle.control_flow_theory.specs.language.Control.{control_of}
use Rattle.program_facts.specs.completion.FlowFacts.{flow_facts_of}
use Rattle.pending_returns.specs.declared.facts.Summary.{Summary}
use Rattle.procedure_split.specs.plan.Planned.{IsPlanOf}
use Rattle.branch_tree.specs.declared.graph.Graph.{Graph}
use Rattle.region_rewrite.specs.Shaping.{nesting_passed}
use Rattle.procedure_split.specs.shaped_ranges.Limit.{AreLowered, ArePast}
use Rattle.procedure_split.specs.shaped_ranges.Shaping.{AllShaped, IsOneTooDeep}
use Rattle.procedure_split.specs.declared.shaped_ranges.shaping.Closed.{Closed}
use Rattle.added_items.specs.item_table.Owners.{item_kinds}
use Rattle.procedure_split.specs.Counting.{counts_of}
use Rattle.procedure_split.specs.Rows.{rows_of}
use Rattle.procedure_split.specs.Writing.{IsWrittenFrom}
use Rattle.procedure_split.specs.declared.writing.Split.{Split}

-- how a program is planned: which ranges return, and the order in which they come
pub record Planned (program : Program) (summary : Summary) : Type 0 where
  -- the exits of the ranges that return, by their entries
  pub returning : List (List ℕ)
  pub order : List Range
  -- the summary gives both
  pub is : IsPlanOf summary.ranges returning order

-- the ranges of its plan are lowered to these graphs
abbrev pub AreGraphs : (program : Program) (summary : Summary) → Planned program summary →
    List Graph → Type 0
AreGraphs program summary plan graphs =
    AreLowered (flow_facts_of program.files plan.returning) (control_of program) plan.order graphs

-- the program is split into the other: the graphs of its ranges are shaped, and it is written of
-- what they are shaped to
pub record IsSplit (program : Program) (summary : Summary) (made : Program) : Type 0 where
  pub plan : Planned program summary
  pub graphs : List Graph
  -- the graphs are those of the ranges, in their order
  pub lowered : AreGraphs program summary plan graphs
  -- what the graphs are shaped to
  pub closed : List Closed
  -- each graph is shaped so
  pub shaped : AllShaped graphs closed
  -- the result is written of these
  pub written : IsWrittenFrom program plan.order closed made

-- the program is split so, and so many items of each kind are added, for the cells of what the
-- graphs are shaped to
pub record IsSplitWith (program : Program) (summary : Summary) (split : Split) : Type 0 where
  -- the program is split into the result
  pub is : IsSplit program summary split.program
  -- so many items of each kind are added
  pub added : split.added ≡ counts_of (item_kinds (rows_of is.plan.order is.closed))

-- the graphs of the ranges are past the limit on their size
pub record IsTooLarge (program : Program) (summary : Summary) (limit : Limit) : Type 0 where
  pub plan : Planned program summary
  -- the graphs of the ranges are past their limit
  pub past :
      ArePast (flow_facts_of program.files plan.returning) (control_of program) plan.order limit

-- one of them is shaped to a body that nests deeper than the limit
pub record NestsTooDeep (program : Program) (summary : Summary) (limit : Limit) : Type 0 where
  pub plan : Planned program summary
  pub graphs : List Graph
  -- the graphs are those of the ranges, in their order
  pub lowered : AreGraphs program summary plan graphs
  -- one of them nests deeper than the limit
  pub deep : IsOneTooDeep graphs
  -- the limit is that of nesting
  pub is : limit ≡ nesting_passed

-- why it isn't split: one of the limits is passed; memory may run out at any place
abbrev pub IsSplitFault : Program → Summary → SplitFault → Type 0
IsSplitFault program summary (fault.Limit limit) =
    IsTooLarge program summary limit ⊎ NestsTooDeep program summary limit
IsSplitFault program summary fault.NoMemory = Unit {0}
