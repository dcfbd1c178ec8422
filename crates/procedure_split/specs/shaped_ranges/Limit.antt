-- The limit on the labels and statements of all lowered ranges.
use Rattle.std.specs.Prelude.{ℕ, ◌≡◌, ◌<◌, ◌≤◌, false, List}
use Rattle.cob_base.specs.Limit.{max_nodes, past}
use Rattle.cob_base.specs.declared.limit.Limit.{Limit}
use Rattle.cob_base.specs.declared.limit.LimitKind.TheVariants.{Nodes}
use Rattle.cob_tree.specs.declared.fault.SplitFault.{SplitFault}
use Rattle.cob_tree.specs.declared.fault.SplitFault.TheVariants as fault
use Rattle.cob_tree.specs.declared.program.Range.{Range}
use Rattle.control_flow_theory.specs.language.Language.{Program}
use Rattle.control_flow_theory.specs.lowering.FlowFacts.{FlowFacts}
use Rattle.control_flow_theory.specs.graph_rules.Reduced as reduced
use Rattle.branch_tree.specs.declared.graph.Graph.{Graph}
use Rattle.procedure_split.specs.shaped_ranges.Graphs.{AreGraphsOf, HaveGraphs, node_count, total_size}

-- the limit that so many labels and statements pass
abbrev pub nodes_passed : ℕ → Limit
nodes_passed counted = past Nodes false counted

-- the graphs of the ranges, where they aren't past the limit
pub record AreLowered (told : FlowFacts) (program : Program) (ranges : List Range)
    (graphs : List Graph)
    : Type 0 where
  -- these are the graphs of the ranges
  pub are : AreGraphsOf told program ranges graphs
  -- all labels and statements are within their limit
  pub within : node_count graphs ≤ max_nodes

-- the graphs that they have are past it
pub record ArePast (told : FlowFacts) (program : Program) (ranges : List Range) (limit : Limit)
    : Type 0 where
  pub graphs : List reduced.Graph
  -- the ranges have these graphs
  pub have : HaveGraphs told program ranges graphs
  -- all labels and statements are past their limit
  pub past : max_nodes < total_size graphs
  -- the limit is given with their count
  pub is : limit ≡ nodes_passed (total_size graphs)

-- why they aren't lowered: they are past the limit; memory may run out at any place
abbrev pub IsLoweringFault : FlowFacts → Program → List Range → SplitFault → Type 0
IsLoweringFault told program ranges (fault.Limit limit) = ArePast told program ranges limit
IsLoweringFault told program ranges fault.NoMemory = Unit {0}
