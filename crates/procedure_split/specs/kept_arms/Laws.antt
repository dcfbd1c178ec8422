-- What holds of graphs whose choices have arms.
use Rattle.std.specs.Prelude.{◌≤◌}
use Rattle.cob_tree.specs.Depth.{program_depth}
use Rattle.cob_tree.specs.declared.program.Program.{Program}
use Rattle.control_flow_theory.specs.graph_rules.Reduced.{Graph}
use Rattle.control_flow_theory.specs.structuring.Closes.{closed_graph}
use Rattle.pending_returns.specs.declared.facts.Summary.{Summary}
use Rattle.cob_base.specs.Limit.{max_nesting}
use Rattle.procedure_split.specs.shaped_ranges.Laws.{HasFlow}
use Rattle.procedure_split.specs.Splitting.{IsSplit}
use Rattle.procedure_split.specs.kept_arms.Trees.{NodesHaveArms, GraphsHaveArms}

-- where its nodes' choices have arms, those of what the rules leave of the graph have
abbrev pub RulesKeepArms : Type 0
RulesKeepArms =
    (graph : Graph) → NodesHaveArms graph.nodes → NodesHaveArms (closed_graph graph).nodes

-- what a program is split into nests within the limit, where each choice in its lowered graphs has
-- its arms
abbrev pub SplitProgramsOfGraphsNestWithin : Type 0
SplitProgramsOfGraphsNestWithin = (program made : Program) (summary : Summary) →
    HasFlow program summary → (split : IsSplit program summary made) →
    GraphsHaveArms split.graphs → program_depth made ≤ max_nesting
