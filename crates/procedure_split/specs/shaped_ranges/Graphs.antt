-- The graphs of a program's ranges, as the rules begin with them.
use Rattle.std.specs.Prelude.{ℕ, ◌≡◌, Bool, List, [], ◌∷◌, sum_by}
use Rattle.cob_tree.specs.declared.program.Range as code
use Rattle.control_flow_theory.specs.language.Language.{Program, Range}
use Rattle.control_flow_theory.specs.semantics.Graph.{Label}
use Rattle.control_flow_theory.specs.lowering.FlowFacts.{FlowFacts}
use Rattle.control_flow_theory.specs.lowering.WellFormed.{AreJustReached}
use Rattle.control_flow_theory.specs.graph_rules.Reduced as reduced
use Rattle.control_flow_theory.specs.main_theorem.Chain.{lowered_graphs}
use Rattle.control_flow_theory.specs.main_theorem.Numbering.{numbers_by, added_by}
use Rattle.branch_tree.specs.Graph.{seen_graph}
use Rattle.branch_tree.specs.declared.graph.Graph.{Graph}
use Rattle.lowering_labels.specs.points.FallThrough.{seen_range}
use Rattle.flow_graph.specs.graph_sizes.Sizing.{graph_size}

-- the nodes that this keeps, and counters numbered from 0
abbrev pub graph_by : FlowFacts → Program → (Label → Bool) → Range → reduced.Graph
graph_by told program keep range =
    let all : Range → Label → Bool = λ other. keep in
    lowered_graphs told program all (numbers_by all program) (added_by all program) range

-- the graph has exactly the nodes that are reached
pub record IsGraphOf (told : FlowFacts) (program : Program) (range : Range) (graph : reduced.Graph)
    : Type 0 where
  -- the nodes that are kept
  pub keep : Label → Bool
  -- these are exactly the nodes that are reached
  pub just : AreJustReached told program range keep
  -- the graph has these nodes
  pub is : graph ≡ graph_by told program keep range

-- there is one such graph for each range
abbrev pub AreGraphsOf : FlowFacts → Program → List code.Range → List Graph → Type 0
AreGraphsOf told program [] [] = Unit {0}
AreGraphsOf told program [] (graph ∷ graphs) = ⊥
AreGraphsOf told program (range ∷ ranges) [] = ⊥
AreGraphsOf told program (range ∷ ranges) (graph ∷ graphs) =
    IsGraphOf told program (seen_range range) (seen_graph graph)
    × AreGraphsOf told program ranges graphs

-- the same of graphs as the theory has them, of which nothing need be made
abbrev pub HaveGraphs : FlowFacts → Program → List code.Range → List reduced.Graph → Type 0
HaveGraphs told program [] [] = Unit {0}
HaveGraphs told program [] (graph ∷ graphs) = ⊥
HaveGraphs told program (range ∷ ranges) [] = ⊥
HaveGraphs told program (range ∷ ranges) (graph ∷ graphs) =
    IsGraphOf told program (seen_range range) graph × HaveGraphs told program ranges graphs

-- how many labels and statements all these graphs have
abbrev pub total_size : List reduced.Graph → ℕ
total_size = sum_by graph_size

-- the labels and statements of these graphs
abbrev pub node_count : List Graph → ℕ
node_count = sum_by (λ graph. graph_size (seen_graph graph))
