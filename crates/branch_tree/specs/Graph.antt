-- Graphs, seen as the graphs of the theory of control.
use Rattle.std.specs.Prelude.{List, map}
use Rattle.control_flow_theory.specs.graph_rules.Families as families
use Rattle.control_flow_theory.specs.graph_rules.Reduced as reduced
use Rattle.branch_tree.specs.Tree.{seen_tree}
use Rattle.branch_tree.specs.declared.graph.Node.{Node}
use Rattle.branch_tree.specs.declared.graph.Graph.{Graph}
use Rattle.branch_tree.specs.declared.graph.Added.{Added}
use Rattle.branch_tree.specs.declared.graph.Added.TheVariants as added

-- what an added item is for
abbrev pub seen_added : Added → families.Added
seen_added added.Never = families.Never
seen_added added.Flag = families.Flag
seen_added added.Count = families.Count
seen_added added.State = families.State
seen_added added.Exit = families.Exit

-- a node
abbrev pub seen_node : Node → reduced.Node
seen_node node = record { label = node.label; tree = seen_tree node.tree }

-- nodes
abbrev pub seen_nodes : List Node → List reduced.Node
seen_nodes nodes = map seen_node nodes

-- a graph
abbrev pub seen_graph : Graph → reduced.Graph
seen_graph graph = record {
  entry = graph.entry;
  nodes = seen_nodes graph.nodes.items;
  added = map seen_added graph.added.items;
}
