-- What a graph that is rewritten holds, and the graph that it is.
use Rattle.std.specs.Prelude.{ℕ, List, map}
use Rattle.std.specs.Global.{Vec}
use Rattle.control_flow_theory.specs.graph_rules.Reduced as reduced
use Rattle.branch_tree.specs.Graph.{seen_nodes, seen_added}
use Rattle.branch_tree.specs.declared.graph.Node.{Node}
use Rattle.branch_tree.specs.declared.graph.Added.{Added}

-- an entry, nodes in the order of their labels, and added items as they were made, in a vector
-- whose room is seen
pub record Held : Type 0 where
  pub entry : ℕ
  pub nodes : List Node
  pub added : Vec Added

-- the graph of the theory
abbrev pub seen_work : Held → reduced.Graph
seen_work held = record {
  entry = held.entry;
  nodes = seen_nodes held.nodes;
  added = map seen_added held.added.items;
}
