-- How large graphs are: labels, and statements. A choice at the end of a tree is no statement.
use Rattle.std.specs.Prelude.{ℕ, ◌+◌, sum_by}
use Rattle.control_flow_theory.specs.semantics.Graph.{Tree, tree, End, Pick, Jump, Return, Stop, Dead, Trees, no_more, more}
use Rattle.control_flow_theory.specs.lowering.Completes.{sizes}
use Rattle.control_flow_theory.specs.graph_rules.Reduced.{Node, Graph}

-- the statements of a tree, with those of the arms at its end
abbrev mutual
  pub tree_size : Tree → ℕ
  tree_size (tree body end) = sizes body + end_size end

  -- the size of the arms of an end
  pub end_size : End → ℕ
  end_size (Pick picker arms) = trees_size arms
  end_size (Jump to) = 0
  end_size Return = 0
  end_size Stop = 0
  end_size Dead = 0

  -- those of these trees
  pub trees_size : Trees → ℕ
  trees_size no_more = 0
  trees_size (more first others) = tree_size first + trees_size others

-- how large a node is: one for the label, and the statements of its tree
abbrev pub node_size : Node → ℕ
node_size node = 1 + tree_size node.tree

-- the labels and statements of a graph
abbrev pub graph_size : Graph → ℕ
graph_size graph = sum_by node_size graph.nodes
