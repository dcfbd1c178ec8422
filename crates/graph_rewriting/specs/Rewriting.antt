-- What holds of a graph while it is rewritten, and how it changes.
use Rattle.std.specs.Prelude.{◌≡◌, ◌+◌, ◌<◌, ◌^◌, true, false, List, Option, Some, None}
use Rattle.std.specs.Borrow.{Bor}
use Rattle.control_flow_theory.specs.language.Language.{none}
use Rattle.control_flow_theory.specs.semantics.Doing.{is_above}
use Rattle.control_flow_theory.specs.semantics.Graph.{Label, Tree, tree, Dead}
use Rattle.control_flow_theory.specs.structuring.Dispatches.{Rising}
use Rattle.control_flow_theory.specs.graph_rules.Shapes.{leaves_to}
use Rattle.control_flow_theory.specs.graph_rules.Reduced.{Node, Graph, has_node, tree_in, with_tree, all_leaves_to}
use Rattle.branch_tree.specs.Tree.{seen_tree}
use Rattle.branch_tree.specs.Graph.{seen_nodes}
use Rattle.graph_rewriting.specs.Helds.{Held}
use Rattle.branch_tree.specs.declared.graph.Node as code
use Rattle.branch_tree.specs.declared.tree.Tree as code_tree

-- the labels of the graph rise, its entry and each label that a leaf jumps to are labels of nodes,
-- and the leaves to a label can be counted
pub record IsSound (graph : Graph) : Type 0 where
  -- the labels rise
  pub rising : Rising graph.nodes
  -- the entry is a label of a node
  pub entry : has_node graph.nodes graph.entry ≡ true
  -- each label that a leaf jumps to is one of a node
  pub closed : (l : Label) → is_above (all_leaves_to l graph.nodes) ≡ true →
      has_node graph.nodes l ≡ true
  -- the leaves to a label are fewer than 2^32
  pub few : (l : Label) → all_leaves_to l graph.nodes < 2 ^ 32

-- the node at the label, or there is none
abbrev pub NodeAt : Option (Bor code.Node) → List Node → Label → Type 0
NodeAt None nodes label = has_node nodes label ≡ false
NodeAt (Some node) nodes label = (has_node nodes label ≡ true) × (node.now.label ≡ label)
    × (seen_tree node.now.tree ≡ tree_in nodes label)

-- no piece, and dead
abbrev pub bare : Tree
bare = tree none Dead

-- the tree's leaves can be counted beside those of the nodes, and jump to nodes
pub record Fits (t : Tree) (nodes : List Node) : Type 0 where
  -- with those of the tree they are fewer than 2^32
  pub few : (l : Label) → leaves_to l t + all_leaves_to l nodes < 2 ^ 32
  -- each label that its leaves jump to is one of a node
  pub closed : (l : Label) → is_above (leaves_to l t) ≡ true → has_node nodes l ≡ true

-- the nodes are these, and all else is as it was
pub record WithNodes (nodes : List Node) (old new : Held) : Type 0 where
  pub nodes_are : seen_nodes new.nodes ≡ nodes
  pub entry_stays : new.entry ≡ old.entry
  pub added_stays : new.added ≡ old.added

-- the tree at the label comes out, and a bare one is there; or there is no such node
abbrev pub Takes : Option code_tree.Tree → Label → Held → Held → Type 0
Takes None label old new = (has_node (seen_nodes old.nodes) label ≡ false) × (new ≡ old)
Takes (Some t) label old new = (has_node (seen_nodes old.nodes) label ≡ true)
    × (seen_tree t ≡ tree_in (seen_nodes old.nodes) label)
    × WithNodes (with_tree label bare (seen_nodes old.nodes)) old new

-- a leaf of the tree at this label jumps to the label; or none of any tree does
abbrev pub Source : Option Label → List Node → Label → Type 0
Source None nodes label = all_leaves_to label nodes ≡ 0
Source (Some from) nodes label = (has_node nodes from ≡ true)
    × (is_above (leaves_to label (tree_in nodes from)) ≡ true)
