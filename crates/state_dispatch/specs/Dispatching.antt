-- How all nodes but one go.
use Rattle.std.specs.Prelude.{◌≡◌, true, if◌then◌else◌, ◌==◌, List, [], ◌∷◌}
use Rattle.control_flow_theory.specs.semantics.Graph.{Label, Tree}
use Rattle.control_flow_theory.specs.graph_rules.Reduced.{Node, has_node, tree_in, with_tree, without, all_leaves_to}
use Rattle.graph_rewriting.specs.Rewriting.{bare}

-- only this node
abbrev pub one_node : Label → Tree → List Node
one_node label t = record { label = label; tree = t } ∷ []

-- the nodes once the trees at the labels came out
abbrev pub all_taken : List Label → List Node → List Node
all_taken [] nodes = nodes
all_taken (label ∷ labels) nodes = all_taken labels (with_tree label bare nodes)

-- these trees, in the order of the labels
abbrev pub taken_trees : List Label → List Node → List Tree
taken_trees [] nodes = []
taken_trees (label ∷ labels) nodes =
    if has_node nodes label
    then tree_in nodes label ∷ taken_trees labels (with_tree label bare nodes)
    else taken_trees labels nodes

-- the node at the label can go: its tree is bare, and no leaf jumps to it
pub record MayGo (label : Label) (nodes : List Node) : Type 0 where
  -- there is a node at the label
  pub has : has_node nodes label ≡ true
  pub is_bare : tree_in nodes label ≡ bare
  -- no leaf jumps to it
  pub unused : all_leaves_to label nodes ≡ 0

-- where the nodes at the labels go, but the entry's, only that is left, and is bare
abbrev pub Clears : Label → List Label → List Node → Type 0
Clears entry [] nodes = nodes ≡ one_node entry bare
Clears entry (label ∷ labels) nodes = MayGo label nodes
    × Clears entry labels (if label == entry then nodes else without label nodes)
