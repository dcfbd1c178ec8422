-- The trees of nodes.
use Rattle.std.specs.Prelude.{ℕ, false, List, [], ◌∷◌}
use Rattle.control_flow_theory.specs.language.Language.{ByCell, none}
use Rattle.control_flow_theory.specs.semantics.Graph.{Tree, tree, Pick, Trees}
use Rattle.control_flow_theory.specs.graph_rules.Reduced.{Node}
use Rattle.branch_tree.specs.declared.chooser.Test.TheVariants as test
use Rattle.branch_tree.specs.declared.tree.Leaves.TheVariants as leaves
use Rattle.loop_rules.specs.declared.forms.Turning.{Turning}

-- the trees of these nodes
abbrev pub node_trees : List Node → List Tree
node_trees [] = []
node_trees (node ∷ nodes) = node.tree ∷ node_trees nodes

-- the choice among trees by the state
abbrev pub choice_of : ℕ → Trees → Tree
choice_of state arms = tree none (Pick (ByCell state) arms)

-- the loop until the state is 0
abbrev pub state_loop : ℕ → List ℕ → Turning
state_loop state labels = record {
  after = false;
  turned = false;
  test = test.Is state 0;
  leaves = leaves.State state labels;
}
