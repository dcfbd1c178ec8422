-- Trees and graphs whose choices have arms.
use Rattle.std.specs.Prelude.{ℕ, ◌≡◌, List, Some, slice_get}
use Rattle.control_flow_theory.specs.language.Language.{Picker}
use Rattle.control_flow_theory.specs.semantics.Graph.{Tree, Trees, no_more, more}
use Rattle.control_flow_theory.specs.graph_rules.EachTree.{EachTree, EachNode}
use Rattle.control_flow_theory.specs.graph_rules.Reduced.{Node}
use Rattle.branch_tree.specs.Graph.{seen_graph}
use Rattle.branch_tree.specs.declared.graph.Graph as code
use Rattle.procedure_split.specs.split_depth.Arms.{ChoiceHasArms}

-- there is a tree
abbrev pub SomeTree : Trees → Type 0
SomeTree no_more = ⊥
SomeTree (more first others) = Unit {0}

-- a choice at an end has a tree
abbrev pub PickHasArms : Picker → Trees → Type 0
PickHasArms picker trees = SomeTree trees

-- each choice of a tree's body has the arms that it has for certain, and each at an end has one
abbrev pub TreeHasArms : Tree → Type 0
TreeHasArms t = EachTree ChoiceHasArms PickHasArms t

-- the same of the tree of each node
abbrev pub NodesHaveArms : List Node → Type 0
NodesHaveArms nodes = EachNode ChoiceHasArms PickHasArms nodes

-- each choice in these graphs has its arms
abbrev pub GraphsHaveArms : List code.Graph → Type 0
GraphsHaveArms graphs = (at : ℕ) (graph : code.Graph) → slice_get graphs at ≡ Some graph →
    NodesHaveArms (seen_graph graph).nodes
