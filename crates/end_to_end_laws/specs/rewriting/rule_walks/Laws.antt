-- What each rule keeps, by what the call that applies it answers and leaves.
use Rattle.std.specs.Prelude.{◌≡◌, Bool, Result, OnOk, OnErr}
use Rattle.cob_base.specs.declared.memory.NoMemory.{NoMemory}
use Rattle.control_flow_theory.specs.semantics.Graph.{Label, Tree}
use Rattle.control_flow_theory.specs.graph_rules.Reduced.{Graph, tree_in, with_tree}
use Rattle.control_flow_theory.specs.structuring.Closes.{dispatch_graph}
use Rattle.tree_rules.specs.Inlining.{Inlines}
use Rattle.tree_rules.specs.Joining.{JoinsAll, JoinsAt}
use Rattle.loop_rules.specs.Nodes.{CloseLoop}
use Rattle.region_rewrite.specs.exit_rule.Exits.{CloseExits}
use Rattle.end_to_end_laws.specs.rewriting.Families.{KeepsWalks}

-- the graph with this tree at the label
abbrev pub with_node : Label → Tree → Graph → Graph
with_node label new graph = record {
  entry = graph.entry;
  nodes = with_tree label new graph.nodes;
  added = graph.added;
}

-- Join of the choices of a tree
abbrev pub JoinedTreesKeepWalks : Type 0 → Type 0 → Type 0
JoinedTreesKeepWalks Memory Left =
    (answer : Result Bool NoMemory) (label : Label) (old : Graph) (new : Tree) →
    JoinsAll answer (tree_in old.nodes label) new →
    KeepsWalks Memory Left old (with_node label new old)

-- Join of the choices of the tree at a label
abbrev pub JoinKeepsWalks : Type 0 → Type 0 → Type 0
JoinKeepsWalks Memory Left =
    (answer : Result Bool NoMemory) (label : Label) (old new : Graph) →
    JoinsAt answer label old new → KeepsWalks Memory Left old new

-- Inline of the node at a label
abbrev pub InlineKeepsWalks : Type 0 → Type 0 → Type 0
InlineKeepsWalks Memory Left =
    (answer : Result Bool NoMemory) (label : Label) (old new : Graph) →
    Inlines answer label old new → KeepsWalks Memory Left old new

-- Loop on the node at a label
abbrev pub LoopKeepsWalks : Type 0 → Type 0 → Type 0
LoopKeepsWalks Memory Left =
    (answer : Result Bool NoMemory) (label : Label) (old new : Graph) →
    CloseLoop answer label old new → KeepsWalks Memory Left old new

-- Exits on the node at a label
abbrev pub ExitsKeepWalks : Type 0 → Type 0 → Type 0
ExitsKeepWalks Memory Left =
    (answer : Result Bool NoMemory) (label : Label) (old new : Graph) →
    CloseExits answer label old new → KeepsWalks Memory Left old new

-- the dispatch, which without memory leaves the graph
abbrev pub DispatchKeepsWalks : Type 0 → Type 0 → Type 0
DispatchKeepsWalks Memory Left =
    (answer : Result (Unit {0}) NoMemory) (old new : Graph) →
    OnOk answer (new ≡ dispatch_graph old) → OnErr answer (new ≡ old) →
    KeepsWalks Memory Left old new
