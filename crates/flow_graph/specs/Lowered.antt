-- The graph of a range, as lowering has it.
use Rattle.std.specs.Prelude.{ℕ, ◌≡◌, Bool, List, [], ◌∷◌, ◌++◌, map, All}
use Rattle.control_flow_theory.specs.language.Language as language
use Rattle.control_flow_theory.specs.semantics.Graph as graph
use Rattle.control_flow_theory.specs.graph_rules.Reduced as reduced
use Rattle.control_flow_theory.specs.lowering.FlowFacts.{FlowFacts}
use Rattle.control_flow_theory.specs.lowering.Lower as lower
use Rattle.control_flow_theory.specs.lowering.Lowered.{lowered, nodes_of}
use Rattle.control_flow_theory.specs.lowering.Reached.{kept_nodes}
use Rattle.control_flow_theory.specs.lowering.WellFormed.{AreJustReached}
use Rattle.branch_tree.specs.Graph.{seen_graph, seen_nodes}
use Rattle.branch_tree.specs.declared.graph.Graph.{Graph}
use Rattle.branch_tree.specs.declared.graph.Node.{Node}
use Rattle.branch_tree.specs.declared.tree.Tree.{Tree}
use Rattle.cob_tree.specs.declared.program.Program as source
use Rattle.cob_tree.specs.declared.program.Range as code
use Rattle.control_flow_theory.specs.language.Control.{control_of}
use Rattle.lowering_labels.specs.points.FallThrough.{seen_range}
use Rattle.statement_lowering.specs.LowerList.{flow_facts_by}
use Rattle.statement_lowering.specs.declared.context.LoweringContext.{LoweringContext}
use Rattle.statement_lowering.specs.declared.continuations.continuation.Continuation.{Continuation}
use Rattle.flow_graph.specs.label_trees.Node.{IsNodeIn, IsTableOf, node_in}
use Rattle.flow_graph.specs.Reaching.{IsRangeIn}

-- a node of lowering as one that the rules reduce
abbrev pub node_of : lower.Node → reduced.Node
node_of one = record { label = one.key; tree = one.tree }

-- the nodes of a range that are kept, from its entry; no item is added. Counter cells have the
-- places of their loops
abbrev pub lowered_graph : FlowFacts → language.Program → language.Range → (graph.Label → Bool) →
    reduced.Graph
lowered_graph told program range keep = record {
  entry = (lowered told program).entry range;
  nodes = map node_of (kept_nodes keep (nodes_of told program range));
  added = [];
}

-- it is the graph of exactly the nodes that are reached
abbrev pub IsLowered : FlowFacts → language.Program → language.Range → Graph → Type 0
IsLowered told program range made =
    (keep : graph.Label → Bool) × AreJustReached told program range keep
    × (seen_graph made ≡ lowered_graph told program range keep)

-- it is the graph of the range, whatever the program
abbrev pub IsLoweredIn : LoweringContext → List Continuation → code.Range → Graph → Type 0
IsLoweredIn telling spots range made =
    (program : source.Program) → IsRangeIn telling spots range program →
    IsLowered (flow_facts_by telling) (control_of program) (seen_range range) made

-- a node with this label
abbrev pub node_with : ℕ → Tree → Node
node_with label tree = record { label = label; tree = tree }

-- it is the node at the label
abbrev pub IsMade : LoweringContext → List Continuation → code.Range → Node → Type 0
IsMade telling spots range node = IsNodeIn telling spots range node.label node.tree

-- one more node, at this label
abbrev pub AddsNode : LoweringContext → List Continuation → code.Range → ℕ →
    (before after : List Node) → Type 0
AddsNode telling spots range label before after =
    (tree : Tree) × IsNodeIn telling spots range label tree
    × (after ≡ before ++ node_with label tree ∷ [])

-- these are the nodes at the labels, in their order
pub record AreMade (telling : LoweringContext) (spots : List Continuation) (range : code.Range)
    (labels : List ℕ)
    (nodes : List Node) : Type 0 where
  -- the nodes have these labels, in this order
  pub order : map (λ node. node.label) nodes ≡ labels
  -- each is the node at its label
  pub trees : All (IsMade telling spots range) nodes

-- the node at this label
abbrev pub node_by : (graph.Label → graph.Tree) → graph.Label → reduced.Node
node_by trees label = record { label = label; tree = trees label }

-- the nodes are those of the range at these labels, in any program of which it is the table
abbrev pub AreNodesAt : LoweringContext → List Continuation → code.Range → List ℕ → List Node →
    Type 0
AreNodesAt telling spots range labels nodes =
    (program : source.Program) → IsTableOf telling spots program →
    seen_nodes nodes ≡ map (node_by (node_in telling program range)) labels
