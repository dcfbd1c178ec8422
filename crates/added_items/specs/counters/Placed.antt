-- The graphs of a lowered program: their counters have the places of their loops, and then numbers
-- from 0.
use Rattle.std.specs.Prelude.{◌≡◌, Bool, [], map}
use Rattle.control_flow_theory.specs.language.Language.{Program, Range}
use Rattle.control_flow_theory.specs.semantics.Graph.{Label}
use Rattle.control_flow_theory.specs.graph_rules.Reduced.{Node, Graph}
use Rattle.control_flow_theory.specs.structuring.Closes.{IsClosed}
use Rattle.control_flow_theory.specs.lowering.FlowFacts.{FlowFacts, IsSource}
use Rattle.control_flow_theory.specs.lowering.Lower as lower
use Rattle.control_flow_theory.specs.lowering.Lowered.{nodes_of, lowered}
use Rattle.control_flow_theory.specs.lowering.Reached.{kept_nodes}
use Rattle.control_flow_theory.specs.lowering.WellFormed.{IsRangeOf, AreJustReached}
use Rattle.control_flow_theory.specs.main_theorem.Chain.{lowered_graphs}
use Rattle.control_flow_theory.specs.main_theorem.Numbering.{numbers_by, added_by}

-- a node of lowering as one that the rules reduce
abbrev pub placed_node : lower.Node → Node
placed_node one = record { label = one.key; tree = one.tree }

-- the kept nodes of a range as lowering gives them, without an added item
abbrev pub placed_graph : FlowFacts → Program → Range → (Label → Bool) → Graph
placed_graph told program range keep = record {
  entry = (lowered told program).entry range;
  nodes = map placed_node (kept_nodes keep (nodes_of told program range));
  added = [];
}

-- where the old graph is one of those, the new one is the range's graph that the rules begin with
abbrev pub NumbersPlaced : (old new : Graph) → Type 0
NumbersPlaced old new =
    (told : FlowFacts) (program : Program) (keep : Range → Label → Bool) (range : Range) →
    IsSource told program → old ≡ placed_graph told program range (keep range) →
    new ≡ lowered_graphs told program keep (numbers_by keep program) (added_by keep program) range

-- where the old graph has exactly the nodes that are reached, the new one is closed
abbrev pub ClosesPlaced : (old new : Graph) → Type 0
ClosesPlaced old new =
    (told : FlowFacts) (program : Program) (range : Range) (keep : Label → Bool) →
    IsSource told program → IsRangeOf program range → AreJustReached told program range keep →
    old ≡ placed_graph told program range keep → IsClosed new
