use Rattle.std.proofs.Common.{◌≡◌, ◌+◌, ◌≤◌, ◌<◌, true, length}
use Rattle.cob_tree.specs.declared.program.Program.{Program}
use Rattle.cob_tree.specs.declared.program.Range.{Range}
use Rattle.control_flow_theory.specs.lowering.Lower as lower
use Rattle.branch_tree.specs.Tree.{seen_body}
use Rattle.lowering_labels.specs.loop_nodes.Loops.{before}
use Rattle.flow_graph.specs.label_trees.Node.{GoAlikeFrom, IsTableOf, node_in}
use Rattle.flow_graph.proofs.label_trees.node.point_tree.Given as goal

abbrev pub invariant-loop-turn : goal.invariant-loop-turn
invariant-loop-turn l =
    (l.here < length l.spots) × (l.place + l._turn ≤ l.here)
    × ((other : Range) (alike : GoAlikeFrom l.spots l.range other l.place) → (alike.along l.here ≡ true)
    × ((program : Program) → IsTableOf l.telling l.spots program →
    before (seen_body l.body.items) (node_in l.telling program other (lower.point l.here)) ≡ node_in l.telling program other (lower.point l.place)))
