use Rattle.std.proofs.Common.{◌≡◌, map}
use Rattle.control_flow_theory.specs.main_theorem.Numbering.{place_among}
use Rattle.branch_tree.specs.Graph.{seen_node}
use Rattle.added_items.specs.counters.Anew.{node_anew}
use Rattle.added_items.proofs.counters_lemmas.Each.{changed}
use Rattle.added_items.proofs.counters.trees.number_nodes.Given as goal

abbrev pub invariant-loop-at : goal.invariant-loop-at
invariant-loop-at l =
    map seen_node l.nodes ≡ changed seen_node (node_anew (place_among l.cells)) l.at l.fn.nodes
