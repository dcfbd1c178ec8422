use Rattle.std.proofs.Common.{◌≤◌, length, map, ◌∙◌, arith}
use Rattle.std.proofs.lemmas.Grind.{common_steps}
use Rattle.control_flow_theory.specs.main_theorem.Numbering.{place_among}
use Rattle.branch_tree.specs.Graph.{seen_node}
use Rattle.added_items.specs.counters.Anew.{node_anew}
use Rattle.added_items.proofs.counters_lemmas.AnewRows.{nodes-anew}
use Rattle.added_items.proofs.counters_lemmas.Each.{next-changed, all-changed}
use Rattle.added_items.proofs.counters.trees.number_nodes.Goals as goal

pub loop-at-preserved : goal.loop-at-preserved
loop-at-preserved c =
    next-changed seen_node (node_anew (place_among c.args.cells.now)) c.args.nodes.now c.loop-at.nodes
    c.loop-at.at c.index-nodes-at.result c.number_node.new.node
    (grind (arith, common_steps)) c.loop-at.invariant c.in_ok-number_node.ensures

pub returns : goal.returns
returns c =
    let number = place_among c.args.cells.now in
    let nodes = c.args.nodes.now in
    let most : length nodes ≤ c.loop-at.at = grind (arith, common_steps) in
    c.loop-at.invariant ∙ all-changed seen_node (node_anew number) nodes c.loop-at.at most
    ∙ nodes-anew number (map seen_node nodes)
