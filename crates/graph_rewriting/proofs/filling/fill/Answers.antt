use Rattle.std.proofs.Common.{◌≡◌, length, rules}
use Rattle.branch_tree.specs.Graph.{seen_nodes}
use Rattle.graph_rewriting.proofs.FillRows.{filling_next, filled_all, nothing_left}
use Rattle.graph_rewriting.proofs.filling.fill.Goals as goal

pub loop-node-preserved : goal.loop-node-preserved
loop-node-preserved c =
    filling_next c.loop-node.nodes.items c.pop.new.self.items c.in-Some.node (seen_nodes c.args.nodes.items) c.args.keys.now
    c.loop-node.slots c.fill_at.new.slots
    c.in-Some.ensures.items
    c.loop-node.invariant c.fill_at.ensures

pub returns : goal.returns
returns c =
    let none : length c.loop-node.nodes.items ≡ 0 = search rules in
    filled_all c.loop-node.nodes.items (seen_nodes c.args.nodes.items) c.args.keys.now c.loop-node.slots
    (nothing_left c.loop-node.nodes.items none) c.loop-node.invariant
