use Rattle.graph_rewriting.proofs.FillRows.{emptied_next}
use Rattle.graph_rewriting.proofs.filling.empty_slots.Goals as goal

pub loop-node-preserved : goal.loop-node-preserved
loop-node-preserved c =
    emptied_next c.args.nodes.now c.loop-node.node-index c.node-item.result c.loop-node.keys c.add_bare.new.keys
    c.loop-node.slots c.add_bare.new.slots c.loop-node-test.true c.node-item.is c.requires.rising
    c.loop-node.invariant c.in_ok-add_bare.ensures
