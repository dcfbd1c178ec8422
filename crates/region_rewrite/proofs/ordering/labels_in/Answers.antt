use Rattle.std.proofs.Common.{◌≤◌, length, arith}
use Rattle.region_rewrite.proofs.SetRows.{labels_none, labels_one_more, labels_all}
use Rattle.region_rewrite.proofs.ordering.labels_in.Goals as goal

pub loop-node-init : goal.loop-node-init
loop-node-init c = labels_none c.args.nodes.now c.new-labels.result

pub loop-node-preserved : goal.loop-node-preserved
loop-node-preserved c =
    labels_one_more c.args.nodes.now c.loop-node.node-index c.node-item.result c.loop-node.labels c.insert.new.self
    c.loop-node-test.true c.node-item.is c.loop-node.invariant c.in_ok-insert.ensures.updates

pub returns : goal.returns
returns c =
    let past : length c.args.nodes.now ≤ c.loop-node.node-index = omega (arith, c.loop-node-test.false) in
    labels_all c.args.nodes.now c.loop-node.node-index c.loop-node.labels past c.loop-node.invariant
