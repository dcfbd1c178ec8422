use Rattle.std.proofs.Common.{◌≡◌, take}
use Rattle.front_end_tests.proofs.nested.+copy_node.Given as goal

abbrev pub invariant-loop-node : goal.invariant-loop-node
invariant-loop-node l = l.copies ≡ take l.node-index l.node-items
