use Rattle.std.proofs.Common.{◌≡◌, ◌++◌, map, take}
use Rattle.branch_tree.specs.Tree.{seen_tree}
use Rattle.lowering_labels.specs.loop_nodes.Ends.{jump_to}
use Rattle.lowering_labels.proofs.loop_nodes.ends.push_jumps.Given as goal

abbrev pub invariant-loop-number : goal.invariant-loop-number
invariant-loop-number l =
    map seen_tree l.arms
    ≡ map seen_tree l.fn.arms ++ map (jump_to l.layout.places.items l.layout.end) (take l.number-index l.to)
