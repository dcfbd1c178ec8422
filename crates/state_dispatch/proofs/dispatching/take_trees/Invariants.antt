use Rattle.std.proofs.Common.{◌≡◌, ◌≤◌, ◌+◌, ◌++◌, length, map, drop}
use Rattle.std.specs.Vec.{vec_len, vec_capacity}
use Rattle.branch_tree.specs.Graph.{seen_nodes}
use Rattle.branch_tree.specs.Tree.{seen_tree}
use Rattle.state_dispatch.specs.Dispatching.{all_taken, taken_trees}
use Rattle.state_dispatch.proofs.dispatching.take_trees.Given as goal

abbrev pub invariant-loop-label : goal.invariant-loop-label
invariant-loop-label l = record {
  trees : map seen_tree l.trees.items ++ taken_trees (drop l.label-index l.labels) (seen_nodes l.work.nodes)
      ≡ taken_trees l.labels (seen_nodes l.fn.work.nodes);
  nodes : all_taken (drop l.label-index l.labels) (seen_nodes l.work.nodes)
      ≡ all_taken l.labels (seen_nodes l.fn.work.nodes);
  enough : vec_len l.trees + length (drop l.label-index l.labels) ≤ vec_capacity l.trees;
  entry : l.work.entry ≡ l.fn.work.entry;
  added : l.work.added ≡ l.fn.work.added;
}
