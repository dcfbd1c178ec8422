use Rattle.std.proofs.Common.{◌≡◌, drop}
use Rattle.branch_tree.specs.Graph.{seen_nodes}
use Rattle.state_dispatch.specs.Dispatching.{Clears}
use Rattle.state_dispatch.proofs.dispatching.leave_entry.Given as goal

abbrev pub invariant-loop-label : goal.invariant-loop-label
invariant-loop-label l = record {
  clears : Clears l.fn.work.entry (drop l.label-index l.labels) (seen_nodes l.work.nodes);
  entry : l.work.entry ≡ l.fn.work.entry;
  added : l.work.added ≡ l.fn.work.added;
}
