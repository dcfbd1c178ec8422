use Rattle.std.proofs.Common.{◌≡◌, ◌+◌, ◌≤◌, ◌++◌, length}
use Rattle.std.specs.VecDeque.{deque_len, deque_capacity}
use Rattle.branch_tree.proofs.changes.move_before.Given as goal

abbrev pub invariant-loop-piece : goal.invariant-loop-piece
invariant-loop-piece l = record {
  pieces : l.first.items ++ l.body.items ≡ l.fn.first.items ++ l.fn.body.items;
  room : deque_len l.first + deque_len l.body ≤ deque_capacity l.body;
}

abbrev pub decreases-loop-piece : goal.decreases-loop-piece
decreases-loop-piece l = length l.first.items
