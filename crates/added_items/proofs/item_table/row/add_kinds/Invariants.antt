use Rattle.std.proofs.Common.{◌≡◌, ◌++◌, drop}
use Rattle.added_items.proofs.item_table.row.add_kinds.Given as goal

abbrev pub invariant-loop-kind : goal.invariant-loop-kind
invariant-loop-kind l = l.kinds ++ drop l.kind-index l.added ≡ l.fn.kinds ++ l.added
