use Rattle.std.proofs.Common.{◌≡◌, ◌≤◌, drop, length}
use Rattle.added_items.specs.item_table.Choices.{AreFirst}
use Rattle.added_items.proofs.item_table.choices.first_choices.Given as goal

abbrev pub invariant-loop-left : goal.invariant-loop-left
invariant-loop-left l = record {
  within : l.left ≤ length l.told;
  size : length l.arms.items ≡ l.count;
  value : AreFirst (drop l.left l.told) l.arms.items;
}

abbrev pub decreases-loop-left : goal.decreases-loop-left
decreases-loop-left l = l.left
