use Rattle.std.proofs.Common.{◌≡◌, [], drop, map, length}
use Rattle.branch_tree.specs.Graph.{seen_added}
use Rattle.added_items.specs.item_table.Assignment.{AreHeld, AreWithin}
use Rattle.added_items.specs.item_table.Owners.{each_once, owner_of}
use Rattle.added_items.proofs.item_table.assignment.assign_items.Given as goal

abbrev pub invariant-loop-place : goal.invariant-loop-place
invariant-loop-place l = record {
  size : length l.holding.numbers.items ≡ length l.kinds;
  held : AreHeld l.holding.held l.holding.numbers.items;
  within : AreWithin (length l.kinds) (drop l.place-index l.places);
  once :
      each_once l.holding.held (map (owner_of (map seen_added l.kinds)) (drop l.place-index l.places))
      ≡ each_once [] (map (owner_of (map seen_added l.kinds)) l.places);
}
