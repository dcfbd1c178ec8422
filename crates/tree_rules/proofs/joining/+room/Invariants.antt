use Rattle.std.proofs.Common.{◌≡◌, map}
use Rattle.std.specs.List.{AllWithin}
use Rattle.branch_tree.specs.Tree.{seen_tree}
use Rattle.tree_rules.specs.Rooms.{HasRoom}
use Rattle.tree_rules.proofs.joining.+room.Given as goal

abbrev pub invariant-make_room_in-loop-at : goal.invariant-make_room_in-loop-at
invariant-make_room_in-loop-at l = record {
  same : map seen_tree l.arms ≡ map seen_tree l.fn.arms;
  room : AllWithin HasRoom l.arms 0 l.at;
  unvisited : goal.unvisited-make_room_in-loop-at l;
}
