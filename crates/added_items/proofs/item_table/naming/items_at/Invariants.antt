use Rattle.std.proofs.Common.{◌≡◌, ◌++◌, drop, map}
use Rattle.branch_tree.specs.Graph.{seen_added}
use Rattle.added_items.specs.item_table.Owners.{kind_in}
use Rattle.added_items.specs.item_table.Naming.{all_from_one, entries_from, item_kind, seen_item}
use Rattle.added_items.proofs.item_table.naming.items_at.Given as goal

abbrev pub invariant-loop-place : goal.invariant-loop-place
invariant-loop-place l = record {
  entries : map seen_item l.items
      ++ entries_from l.words l.next (map (kind_in (map seen_added l.kinds)) (drop l.place-index l.held))
      ≡ entries_from l.words all_from_one (map (kind_in (map seen_added l.kinds)) l.held);
  kinds : map item_kind l.items
      ++ map (kind_in (map seen_added l.kinds)) (drop l.place-index l.held)
      ≡ map (kind_in (map seen_added l.kinds)) l.held;
}
