use Rattle.std.proofs.Common.{◌≡◌, length, ap, sym, ◌∙◌}
use Rattle.std.proofs.lemmas.List.{length-map}
use Rattle.branch_tree.specs.Graph.{seen_added}
use Rattle.added_items.specs.item_table.Row.{kinds_of_row}
use Rattle.added_items.specs.item_table.Seen.{seen_ranges}
use Rattle.added_items.proofs.item_table_lemmas.Within.{within-as}
use Rattle.added_items.proofs.item_table.numbering.numbering_of.Goals as goal

pub assign_items-requires-clause-within : goal.assign_items-requires-clause-within
assign_items-requires-clause-within c =
    let ranges = seen_ranges c.args.ranges.now in
    let kinds = c.in_ok-kinds.kinds in
    let row : length kinds ≡ length (kinds_of_row ranges) = sym (length-map kinds seen_added) ∙ ap length c.in_ok-kinds.ensures in
    within-as ranges (length c.as_slice-2.result.now) c.len-2.result c.as_slice-3.result.now
    (c.as_slice-3.ensures ∙ c.in_ok-places.ensures) (c.len-2.ensures ∙ row) (ap length c.as_slice-2.ensures ∙ row)
