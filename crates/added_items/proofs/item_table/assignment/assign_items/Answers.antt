use Rattle.std.proofs.Common.{map, length, get_or, arith}
use Rattle.std.proofs.lemmas.List.{length-map}
use Rattle.branch_tree.specs.Graph.{seen_added}
use Rattle.added_items.proofs.item_table_lemmas.HoldingLemmas.{within-at}
use Rattle.added_items.proofs.item_table_lemmas.RowLemmas.{holder-within}
use Rattle.added_items.proofs.item_table.assignment.assign_items.Goals as goal

pub hold-requires-clause-within : goal.hold-requires-clause-within
hold-requires-clause-within c =
    let kinds = c.args.kinds.now in
    let place = get_or c.args.places.now c.loop-place.place-index 0 in
    let size = length-map kinds seen_added in
    let within = within-at (length kinds) c.args.places.now c.loop-place.place-index c.loop-place-test.true c.loop-place.invariant.within in
    let held = holder-within (map seen_added kinds) place (omega (arith, within, size)) in
    omega (arith, held, size, c.owner_of.ensures, c.loop-place.invariant.size)
