use Rattle.std.proofs.Common.{◌*◌, map, arith, rules}
use Rattle.std.proofs.lemmas.List.Sorted.{IsNonDecreasingBy-from_sort, answers_always}
use Rattle.branch_tree.specs.declared.graph.Graph.{Graph}
use Rattle.flow_graph.specs.Lowered.{IsLoweredIn}
use Rattle.flow_graph.proofs.GraphRows.{begins, is_lowered}
use Rattle.flow_graph.proofs.KeptSums.{within-most}
use Rattle.flow_graph.proofs.MadeRows.{are_nodes, label_of, labels_up, made_moved, made_sorted}
use Rattle.flow_graph.proofs.Reached.{entry_below}
use Rattle.flow_graph.proofs.nodes.lower_within.Goals as goal

pub overflow_mul-begin : goal.overflow_mul-begin
overflow_mul-begin c =
    let telling = c.args.telling.now in
    let spots = c.args.spots.now in
    let some = c.requires.range in
    let place = c.place_of-place.result in
    let begun = begins telling spots c.args.range place c.first_of.result c.first_of.ensures c.place_of-place.ensures in
    let lt = entry_below telling spots c.args.range c.requires.whole some.0 some.1 (place * 3) begun in
    omega (arith, lt, c.requires.whole.count, c.requires.whole.small)

pub reach_from-requires-clause-entry : goal.reach_from-requires-clause-entry
reach_from-requires-clause-entry c = begins c.args.telling.now c.args.spots.now c.args.range c.place_of-place.result c.first_of.result c.first_of.ensures c.place_of-place.ensures

pub returns-in-Ok-false-clause-graph : goal.returns-in-Ok-false-clause-graph
returns-in-Ok-false-clause-graph c = c.in-Ok-false.ensures.larger c.in-Ok-false.field-0-test

pub returns-clause-graph : goal.returns-clause-graph
returns-clause-graph c =
    let telling = c.args.telling.now in
    let spots = c.args.spots.now in
    let range = c.args.range in
    let places = c.reach_from.new.reach.places.items in
    let marks = c.reach_from.new.reach.marks.items in
    let nodes = c.reach_from.new.nodes.items in
    let sorted = c.sort_unstable_by_key.new.self.items in
    let reached = c.in-Ok-true.ensures.reach c.in-Ok-true.field-0-test in
    let made = c.in-Ok-true.ensures.made c.in-Ok-true.field-0-test in
    let within = c.in-Ok-true.ensures.within c.in-Ok-true.field-0-test in
    let moved = c.sort_unstable_by_key.ensures.permutation in
    let up = labels_up sorted (IsNonDecreasingBy-from_sort label_of sorted (c.sort_unstable_by_key.ensures.sorted label_of (answers_always _ _ _ (λ f a r g h. search rules)))) in
    let graph : Graph = record { entry = c.point.result; nodes = c.sort_unstable_by_key.new.self; added = c.new.result } in
    let lowered : IsLoweredIn telling spots range graph =
    is_lowered telling spots range places (map label_of sorted) marks c.reach_from.ensures.marked
    (made_moved telling spots range places nodes sorted moved made) reached up graph
    c.place_of-place.result c.first_of.result c.first_of.ensures c.place_of-place.ensures c.point.ensures
    (are_nodes telling spots range sorted (made_sorted telling spots range places nodes sorted moved made)) c.new.ensures.items in (
      lowered,
      within-most telling spots range places marks c.reach_from.ensures.marked reached within.0
          c.args.most within.1 within.2 c.requires.small c.requires.range graph lowered,
    )
