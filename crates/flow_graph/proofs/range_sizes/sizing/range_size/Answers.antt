use Rattle.std.proofs.Common.{◌*◌, arith}
use Rattle.flow_graph.proofs.GraphRows.{begins}
use Rattle.flow_graph.proofs.Reached.{entry_below}
use Rattle.flow_graph.proofs.range_sizes_lemmas.GraphSums.{size-in}
use Rattle.flow_graph.proofs.range_sizes.sizing.range_size.Goals as goal

pub overflow_mul-entry : goal.overflow_mul-entry
overflow_mul-entry c =
    let telling = c.args.telling.now in
    let spots = c.args.spots.now in
    let some = c.requires.range in
    let place = c.place_of-entry.result in
    let begun = begins telling spots c.args.range place c.first_of.result c.first_of.ensures
    c.place_of-entry.ensures in
    let lt = entry_below telling spots c.args.range c.requires.whole some.0 some.1 (place * 3)
    begun in
    omega (arith, lt, c.requires.whole.count, c.requires.whole.small)

pub size_from-requires-clause-entry : goal.size_from-requires-clause-entry
size_from-requires-clause-entry c =
    begins c.args.telling.now c.args.spots.now c.args.range c.place_of-entry.result c.first_of.result
    c.first_of.ensures c.place_of-entry.ensures

pub returns-clause-size : goal.returns-clause-size
returns-clause-size c =
    size-in c.args.telling.now c.args.spots.now c.args.range c.size_from.new.reach.places.items
    c.size_from.new.reach.marks.items c.in_ok-size.ensures.marked c.in_ok-size.ensures.reach
    c.in_ok-size.size c.in_ok-size.ensures.counts
