use Rattle.std.proofs.Common.{◌/◌, length, sym, subst, arith}
use Rattle.flow_graph.specs.Jumps.{AddsThose}
use Rattle.flow_graph.specs.Reaching.{NodeJumpsBelow}
use Rattle.pending_returns.specs.levels.Reach.{AllPlaces, Holds}
use Rattle.flow_graph.proofs.range_sizes_lemmas.Alike.{goes-read}
use Rattle.flow_graph.proofs.range_sizes_lemmas.KeptRows.{own-part}
use Rattle.flow_graph.proofs.range_sizes_lemmas.PartRows.{part-adds, part-below, part-size}
use Rattle.flow_graph.proofs.range_sizes.visiting.visit_label.Goals as goal

pub part_at-requires-clause-goes : goal.part_at-requires-clause-goes
part_at-requires-clause-goes c =
    goes-read c.args.spots.now c.args.range (c.args.label / 3) c.passing_of-passing.result
    c.index-spots-label.result (omega (arith, c.requires.there)) c.passing_of-passing.ensures

pub part_at-requires-clause-below : goal.part_at-requires-clause-below
part_at-requires-clause-below c =
    subst (NodeJumpsBelow c.args.telling.now c.args.spots.now c.args.range c.args.label)
    c.requires.size c.requires.below

pub visit_labels-requires-clause-below : goal.visit_labels-requires-clause-below
visit_labels-requires-clause-below c =
    let telling = c.args.telling.now in
    let spots = c.args.spots.now in
    let label = c.args.label in
    let part = c.in_ok-part.part in
    let read = c.index.result.now in
    let goes = goes-read spots c.args.range (label / 3) c.passing_of-passing.result
    c.index-spots-label.result (omega (arith, c.requires.there)) c.passing_of-passing.ensures in
    let own = own-part telling spots c.part_at.new.known.jumps.items c.args.range label
    c.passing_of-passing.result part read c.in_ok-part.ensures.part goes c.index.ensures in
    subst (AllPlaces (length c.args.reach.now.marks.items)) (sym c.as_slice.ensures.value)
    (part-below telling spots c.args.range label (length c.args.reach.now.marks.items) part.size
    read.labels.items own c.requires.below)

pub returns-clause-adds : goal.returns-clause-adds
returns-clause-adds c =
    let telling = c.args.telling.now in
    let spots = c.args.spots.now in
    let label = c.args.label in
    let part = c.in_ok-part.part in
    let read = c.index.result.now in
    let old = c.args.reach.now.places.items in
    let new = c.visit_labels.new.reach.places.items in
    let goes = goes-read spots c.args.range (label / 3) c.passing_of-passing.result
    c.index-spots-label.result (omega (arith, c.requires.there)) c.passing_of-passing.ensures in
    let own = own-part telling spots c.part_at.new.known.jumps.items c.args.range label
    c.passing_of-passing.result part read c.in_ok-part.ensures.part goes c.index.ensures in
    part-adds telling spots c.args.range label part.size read.labels.items old new own
    (subst (λ l. AddsThose (Holds l) old new) c.as_slice.ensures.value
    c.in_ok-visit_labels.ensures.adds)

pub returns-clause-size : goal.returns-clause-size
returns-clause-size c =
    let telling = c.args.telling.now in
    let spots = c.args.spots.now in
    let label = c.args.label in
    let part = c.in_ok-part.part in
    let read = c.index.result.now in
    let goes = goes-read spots c.args.range (label / 3) c.passing_of-passing.result
    c.index-spots-label.result (omega (arith, c.requires.there)) c.passing_of-passing.ensures in
    let own = own-part telling spots c.part_at.new.known.jumps.items c.args.range label
    c.passing_of-passing.result part read c.in_ok-part.ensures.part goes c.index.ensures in
    part-size telling spots c.args.range label part.size read.labels.items own
