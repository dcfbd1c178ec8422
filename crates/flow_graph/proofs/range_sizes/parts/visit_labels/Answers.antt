use Rattle.std.proofs.Common.{◌≤◌, ◌<◌, ◌∙◌, length, get_or, arith}
use Rattle.std.proofs.lemmas.Option.{slice_get-get_or}
use Rattle.flow_graph.proofs.range_sizes_lemmas.PartRows.{added-all, added-more}
use Rattle.flow_graph.proofs.range_sizes.parts.visit_labels.Goals as goal

pub visit-requires-clause-room : goal.visit-requires-clause-room
visit-requires-clause-room c =
    let labels = c.args.labels.now in
    let index = c.loop-label.label-index in
    let there = slice_get-get_or labels index 0 c.loop-label-test.true in
    let lt : get_or labels index 0 < length c.args.reach.now.marks.items =
    c.requires.below (get_or labels index 0) (index, there) in
    omega (arith, lt, c.loop-label.invariant.size)

pub loop-label-preserved : goal.loop-label-preserved
loop-label-preserved c =
    let labels = c.args.labels.now in
    let index = c.loop-label.label-index in
    record {
      some = added-more labels index (get_or labels index 0) c.args.reach.now.places.items
          c.loop-label.reach.places.items c.visit.new.self.places.items
          (slice_get-get_or labels index 0 c.loop-label-test.true) c.loop-label.invariant.some
          c.in_ok-visit.ensures.adds;
      marked = c.in_ok-visit.ensures.marked;
      size = c.in_ok-visit.ensures.size ∙ c.loop-label.invariant.size;
    }

pub returns-clause-adds : goal.returns-clause-adds
returns-clause-adds c =
    let past : length c.args.labels.now ≤ c.loop-label.label-index =
    omega (arith, c.loop-label-test.false) in
    added-all c.args.labels.now c.loop-label.label-index c.args.reach.now.places.items
    c.loop-label.reach.places.items past c.loop-label.invariant.some
