use Rattle.std.proofs.Common.{◌∙◌}
use Rattle.procedure_split.proofs.shaped_ranges_lemmas.GraphRows.{at-index, counted-all, counted-more, counted-none}
use Rattle.procedure_split.proofs.shaped_ranges.graphing.counted_on.Goals as goal

pub loop-range-init : goal.loop-range-init
loop-range-init c = record {
  so = counted-none c.args.context.now c.args.spots.now c.args.ranges.now c.args.others
      c.ranges.others.fits;
  known = c.in_ok-known.ensures c.args.context.now;
  marked = c.requires.marked;
  size = c.requires.size;
}

pub range_size-requires-clause-range : goal.range_size-requires-clause-range
range_size-requires-clause-range c =
    let are = c.requires.ranges.1 in (
      c.requires.ranges.0,
      record {
        table = are.table;
        own = are.own c.loop-range.range-index _
            (at-index c.args.ranges.now c.loop-range.range-index _ c.loop-range-test.true);
      },
    )

pub loop-range-preserved : goal.loop-range-preserved
loop-range-preserved c = record {
  so = counted-more c.args.context.now c.args.spots.now c.args.ranges.now c.loop-range.range-index
      c.args.others c.loop-range.count c.in_ok-size.size c.saturating_add-count.result _
      c.loop-range.invariant.so
      (at-index c.args.ranges.now c.loop-range.range-index _ c.loop-range-test.true)
      c.in_ok-size.ensures.size c.saturating_add-count.ensures;
  known = c.in_ok-size.ensures.known;
  marked = c.in_ok-size.ensures.marked;
  size = c.in_ok-size.ensures.marks ∙ c.loop-range.invariant.size;
}

pub returns : goal.returns
returns c =
    counted-all c.args.context.now c.args.spots.now c.args.ranges.now c.loop-range.range-index
    c.args.others c.loop-range.count c.loop-range.invariant.so c.loop-range-test.false
