use Rattle.procedure_split.proofs.shaped_ranges_lemmas.GraphRows.{lowered-ranges, ranges-in}
use Rattle.procedure_split.proofs.shaped_ranges.graphing.lower_ranges.Goals as goal

pub graphs_of-requires-clause-ranges : goal.graphs_of-requires-clause-ranges
graphs_of-requires-clause-ranges c = (
  c.args.program.now,
  ranges-in _ c.as_slice-3.result.now c.in_ok-spots.spots.items c.as_slice-4.result.now
      c.args.plan.now.order c.args.program.now c.in_ok-layout.ensures c.in_ok-spots.ensures
      c.as_slice-3.ensures.value c.as_slice.ensures c.requires.items c.requires.paragraphs
      c.as_slice-4.ensures c.requires.ranges,
)

pub returns-clause-lowered : goal.returns-clause-lowered
returns-clause-lowered c =
    lowered-ranges _ c.as_slice-3.result.now c.as_slice-4.result.now c.args.program.now
    (ranges-in _ c.as_slice-3.result.now c.in_ok-spots.spots.items c.as_slice-4.result.now
    c.args.plan.now.order c.args.program.now c.in_ok-layout.ensures c.in_ok-spots.ensures
    c.as_slice-3.ensures.value c.as_slice.ensures c.requires.items c.requires.paragraphs
    c.as_slice-4.ensures c.requires.ranges)
    c.args.program.now.files c.args.plan.now.returning c.args.plan.now.order c.as_slice.ensures
    c.as_slice-2.ensures c.as_slice-4.ensures c.graphs_of.result c.graphs_of.ensures.lowered
