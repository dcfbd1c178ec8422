use Rattle.std.proofs.Common.{◌≡◌, ◌+◌, ◌-◌, List, length, take, drop, ap, ◌∙◌, subst}
use Rattle.std.proofs.lemmas.List.{take_rest}
use Rattle.std.specs.Prelude.{IfOk}
use Rattle.cob_tree.specs.declared.program.Range.{Range}
use Rattle.procedure_split.specs.shaped_ranges.Graphing.{IsCountedOn}
use Rattle.procedure_split.proofs.shaped_ranges_lemmas.GraphRows.{at-index, few-yet, past-limit, ready-more, so-far-more}
use Rattle.procedure_split.proofs.shaped_ranges.graphing.graphs_of.Goals as goal

pub overflow_sub-count : goal.overflow_sub-count
overflow_sub-count c =
    few-yet c.args.context.now c.args.spots.now c.args.ranges.now c.loop-at.at
    c.loop-at.graphs.items c.loop-at.count c.loop-at.invariant.so c.requires.ranges

pub loop-at-preserved : goal.loop-at-preserved
loop-at-preserved c =
    let was = c.loop-at.invariant in
    let graph = rw c.in-Ok-Some.field-0-is at c.in-Ok-Some.ensures.graph in
    let is_ready = rw c.in-Ok-Some.field-0-is at c.in-Ok-Some.ensures.ready in
    record {
      so = so-far-more c.args.context.now c.args.spots.now c.args.ranges.now c.loop-at.at
          c.loop-at.graphs.items c.loop-at.count (c.loop-at.count + c.graph_size-count.result) _
          c.in-Ok-Some.graph was.so
          (at-index c.args.ranges.now c.loop-at.at _ c.loop-at-test.true) graph.0 graph.1
          (ap (λ n. c.loop-at.count + n) c.graph_size-count.ensures)
          c.keep_graph.new.graphs.items c.in-Ok.ensures;
      ready = ready-more c.loop-at.graphs.items c.keep_graph.new.graphs.items c.in-Ok-Some.graph
          c.in-Ok.ensures was.ready is_ready;
      marked = c.graph_of.ensures.marked;
      size = c.graph_of.ensures.size ∙ was.size;
    }

pub returns-in-Ok-None-clause-lowered : goal.returns-in-Ok-None-clause-lowered
returns-in-Ok-None-clause-lowered c =
    let others : List Range = drop c.loop-at.at c.args.ranges.now in
    let rest : take (length c.args.ranges.now - c.loop-at.at) others ≡ others =
    take_rest c.args.ranges.now c.loop-at.at in
    let counted =
    subst (λ (l : List Range).
    IfOk c.counted_on-counted.result
    (IsCountedOn c.args.context.now c.args.spots.now l c.loop-at.count)) rest
    c.counted_on-counted.ensures in
    let larger = rw c.in-Ok-None.field-0-is at c.in-Ok-None.ensures.graph in
    past-limit c.args.context.now c.args.spots.now c.args.ranges.now c.loop-at.at
    c.loop-at.graphs.items c.loop-at.count _ c.loop-at.invariant.so
    (at-index c.args.ranges.now c.loop-at.at _ c.loop-at-test.true) larger
    c.counted_on-counted.result counted c.past_limit.result c.past_limit.ensures
