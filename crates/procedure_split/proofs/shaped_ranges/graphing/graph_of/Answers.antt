use Rattle.std.proofs.Common.{subst}
use Rattle.flow_graph.specs.Counts.{IsLoweredWithin}
use Rattle.procedure_split.proofs.shaped_ranges_lemmas.GraphRows.{closed-graph, numbered-few, numbered-graph}
use Rattle.procedure_split.proofs.shaped_ranges_lemmas.SmallGraphs.{small-graph}
use Rattle.procedure_split.proofs.shaped_ranges.graphing.graph_of.Goals as goal

pub returns-in-Ok-clause-graph : goal.returns-in-Ok-clause-graph
returns-in-Ok-clause-graph c =
    let context = c.args.context.now in
    let spots = c.args.spots.now in
    let range = c.args.range in
    let new = c.number_counters.new.graph in
    let within = subst (IsLoweredWithin context spots range c.args.most) c.in-Some.is
    c.in_ok-lower_within.ensures.graph in (
      numbered-graph context spots range c.in-Some.graph new within.0 c.in-Ok.ensures.placed,
      numbered-few context spots range c.in-Some.graph new c.args.most c.requires.range within.0
          within.1 c.in-Ok.ensures.placed,
    )

pub returns-in-Ok-clause-ready : goal.returns-in-Ok-clause-ready
returns-in-Ok-clause-ready c =
    let context = c.args.context.now in
    let spots = c.args.spots.now in
    let range = c.args.range in
    let within = subst (IsLoweredWithin context spots range c.args.most) c.in-Some.is
    c.in_ok-lower_within.ensures.graph in
    let new = c.number_counters.new.graph in
    let few = numbered-few context spots range c.in-Some.graph new c.args.most c.requires.range within.0
    within.1 c.in-Ok.ensures.placed in (
      closed-graph context spots range c.in-Some.graph new c.requires.range within.0
          c.in-Ok.ensures.closed,
      small-graph c.in-Some.graph new c.args.most c.in-Ok.ensures.numbered few c.requires.few,
    )
