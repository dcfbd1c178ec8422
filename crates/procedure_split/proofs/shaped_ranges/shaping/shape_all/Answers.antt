use Rattle.procedure_split.proofs.shaped_ranges_lemmas.ShapedRows.{ready-next, shaped-to, so-far-more, too-deep}
use Rattle.procedure_split.proofs.shaped_ranges.shaping.shape_all.Goals as goal

pub shape-requires-clause-closed : goal.shape-requires-clause-closed
shape-requires-clause-closed c =
    (ready-next c.args.graphs.items c.loop-graph.left.items c.pop.new.self.items c.in-Some.graph
    c.loop-graph.made.items c.loop-graph.invariant c.in-Some.ensures.items c.requires).0

pub shape-requires-clause-small : goal.shape-requires-clause-small
shape-requires-clause-small c =
    (ready-next c.args.graphs.items c.loop-graph.left.items c.pop.new.self.items c.in-Some.graph
    c.loop-graph.made.items c.loop-graph.invariant c.in-Some.ensures.items c.requires).1

pub returns-in-Err : goal.returns-in-Err
returns-in-Err c =
    too-deep c.args.graphs.items c.loop-graph.left.items c.pop.new.self.items c.in-Some.graph
    c.loop-graph.made.items c.loop-graph.invariant c.in-Some.ensures.items c.in-Err.fault
    c.in-Err.ensures.shaped

pub loop-graph-preserved : goal.loop-graph-preserved
loop-graph-preserved c =
    let added = c.in-Ok-push_closed.ensures in
    so-far-more c.args.graphs.items c.loop-graph.left.items c.pop.new.self.items c.in-Some.graph
    c.loop-graph.made.items c.loop-graph.invariant c.in-Some.ensures.items added.0
    (shaped-to c.in-Some.graph c.in-Ok.shaped added.0 c.in-Ok.ensures.shaped added.2)
    c.push_closed.new.made.items added.1
