use Rattle.branch_tree.specs.Graph.{seen_graph}
use Rattle.std.proofs.Common.{◌∙◌, arith}
use Rattle.region_rewrite.proofs.StepRows.{joined_closed, joined_fixed, size_is}
use Rattle.region_rewrite.proofs.RoomRows.{begun-nodes, begun-room}
use Rattle.region_rewrite.proofs.ordering.close.Goals as goal

pub prepared-requires : goal.prepared-requires
prepared-requires c =
    let same = size_is c.args.graph.nodes.items in
    let few = c.requires.small.nodes in
    omega (arith, same, few)

pub begun-requires-clause-closed : goal.begun-requires-clause-closed
begun-requires-clause-closed c =
    joined_closed (seen_graph c.args.graph) (seen_graph c.prepared.new.graph) c.in-Ok.ensures.graph c.requires.closed

pub begun-requires-clause-joined : goal.begun-requires-clause-joined
begun-requires-clause-joined c =
    joined_fixed (seen_graph c.args.graph) (seen_graph c.prepared.new.graph) c.in-Ok.ensures.graph

pub reduce-requires-clause-numbered : goal.reduce-requires-clause-numbered
reduce-requires-clause-numbered c =
    begun-nodes (seen_graph c.args.graph) c.in_ok-state.state (c.in_ok-state.ensures.graph ∙ c.in-Ok.ensures.graph) c.requires.small

pub reduce-requires-clause-room : goal.reduce-requires-clause-room
reduce-requires-clause-room c =
    begun-room (seen_graph c.args.graph) c.in_ok-state.state c.in-Ok.most (c.in_ok-state.ensures.graph ∙ c.in-Ok.ensures.graph) c.in-Ok.ensures.most c.requires.small
