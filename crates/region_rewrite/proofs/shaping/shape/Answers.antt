use Rattle.std.proofs.Common.{ap, subst}
use Rattle.branch_tree.specs.Graph.{seen_graph}
use Rattle.region_rewrite.specs.Shaping.{Shapes}
use Rattle.region_rewrite.proofs.ShapeRows.{has_one, plain_of}
use Rattle.region_rewrite.proofs.shaping.shape.Goals as goal

pub one_node-requires : goal.one_node-requires
one_node-requires c =
    has_one (seen_graph c.args.graph) c.requires.closed c.in-Ok.graph.nodes.items (ap (λ g. g.nodes) c.in-Ok.ensures)

pub returns-in-Ok-clause-shaped : goal.returns-in-Ok-clause-shaped
returns-in-Ok-clause-shaped c = subst (Shapes c.one_node.result) c.in-Ok.ensures c.one_node.ensures

pub returns-in-Ok-clause-end : goal.returns-in-Ok-clause-end
returns-in-Ok-clause-end c =
    plain_of (seen_graph c.args.graph) c.requires.closed c.one_node.result (subst (Shapes c.one_node.result) c.in-Ok.ensures c.one_node.ensures)
