use Rattle.std.proofs.Common.{◌-◌, ◌^◌, length, min, ap, sym, ◌∙◌, subst}
use Rattle.control_flow_theory.specs.semantics.Graph as graph
use Rattle.flow_graph.specs.Jumps.{AddsJumps, JumpBelow}
use Rattle.flow_graph.specs.graph_sizes.Sizing.{tree_size}
use Rattle.flow_graph.proofs.reaching.visit_node.Goals as goal

pub visit_tree-requires-clause-below : goal.visit_tree-requires-clause-below
visit_tree-requires-clause-below c =
    let b = c.requires.below in
    subst (λ t. JumpBelow (length c.args.reach.now.marks.items) (graph.end_of t)) (sym (c.in_ok-tree.ensures.own b.0 b.1)) b.2

pub returns-in_ok-push_node-in-Ok-clause-adds : goal.returns-in_ok-push_node-in-Ok-clause-adds
returns-in_ok-push_node-in-Ok-clause-adds c = λ program table.
    subst (λ t. AddsJumps (graph.end_of t) c.args.reach.now.places.items c.visit_tree.new.reach.places.items)
    (c.in_ok-tree.ensures.own program table) c.in-Ok.ensures.adds

pub returns-in_ok-push_node-in-Ok-clause-node : goal.returns-in_ok-push_node-in-Ok-clause-node
returns-in_ok-push_node-in-Ok-clause-node c =
    (c.in_ok-tree.tree, c.in_ok-tree.ensures.own, c.in_ok-push_node-in-Ok.ensures)

pub returns-in_ok-push_node-in-Ok-clause-counts : goal.returns-in_ok-push_node-in-Ok-clause-counts
returns-in_ok-push_node-in-Ok-clause-counts c = λ program table.
    c.tree_size-size.ensures
    ∙ ap (λ t. min (tree_size t) (2 ^ 64 - 1)) (c.in_ok-tree.ensures.own program table)
