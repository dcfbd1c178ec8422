use Rattle.std.proofs.Common.{◌-◌, ◌^◌, length, min, refl, ap, ◌∙◌, subst}
use Rattle.control_flow_theory.specs.semantics.Graph as graph
use Rattle.branch_tree.specs.Tree.{seen_tree}
use Rattle.flow_graph.specs.Jumps.{AddsJumps}
use Rattle.flow_graph.specs.graph_sizes.Sizing.{tree_size}
use Rattle.flow_graph.proofs.range_sizes_lemmas.PartRows.{tree-below}
use Rattle.flow_graph.proofs.range_sizes.visiting.visit_alone.Goals as goal

pub visit_tree-visited-requires-clause-below : goal.visit_tree-visited-requires-clause-below
visit_tree-visited-requires-clause-below c =
    let room = length c.args.reach.now.marks.items in
    tree-below c.args.telling.now c.args.spots.now c.args.range c.args.label room room
    (seen_tree c.in_ok-tree.tree) c.requires.below refl c.in_ok-tree.ensures.own

pub returns-clause-adds : goal.returns-clause-adds
returns-clause-adds c = λ program table.
    subst (λ t. AddsJumps (graph.end_of t) c.args.reach.now.places.items
    c.visit_tree-visited.new.reach.places.items) (c.in_ok-tree.ensures.own program table)
    c.in_ok-visited.ensures.adds

pub returns-clause-size : goal.returns-clause-size
returns-clause-size c = λ program table.
    c.tree_size-size.ensures
    ∙ ap (λ t. min (tree_size t) (2 ^ 64 - 1)) (c.in_ok-tree.ensures.own program table)
