use Rattle.std.proofs.Common.{◌≡◌, ◌++◌, drop}
use Rattle.control_flow_theory.specs.graph_rules.Shapes.{arms_stmts}
use Rattle.branch_tree.specs.Tree.{seen_body, seen_trees}
use Rattle.added_items.specs.mentions.CellUse.{cell_uses, arms_mentions}
use Rattle.added_items.specs.mentions.Within.{trees_within}
use Rattle.added_items.proofs.mentions.bodies.+add.Given as goal

abbrev pub invariant-add_body-loop-at : goal.invariant-add_body-loop-at
invariant-add_body-loop-at l =
    l.made ++ cell_uses (seen_body (drop l.at l.body.items)) ≡ l.fn.made ++ cell_uses (seen_body l.body.items)

abbrev pub invariant-add_arms-loop-arm : goal.invariant-add_arms-loop-arm
invariant-add_arms-loop-arm l =
    l.made ++ arms_mentions (arms_stmts (seen_trees (drop l.arm-index l.arms)))
    ≡ l.fn.made ++ arms_mentions (arms_stmts (seen_trees l.arms))

abbrev pub invariant-add_within-loop-arm : goal.invariant-add_within-loop-arm
invariant-add_within-loop-arm l =
    l.made ++ trees_within l.leaves (seen_trees (drop l.arm-index l.arms))
    ≡ l.fn.made ++ trees_within l.leaves (seen_trees l.arms)
