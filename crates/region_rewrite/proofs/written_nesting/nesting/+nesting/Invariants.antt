use Rattle.std.proofs.Common.{◌≡◌, ◌≤◌, ◌-◌, ◌^◌, ◌==◌, min, max, drop, length}
use Rattle.control_flow_theory.specs.graph_rules.Shapes.{arms_stmts}
use Rattle.branch_tree.specs.Choosers.{seen_picker}
use Rattle.branch_tree.specs.Tree.{seen_body, seen_trees}
use Rattle.region_rewrite.specs.written_nesting.Nesting.{nesting, arms_nesting}
use Rattle.branch_tree.specs.Within.{arms_within}
use Rattle.region_rewrite.proofs.written_nesting.nesting.+nesting.Given as goal

abbrev pub invariant-body_nesting-loop-at : goal.invariant-body_nesting-loop-at
invariant-body_nesting-loop-at l =
    max l.deep (min (nesting (seen_body (drop l.at l.body.items))) (2 ^ 32 - 1))
    ≡ min (nesting (seen_body l.body.items)) (2 ^ 32 - 1)

abbrev pub invariant-chosen_nesting-loop-left : goal.invariant-chosen_nesting-loop-left
invariant-chosen_nesting-loop-left l = record {
  within : l.left ≤ length l.arms;
  so :
      l.deep
      ≡ min (arms_nesting (seen_picker l.by) (l.left == 0) (arms_stmts (seen_trees (drop l.left l.arms)))) (2 ^ 32 - 1);
}

abbrev pub decreases-chosen_nesting-loop-left : goal.decreases-chosen_nesting-loop-left
decreases-chosen_nesting-loop-left l = l.left

abbrev pub invariant-arms_nesting-loop-left : goal.invariant-arms_nesting-loop-left
invariant-arms_nesting-loop-left l = record {
  within : l.left ≤ length l.arms;
  so :
      l.deep
      ≡ min (arms_nesting (seen_picker l.by) (l.left == 0) (arms_within l.leaves (seen_picker l.by) l.left (seen_trees (drop l.left l.arms)))) (2 ^ 32 - 1);
}

abbrev pub decreases-arms_nesting-loop-left : goal.decreases-arms_nesting-loop-left
decreases-arms_nesting-loop-left l = l.left
