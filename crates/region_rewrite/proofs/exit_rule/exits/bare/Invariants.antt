use Rattle.std.proofs.Common.{◌≡◌, ◌+◌, ◌≤◌, ◌++◌, map, drop, length}
use Rattle.std.specs.Vec.{vec_len, vec_capacity}
use Rattle.branch_tree.specs.Tree.{seen_tree}
use Rattle.region_rewrite.specs.exit_rule.Exits.{jump_trees}
use Rattle.region_rewrite.proofs.exit_rule.exits.bare.Given as goal

abbrev pub invariant-loop-target : goal.invariant-loop-target
invariant-loop-target l = record {
  so : map seen_tree l.trees.items ++ jump_trees (drop l.target-index l.targets) ≡ jump_trees l.targets;
  len : vec_len l.trees ≡ l.target-index;
  enough : length l.targets + 1 ≤ vec_capacity l.trees;
}
