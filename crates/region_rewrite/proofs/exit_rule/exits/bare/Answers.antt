use Rattle.std.proofs.Common.{◌≤◌, map, length, ap, ◌∙◌, arith}
use Rattle.std.proofs.lemmas.Grind.{common_steps}
use Rattle.branch_tree.specs.Tree.{seen_tree, seen_trees, trees_of}
use Rattle.region_rewrite.proofs.exit_rule_lemmas.ExitRows.{bare_done}
use Rattle.region_rewrite.proofs.exit_rule.exits.bare.Goals as goal

pub returns : goal.returns
returns c =
    let targets = c.args.targets.now in
    let most : length targets ≤ c.loop-target.target-index = grind (arith, common_steps) in
    ap seen_trees c.from_vec.ensures ∙ ap trees_of c.push_return.ensures
    ∙ bare_done (map seen_tree c.loop-target.trees.items) targets c.loop-target.target-index c.args.returns most c.loop-target.invariant.so
