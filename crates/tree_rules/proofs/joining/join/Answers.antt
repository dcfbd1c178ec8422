use Rattle.std.proofs.Common.{ap, ◌∙◌}
use Rattle.branch_tree.specs.Tree.{seen_tree}
use Rattle.control_flow_theory.specs.graph_rules.Shapes.{joined}
use Rattle.tree_rules.specs.Joining.{may_join}
use Rattle.tree_rules.proofs.JoinRows.{joins_by}
use Rattle.tree_rules.proofs.joining.join.Goals as goal

pub returns : goal.returns
returns c =
    let same = c.make_room.ensures.same in
    joins_by c.join_all.result (seen_tree c.args.tree.now) (seen_tree c.join_all.new.tree)
    (c.join_all.ensures.joins ∙ ap may_join same) (c.join_all.ensures.tree ∙ ap joined same)
