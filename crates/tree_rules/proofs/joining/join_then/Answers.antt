use Rattle.std.proofs.Common.{ap, ◌∙◌}
use Rattle.control_flow_theory.specs.semantics.Graph as graph
use Rattle.control_flow_theory.specs.graph_rules.Shapes.{followed, alone}
use Rattle.branch_tree.specs.Tree.{seen_body, seen_end}
use Rattle.branch_tree.proofs.TreeRows.{seen_tree_is, seen_body-append, seen_choose}
use Rattle.tree_rules.proofs.joining.join_then.Goals as goal

pub returns : goal.returns
returns c =
    let body = seen_body c.args.tree.now.body.items in
    seen_tree_is _
    ∙ ap (λ e. graph.tree (seen_body c.end_by.new.self.body.items) (seen_end e)) c.end_by.ensures.end
    ∙ ap (λ b. graph.tree b (seen_end c.args.end))
    (ap (λ v. seen_body v.items) c.end_by.ensures.body
    ∙ ap seen_body c.push_back_reserved.ensures.items
    ∙ seen_body-append c.args.tree.now.body.items _
    ∙ ap (λ s. followed body (alone s)) (seen_choose c.args.by c.args.arms))
