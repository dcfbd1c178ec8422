use Rattle.std.proofs.Common.{◌++◌, ap, sym, ◌∙◌}
use Rattle.control_flow_theory.specs.semantics.Graph as graph
use Rattle.branch_tree.specs.Changes.{gone_on}
use Rattle.branch_tree.specs.Tree.{seen_tree, seen_body, seen_end}
use Rattle.branch_tree.proofs.TreeRows.{seen_tree_is, seen_body-append}
use Rattle.branch_tree.proofs.tree.Tree.append_tree.Goals as goal

pub returns-in-None : goal.returns-in-None
returns-in-None c =
    let body = seen_body c.args.self.now.body.items in
    let parts = c.into_parts-body.ensures in
    seen_tree_is _
    ∙ ap (λ e. graph.tree (seen_body c.end_by.new.self.body.items) (seen_end e)) (c.end_by.ensures.end ∙ parts.end)
    ∙ ap (λ b. graph.tree b (seen_end c.args.by.end))
    (ap (λ v. seen_body v.items) c.end_by.ensures.body
    ∙ ap seen_body c.in-None.ensures.joined
    ∙ ap (λ v. seen_body (c.args.self.now.body.items ++ v.items)) parts.body
    ∙ seen_body-append c.args.self.now.body.items c.args.by.body.items)
    ∙ ap (λ t. gone_on t (graph.tree (seen_body c.args.by.body.items) (seen_end c.args.by.end))) (sym (seen_tree_is c.args.self.now))
    ∙ ap (gone_on (seen_tree c.args.self.now)) (sym (seen_tree_is c.args.by))
