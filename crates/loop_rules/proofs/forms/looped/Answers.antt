use Rattle.std.proofs.Common.{ap, ◌∙◌}
use Rattle.control_flow_theory.specs.semantics.Graph as graph
use Rattle.control_flow_theory.specs.graph_rules.Shapes.{followed, alone}
use Rattle.branch_tree.specs.Tree.{seen_tree, seen_body, seen_end}
use Rattle.branch_tree.proofs.TreeRows.{seen_tree_is}
use Rattle.loop_rules.specs.Forms.{loop_by}
use Rattle.loop_rules.proofs.forms.looped.Goals as goal

pub returns : goal.returns
returns c =
    seen_tree_is _
    ∙ ap (λ e. graph.tree (seen_body c.put_loop.new.pieces.items) (seen_end e)) (ap (λ x. x.end) c.replace-body.ensures.after)
    ∙ ap (λ b. graph.tree b (seen_end c.args.end))
    (c.put_loop.ensures
    ∙ ap (λ x. followed (seen_body x.body.items) (alone (loop_by c.args.turning (seen_tree c.replace-body.result)))) c.replace-body.ensures.after
    ∙ ap (λ l. followed (seen_body l) (alone (loop_by c.args.turning (seen_tree c.replace-body.result)))) c.from_vec.ensures.items
    ∙ ap (λ b. followed (seen_body c.args.before.items) (alone (loop_by c.args.turning (seen_tree b)))) c.replace-body.ensures.value)
