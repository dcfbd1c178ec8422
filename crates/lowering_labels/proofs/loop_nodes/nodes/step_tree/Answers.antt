use Rattle.std.proofs.Common.{[], ◌∷◌, ◌++◌, ap, ap₂, ◌∙◌}
use Rattle.control_flow_theory.specs.language.Control.{augmented}
use Rattle.control_flow_theory.specs.language.Language.{Do}
use Rattle.control_flow_theory.specs.semantics.Graph.{tree, Jump}
use Rattle.branch_tree.proofs.TreeRows.{seen_jump}
use Rattle.lowering_labels.proofs.loop_nodes_lemmas.StartRows.{body_pushed}
use Rattle.lowering_labels.proofs.loop_nodes.nodes.step_tree.Goals as goal

pub returns : goal.returns
returns c =
    c.body_with_end.ensures
    ∙ ap₂ tree
    (body_pushed [] c.push.new.self.items c.in_ok-augmenting.field-0 (Do (augmented c.args.item.now c.args.by.now))
    (c.in_ok-push.ensures.items ∙ ap (λ l. l ++ c.in_ok-augmenting.field-0 ∷ []) c.new-body.ensures.items)
    c.in_ok-augmenting.ensures)
    (seen_jump c.loop_head_label.result ∙ ap Jump c.loop_head_label.ensures)
