use Rattle.std.proofs.Common.{◌++◌, [], ◌∷◌, ap, ◌∙◌}
use Rattle.cob_tree.specs.declared.stmt.Stmt.TheVariants.{Move}
use Rattle.control_flow_theory.specs.language.Control.{setting_item}
use Rattle.control_flow_theory.specs.language.Language.{Do}
use Rattle.branch_tree.specs.declared.tree.Piece.TheVariants as piece
use Rattle.lowering_labels.proofs.loop_nodes_lemmas.StartRows.{body_pushed, seen_setting}
use Rattle.lowering_labels.proofs.loop_nodes.loops.push_setting.Goals as goal

pub returns : goal.returns
returns c =
    let made = ap (λ to. piece.Own (Move c.in_ok-from.from to)) (c.in_ok-push.ensures.ok ∙ ap (λ l. l ++ c.in_ok-copy.field-0 ∷ []) c.new-to.ensures ∙ ap (λ i. i ∷ []) c.in_ok-copy.ensures)
    ∙ ap (λ f. piece.Own (Move f (c.args.item.now ∷ []))) c.in_ok-from.ensures in
    body_pushed c.args.body.now.items c.push-2.new.self.items (piece.Own (Move c.args.from.now (c.args.item.now ∷ []))) (Do (setting_item c.args.item.now c.args.from.now))
    (c.in_ok-push-2.ensures.items ∙ ap (λ p. c.args.body.now.items ++ p ∷ []) made) (seen_setting c.args.item.now c.args.from.now c.requires)
