use Rattle.std.proofs.Common.{ap, sym, ◌∙◌}
use Rattle.control_flow_theory.specs.language.Control.{control_in}
use Rattle.control_flow_theory.specs.language.Language.{Do, Lower}
use Rattle.control_flow_theory.specs.graph_rules.Shapes.{followed}
use Rattle.branch_tree.specs.Tree.{seen_body}
use Rattle.branch_tree.specs.declared.tree.Piece.TheVariants as piece
use Rattle.lowering_labels.specs.loop_nodes.Loops.{turn_start}
use Rattle.lowering_labels.proofs.loop_nodes_lemmas.StartRows.{body_pushed, seen_lower, followed_none}
use Rattle.lowering_labels.proofs.loop_nodes.nodes.start_turn.Goals as goal

pub returns-in-Once : goal.returns-in-Once
returns-in-Once c =
    followed_none (seen_body c.args.body.now.items)
    ∙ ap (λ control. followed (seen_body c.args.body.now.items) (turn_start (control_in control) c.args.place)) (sym c.in-Once.is)

pub returns-in-Until : goal.returns-in-Until
returns-in-Until c =
    followed_none (seen_body c.args.body.now.items)
    ∙ ap (λ control. followed (seen_body c.args.body.now.items) (turn_start (control_in control) c.args.place)) (sym c.in-Until.is)

pub returns-in-Varying : goal.returns-in-Varying
returns-in-Varying c =
    followed_none (seen_body c.args.body.now.items)
    ∙ ap (λ control. followed (seen_body c.args.body.now.items) (turn_start (control_in control) c.args.place)) (sym c.in-Varying.is)

pub returns-in_ok-push-in-Times : goal.returns-in_ok-push-in-Times
returns-in_ok-push-in-Times c =
    body_pushed c.args.body.now.items c.push.new.self.items (piece.Lower c.args.place) (Do (Lower c.args.place))
    c.in_ok-push-in-Times.ensures.items (seen_lower c.args.place)
    ∙ ap (λ control. followed (seen_body c.args.body.now.items) (turn_start (control_in control) c.args.place)) (sym c.in-Times.is)
