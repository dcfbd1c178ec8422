use Rattle.std.proofs.Common.{ap, ◌∙◌}
use Rattle.control_flow_theory.specs.language.Control.{control_in}
use Rattle.lowering_labels.specs.points.JumpTarget.{seen_target}
use Rattle.lowering_labels.specs.loop_nodes.Loops.{chosen_by}
use Rattle.statement_lowering.proofs.loop_parts.head_tree.Goals as goal

pub returns : goal.returns
returns c = λ s.
    c.in_ok-tree.ensures ∙ ap (λ turn. chosen_by (control_in c.args.control.now) c.args.place turn (seen_target c.args.context.after.now)) (c.in_ok-turn.ensures s)
