use Rattle.std.proofs.Common.{ap, sym, ◌∙◌}
use Rattle.control_flow_theory.specs.language.Control.{control_in, seen_stmts}
use Rattle.lowering_labels.specs.points.JumpTarget.{seen_target}
use Rattle.statement_lowering.specs.LowerList.{flow_facts_by}
use Rattle.statement_lowering.specs.LoopParts.{loop_at}
use Rattle.statement_lowering.proofs.loop_parts.loop_tree.Goals as goal

pub returns-then-is_head : goal.returns-then-is_head
returns-then-is_head c = λ s.
    c.in_ok-tree.ensures s
    ∙ ap (λ h. loop_at (flow_facts_by c.args.context.telling.now) s.place_of h (control_in c.args.control.now) (seen_stmts s.last c.args.turns.now) c.args.place s.theirs (seen_target c.args.context.after.now)) (sym c.if-is_head.true)

pub returns : goal.returns
returns c = λ s.
    c.in_ok-tree-2.ensures
    ∙ ap (λ h. loop_at (flow_facts_by c.args.context.telling.now) s.place_of h (control_in c.args.control.now) (seen_stmts s.last c.args.turns.now) c.args.place s.theirs (seen_target c.args.context.after.now)) (sym c.if-is_head.false)
