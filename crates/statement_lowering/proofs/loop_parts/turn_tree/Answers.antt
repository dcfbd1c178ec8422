use Rattle.control_flow_theory.specs.language.Control.{control_in}
use Rattle.statement_lowering.proofs.LoopPartRows.{turn_built}
use Rattle.statement_lowering.proofs.loop_parts.turn_tree.Goals as goal

pub returns : goal.returns
returns c = λ s.
    turn_built c.args.context.telling.now c.args.context.leaving.now c.within_loop-inner.result s (control_in c.args.control.now) c.args.place c.args.context.after.now c.turn_leaf-turn.result c.args.turns.now
    c.within_loop-inner.ensures c.turn_leaf-turn.ensures c.new-body.result.items c.start_turn.new.body.items c.in_ok-tree.tree
    c.new-body.ensures.items c.in-Ok.ensures c.in_ok-tree.ensures
