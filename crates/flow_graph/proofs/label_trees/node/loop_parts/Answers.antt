use Rattle.std.proofs.Common.{ap, ◌∙◌}
use Rattle.control_flow_theory.specs.language.Control.{control_in, seen, seen_both}
use Rattle.control_flow_theory.proofs.language_lemmas.Rows.{seen_arith, seen_move, seen_perform}
use Rattle.flow_graph.specs.label_trees.Node.{is_no_loop}
use Rattle.flow_graph.proofs.label_trees_lemmas.NodeSteps.{arith_no_loop, perform_no_loop}
use Rattle.flow_graph.proofs.label_trees.node.loop_parts.Goals as goal

pub returns-in-Arith : goal.returns-in-Arith
returns-in-Arith c = λ last.
    ap (λ s. is_no_loop (seen last s)) c.in-Arith.is ∙ ap is_no_loop (seen_arith last c.in-Arith.calc c.in-Arith.into c.in-Arith.arms)
    ∙ arith_no_loop c.in-Arith.calc c.in-Arith.into (seen_both last c.in-Arith.arms).first (seen_both last c.in-Arith.arms).second

pub returns-in-Move : goal.returns-in-Move
returns-in-Move c = λ last. ap (λ s. is_no_loop (seen last s)) c.in-Move.is ∙ ap is_no_loop (seen_move last c.in-Move.from c.in-Move.to)

pub returns-in-Perform : goal.returns-in-Perform
returns-in-Perform c = λ last.
    ap (λ s. is_no_loop (seen last s)) c.in-Perform.is ∙ ap is_no_loop (seen_perform last c.in-Perform.entry c.in-Perform.exit c.in-Perform.control)
    ∙ perform_no_loop (control_in c.in-Perform.control) c.in-Perform.entry c.in-Perform.exit
