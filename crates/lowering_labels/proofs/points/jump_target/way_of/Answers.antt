use Rattle.std.proofs.Common.{sym, ap, ◌∙◌}
use Rattle.control_flow_theory.specs.language.Control.{seen}
use Rattle.program_facts.specs.completion.FlowFacts.{flow_facts_of}
use Rattle.lowering_labels.specs.points.JumpTarget.{going_by}
use Rattle.lowering_labels.proofs.points_lemmas.JumpTargetLemmas.{move_here, arith_here, loop_here, perform_here}
use Rattle.lowering_labels.proofs.points.jump_target.way_of.Goals as goal

pub returns-in-Move : goal.returns-in-Move
returns-in-Move c = λ files returning last.
    move_here files returning last c.in-Move.from c.in-Move.to ∙ ap (λ s. going_by (flow_facts_of files returning) (seen last s)) (sym c.in-Move.is)

pub returns-in-Arith : goal.returns-in-Arith
returns-in-Arith c = λ files returning last.
    arith_here files returning last c.in-Arith.calc c.in-Arith.into c.in-Arith.arms ∙ ap (λ s. going_by (flow_facts_of files returning) (seen last s)) (sym c.in-Arith.is)

pub returns-in-Loop : goal.returns-in-Loop
returns-in-Loop c = λ files returning last.
    loop_here files returning last c.in-Loop.control c.in-Loop.body ∙ ap (λ s. going_by (flow_facts_of files returning) (seen last s)) (sym c.in-Loop.is)

pub returns-in-Perform : goal.returns-in-Perform
returns-in-Perform c = λ files returning last.
    perform_here files returning last c.in-Perform.entry c.in-Perform.exit c.in-Perform.control ∙ ap (λ s. going_by (flow_facts_of files returning) (seen last s)) (sym c.in-Perform.is)
