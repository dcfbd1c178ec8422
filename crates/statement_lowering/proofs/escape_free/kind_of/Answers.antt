use Rattle.std.proofs.Common.{sym, ap, ◌∙◌}
use Rattle.control_flow_theory.specs.language.Control.{seen}
use Rattle.program_facts.specs.completion.FlowFacts.{flow_facts_of}
use Rattle.statement_lowering.specs.EscapeFree.{kind_by}
use Rattle.statement_lowering.proofs.EscapeFreeRows.{move_stands, arith_stands, loop_stands, perform_stands}
use Rattle.statement_lowering.proofs.escape_free.kind_of.Goals as goal

pub returns-in-Move : goal.returns-in-Move
returns-in-Move c = λ files returning last.
    move_stands files returning last c.in-Move.from c.in-Move.to ∙ ap (λ s. kind_by (flow_facts_of files returning) (seen last s)) (sym c.in-Move.is)

pub returns-in-Arith : goal.returns-in-Arith
returns-in-Arith c = λ files returning last.
    arith_stands files returning last c.in-Arith.calc c.in-Arith.into c.in-Arith.arms ∙ ap (λ s. kind_by (flow_facts_of files returning) (seen last s)) (sym c.in-Arith.is)

pub returns-in-Loop : goal.returns-in-Loop
returns-in-Loop c = λ files returning last.
    loop_stands files returning last c.in-Loop.control c.in-Loop.body ∙ ap (λ s. kind_by (flow_facts_of files returning) (seen last s)) (sym c.in-Loop.is)

pub returns-in-Perform : goal.returns-in-Perform
returns-in-Perform c = λ files returning last.
    perform_stands files returning last c.in-Perform.entry c.in-Perform.exit c.in-Perform.control ∙ ap (λ s. kind_by (flow_facts_of files returning) (seen last s)) (sym c.in-Perform.is)
