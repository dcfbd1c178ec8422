use Rattle.std.proofs.Common.{length, ap, ◌∙◌}
use Rattle.control_flow_theory.specs.language.Language.{By, Depending}
use Rattle.control_flow_theory.specs.semantics.Graph.{Pick}
use Rattle.lowering_labels.proofs.loop_nodes.ends.depending.Goals as goal

pub returns-in_ok-end-in-Ok : goal.returns-in_ok-end-in-Ok
returns-in_ok-end-in-Ok c = λ files returning place_of at.
    c.in_ok-end-in-Ok.ensures ∙ ap (λ arms. Pick (By (Depending c.args.on.now (length c.args.to.now))) arms) (c.in-Ok.ensures files returning place_of at)
