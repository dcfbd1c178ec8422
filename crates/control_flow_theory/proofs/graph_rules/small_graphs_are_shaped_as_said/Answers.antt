use Rattle.std.proofs.Common.{refl}
use Rattle.control_flow_theory.proofs.graph_rules.small_graphs_are_shaped_as_said.Goals as goal

pub returns-clause-flag : goal.returns-clause-flag
returns-clause-flag c = refl

pub returns-clause-before : goal.returns-clause-before
returns-clause-before c = refl

pub returns-clause-after : goal.returns-clause-after
returns-clause-after c = refl

pub returns-clause-endless : goal.returns-clause-endless
returns-clause-endless c = refl

pub returns-clause-joined : goal.returns-clause-joined
returns-clause-joined c = refl
