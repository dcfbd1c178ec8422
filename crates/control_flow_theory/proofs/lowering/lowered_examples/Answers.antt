use Rattle.std.proofs.Common.{refl}
use Rattle.control_flow_theory.proofs.lowering.lowered_examples.Goals as goal

pub returns-clause-runs_on : goal.returns-clause-runs_on
returns-clause-runs_on c = (refl, refl, refl, refl)

pub returns-clause-cut_first : goal.returns-clause-cut_first
returns-clause-cut_first c = (refl, refl, refl)

pub returns-clause-loops : goal.returns-clause-loops
returns-clause-loops c = (refl, refl, refl, refl, refl, refl, refl)

pub returns-clause-sections : goal.returns-clause-sections
returns-clause-sections c = (refl, refl, refl)

pub returns-clause-completes : goal.returns-clause-completes
returns-clause-completes c = (refl, refl, refl, refl)
