use Rattle.control_flow_theory.proofs.semantics_lemmas.Growth.{source-grows, walk-grows, main-grows}
use Rattle.control_flow_theory.proofs.semantics.machines_grow.Goals as goal

pub returns-clause-source : goal.returns-clause-source
returns-clause-source g c = source-grows

pub returns-clause-walks : goal.returns-clause-walks
returns-clause-walks g c = walk-grows

pub returns-clause-main : goal.returns-clause-main
returns-clause-main g c = main-grows
