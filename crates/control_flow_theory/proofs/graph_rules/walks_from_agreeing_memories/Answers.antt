use Rattle.control_flow_theory.proofs.graph_rules_lemmas.walks.Framed.{walk-sees, kept-from-agreeing}
use Rattle.control_flow_theory.proofs.graph_rules.walks_from_agreeing_memories.Goals as goal

pub returns-clause-sees : goal.returns-clause-sees
returns-clause-sees g c = walk-sees

pub returns-clause-kept : goal.returns-clause-kept
returns-clause-kept g c = kept-from-agreeing
