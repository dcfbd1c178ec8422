use Rattle.control_flow_theory.proofs.structuring_lemmas.closing.Mains.{kept-mains, same-mains}
use Rattle.control_flow_theory.proofs.structuring.mains_are_tied.Goals as goal

pub returns-clause-kept : goal.returns-clause-kept
returns-clause-kept g c = kept-mains

pub returns-clause-same : goal.returns-clause-same
returns-clause-same g c = same-mains
