use Rattle.control_flow_theory.proofs.lowering_lemmas.graphs.Renumbered.{same-numbered}
use Rattle.control_flow_theory.proofs.lowering.numbering_makes_no_difference.Goals as goal

pub returns : goal.returns
returns g c = λ acting left family numbers apart range memory n. same-numbered acting left family numbers apart range memory n
