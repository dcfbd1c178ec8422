use Rattle.control_flow_theory.proofs.rendering_lemmas.Chained.{restructured-same}
use Rattle.control_flow_theory.proofs.rendering.restructuring_keeps_meaning.Goals as goal

pub returns : goal.returns
returns g c = λ acting left first result other_left other_first naming kinds program procedures fine restructured serves.
    restructured-same acting left first result other_left other_first g.C.Carrying.carries naming kinds serves program procedures fine restructured
