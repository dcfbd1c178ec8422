use Rattle.control_flow_theory.proofs.main_theorem_lemmas.Chain.{headline-over-control}
use Rattle.control_flow_theory.proofs.main_theorem.the_headline_over_control.Goals as goal

pub returns : goal.returns
returns g c = λ acting left first result other_left other_first naming kinds told program keep numbers added others is_told source some fair plan stands performed serves.
    headline-over-control acting left first result other_left other_first g.C.Carrying.carries naming kinds told program keep numbers added others is_told source some fair plan stands performed serves
