use Rattle.control_flow_theory.proofs.lowering_lemmas.steps.Linked.{source-walk-tied}
use Rattle.control_flow_theory.proofs.lowering.lowering_keeps_meaning.Goals as goal

pub returns : goal.returns
returns g c = λ acting left told program place_of family is_told source some lowered returning.
    source-walk-tied acting left told program place_of family (λ entry exit. Unit {0}) (λ range number item rest memory entry exit items here comes is. tt) (λ entry exit named. returning entry exit)
    is_told source some lowered
