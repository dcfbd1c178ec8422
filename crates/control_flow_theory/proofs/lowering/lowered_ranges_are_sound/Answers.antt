use Rattle.control_flow_theory.proofs.lowering_lemmas.steps.Sound.{lowered-main-sound, lowered-range-sound}
use Rattle.control_flow_theory.proofs.lowering.lowered_ranges_are_sound.Goals as goal

pub returns-clause-main : goal.returns-clause-main
returns-clause-main g c = λ acting left told program place_of family is_told source some lowered returning.
    lowered-main-sound acting left told program place_of family (λ entry exit. Unit {0}) (λ range number item rest memory entry exit items here comes is. tt) (λ entry exit named. returning entry exit)
    is_told source some lowered

pub returns-clause-part : goal.returns-clause-part
returns-clause-part g c = λ acting left told program place_of family is_told source lowered returning entry exit below under.
    lowered-range-sound acting left told program place_of family (λ entry exit. Unit {0}) (λ range number item rest memory entry exit items here comes is. tt) (λ entry exit named. returning entry exit)
    is_told source lowered entry exit below under tt
