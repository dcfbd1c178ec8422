use Rattle.control_flow_theory.proofs.rendering_lemmas.Chained.{rendered-tied}
use Rattle.control_flow_theory.proofs.rendering.rendering_keeps_meaning.Goals as goal

pub returns : goal.returns
returns g c = λ acting left first result other_left other_first naming kinds family procedures serves are sound.
    rendered-tied acting left first result other_left other_first g.C.Carrying.carries naming kinds serves family procedures are sound
