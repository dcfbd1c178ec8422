use Rattle.std.proofs.Common.{refl}
use Rattle.control_flow_theory.proofs.rendering_lemmas.Serviceable.{whole, names, whole-serves}
use Rattle.control_flow_theory.proofs.rendering.any_parts_can_be_served.Goals as goal

pub returns : goal.returns
returns g c = λ acting left first kinds stands.
    (whole acting left first kinds stands, names acting left first kinds stands, refl, whole-serves acting left first kinds stands)
