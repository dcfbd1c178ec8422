use Rattle.control_flow_theory.proofs.rendering_lemmas.Chained.{main-walks-alike}
use Rattle.control_flow_theory.proofs.rendering.main_walks_alike.Goals as goal

pub returns : goal.returns
returns g c = main-walks-alike
