use Rattle.control_flow_theory.proofs.rendering_lemmas.Chained.{follows-sound, alike-sound}
use Rattle.control_flow_theory.proofs.rendering.followers_are_sound.Goals as goal

pub returns-clause-follows : goal.returns-clause-follows
returns-clause-follows g c = follows-sound

pub returns-clause-alike : goal.returns-clause-alike
returns-clause-alike g c = alike-sound
