use Rattle.round_trip.proofs.fitting_statements_lemmas.sound_bodies_lemmas.Rules.{closed-sound}
use Rattle.round_trip.proofs.fitting_statements.sound_bodies.rules_keep_soundness.Goals as goal

pub returns : goal.returns
returns c begins graph h = closed-sound begins graph h
