use Rattle.round_trip.proofs.fitting_statements_lemmas.sound_bodies_lemmas.Procedures.{procedures-sound}
use Rattle.round_trip.proofs.fitting_statements.sound_bodies.procedures_are_sound.Goals as goal

pub returns : goal.returns
returns c = procedures-sound
