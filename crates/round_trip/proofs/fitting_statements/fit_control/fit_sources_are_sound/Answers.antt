use Rattle.round_trip.proofs.fitting_statements_lemmas.fit_control_lemmas.Sound.{paragraphs-are}
use Rattle.round_trip.proofs.fitting_statements.fit_control.fit_sources_are_sound.Goals as goal

pub returns : goal.returns
returns c fits program h = paragraphs-are fits 0 program.paragraphs h
