use Rattle.round_trip.proofs.fitting_statements_lemmas.fit_control_lemmas.Served.{paragraphs-are}
use Rattle.round_trip.proofs.fitting_statements.fit_control.fit_sources_are_served.Goals as goal

pub returns : goal.returns
returns c fits naming kinds serves told range program h = paragraphs-are fits naming kinds serves told range 0 program.paragraphs h
