use Rattle.round_trip.proofs.fitting_statements_lemmas.fit_control_lemmas.Written.{sentence-fits}
use Rattle.round_trip.proofs.fitting_statements.fit_control.written_sentences_fit.Goals as goal

pub returns : goal.returns
returns c naming kinds begins enough fits procedures names procedure h s = sentence-fits naming kinds begins enough fits procedures names procedure h s
