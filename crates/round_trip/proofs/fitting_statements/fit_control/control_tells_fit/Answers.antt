use Rattle.round_trip.proofs.fitting_statements_lemmas.fit_control_lemmas.Back.{all-fit}
use Rattle.round_trip.proofs.fitting_statements.fit_control.control_tells_fit.Goals as goal

pub returns : goal.returns
returns c fits conds last list m h = all-fit fits conds last list m h
