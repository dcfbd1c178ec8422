use Rattle.round_trip.proofs.fitting_statements_lemmas.Passing as passing
use Rattle.round_trip.proofs.fitting_statements.laws.fit_paragraphs_pass.Goals as goal

pub returns : goal.returns
returns g c in_section paragraphs h = passing.paragraphs-pass _ in_section paragraphs h
