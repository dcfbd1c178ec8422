use Rattle.round_trip.proofs.fitting_statements_lemmas.Paragraphs as paragraphs
use Rattle.round_trip.proofs.fitting_statements.laws.read_statements_fit.Goals as goal

pub returns : goal.returns
returns g c lawful F = paragraphs.division lawful F
