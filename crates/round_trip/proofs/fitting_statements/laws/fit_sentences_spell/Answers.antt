use Rattle.round_trip.proofs.fitting_statements_lemmas.Spelled as spelled
use Rattle.round_trip.proofs.fitting_statements.laws.fit_sentences_spell.Goals as goal

pub returns : goal.returns
returns g c program F scope sentences h = spelled.sentences F scope sentences h
