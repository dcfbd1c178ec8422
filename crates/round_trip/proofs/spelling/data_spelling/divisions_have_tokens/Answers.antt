use Rattle.round_trip.proofs.spelling_lemmas.data_spelling_lemmas.Units.{divisions-tokens}
use Rattle.round_trip.proofs.spelling.data_spelling.divisions_have_tokens.Goals as goal

pub returns : goal.returns
returns c = divisions-tokens
