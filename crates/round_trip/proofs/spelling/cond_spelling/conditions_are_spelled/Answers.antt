use Rattle.round_trip.proofs.spelling_lemmas.cond_spelling_lemmas.Conditions as conditions
use Rattle.round_trip.proofs.spelling.cond_spelling.conditions_are_spelled.Goals as goal

pub returns : goal.returns
returns c names program cond taken fit few = conditions.whole_cond names program cond fit few
