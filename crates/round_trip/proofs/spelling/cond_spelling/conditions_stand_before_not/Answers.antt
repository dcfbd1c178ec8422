use Rattle.round_trip.proofs.spelling_lemmas.cond_spelling_lemmas.BeforeNot as before_not
use Rattle.round_trip.proofs.spelling.cond_spelling.conditions_stand_before_not.Goals as goal

pub returns : goal.returns
returns c names program cond fit few = before_not.whole_before names program cond fit few
