use Rattle.round_trip.proofs.spelling_lemmas.Told as told
use Rattle.round_trip.proofs.spelling.laws.parts_are_told.Goals as goal

pub returns : goal.returns
returns c = told.parts_are_told
