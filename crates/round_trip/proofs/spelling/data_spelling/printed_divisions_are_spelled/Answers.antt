use Rattle.round_trip.proofs.spelling_lemmas.data_spelling_lemmas.Divisions.{divisions}
use Rattle.round_trip.proofs.spelling.data_spelling.printed_divisions_are_spelled.Goals as goal

pub returns : goal.returns
returns g c taken program fds storage h = divisions g.R.Refers.status program fds storage h
