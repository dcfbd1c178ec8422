use Rattle.round_trip.proofs.procedures_lemmas.Titles.{titled}
use Rattle.round_trip.proofs.procedures.laws.printable_names_are_titles.Goals as goal

pub returns : goal.returns
returns c list h = titled list h
