use Rattle.round_trip.proofs.declarations_lemmas.added_entries_lemmas.References.{names_stay}
use Rattle.round_trip.proofs.declarations.added_entries.names_stay.Goals as goal

pub returns : goal.returns
returns c = names_stay
