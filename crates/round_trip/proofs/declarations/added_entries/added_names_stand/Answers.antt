use Rattle.round_trip.proofs.declarations_lemmas.added_entries_lemmas.References.{added_names_stand}
use Rattle.round_trip.proofs.declarations.added_entries.added_names_stand.Goals as goal

pub returns : goal.returns
returns c = added_names_stand
