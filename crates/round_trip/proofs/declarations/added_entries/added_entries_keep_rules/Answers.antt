use Rattle.round_trip.proofs.declarations_lemmas.added_entries_lemmas.Kept.{added_entries_keep_rules}
use Rattle.round_trip.proofs.declarations.added_entries.added_entries_keep_rules.Goals as goal

pub returns : goal.returns
returns c = added_entries_keep_rules
