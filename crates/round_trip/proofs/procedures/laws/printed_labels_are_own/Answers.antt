use Rattle.round_trip.proofs.procedures_lemmas.Labels.{labelled-by}
use Rattle.round_trip.proofs.procedures.laws.printed_labels_are_own.Goals as goal

pub returns : goal.returns
returns c program taken h source same = labelled-by program taken h source same
