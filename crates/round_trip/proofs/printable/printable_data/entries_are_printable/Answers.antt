use Rattle.round_trip.proofs.printable_lemmas.printable_data_lemmas.Declared.{entries_are_printable}
use Rattle.round_trip.proofs.printable.printable_data.entries_are_printable.Goals as goal

pub returns : goal.returns
returns c = entries_are_printable
