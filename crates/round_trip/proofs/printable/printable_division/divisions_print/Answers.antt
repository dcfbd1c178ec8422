use Rattle.round_trip.proofs.printable_lemmas.printable_division_lemmas.Parts.{divisions_print}
use Rattle.round_trip.proofs.printable.printable_division.divisions_print.Goals as goal

pub returns : goal.returns
returns c = divisions_print
