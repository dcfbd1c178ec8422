use Rattle.round_trip.proofs.printable_lemmas.Given.{printable_programs_are_given}
use Rattle.round_trip.proofs.printable.laws.printable_programs_are_given.Goals as goal

pub returns : goal.returns
returns c = printable_programs_are_given
