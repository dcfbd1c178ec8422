use Rattle.round_trip.proofs.printable_lemmas.printable_control_lemmas.Back.{all-printable}
use Rattle.round_trip.proofs.printable.printable_control.control_tells_printing.Goals as goal

pub returns : goal.returns
returns c last list h = all-printable last list h
