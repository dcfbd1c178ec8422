use Rattle.round_trip.proofs.printable_lemmas.printable_control_lemmas.Served.{paragraphs-are}
use Rattle.round_trip.proofs.printable.printable_control.printable_sources_are_served.Goals as goal

pub returns : goal.returns
returns c naming kinds serves told range program h = paragraphs-are naming kinds serves told range 0 program.paragraphs h
