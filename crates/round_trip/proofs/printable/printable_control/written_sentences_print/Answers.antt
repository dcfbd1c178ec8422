use Rattle.round_trip.proofs.printable_lemmas.printable_control_lemmas.Written.{sentence-prints}
use Rattle.round_trip.proofs.printable.printable_control.written_sentences_print.Goals as goal

pub returns : goal.returns
returns c naming kinds names procedures procedure h = sentence-prints naming kinds names procedures procedure h
