use Rattle.round_trip.proofs.printable_lemmas.printable_stmts_lemmas.Paragraphs as paragraphs
use Rattle.round_trip.proofs.printable.printable_stmts.divisions_are_printable.Goals as goal

pub returns : goal.returns
returns g c lawful P = paragraphs.division lawful P
