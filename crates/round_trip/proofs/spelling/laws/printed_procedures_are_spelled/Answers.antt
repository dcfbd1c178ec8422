use Rattle.round_trip.proofs.spelling_lemmas.stmt_spelling_lemmas.Paragraphs as paragraphs
use Rattle.round_trip.proofs.spelling_lemmas.Told.{parts_are_told}
use Rattle.round_trip.proofs.spelling.laws.printed_procedures_are_spelled.Goals as goal

pub returns : goal.returns
returns c names entries table program taken h = paragraphs.division (parts_are_told names entries table program) program taken program.paragraphs h
