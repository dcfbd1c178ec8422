use Rattle.round_trip.proofs.spelling_lemmas.stmt_spelling_lemmas.Paragraphs as paragraphs
use Rattle.round_trip.proofs.spelling.stmt_spelling.procedures_are_spelled.Goals as goal

pub returns : goal.returns
returns g c program taken T h = paragraphs.division T program taken program.paragraphs h
