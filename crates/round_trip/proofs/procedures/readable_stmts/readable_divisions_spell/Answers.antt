use Rattle.round_trip.proofs.procedures_lemmas.readable_stmts_lemmas.Paragraphs as paragraphs
use Rattle.round_trip.proofs.procedures.readable_stmts.readable_divisions_spell.Goals as goal

pub returns : goal.returns
returns g c program lawful F = paragraphs.division lawful F
