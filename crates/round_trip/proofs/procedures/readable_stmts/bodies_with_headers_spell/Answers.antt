use Rattle.round_trip.proofs.procedures_lemmas.readable_stmts_lemmas.Headed as headed
use Rattle.round_trip.proofs.procedures.readable_stmts.bodies_with_headers_spell.Goals as goal

pub returns : goal.returns
returns g c program taken list b h = headed.division _ _ program taken list b h
