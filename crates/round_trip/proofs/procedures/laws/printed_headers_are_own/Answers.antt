use Rattle.round_trip.proofs.procedures_lemmas.Labels.{headers}
use Rattle.round_trip.proofs.procedures.laws.printed_headers_are_own.Goals as goal

pub returns : goal.returns
returns c program taken h = headers program taken h
