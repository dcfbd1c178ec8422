use Rattle.round_trip.proofs.declarations_lemmas.ReadBack.{read-back}
use Rattle.round_trip.proofs.declarations.laws.printed_declarations_read_back.Goals as goal

pub returns : goal.returns
returns g c taken program draft literal is titled stated = read-back g.R.Refers.status taken program draft literal is titled stated
