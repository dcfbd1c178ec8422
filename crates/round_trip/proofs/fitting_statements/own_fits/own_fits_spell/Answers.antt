use Rattle.round_trip.proofs.fitting_statements_lemmas.own_fits_lemmas.Spelled.{own-spell}
use Rattle.round_trip.proofs.fitting_statements.own_fits.own_fits_spell.Goals as goal

pub returns : goal.returns
returns c = own-spell
