use Rattle.stored_forms.proofs.StoredLemmas.{stored-held, stored-size-held}
use Rattle.stored_forms.proofs.laws.items_hold_what_is_stored.Goals as goal

pub returns-clause-signed : goal.returns-clause-signed
returns-clause-signed c = stored-held

pub returns-clause-unsigned : goal.returns-clause-unsigned
returns-clause-unsigned c = stored-size-held
