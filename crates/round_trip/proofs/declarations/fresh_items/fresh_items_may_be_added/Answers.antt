use Rattle.round_trip.proofs.declarations_lemmas.fresh_items_lemmas.Program.{fresh_items_may_be_added}
use Rattle.round_trip.proofs.declarations.fresh_items.fresh_items_may_be_added.Goals as goal

pub returns : goal.returns
returns c = fresh_items_may_be_added
