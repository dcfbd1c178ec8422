use Rattle.cob_store.proofs.PutLemmas.{edited_items_show_all}
use Rattle.cob_store.proofs.laws.edited_items_show_all.Goals as goal

pub returns : goal.returns
returns c = edited_items_show_all
