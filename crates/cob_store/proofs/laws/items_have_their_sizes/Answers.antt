use Rattle.cob_store.proofs.SizeLemmas.{layout_fits}
use Rattle.cob_store.proofs.laws.items_have_their_sizes.Goals as goal

pub returns : goal.returns
returns c = layout_fits
