use Rattle.restructure_asks.proofs.LawLemmas.{all-read}
use Rattle.restructure_asks.proofs.laws.source_is_read_to_its_end.Goals as goal

pub returns : goal.returns
returns c = all-read
