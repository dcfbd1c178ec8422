use Rattle.restructure_core.proofs.ReadingBack.{results-read-back}
use Rattle.restructure_core.proofs.laws.results_read_back.Goals as goal

pub returns : goal.returns
returns c = results-read-back c.split_programs_read_back.ensures
