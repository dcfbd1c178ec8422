use Rattle.restructure_asks.proofs.AgainLawLemmas.{result-again}
use Rattle.restructure_asks.proofs.laws.result_comes_again.Goals as goal

pub returns : goal.returns
returns c = result-again c.results_are_fixed.ensures
