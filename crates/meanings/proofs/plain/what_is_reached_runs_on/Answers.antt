use Rattle.meanings.proofs.plain_lemmas.Running.{runs-reached, runs-comes}
use Rattle.meanings.proofs.plain.what_is_reached_runs_on.Goals as goal

pub returns-clause-behind : goal.returns-clause-behind
returns-clause-behind c = runs-reached

pub returns-clause-begun : goal.returns-clause-begun
returns-clause-begun c = runs-comes
