use Rattle.pending_returns.proofs.levels_lemmas.Exact.{calls-found, calls-true, ends-found, ends-true}
use Rattle.pending_returns.proofs.levels.laws.facts_are_exact.Goals as goal

pub returns : goal.returns
returns c = λ never_first program table points returns number range places is sound closed at reach. (
  calls-found never_first program table points returns is sound closed number range at places reach,
  calls-true never_first program table points returns is sound closed number range at places reach,
  ends-found never_first program table points returns is sound closed number range at places reach,
  ends-true never_first program table points returns is sound closed number range at places reach,
)
