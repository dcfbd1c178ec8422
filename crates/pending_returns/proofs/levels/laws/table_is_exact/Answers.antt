use Rattle.pending_returns.proofs.levels_lemmas.Exact.{path-comes, comes-path, comes-in, found-in, returns-found}
use Rattle.pending_returns.proofs.levels.laws.table_is_exact.Goals as goal

pub returns : goal.returns
returns c = λ never_first program table points returns is sound. (
  (λ range place h. comes-path never_first program range (points place) (comes-in never_first program table points returns is sound range place h)),
  (λ closed number range e. (
    (λ point path. found-in never_first program table points returns is closed range point (path-comes never_first program range point path) number e),
    returns-found never_first program table points returns is closed number range e,
  )),
)
